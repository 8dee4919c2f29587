-- Which commits a replica's state takes.
use Rattle.std.specs.Prelude.{◌≡◌, ℕ, ◌<◌, ◌≤◌, Some, None, IsSome}
use Rattle.sfx_ids.specs.declared.cut.Cut.{Cut}
use Rattle.sfx_ids.specs.declared.item_id.ItemId.{ItemId}
use Rattle.sfx_ids.specs.declared.version.Version.{Version}
use Rattle.sfx_ids.specs.ItemId.{creation_of}
use Rattle.sfx_ids.specs.Tick.{max_tick}
use Rattle.sfx_vector.specs.Clocks.{tick_of}
use Rattle.sfx_segments.specs.Segments.{IsPlace}
use Rattle.sfx_knowledge.specs.Knowledge.{Known, KnowsVersion, tick_at}
use Rattle.sfx_knowledge.specs.Forgotten.{AreForgets, Forgets, fvec}
use Rattle.sfx_model.specs.members.Consistent.{IsItemState, AreApart}
use Rattle.sfx_item.specs.Item.{version_at, ItemState}
use Rattle.sfx_model.specs.members.Members.{Member, AreIdsAscending, AreAscending, state_of, vector_at}
use Rattle.sfx_model.specs.world.Sets.{Has}
use Rattle.sfx_provider.specs.Commit.{CommitData, after_commit}

-- What is known covers all that the replica knew, its own versions included.
abbrev pub CoversKnowledge : ℕ → Member → Known → Type 0
CoversKnowledge units m known =
    (place : Cut) (u r : ℕ) → IsPlace place → u < units → vector_at m place u r ≤ tick_at known place u r

-- What is forgotten covers all that the replica had forgotten.
abbrev pub CoversForgotten : Member → Forgets → Type 0
CoversForgotten m forgotten =
    (place : Cut) (r : ℕ) → IsPlace place → tick_of (fvec m.forgotten place) r ≤ tick_of (fvec forgotten place) r

-- The replica's own entry is the clock at every place and unit.
abbrev pub HasOwnClock : ℕ → ℕ → ℕ → Known → Type 0
HasOwnClock units own clock known =
    (place : Cut) (u : ℕ) → IsPlace place → u < units → tick_at known place u own ≡ clock

-- The item in this state is whole, and its creation and its version at each unit are known.
pub record IsKnownItem (units : ℕ) (known : Known) (i : ItemId) (state : ItemState) : Type 0 where
  pub whole : IsItemState units state
  pub creation : (u : ℕ) → u < units → KnowsVersion known i u (creation_of i)
  pub versions : (u : ℕ) (v : Version) → u < units → version_at state u ≡ Some v → KnowsVersion known i u v

-- The replica's state takes the commit.
pub record FitsMember (units : ℕ) (c : CommitData) (m : Member) : Type 0 where
  -- clock, knowledge and forgotten deletions are not below the replica's
  pub clock : m.clock ≤ c.clock
  pub knowledge : CoversKnowledge units m c.knowledge
  pub forgotten : CoversForgotten m c.forgotten
  -- the clock is in range, and it is the own entry of the knowledge
  pub most : c.clock ≤ max_tick
  pub own : HasOwnClock units m.id c.clock c.knowledge
  -- what is forgotten stands in its one form, and of the replica's own versions none but made ones are forgotten
  pub forgets : AreForgets c.forgotten
  pub made : (place : Cut) → IsPlace place → tick_of (fvec c.forgotten place) m.id ≤ c.clock
  -- the items that are put ascend; each is whole and known
  pub puts : AreAscending c.puts
  pub items : (i : ItemId) (state : ItemState) → state_of c.puts i ≡ Some state → IsKnownItem units c.knowledge i state
  -- the ids that are dropped ascend; each is that of a present item that is not put
  pub drops : AreIdsAscending c.drops
  pub present : (i : ItemId) → Has i c.drops → IsSome (state_of m.items i)
  pub apart : (i : ItemId) → Has i c.drops → state_of c.puts i ≡ None
  -- live names do not clash afterwards
  pub names : AreApart (after_commit units c m).items
