-- What holds of each state that a replica can be in, by itself and in every world.
use Rattle.std.specs.Prelude.{◌≡◌, ◌≢◌, ℕ, ◌<◌, ◌≤◌, ◌^◌, List, Option, Some, None}
use Rattle.sfx_ids.specs.declared.cut.Cut.{Cut}
use Rattle.sfx_ids.specs.declared.cut.Cut.TheVariants.{At}
use Rattle.sfx_ids.specs.declared.item_id.ItemId.{ItemId}
use Rattle.sfx_ids.specs.declared.version.Version.{Version}
use Rattle.sfx_ids.specs.ItemId.{creation_of}
use Rattle.sfx_ids.specs.Tick.{max_tick}
use Rattle.sfx_vector.specs.Clocks.{tick_of}
use Rattle.sfx_segments.specs.Segments.{IsPlace}
use Rattle.sfx_knowledge.specs.Knowledge.{IsKnowledge, tick_at}
use Rattle.sfx_knowledge.specs.Forgotten.{AreForgets, fvec}
use Rattle.sfx_item.specs.Clash.{Clash}
use Rattle.sfx_item.specs.Row.{IsCellRow, first_value}
use Rattle.sfx_model.specs.world.World.{IsContained}
use Rattle.sfx_item.specs.Item.{version_at, ItemState, Live, Dead, ItemData}
use Rattle.sfx_model.specs.members.Members.{Member, AreAscending, vector_at, state_of}

-- A live item has a cell for each unit, the first with a name.
abbrev pub IsItemState : ℕ → ItemState → Type 0
IsItemState units (Live cells) = IsCellRow units cells
IsItemState units (Dead v) = Unit {0}

-- The item in this state is whole, and the replica knows its creation and its version at each unit.
pub record IsOwned (units : ℕ) (m : Member) (i : ItemId) (state : ItemState) : Type 0 where
  pub whole : IsItemState units state
  pub creation : (u : ℕ) → u < units → IsContained (vector_at m (At i) u) (creation_of i)
  pub versions : (u : ℕ) (v : Version) → u < units → version_at state u ≡ Some v → IsContained (vector_at m (At i) u) v

-- The name of a live item.
abbrev pub live_name : ItemState → Option (List ℕ)
live_name (Live cells) = first_value cells
live_name (Dead v) = None

-- The names of any two live items do not clash.
abbrev pub AreApart : List ItemData → Type 0
AreApart items =
    (i j : ItemId) (x y : ItemState) (a b : List ℕ) →
    i ≢ j → state_of items i ≡ Some x → state_of items j ≡ Some y →
    live_name x ≡ Some a → live_name y ≡ Some b → ¬ Clash a b

-- A replica's state is consistent.
pub record IsConsistent (units : ℕ) (m : Member) : Type 0 where
  -- items have at least one unit
  pub some : 1 ≤ units
  -- id and clock are in range
  pub id : m.id < 2 ^ 128
  pub clock : m.clock ≤ max_tick
  -- what is known stands in its one form, and has no entry of the replica itself
  pub knowledge : IsKnowledge units m.knowledge
  pub unstored : (place : Cut) (u : ℕ) → IsPlace place → u < units → tick_at m.knowledge place u m.id ≡ 0
  -- what is forgotten stands in its one form, and of the replica's own versions none but made ones are forgotten
  pub forgets : AreForgets m.forgotten
  pub forgotten : (place : Cut) → IsPlace place → tick_of (fvec m.forgotten place) m.id ≤ m.clock
  -- the items are in order of their ids; each is whole, and the replica knows its versions
  pub ascending : AreAscending m.items
  pub items : (i : ItemId) (state : ItemState) → state_of m.items i ≡ Some state → IsOwned units m i state
  -- live names do not clash
  pub names : AreApart m.items
