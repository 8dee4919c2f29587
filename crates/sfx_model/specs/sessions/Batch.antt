-- A batch of changes, and the one that is due from a place.
use Rattle.std.specs.Prelude.{◌≡◌, ℕ, ◌<◌, ◌^◌, Bool, true, ◌&&◌, if◌then◌else◌, nat_lt, List, [], ◌∷◌, map, take, length, Some}
use Rattle.std.specs.List.{filter}
use Rattle.sfx_ids.specs.declared.cut.Cut.{Cut}
use Rattle.sfx_ids.specs.declared.cut.Cut.TheVariants.{After, End}
use Rattle.sfx_ids.specs.declared.item_id.ItemId.{ItemId}
use Rattle.sfx_ids.specs.declared.version.Version.{Version}
use Rattle.sfx_ids.specs.Cut.{cut_lt}
use Rattle.sfx_ids.specs.ItemId.{creation_of}
use Rattle.sfx_segments.specs.Segments.{IsPlace}
use Rattle.sfx_knowledge.specs.Knowledge.{Known, KnowsVersion, IsKnowledge}
use Rattle.sfx_knowledge.specs.Forgotten.{Forgets, AreForgets}
use Rattle.sfx_knowledge.specs.Forms.{starts_of}
use Rattle.sfx_model.specs.declared.mode.Mode.{Mode}
use Rattle.sfx_model.specs.declared.mode.Mode.TheVariants.{Normal, Recover}
use Rattle.sfx_model.specs.world.Sets.{Has}
use Rattle.sfx_model.specs.world.Events.{is_in}
use Rattle.sfx_model.specs.members.Consistent.{IsItemState}
use Rattle.sfx_item.specs.Item.{version_at, ItemState, ItemData}
use Rattle.sfx_model.specs.members.Members.{Member, AreIdsAscending, AreAscending, state_of}
use Rattle.sfx_model.specs.members.Readings.{unseen}
use Rattle.sfx_model.specs.sessions.Class.{is_within}
use Rattle.sfx_model.specs.sessions.MemberKnowledge.{laid_known, forgets_starts}
use Rattle.sfx_model.specs.world.Units.{every_unit}
use Rattle.sfx_knowledge.specs.Forgotten.{fvec}

-- A batch: what a source sends of the items in a range, from one place up to a cut.
pub record BatchData : Type 0 where
  pub source : ℕ
  pub mode : Mode
  pub from : Cut
  pub to : Cut
  -- what the source knows, and which deletions it has forgotten
  pub made_with : Known
  pub forgotten : Forgets
  -- the items that changed, in order of their ids
  pub changes : List ItemData
  -- in recovery, the ids of all items that the source has in the range
  pub here : List ItemId

-- The first so many items from the place on that the destination, which knows this, has not seen.
abbrev pub due : ℕ → ℕ → Known → Cut → List ItemData → List ItemData
due units size known from items = take size (unseen units known from items)

-- The place behind the last of the items, and the given one where there is none.
abbrev pub place_behind : Cut → List ItemData → Cut
place_behind place [] = place
place_behind place (x ∷ xs) = place_behind (After x.id) xs

-- Where the range of a batch of so many items ends: behind the last of them where more are due, and else
-- at the end.
abbrev pub due_end : ℕ → ℕ → Known → Cut → List ItemData → Cut
due_end units size known from items =
    if nat_lt size (length (unseen units known from items)) then place_behind End (due units size known from items) else End

-- The ids of the items in the range.
abbrev pub ids_in : Cut → Cut → List ItemData → List ItemId
ids_in lo hi items = map (λ x. x.id) (filter (λ x. is_in lo hi x.id) items)

-- The ids that a batch lists: in recovery those of the items in the range, and else none.
abbrev pub listed_ids : Mode → Cut → Cut → List ItemData → List ItemId
listed_ids Normal lo hi items = []
listed_ids Recover lo hi items = ids_in lo hi items

-- The batch that is due from the place to a destination that knows this.
unfoldable pub batch_from : ℕ → Member → Mode → ℕ → Known → Cut → BatchData
batch_from units source mode size known from =
    let to = due_end units size known from source.items in
    record {
      source = source.id;
      mode = mode;
      from = from;
      to = to;
      made_with = laid_known units source;
      forgotten = source.forgotten;
      changes = due units size known from source.items;
      here = listed_ids mode from to source.items;
    }

-- The forgotten deletions are within the knowledge, at every place and unit.
abbrev pub is_forgotten_everywhere : ℕ → Forgets → Known → List Cut → Bool
is_forgotten_everywhere units forgotten known [] = true
is_forgotten_everywhere units forgotten known (c ∷ cs) =
    every_unit (is_within (fvec forgotten c) known c) units && is_forgotten_everywhere units forgotten known cs

-- The mode of a session to a destination that knows this: recovery where it does not know all that the
-- source has forgotten, at some place where either changes.
abbrev pub mode_of : ℕ → Forgets → Known → Mode
mode_of units forgotten known =
    if is_forgotten_everywhere units forgotten known (forgets_starts forgotten) && is_forgotten_everywhere units forgotten known (starts_of known)
    then Normal else Recover

-- The item in this state is one that a batch may send: it is whole, in the range, and the made-with
-- knowledge contains its creation and its version at each unit.
pub record IsSent (units : ℕ) (b : BatchData) (i : ItemId) (state : ItemState) : Type 0 where
  pub whole : IsItemState units state
  pub within : is_in b.from b.to i ≡ true
  pub creation : (u : ℕ) → u < units → KnowsVersion b.made_with i u (creation_of i)
  pub versions : (u : ℕ) (v : Version) → u < units → version_at state u ≡ Some v → KnowsVersion b.made_with i u v

-- What a batch lists: in recovery ids of the range, ascending, among them those of the changes, and else
-- nothing.
abbrev pub IsListing : Mode → BatchData → Type 0
IsListing Normal b = b.here ≡ []
IsListing Recover b =
    AreIdsAscending b.here × ((i : ItemId) → Has i b.here → is_in b.from b.to i ≡ true)
    × ((x : ItemData) → Has x b.changes → Has x.id b.here)

-- The data are those of a batch of items with this many units.
pub record IsBatch (units : ℕ) (b : BatchData) : Type 0 where
  pub source : b.source < 2 ^ 128
  -- it is of a range that is not empty
  pub from : IsPlace b.from
  pub to : cut_lt b.from b.to ≡ true
  -- knowledge and forgotten deletions are in their one form
  pub made_with : IsKnowledge units b.made_with
  pub forgotten : AreForgets b.forgotten
  -- the changes are in order of their ids, and each may be sent
  pub ascending : AreAscending b.changes
  pub changes : (i : ItemId) (state : ItemState) → state_of b.changes i ≡ Some state → IsSent units b i state
  -- what it lists is as its mode asks
  pub here : IsListing b.mode b
