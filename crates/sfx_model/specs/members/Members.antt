use Rattle.std.specs.Prelude.{◌≡◌, ℕ, ◌<◌, ◌≤◌, Bool, true, false, if◌then◌else◌, nat_eq, nat_le, ◌⊎◌, ◌↔◌, List, [], ◌∷◌, length, Option, Some, None, slice_get}
use Rattle.sfx_ids.specs.declared.cut.Cut.{Cut}
use Rattle.sfx_ids.specs.declared.cut.Cut.TheVariants.{At}
use Rattle.sfx_ids.specs.declared.item_id.ItemId.{ItemId}
use Rattle.sfx_ids.specs.declared.version.Version.{Version}
use Rattle.sfx_vector.specs.Clocks.{tick_of}
use Rattle.sfx_segments.specs.Segments.{IsPlace}
use Rattle.sfx_knowledge.specs.Knowledge.{Known, tick_at}
use Rattle.sfx_knowledge.specs.Forgotten.{Forgets, fvec}
use Rattle.sfx_item.specs.declared.cell.Cell.{Cell}
use Rattle.sfx_item.specs.Item.{ItemState, Live, Dead, ItemData}
use Rattle.sfx_model.specs.world.Sets.{Has}
use Rattle.sfx_model.specs.world.World.{Written, Record, Site, World, Holding, holding, IsAt, Made, IsLatest, IsDeadAt, IsContained}
use Rattle.sfx_model.specs.world.Events.{same_item}

-- A replica's state as plain data. Knowledge and forgotten deletions are lists of segments, each with
-- the place from which it counts; the items are in order of their ids.
pub record Member : Type 0 where
  pub id : ℕ
  pub clock : ℕ
  pub knowledge : Known
  pub forgotten : Forgets
  pub items : List ItemData

-- What the member knows at the place of the unit: a tick for each replica, that of its own being its
-- clock.
abbrev pub vector_at : Member → Cut → ℕ → ℕ → ℕ
vector_at m place u r = if nat_eq r m.id then m.clock else tick_at m.knowledge place u r

-- Whether the member's knowledge of the cell contains the version.
abbrev pub contains : Member → ItemId → ℕ → Version → Bool
contains m i u v = nat_le v.tick (vector_at m (At i) u v.replica)

-- What a replica's state says of a world: its clock, at each place and unit what it knows, at each place
-- what it has forgotten, and its present items. Two states that say the same are alike here, however
-- their lists are cut.
pub record Shown : Type 0 where
  pub id : ℕ
  pub clock : ℕ
  pub vector_at : Cut → ℕ → ℕ → ℕ
  pub forgotten : Cut → ℕ → ℕ
  pub items : List ItemData

-- What the member's state says.
abbrev pub shown : Member → Shown
shown m = record {
  id = m.id;
  clock = m.clock;
  vector_at = vector_at m;
  forgotten = λ place r. tick_of (fvec m.forgotten place) r;
  items = m.items;
}

-- The state of the item with this id.
abbrev pub state_of : List ItemData → ItemId → Option ItemState
state_of [] i = None
state_of (x ∷ xs) i = if same_item x.id i then Some x.state else state_of xs i

-- The clock of the replica with this id, and 0 where the world has no such replica.
abbrev pub clock_among : List Site → ℕ → ℕ
clock_among [] r = 0
clock_among (s ∷ ss) r = if nat_eq s.id r then s.clock else clock_among ss r

-- The cell is that of the latest known version: it has this version, and the bytes that its record has.
pub record IsLatestCell (rs : List Record) (i : ItemId) (u : ℕ) (vs : List Version) (c : Cell) : Type 0 where
  pub latest : IsLatest rs i u vs c.version
  pub value : (r : Record) × Has r rs × IsAt r i u c.version × (r.content ≡ Written c.value)

-- A live state has a cell for each unit, each of them the latest.
pub record AreLatestCells (units : ℕ) (rs : List Record) (i : ItemId) (known : ℕ → List Version) (cells : List Cell) : Type 0 where
  pub whole : length cells ≡ units
  pub each : (u : ℕ) (c : Cell) → slice_get cells u ≡ Some c → IsLatestCell rs i u (known u) c

-- The state has the latest known version of each unit, and is dead exactly where these delete.
abbrev pub IsLatestState : ℕ → List Record → ItemId → (ℕ → List Version) → ItemState → Type 0
IsLatestState units rs i known (Live cells) = AreLatestCells units rs i known cells
IsLatestState units rs i known (Dead v) = IsDeadAt units rs i known v

-- The item is present at the site, with this state.
pub record IsHeld (units : ℕ) (rs : List Record) (i : ItemId) (h : Holding) (state : ItemState) : Type 0 where
  pub is_present : h.present ≡ true
  pub latest : IsLatestState units rs i h.known state

-- The member has the item just as the site has it.
abbrev pub ItemRepresents : ℕ → List Record → ItemId → Holding → Option ItemState → Type 0
ItemRepresents units rs i h None = h.present ≡ false
ItemRepresents units rs i h (Some state) = IsHeld units rs i h state

-- Id and clock are the site's, and so are the forgotten deletions at every place.
pub record SameHeader (s : Site) (m : Shown) : Type 0 where
  pub id : m.id ≡ s.id
  pub clock : m.clock ≡ s.clock
  pub forgotten : (place : Cut) (r : ℕ) → IsPlace place → m.forgotten place r ≡ s.forgotten place r

-- At every place and unit no entry of a vector passes the clock of its replica, and none names a replica
-- that the world lacks.
pub record IsBounded (w : World) (m : Shown) : Type 0 where
  pub vectors : (place : Cut) (u r : ℕ) → IsPlace place → u < w.units → m.vector_at place u r ≤ clock_among w.sites r
  pub forgotten : (place : Cut) (r : ℕ) → IsPlace place → m.forgotten place r ≤ clock_among w.sites r

-- A member's state represents its site in the world.
pub record Represents (w : World) (s : Site) (m : Shown) : Type 0 where
  -- its knowledge of a cell contains exactly those made versions that the site knows
  pub exact : (i : ItemId) (u : ℕ) (v : Version) → Made w.records i u v → IsContained (m.vector_at (At i) u) v ↔ Has v (s.known i u)
  -- its items are the site's, with the latest versions and their values
  pub items : (i : ItemId) → ItemRepresents w.units w.records i (holding s i) (state_of m.items i)
  -- so are its id, clock and forgotten deletions
  pub header : SameHeader s m
  -- its vectors stay within the clocks of the world
  pub bounded : IsBounded w m

-- The first id comes before the second: ids are in order by tick, then by replica.
abbrev pub IsIdBelow : ItemId → ItemId → Type 0
IsIdBelow i j = (i.tick < j.tick) ⊎ ((i.tick ≡ j.tick) × (i.replica < j.replica))

-- The items are in order of their ids, and no two have the same.
abbrev pub AreAscending : List ItemData → Type 0
AreAscending [] = Unit {0}
AreAscending (x ∷ xs) = ((y : ItemData) → Has y xs → IsIdBelow x.id y.id) × AreAscending xs

-- The ids ascend, and no two are the same.
abbrev pub AreIdsAscending : List ItemId → Type 0
AreIdsAscending [] = Unit {0}
AreIdsAscending (i ∷ is) = ((j : ItemId) → Has j is → IsIdBelow i j) × AreIdsAscending is

-- A member under the name of its replica.
pub record NamedMember : Type 0 where
  pub name : List ℕ
  pub member : Member

-- The members of a program's state, with the unit count that all their items have, 0 while there is none.
pub record Community : Type 0 where
  pub units : ℕ
  pub members : List NamedMember
