use Rattle.std.specs.Prelude.{◌≡◌, ℕ, ◌<◌, ◌≤◌, max, Bool, true, false, not, ◌&&◌, if◌then◌else◌, ◌⊎◌, ◌↔◌, List, length, Option, Some, None, slice_get}
use Rattle.sfx_ids.specs.declared.cut.Cut.{Cut}
use Rattle.sfx_ids.specs.declared.cut.Cut.TheVariants.{Start, At, After, End}
use Rattle.sfx_ids.specs.declared.item_id.ItemId.{ItemId}
use Rattle.sfx_ids.specs.declared.version.Version.{Version}
use Rattle.sfx_ids.specs.Cut.{is_between}
use Rattle.sfx_segments.specs.Segments.{IsPlace}
use Rattle.sfx_knowledge.specs.Skips.{is_skipped}
use Rattle.sfx_item.specs.declared.cell.Cell.{Cell}
use Rattle.sfx_knowledge.specs.Knowledge.{laid_over}
use Rattle.sfx_model.specs.world.Sets.{Has}
use Rattle.sfx_model.specs.world.World.{Content, Written, Deleted, Snapshot, World, Made, IsContained}
use Rattle.sfx_model.specs.world.Events.{UnitMark, Keeps, Takes, Stamps, Leaves, Drops, same_item, is_in, forgotten_with, forgotten_joined, clock_after, AllMarked, AllStamped}
use Rattle.sfx_item.specs.Item.{ItemState, Live, Dead}
use Rattle.sfx_model.specs.members.Members.{Shown, clock_among, state_of}

-- The made-with knowledge that comes with a snapshot's state of an item: at the item it contains exactly
-- the made versions that the snapshot knows, and at each unit it stays within the clocks of the world. A
-- source, a letter and a saved conflict are such.
pub record Backs (w : World) (snapshot : Snapshot) (i : ItemId) (made_with : Cut → ℕ → ℕ → ℕ) : Type 0 where
  pub exact : (u : ℕ) (v : Version) → Made w.records i u v → IsContained (made_with (At i) u) v ↔ Has v (snapshot.known i u)
  pub bounded : (u r : ℕ) → u < w.units → made_with (At i) u r ≤ clock_among w.sites r

-- The same of a range: made-with knowledge that backs each item of the range, and stays within the clocks
-- of the world at each of its places and at each unit.
pub record BacksRange (w : World) (snapshot : Snapshot) (lo hi : Cut) (made_with : Cut → ℕ → ℕ → ℕ) : Type 0 where
  pub items : (i : ItemId) → is_in lo hi i ≡ true → Backs w snapshot i made_with
  pub bounded : (place : Cut) (u r : ℕ) → IsPlace place → u < w.units → is_between lo hi place ≡ true → made_with place u r ≤ clock_among w.sites r

-- The forgotten deletions that come with a snapshot: at each place of the range they are the snapshot's,
-- and stay within the clocks of the world.
pub record BacksForgotten (w : World) (snapshot : Snapshot) (lo hi : Cut) (seen : Cut → ℕ → ℕ) : Type 0 where
  pub same : (place : Cut) (r : ℕ) → IsPlace place → is_between lo hi place ≡ true → seen place r ≡ snapshot.forgotten place r
  pub bounded : (place : Cut) (r : ℕ) → IsPlace place → is_between lo hi place ≡ true → seen place r ≤ clock_among w.sites r

-- Whether the place is that of the item.
abbrev pub is_place_of : ItemId → Cut → Bool
is_place_of i (At j) = same_item j i
is_place_of i Start = false
is_place_of i (After j) = false
is_place_of i End = false

-- Whether the unit is left out at the place; only a unit of an item can be.
abbrev pub is_left_at : (ItemId → ℕ → Bool) → Cut → ℕ → Bool
is_left_at left (At i) u = left i u
is_left_at left Start u = false
is_left_at left (After i) u = false
is_left_at left End u = false

-- A tick of the known vector after an entry with this mark: joined with the made-with one, but for a
-- unit left alone.
abbrev pub joined_by : UnitMark → ℕ → ℕ → ℕ
joined_by Keeps here made_with = max here made_with
joined_by Takes here made_with = max here made_with
joined_by (Stamps c) here made_with = max here made_with
joined_by Leaves here made_with = here
joined_by Drops here made_with = max here made_with

-- Knowledge joined with the made-with knowledge at the entry's item, by the mark of each unit.
abbrev pub joined_at : ItemId → (ℕ → UnitMark) → (Cut → ℕ → ℕ → ℕ) → (Cut → ℕ → ℕ → ℕ) → Cut → ℕ → ℕ → ℕ
joined_at i marks here made_with place u r =
    if is_place_of i place then joined_by (marks u) (here place u r) (made_with place u r) else here place u r

-- Knowledge joined with the made-with knowledge at the places of a range, but for the units left out.
abbrev pub joined_in : Cut → Cut → (ItemId → ℕ → Bool) → (Cut → ℕ → ℕ → ℕ) → (Cut → ℕ → ℕ → ℕ) → Cut → ℕ → ℕ → ℕ
joined_in lo hi left here made_with place u r =
    if is_between lo hi place && not (is_left_at left place u) then max (here place u r) (made_with place u r)
    else here place u r

-- Of this item just those units are skipped that the marks leave alone.
abbrev pub SkipsLeft : ℕ → ItemId → (ℕ → UnitMark) → List (ItemId × ℕ) → Type 0
SkipsLeft units i marks skipped = (u : ℕ) → u < units → (is_skipped skipped i u ≡ true) ↔ (marks u ≡ Leaves)

-- Both pieces of knowledge agree at every place and unit.
abbrev pub SameVectors : ℕ → (Cut → ℕ → ℕ → ℕ) → (Cut → ℕ → ℕ → ℕ) → Type 0
SameVectors units here there =
    (place : Cut) (u r : ℕ) → IsPlace place → u < units → here place u r ≡ there place u r

-- Both have forgotten the same at every place.
abbrev pub SameForgotten : (Cut → ℕ → ℕ) → (Cut → ℕ → ℕ) → Type 0
SameForgotten here there = (place : Cut) (r : ℕ) → IsPlace place → here place r ≡ there place r

-- Each item but this one is as before.
abbrev pub KeepsOthers : ItemId → Shown → Shown → Type 0
KeepsOthers i m n = (j : ItemId) → same_item j i ≡ false → state_of n.items j ≡ state_of m.items j

-- Each item is as before.
abbrev pub KeepsItems : Shown → Shown → Type 0
KeepsItems m n = (j : ItemId) → state_of n.items j ≡ state_of m.items j

-- The cell of the unit, where the item is there and live.
abbrev pub cell_at : Option ItemState → ℕ → Option Cell
cell_at None u = None
cell_at (Some (Live cells)) u = slice_get cells u
cell_at (Some (Dead v)) u = None

-- The cell has this version and value.
pub record HasCell (v : Version) (value : List ℕ) (c : Cell) : Type 0 where
  pub version : c.version ≡ v
  pub bytes : c.value ≡ value

-- The cell of a live result, by the unit's mark: the one before, the one seen, or the stamped value.
abbrev pub CellResult : Version → UnitMark → Option Cell → Option Cell → Cell → Type 0
CellResult v Keeps before seen c = before ≡ Some c
CellResult v Takes before seen c = seen ≡ Some c
CellResult v (Stamps (Written bytes)) before seen c = HasCell v bytes c
CellResult v (Stamps Deleted) before seen c = ⊥
CellResult v Leaves before seen c = before ≡ Some c
CellResult v Drops before seen c = ⊥

-- These cells are the live result of an entry.
pub record CellsResult (units : ℕ) (v : Version) (marks : ℕ → UnitMark) (before seen : Option ItemState) (cells : List Cell) : Type 0 where
  pub whole : length cells ≡ units
  pub each : (u : ℕ) (c : Cell) → slice_get cells u ≡ Some c → CellResult v (marks u) (cell_at before u) (cell_at seen u) c

-- What an entry makes of the state of its item, `seen` being that of the snapshot: it is as before, as
-- seen, gone, dead by the entry's version, or live with cells by the marks.
pub data StateResult (units : ℕ) (v : Version) (marks : ℕ → UnitMark) (before seen after : Option ItemState) : Type 0 where
  Unchanged : AllMarked units marks Keeps ⊎ AllMarked units marks Leaves → after ≡ before → StateResult units v marks before seen after
  AsSeen : AllMarked units marks Takes → after ≡ seen → StateResult units v marks before seen after
  Removed : AllMarked units marks Drops → after ≡ None → StateResult units v marks before seen after
  DeadNow : AllStamped units marks (λ c. c ≡ Deleted) → after ≡ Some (Dead v) → StateResult units v marks before seen after
  LiveNow : (cells : List Cell) → after ≡ Some (Live cells) → CellsResult units v marks before seen cells → StateResult units v marks before seen after

-- What an applied entry owes of the member: m before and n after it.
pub record EntryResult (units : ℕ) (i : ItemId) (v : Version) (marks : ℕ → UnitMark) (seen : Option ItemState) (made_with : Cut → ℕ → ℕ → ℕ) (m n : Shown) : Type 0 where
  pub id : n.id ≡ m.id
  pub clock : n.clock ≡ clock_after marks units v.tick m.clock
  pub vectors : SameVectors units n.vector_at (laid_over n.id n.clock (joined_at i marks m.vector_at made_with))
  pub forgotten : SameForgotten n.forgotten m.forgotten
  pub others : KeepsOthers i m n
  pub item : StateResult units v marks (state_of m.items i) seen (state_of n.items i)

-- The mark of a unit in an edit: it is stamped where the edit has a content for it, and else kept.
abbrev pub edit_mark : Option Content → UnitMark
edit_mark None = Keeps
edit_mark (Some c) = Stamps c

-- What a creation, an edit and a deletion owe of the member.
pub record EditResult (units : ℕ) (i : ItemId) (v : Version) (contents : ℕ → Option Content) (m n : Shown) : Type 0 where
  pub id : n.id ≡ m.id
  pub clock : n.clock ≡ v.tick
  pub vectors : SameVectors units n.vector_at (laid_over n.id n.clock m.vector_at)
  pub forgotten : SameForgotten n.forgotten m.forgotten
  pub others : KeepsOthers i m n
  pub item : StateResult units v (λ u. edit_mark (contents u)) (state_of m.items i) None (state_of n.items i)

-- What a cleanup owes of the member.
pub record CleanResult (units : ℕ) (i : ItemId) (v : Version) (lo hi : Cut) (m n : Shown) : Type 0 where
  pub id : n.id ≡ m.id
  pub clock : n.clock ≡ m.clock
  pub vectors : SameVectors units n.vector_at m.vector_at
  pub forgotten : SameForgotten n.forgotten (forgotten_with m.forgotten v lo hi)
  pub others : KeepsOthers i m n
  pub item : state_of n.items i ≡ None

-- What joining forgotten deletions owes of the member.
pub record ForgetResult (units : ℕ) (seen : Cut → ℕ → ℕ) (lo hi : Cut) (m n : Shown) : Type 0 where
  pub id : n.id ≡ m.id
  pub clock : n.clock ≡ m.clock
  pub vectors : SameVectors units n.vector_at m.vector_at
  pub forgotten : SameForgotten n.forgotten (forgotten_joined m.forgotten seen lo hi)
  pub items : KeepsItems m n

-- What a learned range owes of the member.
pub record LearnResult (units : ℕ) (lo hi : Cut) (left : ItemId → ℕ → Bool) (made_with : Cut → ℕ → ℕ → ℕ) (m n : Shown) : Type 0 where
  pub id : n.id ≡ m.id
  pub clock : n.clock ≡ m.clock
  pub vectors : SameVectors units n.vector_at (laid_over n.id n.clock (joined_in lo hi left m.vector_at made_with))
  pub forgotten : SameForgotten n.forgotten m.forgotten
  pub items : KeepsItems m n
