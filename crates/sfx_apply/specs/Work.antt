-- How far the applying of a batch has come, and what each of its tasks adds to it.
use Rattle.std.specs.Prelude.{◌≡◌, ℕ, ◌<◌, ◌≤◌, ◌||◌, if◌then◌else◌, List, [], ◌∷◌, Option, Some, None}
use Rattle.std.specs.List.{list_any}
use Rattle.sfx_ids.specs.declared.cut.Cut.{Cut}
use Rattle.sfx_ids.specs.declared.cut.Cut.TheVariants.{At, After}
use Rattle.sfx_ids.specs.declared.item_id.ItemId.{ItemId}
use Rattle.sfx_segments.specs.Segments.{IsPlace}
use Rattle.sfx_knowledge.specs.Knowledge.{IsKnowledge, tick_at}
use Rattle.sfx_item.specs.declared.cell.Cell.{Cell}
use Rattle.sfx_knowledge.specs.Skips.{is_skipped}
use Rattle.sfx_model.specs.declared.mark.Mark.{Mark}
use Rattle.sfx_model.specs.declared.mark.Mark.TheVariants.{Stays}
use Rattle.sfx_model.specs.sessions.Batch.{BatchData}
use Rattle.sfx_model.specs.sessions.Class.{ClassData, AllKnown, TakeWhole, Units, WholeConflict}
use Rattle.sfx_model.specs.sessions.Entry.{EntryData, is_taken, kind_of_marks, left_from, no_cell}
use Rattle.sfx_model.specs.sessions.MemberKnowledge.{learned_known}
use Rattle.sfx_item.specs.Item.{ItemState, Live, Dead, ItemData}
use Rattle.sfx_model.specs.members.Members.{Member}
use Rattle.sfx_model.specs.members.ItemLists.{put_item}
use Rattle.sfx_model.specs.world.Units.{each_unit, at_unit}
use Rattle.sfx_provider.specs.Commit.{CommitData}
use Rattle.sfx_provider.specs.Fits.{FitsMember}

-- The cells of an item that is live on both sides, each that is taken as the source has it and the others
-- as they are here.
abbrev pub taken_cells : ℕ → List Mark → List Cell → List Cell → List Cell
taken_cells units marks seen here =
    each_unit units (λ u. if is_taken (at_unit marks u Stays) then at_unit seen u no_cell else at_unit here u no_cell)

-- The state of an item of which units are taken: cell by cell where it is live on both sides, and else that
-- of the source.
abbrev pub taken_state : ℕ → List Mark → ItemState → Option ItemState → ItemState
taken_state units marks (Live seen) (Some (Live here)) = Live (taken_cells units marks seen here)
taken_state units marks (Live seen) (Some (Dead v)) = Live seen
taken_state units marks (Live seen) None = Live seen
taken_state units marks (Dead v) here = Dead v

-- The items with that of the change as it becomes, where units of it are taken; `here` is its state before.
abbrev pub put_taken : ℕ → List Mark → ItemData → Option ItemState → List ItemData → List ItemData
put_taken units marks change here items =
    if list_any is_taken marks then put_item (record { id = change.id; state = taken_state units marks change.state here }) items
    else items

-- The commit with the marks of one more change, whose item is in this state at the destination.
abbrev pub with_marks : ℕ → BatchData → ItemData → List Mark → Option ItemState → CommitData → CommitData
with_marks units b change marks here c = record {
  clock = c.clock;
  knowledge = learned_known units (At change.id) (After change.id) (left_from change.id 0 marks) c.knowledge b.made_with;
  forgotten = c.forgotten;
  puts = put_taken units marks change here c.puts;
  drops = c.drops;
}

-- The entry of an item with these marks, where conflicts are left alone.
abbrev pub quiet_entry : ItemId → List Mark → EntryData
quiet_entry i marks = record { item = i; kind = kind_of_marks marks; marks = marks; tick = None; name = None; others = [] }

-- The commit with the batch's range, but for these units.
abbrev pub with_range : ℕ → BatchData → List (ItemId × ℕ) → CommitData → CommitData
with_range units b left c = record {
  clock = c.clock;
  knowledge = learned_known units b.from b.to left c.knowledge b.made_with;
  forgotten = c.forgotten;
  puts = c.puts;
  drops = c.drops;
}

-- The commit once it is made: nothing is left to put or to drop.
abbrev pub cleared : CommitData → CommitData
cleared c = record { clock = c.clock; knowledge = c.knowledge; forgotten = c.forgotten; puts = []; drops = [] }

-- The commit waits to be made: the replica's state takes it, and it drops nothing.
pub record Waits (units : ℕ) (c : CommitData) (m : Member) : Type 0 where
  pub fits : FitsMember units c m
  pub form : IsKnowledge units c.knowledge
  pub keeps : c.drops ≡ []

-- The batch knows no versions of the replica but those that it made.
pub record KnowsNoMore (units : ℕ) (m : Member) (b : BatchData) : Type 0 where
  pub known : (place : Cut) (u : ℕ) → IsPlace place → u < units → tick_at b.made_with place u m.id ≤ m.clock

-- The new list has these units of items, and those of the old one.
abbrev pub AddsSkips : List (ItemId × ℕ) → List (ItemId × ℕ) → List (ItemId × ℕ) → Type 0
AddsSkips old new more = (i : ItemId) (u : ℕ) → is_skipped new i u ≡ (is_skipped more i u || is_skipped old i u)

-- Both lists have the same units of items.
abbrev pub SameSkips : List (ItemId × ℕ) → List (ItemId × ℕ) → Type 0
SameSkips a b = (i : ItemId) (u : ℕ) → is_skipped a i u ≡ is_skipped b i u

-- Unit by unit goes none but an item that is live on both sides.
abbrev pub FitsSides : ClassData → ItemState → Option ItemState → Type 0
FitsSides AllKnown seen here = Unit {0}
FitsSides TakeWhole seen here = Unit {0}
FitsSides (Units classes) (Live seen) (Some (Live own)) = Unit {0}
FitsSides (Units classes) (Live seen) (Some (Dead v)) = ⊥
FitsSides (Units classes) (Live seen) None = ⊥
FitsSides (Units classes) (Dead v) here = ⊥
FitsSides WholeConflict seen here = Unit {0}

-- The cells of an item that is there and live.
abbrev pub live_cells : Option ItemState → Option (List Cell)
live_cells None = None
live_cells (Some (Live cells)) = Some cells
live_cells (Some (Dead v)) = None
