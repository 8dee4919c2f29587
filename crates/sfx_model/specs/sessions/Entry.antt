-- One applied entry of a batch.
use Rattle.std.specs.Prelude.{ℕ, ◌+◌, ◌-◌, Bool, true, false, if◌then◌else◌, nat_lt, List, [], ◌∷◌, ◌++◌, length, Option, Some, None, slice_set}
use Rattle.std.specs.List.{list_any}
use Rattle.std.specs.Option.{option_map, option_and_then}
use Rattle.sfx_ids.specs.declared.cut.Cut.TheVariants.{At, After}
use Rattle.sfx_ids.specs.declared.item_id.ItemId.{ItemId}
use Rattle.sfx_ids.specs.declared.version.Version.{Version}
use Rattle.sfx_ids.specs.Tick.{max_tick}
use Rattle.sfx_item.specs.declared.cell.Cell.{Cell}
use Rattle.sfx_knowledge.specs.Knowledge.{Known}
use Rattle.sfx_knowledge.specs.Forgotten.{Forgets}
use Rattle.sfx_model.specs.declared.absent.Absent.{Absent}
use Rattle.sfx_model.specs.declared.absent.Absent.TheVariants as absents
use Rattle.sfx_model.specs.declared.clash_rule.ClashRule.{ClashRule}
use Rattle.sfx_model.specs.declared.clash_rule.ClashRule.TheVariants.{Source, Destination, RenameSource, RenameDestination, Skip}
use Rattle.sfx_model.specs.declared.entry_kind.EntryKind.{EntryKind}
use Rattle.sfx_model.specs.declared.entry_kind.EntryKind.TheVariants as entry_kinds
use Rattle.sfx_model.specs.declared.entry_kind.EntryKind.TheVariants.{Took, Settled, Skipped, Dropped, Renamed, Deleted}
use Rattle.sfx_model.specs.declared.mark.Mark.{Mark}
use Rattle.sfx_model.specs.declared.mark.Mark.TheVariants.{Stays, Taken, Stamped, Left, Gone}
use Rattle.sfx_model.specs.declared.mode.Mode.{Mode}
use Rattle.sfx_model.specs.declared.mode.Mode.TheVariants.{Normal, Recover}
use Rattle.sfx_model.specs.members.Consistent.{live_name}
use Rattle.sfx_item.specs.Item.{ItemState, Live, Dead, ItemData}
use Rattle.sfx_model.specs.members.Members.{Member, state_of}
use Rattle.sfx_model.specs.members.States.{next_version}
use Rattle.sfx_model.specs.sessions.Batch.{BatchData}
use Rattle.sfx_model.specs.sessions.Class.{class_of, absent_class_of}
use Rattle.sfx_model.specs.sessions.Clashes.{Plan, plan_of}
use Rattle.sfx_model.specs.sessions.Draft.{DraftData, draft_of, absent_draft, cells_of, is_left}
use Rattle.sfx_model.specs.sessions.MemberKnowledge.{laid_known, stored_known, joined_forgets}
use Rattle.sfx_model.specs.members.ItemLists.{with_state_of}
use Rattle.sfx_model.specs.sessions.NewName.{new_name}
use Rattle.sfx_model.specs.sessions.Rules.{RulesData}
use Rattle.sfx_model.specs.world.Units.{each_unit, at_unit}

-- What is to be applied: an item of the destination that the source does not list, or a change.
pub data Task : Type 0 where
  Unlisted : (id : ItemId) → Task
  Change : (item : ItemData) → Task

-- Another item that an entry changed, at this tick: renamed, or else deleted.
pub record OtherData : Type 0 where
  pub item : ItemId
  pub tick : ℕ
  pub name : Option (List ℕ)

-- An applied entry, as it is told.
pub record EntryData : Type 0 where
  pub item : ItemId
  pub kind : EntryKind
  pub marks : List Mark
  -- the fresh tick of its stamped units
  pub tick : Option ℕ
  -- the new name of its item
  pub name : Option (List ℕ)
  pub others : List OtherData

-- The item of the task.
abbrev pub task_item : Task → ItemId
task_item (Unlisted id) = id
task_item (Change item) = item.id

-- The item's state at the source.
abbrev pub task_seen : Task → Option ItemState
task_seen (Unlisted id) = None
task_seen (Change item) = Some item.state

-- The forgotten deletions, joined with the batch's in recovery.
abbrev pub forgets_by : Mode → Forgets → Forgets → Forgets
forgets_by Normal batch own = own
forgets_by Recover batch own = joined_forgets own batch

-- What the destination has forgotten with this batch.
abbrev pub forgets_after : BatchData → Member → Forgets
forgets_after b m = forgets_by b.mode b.forgotten m.forgotten

-- What becomes of an item that the source does not list; nothing, where the destination has it no more.
abbrev pub unlisted_class : ℕ → Known → BatchData → ItemId → Option ItemState → Absent
unlisted_class units known b i None = absents.Keep
unlisted_class units known b i (Some here) =
    absent_class_of units known b.made_with b.forgotten (record { id = i; state = here })

-- The draft of the task at a destination that holds the item in this state.
abbrev pub task_draft : ℕ → RulesData → BatchData → Member → Option ItemState → Task → DraftData
task_draft units rules b m here (Unlisted id) =
    absent_draft units rules.keep (unlisted_class units (laid_known units m) b id here) here
task_draft units rules b m here (Change item) =
    draft_of units rules (class_of units (laid_known units m) b.made_with (forgets_after b m) item here) (Some item.state) here

-- What the task is to do to the destination.
unfoldable pub task_plan : ℕ → RulesData → BatchData → Member → Task → Plan
task_plan units rules b m t =
    plan_of units rules.clash (task_item t) m.items (task_draft units rules b m (state_of m.items (task_item t)) t)

-- The unit gets a fresh version.
abbrev pub is_stamped : Mark → Bool
is_stamped Stays = false
is_stamped Taken = false
is_stamped Stamped = true
is_stamped Left = false
is_stamped Gone = false

-- The unit comes from the source.
abbrev pub is_taken : Mark → Bool
is_taken Stays = false
is_taken Taken = true
is_taken Stamped = false
is_taken Left = false
is_taken Gone = false

-- The unit goes with its item.
abbrev pub is_gone : Mark → Bool
is_gone Stays = false
is_gone Taken = false
is_gone Stamped = false
is_gone Left = false
is_gone Gone = true

-- How many ticks the plan needs: one where a unit is stamped, and one for each other item.
abbrev pub ticks_needed : Plan → ℕ
ticks_needed p = (if list_any is_stamped p.draft.marks then 1 else 0) + length p.others

-- Fewer ticks are left than the plan needs.
abbrev pub lacks : Plan → ℕ → Bool
lacks p clock = nat_lt (max_tick - clock) (ticks_needed p)

-- The cell that is read where a list has none for a unit.
abbrev pub no_cell : Cell
no_cell = record { version = record { replica = 0; tick = 0 }; value = [] }

-- The cell of a unit afterwards, by its mark: that of the source, the value at the fresh version, or as it
-- was.
abbrev pub cell_after : Version → Mark → List ℕ → Cell → Cell → Cell
cell_after v Stays value seen here = here
cell_after v Taken value seen here = seen
cell_after v Stamped value seen here = record { version = v; value = value }
cell_after v Left value seen here = here
cell_after v Gone value seen here = here

-- The cells of a live result.
abbrev pub cells_after : ℕ → Version → List Mark → List (List ℕ) → List Cell → List Cell → List Cell
cells_after units v marks values seen here =
    each_unit units (λ u. cell_after v (at_unit marks u Stays) (at_unit values u []) (at_unit seen u no_cell) (at_unit here u no_cell))

-- A result that is not as it was: live with these values, or dead, at the fresh version where units are
-- stamped and else as at the source.
abbrev pub brought : ℕ → Version → List Mark → Option (List (List ℕ)) → Option ItemState → Option ItemState → Option ItemState
brought units v marks (Some values) seen here = Some (Live (cells_after units v marks values (cells_of seen) (cells_of here)))
brought units v marks None seen here = if list_any is_stamped marks then Some (Dead v) else seen

-- The state of the item afterwards: gone, as it was where no unit is taken or stamped, or brought.
abbrev pub state_after : ℕ → Version → DraftData → Option ItemState → Option ItemState → Option ItemState
state_after units v draft seen here =
    if list_any is_gone draft.marks then None
    else (if list_any is_taken draft.marks then brought units v draft.marks draft.values seen here
    else (if list_any is_stamped draft.marks then brought units v draft.marks draft.values seen here else here))

-- The clock, the items and the other items as far as they are changed.
pub record Changing : Type 0 where
  pub clock : ℕ
  pub items : List ItemData
  pub others : List OtherData

-- The new name that the rule gives another item of this name, where it renames.
abbrev pub other_name : ClashRule → List ItemData → ItemId → List ℕ → Option (List ℕ)
other_name Source items i name = None
other_name Destination items i name = None
other_name RenameSource items i name = None
other_name RenameDestination items i name = Some (new_name items i name)
other_name Skip items i name = None

-- The state with the new name, at this version.
abbrev pub renamed_state : Version → List ℕ → ItemState → ItemState
renamed_state v name (Live cells) = Live (slice_set cells 0 (record { version = v; value = name }))
renamed_state v name (Dead d) = Dead d

-- The other item's state afterwards: renamed, or else deleted.
abbrev pub other_state : Version → Option (List ℕ) → Option ItemState → Option ItemState
other_state v (Some name) state = option_map (renamed_state v name) state
other_state v None state = Some (Dead v)

-- One more item is changed at a fresh tick of its own, under this new name or none.
abbrev pub changed_to : ℕ → ItemId → Option (List ℕ) → Changing → Changing
changed_to own i name c = record {
  clock = c.clock + 1;
  items = with_state_of i (other_state (record { replica = own; tick = c.clock + 1 }) name (state_of c.items i)) c.items;
  others = c.others ++ record { item = i; tick = c.clock + 1; name = name } ∷ [];
}

-- One more item is changed by the rule.
abbrev pub change_other : ℕ → Option ClashRule → ItemId → Changing → Changing
change_other own rule i c =
    changed_to own i (option_and_then (λ r. option_and_then (other_name r c.items i) (option_and_then live_name (state_of c.items i))) rule) c

-- The items are changed by the rule, one after another.
unfoldable pub change_others : ℕ → Option ClashRule → Changing → List ItemId → Changing
change_others own rule c [] = c
change_others own rule c (i ∷ is) = change_others own rule (change_other own rule i c) is

-- The clock after the item's own units, which share one fresh tick, are stamped.
abbrev pub clock_after_marks : List Mark → ℕ → ℕ
clock_after_marks marks clock = if list_any is_stamped marks then clock + 1 else clock

-- The clock and the items after the plan, and the other items that it changed.
unfoldable pub changed_by : ℕ → Task → Plan → Member → Changing
changed_by units t p m =
    change_others m.id p.acts
    (record {
      clock = clock_after_marks p.draft.marks m.clock;
      items = with_state_of (task_item t) (state_after units (next_version m) p.draft (task_seen t) (state_of m.items (task_item t))) m.items;
      others = [];
    })
    p.others

-- The units of the item that are left alone, among those from one on.
abbrev pub left_from : ItemId → ℕ → List Mark → List (ItemId × ℕ)
left_from i u [] = []
left_from i u (k ∷ ks) = if is_left k then (i, u) ∷ left_from i (u + 1) ks else left_from i (u + 1) ks

-- The destination after the task, by its plan. Of its item it knows what the source knows, but for the
-- units that are left alone.
unfoldable pub after_task : ℕ → BatchData → Task → Plan → Member → Member
after_task units b t p m =
    let c = changed_by units t p m in
    record {
      id = m.id;
      clock = c.clock;
      knowledge = stored_known units m.id (At (task_item t)) (After (task_item t)) (left_from (task_item t) 0 p.draft.marks) m.knowledge b.made_with;
      forgotten = forgets_after b m;
      items = c.items;
    }

-- The kind of an entry with these marks: that of the first mark that is there.
abbrev pub kind_of_marks : List Mark → EntryKind
kind_of_marks marks =
    if list_any is_stamped marks then Settled
    else (if list_any is_taken marks then Took else (if list_any is_left marks then Skipped else entry_kinds.Known))

-- The kind of an entry for which a rule acted, if one did.
abbrev pub kind_by : Option ClashRule → List Mark → EntryKind
kind_by None marks = kind_of_marks marks
kind_by (Some Source) marks = kind_of_marks marks
kind_by (Some Destination) marks = Deleted
kind_by (Some RenameSource) marks = Renamed
kind_by (Some RenameDestination) marks = kind_of_marks marks
kind_by (Some Skip) marks = kind_of_marks marks

-- The kind of an entry by its plan.
abbrev pub kind_of : Plan → EntryKind
kind_of p = if list_any is_gone p.draft.marks then Dropped else kind_by p.acts p.draft.marks

-- The entry of the task, as it is told.
unfoldable pub entry_of : ℕ → Task → Plan → Member → EntryData
entry_of units t p m = record {
  item = task_item t;
  kind = kind_of p;
  marks = p.draft.marks;
  tick = if list_any is_stamped p.draft.marks then Some (m.clock + 1) else None;
  name = p.name;
  others = (changed_by units t p m).others;
}
