-- What a batch and a session do in the world, as deeds: functions beside those that say what they make of
-- the destination.
use Rattle.std.specs.Prelude.{ℕ, ◌+◌, zero, suc, List, [], ◌∷◌, ◌++◌, map, length, Option, Some, None}
use Rattle.std.specs.Option.{option_and_then}
use Rattle.sfx_ids.specs.declared.cut.Cut.{Cut}
use Rattle.sfx_ids.specs.declared.cut.Cut.TheVariants.{Start, End}
use Rattle.sfx_ids.specs.declared.item_id.ItemId.{ItemId}
use Rattle.sfx_ids.specs.declared.version.Version.{Version}
use Rattle.sfx_knowledge.specs.Skips.{is_skipped}
use Rattle.sfx_model.specs.declared.apply_end.ApplyEnd.{ApplyEnd}
use Rattle.sfx_model.specs.declared.clash_rule.ClashRule.{ClashRule}
use Rattle.sfx_model.specs.declared.mark.Mark.{Mark}
use Rattle.sfx_model.specs.declared.mark.Mark.TheVariants.{Stays, Taken, Stamped, Left, Gone}
use Rattle.sfx_model.specs.declared.mode.Mode.{Mode}
use Rattle.sfx_model.specs.declared.mode.Mode.TheVariants.{Normal, Recover}
use Rattle.sfx_model.specs.declared.session_end.SessionEnd.{SessionEnd}
use Rattle.sfx_model.specs.members.Consistent.{live_name}
use Rattle.sfx_model.specs.world.World.{Content, Written, Deleted, Snapshot}
use Rattle.sfx_model.specs.world.Events.{UnitMark, Keeps, Takes, Stamps, Leaves, Drops, Event, Make, Deed, seen_by, Own, ForgetFrom, ApplyFrom, LearnFrom}
use Rattle.sfx_item.specs.Item.{ItemData}
use Rattle.sfx_model.specs.members.Members.{Member, state_of}
use Rattle.sfx_model.specs.members.States.{next_version, edited_contents, deleted_contents}
use Rattle.sfx_model.specs.sessions.Batch.{BatchData, batch_from, mode_of}
use Rattle.sfx_model.specs.sessions.Clashes.{Plan}
use Rattle.sfx_model.specs.sessions.Draft.{DraftData}
use Rattle.sfx_model.specs.sessions.Entry.{Task, Changing, other_name, change_other, clock_after_marks, state_after, task_item, task_seen, task_plan}
use Rattle.sfx_model.specs.sessions.MemberKnowledge.{laid_known}
use Rattle.sfx_model.specs.members.ItemLists.{with_state_of}
use Rattle.sfx_model.specs.sessions.Rules.{RulesData}
use Rattle.sfx_model.specs.sessions.Session.{Progress, Course, begin, outcome_of, ending, is_more, lefts, set_out, stop_before, tasks_of, with_batch, with_entry}
use Rattle.sfx_model.specs.world.Units.{at_unit}

-- The content that a draft with these values has for the unit: its value, and the deletion where there
-- are no values.
abbrev pub content_in : Option (List (List ℕ)) → ℕ → Content
content_in None u = Deleted
content_in (Some values) u = Written (at_unit values u [])

-- The mark, with the content that a stamped unit gets.
abbrev pub mark_with : Mark → Content → UnitMark
mark_with Stays content = Keeps
mark_with Taken content = Takes
mark_with Stamped content = Stamps content
mark_with Left content = Leaves
mark_with Gone content = Drops

-- The marks of a draft, with their contents.
abbrev pub marks_in : DraftData → ℕ → UnitMark
marks_in draft u = mark_with (at_unit draft.marks u Stays) (content_in draft.values u)

-- The version that the replica makes at the tick behind this clock.
abbrev pub version_behind : ℕ → ℕ → Version
version_behind own clock = record { replica = own; tick = clock + 1 }

-- The contents of the change of another item: a new name, or its deletion.
abbrev pub other_contents : ℕ → Option (List ℕ) → ℕ → Option Content
other_contents units (Some name) = edited_contents 0 name
other_contents units None = deleted_contents units

-- The new name that the rule gives the item among these, where it gives one.
abbrev pub name_given : Option ClashRule → List ItemData → ItemId → Option (List ℕ)
name_given rule items i =
    option_and_then (λ r. option_and_then (other_name r items i) (option_and_then live_name (state_of items i))) rule

-- The deeds of the other items that an entry changes: each is changed at a fresh tick of its own.
unfoldable pub others_deeds : ℕ → ℕ → Option ClashRule → Changing → List ItemId → List Deed
others_deeds units own rule c [] = []
others_deeds units own rule c (i ∷ is) =
    Own (Make own i (version_behind own c.clock) (other_contents units (name_given rule c.items i)))
    ∷ others_deeds units own rule (change_other own rule i c) is

-- The forgotten deletions of the source are joined, in recovery.
abbrev pub forget_deeds : Mode → ℕ → ℕ → List Deed
forget_deeds Normal own source = []
forget_deeds Recover own source = ForgetFrom own source Start End ∷ []

-- The destination's clock and items after the task's own item got its state, before others are changed.
abbrev pub changed_first : ℕ → Task → Plan → Member → Changing
changed_first units t p m = record {
  clock = clock_after_marks p.draft.marks m.clock;
  items = with_state_of (task_item t) (state_after units (next_version m) p.draft (task_seen t) (state_of m.items (task_item t))) m.items;
  others = [];
}

-- The deeds of a task: the forgotten deletions are joined, its entry is outcome_of, and the other items are
-- changed.
abbrev pub task_deeds : ℕ → BatchData → Task → Plan → Member → List Deed
task_deeds units b t p m =
    forget_deeds b.mode m.id b.source
    ++ (ApplyFrom m.id b.source (task_item t) (next_version m) (marks_in p.draft)
    ∷ others_deeds units m.id p.acts (changed_first units t p m) p.others)

-- The deeds of a range that is learned, but for these units.
abbrev pub range_deeds : BatchData → List (ItemId × ℕ) → Member → List Deed
range_deeds b left m =
    forget_deeds b.mode m.id b.source ++ (LearnFrom m.id b.source b.from b.to (is_skipped left) ∷ [])

-- No deed where the batch ends here, and else these.
abbrev pub deeds_or : Option ApplyEnd → List Deed → List Deed
deeds_or (Some end) next = []
deeds_or None next = next

-- The deeds of the tasks that are left, and of the range.
unfoldable pub go_deeds : ℕ → BatchData → RulesData → Progress → List Task → List Deed
go_deeds units b rules p [] = range_deeds b (lefts p.entries) p.member
go_deeds units b rules p (t ∷ ts) =
    deeds_or (stop_before p.budget (task_plan units rules b p.member t) p.member)
    (task_deeds units b t (task_plan units rules b p.member t) p.member
    ++ go_deeds units b rules (with_entry units b t (is_more ts) (task_plan units rules b p.member t) p) ts)

-- The deeds of a batch.
abbrev pub batch_deeds : ℕ → BatchData → RulesData → Option ℕ → Member → List Deed
batch_deeds units b rules budget m = go_deeds units b rules (begin budget m) (tasks_of units b m)

-- No deed where the session ends here, and else these.
abbrev pub deeds_unless : Option SessionEnd → List Deed → List Deed
deeds_unless (Some end) next = []
deeds_unless None next = next

-- The deeds of a session from a place on.
unfoldable pub deeds_from : ℕ → ℕ → Member → Mode → RulesData → ℕ → Course → Cut → List Deed
deeds_from zero units source mode rules size c from = []
deeds_from (suc bound) units source mode rules size c from =
    let b = batch_from units source mode size (laid_known units c.member) from in
    let o = outcome_of units b rules c.budget c.member in
    batch_deeds units b rules c.budget c.member
    ++ deeds_unless (ending b.to o.end (with_batch b o c).budget)
    (deeds_from bound units source mode rules size (with_batch b o c) b.to)

-- The deeds of a session.
abbrev pub session_deeds : ℕ → Member → Member → RulesData → ℕ → Option ℕ → List Deed
session_deeds units source destination rules size cut =
    deeds_from (length source.items + 1) units source (mode_of units source.forgotten (laid_known units destination))
    rules size (set_out cut destination) Start

-- The events that deeds are with one snapshot.
abbrev pub events_with : Snapshot → List Deed → List Event
events_with snapshot deeds = map (seen_by snapshot) deeds
