-- Small sessions of recovery, of full clocks, of three replicas and of names, and the states that a session
-- commits and stops at. The replicas are 10 and 11 as in the other examples, and a third, 12.
use Rattle.std.specs.Prelude.{ℕ, List, [], ◌∷◌, map, Option, Some, None, codes, length}
use Rattle.sfx_ids.specs.declared.cut.Cut.TheVariants.{Start}
use Rattle.sfx_ids.specs.Tick.{max_tick}
use Rattle.sfx_vector.specs.Clocks.{Clocks}
use Rattle.sfx_knowledge.specs.Knowledge.{Known}
use Rattle.sfx_model.specs.declared.keep.Keep.{Keep}
use Rattle.sfx_model.specs.declared.keep.Keep.TheVariants.{Source, Destination, Skip}
use Rattle.sfx_model.specs.declared.clash_rule.ClashRule.{ClashRule}
use Rattle.sfx_model.specs.declared.clash_rule.ClashRule.TheVariants as clash_rules
use Rattle.sfx_model.specs.declared.clash_rule.ClashRule.TheVariants.{RenameDestination}
use Rattle.sfx_model.specs.declared.mode.Mode.{Mode}
use Rattle.sfx_item.specs.Item.{Live, ItemData}
use Rattle.sfx_model.specs.members.Members.{Member}
use Rattle.sfx_model.specs.sessions.Session.{SessionResult, session_of}
use Rattle.sfx_model.specs.sessions.SessionExamples.{destination_of, alone, cell_of, created_of, dead_of, editor, first, five, folder, nth_item, live_of, example_member, new, receiver, rules_of, segment_of, skipping, session_between, nth_version}
use Rattle.sfx_model.specs.sessions.Moments.{committed, stops}

-- The modes of the session's batches.
abbrev pub modes_of : SessionResult → List Mode
modes_of r = map (λ s. s.batch.mode) r.course.steps

-- A member that has forgotten these deletions at every place.
abbrev pub forgetful : ℕ → ℕ → Known → Clocks → List ItemData → Member
forgetful id clock knowledge forgotten items =
    record { id = id; clock = clock; knowledge = knowledge; forgotten = (Start, forgotten) ∷ []; items = items }

-- The source destination_of it deleted its item and cleaned it away.
abbrev pub cleaner : Member
cleaner = forgetful 10 2 (segment_of Start []) ((10, 2) ∷ []) []

-- The session from it to a destination that still has the item.
abbrev pub cleanup : SessionResult
cleanup = session_between cleaner receiver Source clash_rules.Skip

-- The session the other way.
abbrev pub cleanup_back : SessionResult
cleanup_back = session_between receiver cleaner Source clash_rules.Skip

-- The session that brings an item that was edited to the replica that cleaned it away.
abbrev pub edit_to_cleaner : Keep → SessionResult
edit_to_cleaner keep = session_between (editor (codes "y")) cleaner keep clash_rules.Skip

-- The session from the replica that cleaned the item away to the one that edited it.
abbrev pub cleaner_to_edit : Keep → SessionResult
cleaner_to_edit keep = session_between cleaner (editor (codes "y")) keep clash_rules.Skip

-- The session that brings the item back to the cleaner, where the edit was kept and stamped knowing the deletion.
abbrev pub brought_back : SessionResult
brought_back = session_between (destination_of (cleaner_to_edit Destination)) cleaner Skip clash_rules.Skip

-- The session destination_of one that left the edited item alone, under the rule that keeps the deletion.
abbrev pub left_then_settled : SessionResult
left_then_settled = session_between cleaner (destination_of (cleaner_to_edit Skip)) Source clash_rules.Skip

-- The source destination_of it deleted its two items and cleaned them away.
abbrev pub cleaner_of_two : Member
cleaner_of_two = forgetful 10 4 (segment_of Start []) ((10, 4) ∷ []) []

-- A destination that still has both.
abbrev pub holder_of_two : Member
holder_of_two =
    example_member 11 0 (segment_of Start ((10, 2) ∷ []))
    (created_of 1 10 (codes "n1") ∷ created_of 2 10 (codes "n2") ∷ [])

-- The recovery of the destination, cut destination_of one entry.
abbrev pub cut_recovery : SessionResult
cut_recovery = session_of 2 cleaner_of_two holder_of_two (rules_of Destination clash_rules.Skip) 100 (Some 1)

-- A third replica that has both items and set the value of the first.
abbrev pub editor_of_two : Member
editor_of_two =
    example_member 12 1 (segment_of Start ((10, 2) ∷ []))
    (live_of first (nth_version 1 10) (codes "n1") (nth_version 1 12) (codes "y") ∷ created_of 2 10 (codes "n2") ∷ [])

-- The session from the third replica to the destination whose recovery was cut.
abbrev pub third_after_cut : SessionResult
third_after_cut = session_of 2 editor_of_two (destination_of cut_recovery) (rules_of Destination clash_rules.Skip) 100 None

-- The session from the cleaner to a new replica.
abbrev pub cleaner_to_new : SessionResult
cleaner_to_new = session_between cleaner (example_member 12 0 (segment_of Start []) []) Skip clash_rules.Skip

-- The session from a source that has forgotten the deletions that the destination itself made.
abbrev pub own_deletions : SessionResult
own_deletions =
    session_between (forgetful 10 0 (segment_of Start ((11, 2) ∷ [])) ((11, 2) ∷ []) [])
    (example_member 11 2 (segment_of Start []) []) Skip clash_rules.Skip

-- A third replica that deleted the item.
abbrev pub third_deleter : Member
third_deleter = example_member 12 1 (segment_of Start ((10, 1) ∷ [])) (dead_of first (nth_version 1 12) ∷ [])

-- The creator destination_of it set the value.
abbrev pub creator_editor : Member
creator_editor = alone 10 2 (live_of first (nth_version 1 10) (codes "n1") (nth_version 2 10) (codes "aa") ∷ [])

-- The deletion comes to the creator, which keeps its edit.
abbrev pub deletion_to_creator : SessionResult
deletion_to_creator = session_between third_deleter creator_editor Destination clash_rules.Skip

-- The creator's edit comes to a replica with another edit, and the value is left alone.
abbrev pub creator_to_editor : SessionResult
creator_to_editor = session_between (destination_of deletion_to_creator) (editor (codes "bb")) Skip clash_rules.Skip

-- Then the deletion comes to that replica, under the rule that keeps it.
abbrev pub deletion_to_editor : SessionResult
deletion_to_editor = session_between third_deleter (destination_of creator_to_editor) Source clash_rules.Skip

-- An item of one unit, its name.
abbrev pub named_of : ℕ → ℕ → List ℕ → ItemData
named_of tick replica name =
    record { id = nth_item tick replica; state = Live (cell_of (nth_version tick replica) name ∷ []) }

-- A destination that has an item `x`, and whose clock is full.
abbrev pub with_full_clock : Member
with_full_clock = example_member 11 max_tick (segment_of Start []) (named_of 1 11 (codes "x") ∷ [])

-- The session from this source to it, under the rule that deletes what comes under a taken name.
abbrev pub to_full_clock : Member → Option ℕ → SessionResult
to_full_clock source cut = session_of 1 source with_full_clock (rules_of Skip clash_rules.Destination) 100 cut

-- A source with an item of the taken name.
abbrev pub same_name : Member
same_name = example_member 10 1 (segment_of Start []) (named_of 1 10 (codes "x") ∷ [])

-- A source with an item of a free name before it.
abbrev pub free_name_first : Member
free_name_first = example_member 10 2 (segment_of Start []) (named_of 1 10 (codes "w") ∷ named_of 2 10 (codes "x") ∷ [])

-- A destination with two items below the name `dir`, and an item that has the first new name of the first.
abbrev pub files_and_taken : Member
files_and_taken =
    alone 11 3
    (created_of 1 11 (codes "dir/f") ∷ created_of 2 11 (codes "dir/g") ∷ created_of 3 11 (codes "dir~1/f") ∷ [])

-- The session in which both are renamed for an item `dir` that comes.
abbrev pub both_renamed : SessionResult
both_renamed = session_between folder files_and_taken Skip RenameDestination

-- A source that gave its item the name `m`.
abbrev pub renamer : Member
renamer = alone 10 2 (live_of first (nth_version 2 10) (codes "m") (nth_version 1 10) (codes "x") ∷ [])

-- A destination that has the item under its old name, and another item of the name `m`.
abbrev pub namesake : Member
namesake =
    example_member 11 1 (segment_of Start ((10, 1) ∷ [])) (created_of 1 10 (codes "n1") ∷ created_of 1 11 (codes "m") ∷ [])

-- The session in which the new name meets the other item.
abbrev pub new_name_taken : ClashRule → SessionResult
new_name_taken rule = session_between renamer namesake Skip rule

-- The session that brings five items in batches of this size, up to a cut.
abbrev pub five_by : ℕ → Option ℕ → SessionResult
five_by size cut = skipping five new size cut

-- How many states are committed, and at how many the storage may be left, in groups of this size.
abbrev pub counts_of : ℕ → SessionResult → ℕ × ℕ
counts_of group r = (length (committed group r.course.moments), length (stops group new r.course.moments))
