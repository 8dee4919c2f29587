use Rattle.std.proofs.Common.{refl}
use Rattle.sfx_item.specs.Decided.{is_clash}
use Rattle.sfx_model.specs.sessions.Batch.{batch_from}
use Rattle.sfx_model.specs.sessions.Class.{class_of, absent_class_of}
use Rattle.sfx_model.specs.sessions.Entry.{task_plan, change_others, changed_by, after_task, entry_of}
use Rattle.sfx_item.specs.Renamed.{renamed}
use Rattle.sfx_model.specs.sessions.NewName.{first_free}
use Rattle.std.specs.Fmt.{digits}
use Rattle.std.specs.Fmt.Cut.{floor_char_boundary}
use Rattle.sfx_model.specs.sessions.Session.{tasks_of, after_range, go, session_from, session_of}
use Rattle.sfx_model.proofs.laws.recovery.moments_on_examples.Goals as goal

pub returns-clause-whole_by_one : goal.returns-clause-whole_by_one
unfolding is_clash batch_from class_of absent_class_of task_plan change_others changed_by after_task entry_of renamed first_free floor_char_boundary digits tasks_of after_range go session_from session_of
returns-clause-whole_by_one c = refl

pub returns-clause-whole_by_two : goal.returns-clause-whole_by_two
unfolding is_clash batch_from class_of absent_class_of task_plan change_others changed_by after_task entry_of renamed first_free floor_char_boundary digits tasks_of after_range go session_from session_of
returns-clause-whole_by_two c = refl

pub returns-clause-whole_by_three : goal.returns-clause-whole_by_three
unfolding is_clash batch_from class_of absent_class_of task_plan change_others changed_by after_task entry_of renamed first_free floor_char_boundary digits tasks_of after_range go session_from session_of
returns-clause-whole_by_three c = refl

pub returns-clause-whole_by_five : goal.returns-clause-whole_by_five
unfolding is_clash batch_from class_of absent_class_of task_plan change_others changed_by after_task entry_of renamed first_free floor_char_boundary digits tasks_of after_range go session_from session_of
returns-clause-whole_by_five c = refl

pub returns-clause-whole_by_nine : goal.returns-clause-whole_by_nine
unfolding is_clash batch_from class_of absent_class_of task_plan change_others changed_by after_task entry_of renamed first_free floor_char_boundary digits tasks_of after_range go session_from session_of
returns-clause-whole_by_nine c = refl

pub returns-clause-cut_by_one : goal.returns-clause-cut_by_one
unfolding is_clash batch_from class_of absent_class_of task_plan change_others changed_by after_task entry_of renamed first_free floor_char_boundary digits tasks_of after_range go session_from session_of
returns-clause-cut_by_one c = refl

pub returns-clause-cut_by_two : goal.returns-clause-cut_by_two
unfolding is_clash batch_from class_of absent_class_of task_plan change_others changed_by after_task entry_of renamed first_free floor_char_boundary digits tasks_of after_range go session_from session_of
returns-clause-cut_by_two c = refl

pub returns-clause-cut_by_three : goal.returns-clause-cut_by_three
unfolding is_clash batch_from class_of absent_class_of task_plan change_others changed_by after_task entry_of renamed first_free floor_char_boundary digits tasks_of after_range go session_from session_of
returns-clause-cut_by_three c = refl

pub returns-clause-twos_by_one : goal.returns-clause-twos_by_one
unfolding is_clash batch_from class_of absent_class_of task_plan change_others changed_by after_task entry_of renamed first_free floor_char_boundary digits tasks_of after_range go session_from session_of
returns-clause-twos_by_one c = refl

pub returns-clause-twos_by_two : goal.returns-clause-twos_by_two
unfolding is_clash batch_from class_of absent_class_of task_plan change_others changed_by after_task entry_of renamed first_free floor_char_boundary digits tasks_of after_range go session_from session_of
returns-clause-twos_by_two c = refl

pub returns-clause-twos_cut : goal.returns-clause-twos_cut
unfolding is_clash batch_from class_of absent_class_of task_plan change_others changed_by after_task entry_of renamed first_free floor_char_boundary digits tasks_of after_range go session_from session_of
returns-clause-twos_cut c = refl

pub returns-clause-twos_cut_batches : goal.returns-clause-twos_cut_batches
unfolding is_clash batch_from class_of absent_class_of task_plan change_others changed_by after_task entry_of renamed first_free floor_char_boundary digits tasks_of after_range go session_from session_of
returns-clause-twos_cut_batches c = refl

pub returns-clause-twos_cut_by_one : goal.returns-clause-twos_cut_by_one
unfolding is_clash batch_from class_of absent_class_of task_plan change_others changed_by after_task entry_of renamed first_free floor_char_boundary digits tasks_of after_range go session_from session_of
returns-clause-twos_cut_by_one c = refl
