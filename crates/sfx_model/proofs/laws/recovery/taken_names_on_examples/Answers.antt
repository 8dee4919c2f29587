use Rattle.std.proofs.Common.{refl}
use Rattle.sfx_item.specs.Decided.{is_clash}
use Rattle.sfx_model.specs.sessions.Batch.{batch_from}
use Rattle.sfx_model.specs.sessions.Class.{class_of, absent_class_of}
use Rattle.sfx_model.specs.sessions.Entry.{task_plan, change_others, changed_by, after_task, entry_of}
use Rattle.sfx_item.specs.Renamed.{renamed}
use Rattle.sfx_model.specs.sessions.NewName.{first_free}
use Rattle.std.specs.Fmt.{digits}
use Rattle.std.specs.Fmt.Cut.{floor_char_boundary}
use Rattle.sfx_model.specs.sessions.Session.{tasks_of, after_range, go, session_from, session_of}
use Rattle.sfx_model.proofs.laws.recovery.taken_names_on_examples.Goals as goal

pub returns-clause-both_renamed : goal.returns-clause-both_renamed
unfolding is_clash batch_from class_of absent_class_of task_plan change_others changed_by after_task entry_of renamed first_free floor_char_boundary digits tasks_of after_range go session_from session_of
returns-clause-both_renamed c = refl

pub returns-clause-rename_source : goal.returns-clause-rename_source
unfolding is_clash batch_from class_of absent_class_of task_plan change_others changed_by after_task entry_of renamed first_free floor_char_boundary digits tasks_of after_range go session_from session_of
returns-clause-rename_source c = refl

pub returns-clause-source : goal.returns-clause-source
unfolding is_clash batch_from class_of absent_class_of task_plan change_others changed_by after_task entry_of renamed first_free floor_char_boundary digits tasks_of after_range go session_from session_of
returns-clause-source c = refl

pub returns-clause-destination : goal.returns-clause-destination
unfolding is_clash batch_from class_of absent_class_of task_plan change_others changed_by after_task entry_of renamed first_free floor_char_boundary digits tasks_of after_range go session_from session_of
returns-clause-destination c = refl

pub returns-clause-rename_destination : goal.returns-clause-rename_destination
unfolding is_clash batch_from class_of absent_class_of task_plan change_others changed_by after_task entry_of renamed first_free floor_char_boundary digits tasks_of after_range go session_from session_of
returns-clause-rename_destination c = refl

pub returns-clause-skip : goal.returns-clause-skip
unfolding is_clash batch_from class_of absent_class_of task_plan change_others changed_by after_task entry_of renamed first_free floor_char_boundary digits tasks_of after_range go session_from session_of
returns-clause-skip c = refl
