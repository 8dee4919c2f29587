use Rattle.std.proofs.Common.{refl}
use Rattle.sfx_item.specs.Decided.{is_clash}
use Rattle.sfx_model.specs.sessions.Batch.{batch_from}
use Rattle.sfx_model.specs.sessions.Class.{class_of, absent_class_of}
use Rattle.sfx_model.specs.sessions.Entry.{task_plan, change_others, changed_by, after_task, entry_of}
use Rattle.sfx_item.specs.Renamed.{renamed}
use Rattle.sfx_model.specs.sessions.NewName.{first_free}
use Rattle.std.specs.Fmt.{digits}
use Rattle.std.specs.Fmt.Cut.{floor_char_boundary}
use Rattle.sfx_model.specs.sessions.Session.{tasks_of, after_range, go, session_from, session_of}
use Rattle.sfx_model.proofs.laws.sessions.clashes_on_examples.Goals as goal

pub returns-clause-rename_source : goal.returns-clause-rename_source
unfolding is_clash batch_from class_of absent_class_of task_plan change_others changed_by after_task entry_of renamed first_free floor_char_boundary digits tasks_of after_range go session_from session_of
returns-clause-rename_source c = refl

pub returns-clause-source : goal.returns-clause-source
unfolding is_clash batch_from class_of absent_class_of task_plan change_others changed_by after_task entry_of renamed first_free floor_char_boundary digits tasks_of after_range go session_from session_of
returns-clause-source c = refl

pub returns-clause-source_items : goal.returns-clause-source_items
unfolding is_clash batch_from class_of absent_class_of task_plan change_others changed_by after_task entry_of renamed first_free floor_char_boundary digits tasks_of after_range go session_from session_of
returns-clause-source_items c = refl

pub returns-clause-destination : goal.returns-clause-destination
unfolding is_clash batch_from class_of absent_class_of task_plan change_others changed_by after_task entry_of renamed first_free floor_char_boundary digits tasks_of after_range go session_from session_of
returns-clause-destination c = refl

pub returns-clause-destination_items : goal.returns-clause-destination_items
unfolding is_clash batch_from class_of absent_class_of task_plan change_others changed_by after_task entry_of renamed first_free floor_char_boundary digits tasks_of after_range go session_from session_of
returns-clause-destination_items c = refl

pub returns-clause-rename_destination : goal.returns-clause-rename_destination
unfolding is_clash batch_from class_of absent_class_of task_plan change_others changed_by after_task entry_of renamed first_free floor_char_boundary digits tasks_of after_range go session_from session_of
returns-clause-rename_destination c = refl

pub returns-clause-rename_items : goal.returns-clause-rename_items
unfolding is_clash batch_from class_of absent_class_of task_plan change_others changed_by after_task entry_of renamed first_free floor_char_boundary digits tasks_of after_range go session_from session_of
returns-clause-rename_items c = refl

pub returns-clause-skip : goal.returns-clause-skip
unfolding is_clash batch_from class_of absent_class_of task_plan change_others changed_by after_task entry_of renamed first_free floor_char_boundary digits tasks_of after_range go session_from session_of
returns-clause-skip c = refl

pub returns-clause-taken_name : goal.returns-clause-taken_name
unfolding is_clash batch_from class_of absent_class_of task_plan change_others changed_by after_task entry_of renamed first_free floor_char_boundary digits tasks_of after_range go session_from session_of
returns-clause-taken_name c = refl
