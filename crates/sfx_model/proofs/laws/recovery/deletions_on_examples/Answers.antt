use Rattle.std.proofs.Common.{refl}
use Rattle.sfx_item.specs.Decided.{is_clash}
use Rattle.sfx_model.specs.sessions.Batch.{batch_from}
use Rattle.sfx_model.specs.sessions.Class.{class_of, absent_class_of}
use Rattle.sfx_model.specs.sessions.Entry.{task_plan, change_others, changed_by, after_task, entry_of}
use Rattle.sfx_item.specs.Renamed.{renamed}
use Rattle.sfx_model.specs.sessions.NewName.{first_free}
use Rattle.std.specs.Fmt.{digits}
use Rattle.std.specs.Fmt.Cut.{floor_char_boundary}
use Rattle.sfx_model.specs.sessions.Session.{tasks_of, after_range, go, session_from, session_of}
use Rattle.sfx_model.proofs.laws.recovery.deletions_on_examples.Goals as goal

pub returns-clause-kept : goal.returns-clause-kept
unfolding is_clash batch_from class_of absent_class_of task_plan change_others changed_by after_task entry_of renamed first_free floor_char_boundary digits tasks_of after_range go session_from session_of
returns-clause-kept c = refl

pub returns-clause-taken : goal.returns-clause-taken
unfolding is_clash batch_from class_of absent_class_of task_plan change_others changed_by after_task entry_of renamed first_free floor_char_boundary digits tasks_of after_range go session_from session_of
returns-clause-taken c = refl

pub returns-clause-deleted : goal.returns-clause-deleted
unfolding is_clash batch_from class_of absent_class_of task_plan change_others changed_by after_task entry_of renamed first_free floor_char_boundary digits tasks_of after_range go session_from session_of
returns-clause-deleted c = refl

pub returns-clause-deleted_item : goal.returns-clause-deleted_item
unfolding is_clash batch_from class_of absent_class_of task_plan change_others changed_by after_task entry_of renamed first_free floor_char_boundary digits tasks_of after_range go session_from session_of
returns-clause-deleted_item c = refl

pub returns-clause-deleted_known : goal.returns-clause-deleted_known
unfolding is_clash batch_from class_of absent_class_of task_plan change_others changed_by after_task entry_of renamed first_free floor_char_boundary digits tasks_of after_range go session_from session_of
returns-clause-deleted_known c = refl
