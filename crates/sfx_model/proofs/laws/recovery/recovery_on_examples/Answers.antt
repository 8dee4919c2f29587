use Rattle.std.proofs.Common.{refl}
use Rattle.sfx_item.specs.Decided.{is_clash}
use Rattle.sfx_model.specs.sessions.Batch.{batch_from}
use Rattle.sfx_model.specs.sessions.Class.{class_of, absent_class_of}
use Rattle.sfx_model.specs.sessions.Entry.{task_plan, change_others, changed_by, after_task, entry_of}
use Rattle.sfx_item.specs.Renamed.{renamed}
use Rattle.sfx_model.specs.sessions.NewName.{first_free}
use Rattle.std.specs.Fmt.{digits}
use Rattle.std.specs.Fmt.Cut.{floor_char_boundary}
use Rattle.sfx_model.specs.sessions.Session.{tasks_of, after_range, go, session_from, session_of}
use Rattle.sfx_model.proofs.laws.recovery.recovery_on_examples.Goals as goal

pub returns-clause-mode : goal.returns-clause-mode
unfolding is_clash batch_from class_of absent_class_of task_plan change_others changed_by after_task entry_of renamed first_free floor_char_boundary digits tasks_of after_range go session_from session_of
returns-clause-mode c = refl

pub returns-clause-dropped : goal.returns-clause-dropped
unfolding is_clash batch_from class_of absent_class_of task_plan change_others changed_by after_task entry_of renamed first_free floor_char_boundary digits tasks_of after_range go session_from session_of
returns-clause-dropped c = refl

pub returns-clause-cleaned : goal.returns-clause-cleaned
unfolding is_clash batch_from class_of absent_class_of task_plan change_others changed_by after_task entry_of renamed first_free floor_char_boundary digits tasks_of after_range go session_from session_of
returns-clause-cleaned c = refl

pub returns-clause-unsent : goal.returns-clause-unsent
unfolding is_clash batch_from class_of absent_class_of task_plan change_others changed_by after_task entry_of renamed first_free floor_char_boundary digits tasks_of after_range go session_from session_of
returns-clause-unsent c = refl

pub returns-clause-unsent_mode : goal.returns-clause-unsent_mode
unfolding is_clash batch_from class_of absent_class_of task_plan change_others changed_by after_task entry_of renamed first_free floor_char_boundary digits tasks_of after_range go session_from session_of
returns-clause-unsent_mode c = refl

pub returns-clause-revived : goal.returns-clause-revived
unfolding is_clash batch_from class_of absent_class_of task_plan change_others changed_by after_task entry_of renamed first_free floor_char_boundary digits tasks_of after_range go session_from session_of
returns-clause-revived c = refl

pub returns-clause-revived_entry : goal.returns-clause-revived_entry
unfolding is_clash batch_from class_of absent_class_of task_plan change_others changed_by after_task entry_of renamed first_free floor_char_boundary digits tasks_of after_range go session_from session_of
returns-clause-revived_entry c = refl

pub returns-clause-kept_deleted : goal.returns-clause-kept_deleted
unfolding is_clash batch_from class_of absent_class_of task_plan change_others changed_by after_task entry_of renamed first_free floor_char_boundary digits tasks_of after_range go session_from session_of
returns-clause-kept_deleted c = refl

pub returns-clause-edit_deleted : goal.returns-clause-edit_deleted
unfolding is_clash batch_from class_of absent_class_of task_plan change_others changed_by after_task entry_of renamed first_free floor_char_boundary digits tasks_of after_range go session_from session_of
returns-clause-edit_deleted c = refl

pub returns-clause-edit_deleted_entry : goal.returns-clause-edit_deleted_entry
unfolding is_clash batch_from class_of absent_class_of task_plan change_others changed_by after_task entry_of renamed first_free floor_char_boundary digits tasks_of after_range go session_from session_of
returns-clause-edit_deleted_entry c = refl

pub returns-clause-edit_stays : goal.returns-clause-edit_stays
unfolding is_clash batch_from class_of absent_class_of task_plan change_others changed_by after_task entry_of renamed first_free floor_char_boundary digits tasks_of after_range go session_from session_of
returns-clause-edit_stays c = refl

pub returns-clause-brought_back : goal.returns-clause-brought_back
unfolding is_clash batch_from class_of absent_class_of task_plan change_others changed_by after_task entry_of renamed first_free floor_char_boundary digits tasks_of after_range go session_from session_of
returns-clause-brought_back c = refl

pub returns-clause-left : goal.returns-clause-left
unfolding is_clash batch_from class_of absent_class_of task_plan change_others changed_by after_task entry_of renamed first_free floor_char_boundary digits tasks_of after_range go session_from session_of
returns-clause-left c = refl

pub returns-clause-left_known : goal.returns-clause-left_known
unfolding is_clash batch_from class_of absent_class_of task_plan change_others changed_by after_task entry_of renamed first_free floor_char_boundary digits tasks_of after_range go session_from session_of
returns-clause-left_known c = refl

pub returns-clause-again_mode : goal.returns-clause-again_mode
unfolding is_clash batch_from class_of absent_class_of task_plan change_others changed_by after_task entry_of renamed first_free floor_char_boundary digits tasks_of after_range go session_from session_of
returns-clause-again_mode c = refl

pub returns-clause-again : goal.returns-clause-again
unfolding is_clash batch_from class_of absent_class_of task_plan change_others changed_by after_task entry_of renamed first_free floor_char_boundary digits tasks_of after_range go session_from session_of
returns-clause-again c = refl

pub returns-clause-cut : goal.returns-clause-cut
unfolding is_clash batch_from class_of absent_class_of task_plan change_others changed_by after_task entry_of renamed first_free floor_char_boundary digits tasks_of after_range go session_from session_of
returns-clause-cut c = refl

pub returns-clause-cut_end : goal.returns-clause-cut_end
unfolding is_clash batch_from class_of absent_class_of task_plan change_others changed_by after_task entry_of renamed first_free floor_char_boundary digits tasks_of after_range go session_from session_of
returns-clause-cut_end c = refl

pub returns-clause-cut_known : goal.returns-clause-cut_known
unfolding is_clash batch_from class_of absent_class_of task_plan change_others changed_by after_task entry_of renamed first_free floor_char_boundary digits tasks_of after_range go session_from session_of
returns-clause-cut_known c = refl

pub returns-clause-third_mode : goal.returns-clause-third_mode
unfolding is_clash batch_from class_of absent_class_of task_plan change_others changed_by after_task entry_of renamed first_free floor_char_boundary digits tasks_of after_range go session_from session_of
returns-clause-third_mode c = refl

pub returns-clause-third : goal.returns-clause-third
unfolding is_clash batch_from class_of absent_class_of task_plan change_others changed_by after_task entry_of renamed first_free floor_char_boundary digits tasks_of after_range go session_from session_of
returns-clause-third c = refl

pub returns-clause-third_items : goal.returns-clause-third_items
unfolding is_clash batch_from class_of absent_class_of task_plan change_others changed_by after_task entry_of renamed first_free floor_char_boundary digits tasks_of after_range go session_from session_of
returns-clause-third_items c = refl

pub returns-clause-new_sent : goal.returns-clause-new_sent
unfolding is_clash batch_from class_of absent_class_of task_plan change_others changed_by after_task entry_of renamed first_free floor_char_boundary digits tasks_of after_range go session_from session_of
returns-clause-new_sent c = refl

pub returns-clause-new_mode : goal.returns-clause-new_mode
unfolding is_clash batch_from class_of absent_class_of task_plan change_others changed_by after_task entry_of renamed first_free floor_char_boundary digits tasks_of after_range go session_from session_of
returns-clause-new_mode c = refl

pub returns-clause-own : goal.returns-clause-own
unfolding is_clash batch_from class_of absent_class_of task_plan change_others changed_by after_task entry_of renamed first_free floor_char_boundary digits tasks_of after_range go session_from session_of
returns-clause-own c = refl
