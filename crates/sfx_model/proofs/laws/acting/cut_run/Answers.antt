use Rattle.std.proofs.Common.{refl}
use Rattle.sfx_model.specs.sessions.Batch.{batch_from}
use Rattle.sfx_model.specs.sessions.Class.{class_of, absent_class_of}
use Rattle.sfx_model.specs.sessions.Entry.{task_plan, change_others, changed_by, after_task, entry_of}
use Rattle.sfx_item.specs.Renamed.{renamed}
use Rattle.sfx_model.specs.sessions.NewName.{first_free}
use Rattle.std.specs.Fmt.{digits}
use Rattle.std.specs.Fmt.Cut.{floor_char_boundary}
use Rattle.sfx_model.specs.sessions.Session.{tasks_of, after_range, go, session_from, session_of}
use Rattle.sfx_item.specs.Decided.{is_clash}
use Rattle.sfx_model.specs.sessions.Deeds.{others_deeds, go_deeds, deeds_from}
use Rattle.sfx_model.specs.sessions.CutRun.{cut_community, cut_world}
use Rattle.sfx_model.proofs.sessions.CutRun.{before_legal, cut_acts, cut_differ}
use Rattle.sfx_model.proofs.members.FactsHold.{facts_hold}
use Rattle.sfx_model.proofs.laws.acting.cut_run.Goals as goal

pub returns-clause-before : goal.returns-clause-before
returns-clause-before c = before_legal

pub returns-clause-legal : goal.returns-clause-legal
returns-clause-legal c = cut_acts.legal

pub returns-clause-entries : goal.returns-clause-entries
unfolding is_clash batch_from class_of absent_class_of task_plan change_others changed_by after_task entry_of renamed first_free floor_char_boundary digits tasks_of after_range go session_from session_of others_deeds go_deeds deeds_from
returns-clause-entries c = refl

pub returns-clause-records : goal.returns-clause-records
unfolding is_clash batch_from class_of absent_class_of task_plan change_others changed_by after_task entry_of renamed first_free floor_char_boundary digits tasks_of after_range go session_from session_of others_deeds go_deeds deeds_from
returns-clause-records c = refl

pub returns-clause-known : goal.returns-clause-known
unfolding is_clash batch_from class_of absent_class_of task_plan change_others changed_by after_task entry_of renamed first_free floor_char_boundary digits tasks_of after_range go session_from session_of others_deeds go_deeds deeds_from
returns-clause-known c = refl

pub returns-clause-present : goal.returns-clause-present
unfolding is_clash batch_from class_of absent_class_of task_plan change_others changed_by after_task entry_of renamed first_free floor_char_boundary digits tasks_of after_range go session_from session_of others_deeds go_deeds deeds_from
returns-clause-present c = refl

pub returns-clause-state : goal.returns-clause-state
returns-clause-state c = cut_acts.stands

pub returns-clause-facts : goal.returns-clause-facts
returns-clause-facts c = facts_hold cut_world cut_community cut_acts.well_formed cut_acts.stands

pub returns-clause-exact : goal.returns-clause-exact
unfolding is_clash batch_from class_of absent_class_of task_plan change_others changed_by after_task entry_of renamed first_free floor_char_boundary digits tasks_of after_range go session_from session_of
returns-clause-exact c = refl

pub returns-clause-other : goal.returns-clause-other
returns-clause-other c = refl

pub returns-clause-differ : goal.returns-clause-differ
returns-clause-differ c = cut_differ
