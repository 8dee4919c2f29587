use Rattle.sfx_model.proofs.members.StateStands.{event_state, changes_named, others_state}
use Rattle.sfx_model.proofs.members.StateContinues.{empty_stands, units_state, join_state, creation_continues, edit_continues, deletion_continues}
use Rattle.sfx_model.proofs.laws.members.state_stands.Goals as goal

pub returns-clause-empty : goal.returns-clause-empty
returns-clause-empty c = empty_stands

pub returns-clause-units : goal.returns-clause-units
returns-clause-units c = units_state

pub returns-clause-joined : goal.returns-clause-joined
returns-clause-joined c = join_state

pub returns-clause-created : goal.returns-clause-created
returns-clause-created c = creation_continues

pub returns-clause-edited : goal.returns-clause-edited
returns-clause-edited c = edit_continues

pub returns-clause-deleted : goal.returns-clause-deleted
returns-clause-deleted c = deletion_continues

pub returns-clause-acted : goal.returns-clause-acted
returns-clause-acted c = event_state

pub returns-clause-named : goal.returns-clause-named
returns-clause-named c name m n d is = changes_named name m n d.units d.members is

pub returns-clause-others : goal.returns-clause-others
returns-clause-others c = others_state
