use Rattle.sfx_model.proofs.members.EditsAct.{created_acts, edited_acts, deleted_acts}
use Rattle.sfx_model.proofs.laws.members.edits_act.Goals as goal

pub returns-clause-created : goal.returns-clause-created
returns-clause-created c = created_acts

pub returns-clause-edited : goal.returns-clause-edited
returns-clause-edited c = edited_acts

pub returns-clause-deleted : goal.returns-clause-deleted
returns-clause-deleted c = deleted_acts
