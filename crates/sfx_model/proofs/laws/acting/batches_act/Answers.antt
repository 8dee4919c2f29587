use Rattle.sfx_model.proofs.sessions.SessionsAct.{batch_acts}
use Rattle.sfx_model.proofs.laws.acting.batches_act.Goals as goal

pub returns : goal.returns
returns c = batch_acts
