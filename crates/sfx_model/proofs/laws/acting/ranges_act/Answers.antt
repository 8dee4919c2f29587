use Rattle.sfx_model.proofs.sessions.EntriesAct.{learned_range_acts}
use Rattle.sfx_model.proofs.laws.acting.ranges_act.Goals as goal

pub returns : goal.returns
returns c = learned_range_acts
