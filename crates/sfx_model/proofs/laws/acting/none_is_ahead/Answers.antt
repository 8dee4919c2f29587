use Rattle.sfx_model.proofs.sessions.NoneIsAhead.{none_ahead}
use Rattle.sfx_model.proofs.laws.acting.none_is_ahead.Goals as goal

pub returns : goal.returns
returns c = none_ahead
