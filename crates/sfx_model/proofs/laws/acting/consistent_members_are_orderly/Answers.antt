use Rattle.sfx_model.proofs.sessions.ConsistentIsOrderly.{orderly}
use Rattle.sfx_model.proofs.laws.acting.consistent_members_are_orderly.Goals as goal

pub returns : goal.returns
returns c = orderly
