use Rattle.std.proofs.Common.{add-one}
use Rattle.sfx_model.proofs.sessions.SessionsEnd.{less, same_bound}
use Rattle.sfx_model.proofs.laws.sessions.batches_are_bounded.Goals as goal

pub returns-clause-fewer : goal.returns-clause-fewer
returns-clause-fewer c = less

pub returns-clause-enough : goal.returns-clause-enough
returns-clause-enough c = λ n k units source mode rules size course from low high.
    rw (add-one, add-one) (same_bound n k units source mode rules size course from low high)
