use Rattle.std.proofs.lemmas.Result.{err_from_is_err_and}
use Rattle.sfx_provider.proofs.AnswerLemmas.{if_ok_never, ok_never}
use Rattle.sfx_session.proofs.SessionsAct.{never_ahead}
use Rattle.sfx_session.proofs.FaultLemmas.{no_refusal_ahead}
use Rattle.sfx_session.proofs.refusal.refuse.Goals as goal

pub returns-in_err-tick-clause-mode : goal.returns-in_err-tick-clause-mode
returns-in_err-tick-clause-mode g c = if_ok_never _ _ c.from_residual.result c.from_residual.ensures.1

pub returns-in_err-tick-clause-normal : goal.returns-in_err-tick-clause-normal
returns-in_err-tick-clause-normal g c = if_ok_never _ _ c.from_residual.result c.from_residual.ensures.1

pub returns-in_err-tick-clause-consistent : goal.returns-in_err-tick-clause-consistent
returns-in_err-tick-clause-consistent g c = ok_never _ _ c.from_residual.result c.from_residual.ensures.1

pub returns-in_err-tick-clause-not_ahead : goal.returns-in_err-tick-clause-not_ahead
returns-in_err-tick-clause-not_ahead g c =
    let exit = err_from_is_err_and c.from_residual.result c.from_residual.ensures.1 in
    λ w part. rw (exit.1, exit.2) (no_refusal_ahead _ c.in_err-tick.ensures.no_refusal)

pub returns-then-tick-clock-clause-not_ahead : goal.returns-then-tick-clock-clause-not_ahead
returns-then-tick-clock-clause-not_ahead g c = λ w part.
    let bearing = c.in_ok-tick.ensures in
    never_ahead w g.row.U c.in_ok-tick.tick c.in_ok-tick.clock (g.P.Provider.state c.args.source.now) (g.Q.Provider.state c.args.destination.now)
    bearing.consistent.0 bearing.tick bearing.clock c.if-tick-clock.true part
