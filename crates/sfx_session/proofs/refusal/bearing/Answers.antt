use Rattle.std.proofs.lemmas.Result.{err_from_is_err_and}
use Rattle.sfx_provider.proofs.AnswerLemmas.{if_ok_never, ok_never}
use Rattle.sfx_provider.proofs.LeavesLemmas.{rests_self}
use Rattle.sfx_session.proofs.FaultLemmas.{source_spares_destination, destination_spares_source}
use Rattle.sfx_session.proofs.refusal.bearing.Goals as goal

pub returns-in_err-from : goal.returns-in_err-from
returns-in_err-from g c =
    let r = c.from_residual.result in
    let is = c.from_residual.ensures.1 in
    let exit = err_from_is_err_and r is in
    let failed = c.in_err-from.ensures in record {
      tick = if_ok_never _ _ r is;
      clock = if_ok_never _ _ r is;
      mode = if_ok_never _ _ r is;
      consistent = ok_never _ _ r is;
      no_refusal = rw (exit.1, exit.2) failed.no_refusal;
      source = failed.rests;
      destination = rests_self g.met.Q.Provider.came_self c.args.destination.now;
      source_cause = rw (exit.1, exit.2) failed.cause;
      destination_cause = rw (exit.1, exit.2) (source_spares_destination (g.Q.Provider.faults c.args.destination.now) _ failed.fault);
    }

pub returns-in_err-to : goal.returns-in_err-to
returns-in_err-to g c =
    let r = c.from_residual-in_err-to.result in
    let is = c.from_residual-in_err-to.ensures.1 in
    let exit = err_from_is_err_and r is in
    let read = c.in_ok-from.ensures in
    let failed = c.in_err-to.ensures in record {
      tick = if_ok_never _ _ r is;
      clock = if_ok_never _ _ r is;
      mode = if_ok_never _ _ r is;
      consistent = ok_never _ _ r is;
      no_refusal = rw (exit.1, exit.2) failed.no_refusal;
      source = read.rests;
      destination = failed.rests;
      source_cause = rw (exit.1, exit.2) (destination_spares_source (g.P.Provider.faults c.args.source.now) _ _ failed.fault read.cause);
      destination_cause = rw (exit.1, exit.2) failed.cause;
    }
