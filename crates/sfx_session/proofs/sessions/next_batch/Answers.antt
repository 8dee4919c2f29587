use Rattle.std.proofs.Common.{◌∙◌, ap, le_refl}
use Rattle.std.proofs.lemmas.Result.{err_from_is_err_and}
use Rattle.sfx_model.specs.sessions.Batch.{batch_from}
use Rattle.sfx_provider.specs.Head.{HeadData}
use Rattle.sfx_provider.proofs.AnswerLemmas.{if_ok_never}
use Rattle.sfx_provider.proofs.LeavesLemmas.{rests_self}
use Rattle.sfx_session.proofs.FaultLemmas.{destination_spares_source}
use Rattle.sfx_session.proofs.sessions.next_batch.Goals as goal

pub returns-in_err-head : goal.returns-in_err-head
returns-in_err-head g c =
    let r = c.from_residual.result in
    let is = c.from_residual.ensures.1 in
    let exit = err_from_is_err_and r is in
    let failed = c.in_err-head.ensures in
    let low = le_refl (g.P.Provider.faults c.args.source.now) in record {
      value = if_ok_never _ _ r is;
      mode = if_ok_never _ _ r is;
      made_with = if_ok_never _ _ r is;
      forgotten = if_ok_never _ _ r is;
      no_refusal = rw (exit.1, exit.2) failed.no_refusal;
      source = rests_self g.met.P.Provider.came_self c.args.source.now;
      destination = failed.rests;
      source_cause = rw (exit.1, exit.2) (destination_spares_source (g.P.Provider.faults c.args.source.now) (g.P.Provider.faults c.args.source.now) _ failed.fault low);
      destination_cause = rw (exit.1, exit.2) failed.cause;
    }

pub returns-in-Ok-clause-value : goal.returns-in-Ok-clause-value
returns-in-Ok-clause-value g c =
    c.in-Ok.ensures.value
    ∙ ap (λ (h : HeadData). batch_from g.row.U (g.P.Provider.state c.args.source.now) c.args.mode c.args.size h.knowledge c.args.from.now)
    (c.head.view_is ∙ c.in_ok-head.ensures.value)
