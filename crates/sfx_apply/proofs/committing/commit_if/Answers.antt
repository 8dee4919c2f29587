use Rattle.std.proofs.Common.{ap}
use Rattle.sfx_provider.specs.Fault.{blames_storage}
use Rattle.sfx_provider.proofs.FaultLemmas.{cause_handed}
use Rattle.sfx_provider.proofs.AnswerLemmas.{ok_never, on_err_always}
use Rattle.sfx_apply.specs.Turns.{WorkData}
use Rattle.sfx_apply.proofs.BatchProgress.{commit_breaks}
use Rattle.sfx_apply.proofs.committing.commit_if.Goals as goal

pub returns-in_err-commit : goal.returns-in_err-commit
returns-in_err-commit g c =
    let p = g.P.Provider in
    let r = c.from_residual.result in
    let is = c.from_residual.ensures.1 in
    let failed = c.in_err-commit.ensures in record {
      work = ok_never _ _ r is;
      arrives = ok_never _ _ r is;
      breaks_off = on_err_always r
          (commit_breaks g.row.U c.args.due c.args.work.now c.work.inside.pending (p.state c.args.provider.now)
          c.if-due.true (ap (λ (w : WorkData). w.pending) c.work.view_is) failed.breaks_off);
      cause = cause_handed blames_storage (p.faults c.args.provider.now) (p.faults c.commit.new.self) c.in_err-commit.field-0.0 r is failed.cause;
    }
