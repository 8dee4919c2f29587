use Rattle.std.proofs.Common.{inl, refl, le_refl, ◌∙◌}
use Rattle.sfx_provider.specs.Fault.{blames_storage}
use Rattle.sfx_provider.proofs.FaultLemmas.{cause_handed}
use Rattle.sfx_provider.proofs.LeavesLemmas.{breaks_still, rests_self}
use Rattle.sfx_provider.proofs.AnswerLemmas.{if_ok_never, ok_never, on_err_always}
use Rattle.sfx_apply.proofs.FaultLemmas.{cause_memory}
use Rattle.sfx_apply.proofs.applying.apply_changes.Goals as goal

pub returns-in_err-turns : goal.returns-in_err-turns
returns-in_err-turns g c =
    let p = g.P.Provider in
    let now = c.args.provider.now in
    let r = c.from_residual.result in
    let is = c.from_residual.ensures.1 in record {
      report = if_ok_never _ _ r is;
      arrives = ok_never _ _ r is;
      breaks_off = on_err_always r
          (breaks_still _ _ g.met.P.Provider.settled_kept c.requires.settled (rests_self g.met.P.Provider.came_self now) (inl refl));
      cause = cause_memory (p.faults now) (p.faults now) r is (le_refl _);
    }

pub returns-in_err-end : goal.returns-in_err-end
returns-in_err-end g c =
    let p = g.P.Provider in
    let r = c.from_residual-in_err-end.result in
    let is = c.from_residual-in_err-end.ensures.1 in
    let failed = c.in_err-end.ensures in record {
      report = if_ok_never _ _ r is;
      arrives = ok_never _ _ r is;
      breaks_off = on_err_always r failed.breaks_off;
      cause = cause_handed blames_storage (p.faults c.args.provider.now) (p.faults c.apply_turns.new.provider) c.in_err-end.field-0.0 r is failed.cause;
    }

pub returns : goal.returns
returns g c =
    let ended = c.in_ok-end.ensures in record {
      report = c.done.ensures ∙ ended.report;
      arrives = ended.arrives;
      breaks_off = tt;
      cause = ended.cause;
    }
