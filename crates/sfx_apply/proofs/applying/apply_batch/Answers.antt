use Rattle.std.proofs.Common.{◌≡◌, ◌∙◌, ap, inl, le_trans, refl}
use Rattle.std.proofs.lemmas.Result.{err_from_is_err_and}
use Rattle.sfx_model.specs.sessions.Session.{Outcome, outcome_of, applied_data}
use Rattle.sfx_model.proofs.sessions.ConsistentIsOrderly.{orderly}
use Rattle.sfx_provider.specs.declared.provider_fault.ProviderFault.TheVariants.{Failed, Memory}
use Rattle.sfx_provider.specs.Fault.{blames_storage}
use Rattle.sfx_provider.proofs.FaultLemmas.{cause_later}
use Rattle.sfx_provider.proofs.LeavesLemmas.{breaks_still}
use Rattle.sfx_provider.proofs.AnswerLemmas.{if_ok_never, ok_never, on_err_always}
use Rattle.sfx_settle.specs.Rules.{rules_view}
use Rattle.sfx_apply.proofs.BatchesAct.{brought_acts, told_not_ahead}
use Rattle.sfx_apply.proofs.FaultLemmas.{some_never}
use Rattle.sfx_apply.proofs.TurnsLemmas.{batch_arrives, batch_breaks, same_outcome}
use Rattle.sfx_apply.proofs.applying.apply_batch.Goals as goal

pub returns-in_err-work-clause-not_ahead : goal.returns-in_err-work-clause-not_ahead
returns-in_err-work-clause-not_ahead g c =
    let exit = err_from_is_err_and c.from_residual.result c.from_residual.ensures.1 in
    let m = g.P.Provider.state c.args.provider.now in
    λ w source brings. rw (exit.1, exit.2) (told_not_ahead w g.row.U source m c.args.batch.now _ c.in_err-work.ensures.ahead brings)

pub returns-in-Ok-clause-acts : goal.returns-in-Ok-clause-acts
returns-in-Ok-clause-acts g c =
    let p = g.P.Provider in
    let rules = rules_view g.M.Merger.meaning c.args.rules.now in
    let m = p.state c.args.provider.now in
    let same = same_outcome g.row.U c.args.batch.now rules c.in_ok-work.work.budget c.args.budget (p.state c.begin.new.provider) m
    c.in_ok-work.ensures.rests.same c.in_ok-work.ensures.budget in
    let is : p.state c.apply_changes.new.provider ≡ (outcome_of g.row.U c.args.batch.now rules c.args.budget m).member =
    c.in-Ok.ensures.arrives.at ∙ ap (λ (o : Outcome). o.member) same in
    λ w source brings.
    brought_acts w g.row.U source m (p.state c.apply_changes.new.provider) c.args.batch.now rules c.args.budget (orderly g.row.U m c.keeps.ensures.consistent) is brings

pub returns-in_err-work-clause-report : goal.returns-in_err-work-clause-report
returns-in_err-work-clause-report g c = if_ok_never _ _ c.from_residual.result c.from_residual.ensures.1

pub returns-in_err-work-clause-arrives : goal.returns-in_err-work-clause-arrives
returns-in_err-work-clause-arrives g c = ok_never _ _ c.from_residual.result c.from_residual.ensures.1

pub returns-in_err-work-clause-acts : goal.returns-in_err-work-clause-acts
returns-in_err-work-clause-acts g c = ok_never _ _ c.from_residual.result c.from_residual.ensures.1

pub returns-in_err-work-clause-breaks_off : goal.returns-in_err-work-clause-breaks_off
returns-in_err-work-clause-breaks_off g c =
    on_err_always c.from_residual.result
    (breaks_still _ _ g.met.P.Provider.settled_kept c.requires.settled c.in_err-work.ensures.rests (inl refl))

pub returns-in_err-work-clause-ahead : goal.returns-in_err-work-clause-ahead
returns-in_err-work-clause-ahead g c =
    let exit = err_from_is_err_and c.from_residual.result c.from_residual.ensures.1 in record {
      refused = rw (exit.1, exit.2) c.in_err-work.ensures.ahead;
      rests = λ some. c.in_err-work.ensures.rests;
    }

pub returns-in_err-work-clause-cause : goal.returns-in_err-work-clause-cause
returns-in_err-work-clause-cause g c =
    let exit = err_from_is_err_and c.from_residual.result c.from_residual.ensures.1 in
    rw (exit.1, exit.2) c.in_err-work.ensures.cause

pub returns-in-Err-Failed : goal.returns-in-Err-Failed
returns-in-Err-Failed g c =
    let p = g.P.Provider in
    let rules = rules_view g.M.Merger.meaning c.args.rules.now in
    let begun = c.in_ok-work.ensures in
    let failed = c.in-Err-Failed.ensures in record {
      report = tt;
      arrives = tt;
      breaks_off = batch_breaks g.row.U c.args.batch.now rules c.args.group c.in_ok-work.work.budget c.args.budget
          g.met.P.Provider.came_on begun.rests begun.budget failed.breaks_off;
      ahead = record { refused = tt; rests = λ some. some_never _ _ begun.ahead some };
      acts = tt;
      not_ahead = λ w source brings. tt;
      cause = cause_later blames_storage (p.faults c.args.provider.now) (p.faults c.begin.new.provider) (p.faults c.apply_changes.new.provider) Failed begun.cause
          (rw c.in-Err-Failed.field-0-is at failed.cause);
    }

pub returns-in-Err-Memory : goal.returns-in-Err-Memory
returns-in-Err-Memory g c =
    let p = g.P.Provider in
    let rules = rules_view g.M.Merger.meaning c.args.rules.now in
    let begun = c.in_ok-work.ensures in
    let failed = c.in-Err-Memory.ensures in record {
      report = tt;
      arrives = tt;
      breaks_off = batch_breaks g.row.U c.args.batch.now rules c.args.group c.in_ok-work.work.budget c.args.budget
          g.met.P.Provider.came_on begun.rests begun.budget failed.breaks_off;
      ahead = record { refused = tt; rests = λ some. some_never _ _ begun.ahead some };
      acts = tt;
      not_ahead = λ w source brings. tt;
      cause = cause_later blames_storage (p.faults c.args.provider.now) (p.faults c.begin.new.provider) (p.faults c.apply_changes.new.provider) Memory begun.cause
          (rw c.in-Err-Memory.field-0-is at failed.cause);
    }

pub returns-in-Ok-clause-report : goal.returns-in-Ok-clause-report
returns-in-Ok-clause-report g c =
    let p = g.P.Provider in
    let rules = rules_view g.M.Merger.meaning c.args.rules.now in
    c.in-Ok.ensures.report
    ∙ ap applied_data
    (same_outcome g.row.U c.args.batch.now rules c.in_ok-work.work.budget c.args.budget (p.state c.begin.new.provider) (p.state c.args.provider.now)
    c.in_ok-work.ensures.rests.same c.in_ok-work.ensures.budget)

pub returns-in-Ok-clause-arrives : goal.returns-in-Ok-clause-arrives
returns-in-Ok-clause-arrives g c =
    let rules = rules_view g.M.Merger.meaning c.args.rules.now in
    let begun = c.in_ok-work.ensures in
    batch_arrives g.row.U c.args.batch.now rules c.args.group c.in_ok-work.work.budget c.args.budget
    g.met.P.Provider.came_read begun.rests begun.budget c.in-Ok.ensures.arrives

pub returns-in-Ok-clause-breaks_off : goal.returns-in-Ok-clause-breaks_off
returns-in-Ok-clause-breaks_off g c = tt

pub returns-in-Ok-clause-ahead : goal.returns-in-Ok-clause-ahead
returns-in-Ok-clause-ahead g c =
    record { refused = c.in_ok-work.ensures.ahead; rests = λ some. some_never _ _ c.in_ok-work.ensures.ahead some }

pub returns-in-Ok-clause-not_ahead : goal.returns-in-Ok-clause-not_ahead
returns-in-Ok-clause-not_ahead g c = λ w source brings. tt

pub returns-in-Ok-clause-cause : goal.returns-in-Ok-clause-cause
returns-in-Ok-clause-cause g c = le_trans c.in_ok-work.ensures.cause c.in-Ok.ensures.cause
