use Rattle.std.proofs.Common.{inl, refl, le_trans}
use Rattle.sfx_provider.proofs.AnswerLemmas.{if_ok_never, ok_never, on_err_always}
use Rattle.sfx_settle.specs.Rules.{rules_view}
use Rattle.sfx_apply.specs.Turns.{due_after, end_before, turned}
use Rattle.sfx_provider.specs.Fault.{blames_storage}
use Rattle.sfx_provider.proofs.FaultLemmas.{cause_handed, cause_later}
use Rattle.sfx_provider.proofs.LeavesLemmas.{breaks_still}
use Rattle.sfx_apply.proofs.BatchProgress.{same_due, step_arrives, step_breaks, step_work}
use Rattle.sfx_apply.proofs.stepping.change_step.Goals as goal

pub returns-in_err-end : goal.returns-in_err-end
returns-in_err-end g c =
    let p = g.P.Provider in
    let r = c.from_residual.result in
    let is = c.from_residual.ensures.1 in
    let left = c.in_err-end.ensures in record {
      value = if_ok_never _ _ r is;
      work = ok_never _ _ r is;
      arrives = ok_never _ _ r is;
      breaks_off = on_err_always r (breaks_still _ _ g.met.P.Provider.settled_kept c.requires.settled left.rests (inl refl));
      consistent = left.consistent;
      cause = cause_handed blames_storage (p.faults c.args.provider.now) (p.faults c.turn.new.provider) c.in_err-end.field-0.0 r is left.cause;
    }

pub returns-in_err-commit_if : goal.returns-in_err-commit_if
returns-in_err-commit_if g c =
    let p = g.P.Provider in
    let m = p.state c.args.provider.now in
    let b = c.args.batch.now in
    let rules = rules_view g.M.Merger.meaning c.args.rules.now in
    let change = c.args.change.now in
    let turn = c.in_ok-end.ensures in
    let failed = c.in_err-commit_if.ensures in
    let after = due_after g.row.U c.args.group b rules change c.args.more c.args.work.now m in
    let next = turned g.row.U b rules change c.args.work.now m in
    let due = same_due c.args.group c.count.result c.args.more c.is_due-due.result c.in_ok-end.end (end_before g.row.U b rules change c.args.work.now m)
    c.turn.new.work next c.is_due-due.ensures c.count.ensures turn.value turn.work in
    let r = c.from_residual-in_err-commit_if.result in
    let is = c.from_residual-in_err-commit_if.ensures.1 in record {
      value = if_ok_never _ _ r is;
      work = ok_never _ _ r is;
      arrives = ok_never _ _ r is;
      breaks_off = on_err_always r
          (step_breaks g.row.U c.is_due-due.result after c.turn.new.work next g.met.P.Provider.came_on due turn.work turn.rests failed.breaks_off);
      consistent = turn.consistent;
      cause = cause_handed blames_storage (p.faults c.args.provider.now) (p.faults c.commit_if.new.provider) c.in_err-commit_if.field-0.0 r is
          (cause_later blames_storage (p.faults c.args.provider.now) (p.faults c.turn.new.provider) (p.faults c.commit_if.new.provider) c.in_err-commit_if.field-0.0 turn.cause failed.cause);
    }

pub returns : goal.returns
returns g c =
    let p = g.P.Provider in
    let m = p.state c.args.provider.now in
    let b = c.args.batch.now in
    let rules = rules_view g.M.Merger.meaning c.args.rules.now in
    let change = c.args.change.now in
    let turn = c.in_ok-end.ensures in
    let done = c.in_ok-commit_if.ensures in
    let after = due_after g.row.U c.args.group b rules change c.args.more c.args.work.now m in
    let next = turned g.row.U b rules change c.args.work.now m in
    let due = same_due c.args.group c.count.result c.args.more c.is_due-due.result c.in_ok-end.end (end_before g.row.U b rules change c.args.work.now m)
    c.turn.new.work next c.is_due-due.ensures c.count.ensures turn.value turn.work in record {
      value = turn.value;
      work = step_work c.is_due-due.result after c.turn.new.work next c.commit_if.new.work due turn.work done.work;
      arrives = step_arrives g.row.U c.is_due-due.result after c.turn.new.work next g.met.P.Provider.came_read due turn.work turn.rests done.arrives;
      breaks_off = tt;
      consistent = turn.consistent;
      cause = le_trans turn.cause done.cause;
    }
