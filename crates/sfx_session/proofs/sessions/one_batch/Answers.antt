use Rattle.std.proofs.Common.{◌≡◌, [], inl, ap, le_trans, refl, subst, ◌∙◌}
use Rattle.std.proofs.lemmas.List.{append-nil}
use Rattle.std.proofs.lemmas.Result.{err_from_is_err_and}
use Rattle.sfx_model.specs.sessions.MemberKnowledge.{ahead_of, laid_known}
use Rattle.sfx_model.specs.members.Members.{Member}
use Rattle.sfx_model.specs.sessions.Moments.{committed, stops}
use Rattle.sfx_model.specs.sessions.Session.{Outcome, outcome_of}
use Rattle.sfx_provider.proofs.FaultLemmas.{cause_later, when_then}
use Rattle.sfx_provider.proofs.AnswerLemmas.{if_ok_never, ok_never, on_err_always}
use Rattle.sfx_provider.proofs.LeavesLemmas.{arrives_later, breaks_behind, breaks_later, breaks_still}
use Rattle.sfx_provider.specs.Leaves.{Arrives, BreaksOff}
use Rattle.sfx_session.proofs.NoTickDrawn.{ahead_stays, outcome_stays}
use Rattle.sfx_session.proofs.TravelLemmas.{outcome_stops}
use Rattle.sfx_session.specs.Fault.{blames_destination, blames_source}
use Rattle.sfx_session.specs.Travel.{due_outcome}
use Rattle.sfx_session.proofs.sessions.one_batch.Goals as goal
use Rattle.sfx_settle.specs.Rules.{rules_view}

pub returns-in_err-batch : goal.returns-in_err-batch
returns-in_err-batch g c =
    let q = g.Q.Provider in
    let rules = rules_view g.M.Merger.meaning c.args.rules.now in
    let now = q.state c.args.destination.now in
    let o = due_outcome g.row.U (g.P.Provider.state c.args.source.now) c.args.mode rules c.args.size now c.args.travel.now in
    let r = c.from_residual.result in
    let is_err = c.from_residual.ensures.1 in
    let exit = err_from_is_err_and r is_err in
    let read = c.in_err-batch.ensures in record {
      end = if_ok_never _ _ r is_err;
      travel = ok_never _ _ r is_err;
      arrives = ok_never _ _ r is_err;
      breaks_off = on_err_always r (breaks_still (committed c.args.group o.moments) (stops c.args.group now o.moments) g.met.Q.Provider.settled_kept c.requires.settled read.destination (inl refl));
      ahead = ok_never _ _ r is_err;
      no_refusal = rw (exit.1, exit.2) read.no_refusal;
      source = read.source;
      source_cause = rw (exit.1, exit.2) read.source_cause;
      destination_cause = rw (exit.1, exit.2) read.destination_cause;
    }

pub returns-in_err-applied : goal.returns-in_err-applied
returns-in_err-applied g c =
    let p = g.P.Provider in
    let q = g.Q.Provider in
    let rules = rules_view g.M.Merger.meaning c.args.rules.now in
    let now = q.state c.args.destination.now in
    let o = due_outcome g.row.U (p.state c.args.source.now) c.args.mode rules c.args.size now c.args.travel.now in
    let is : outcome_of g.row.U c.in_ok-batch.batch rules c.budget.result (q.state c.next_batch.new.destination) ≡ o =
    rw (c.in_ok-batch.ensures.value, c.from-from.ensures, c.budget.ensures, c.in_ok-batch.ensures.destination.same) (refl {a = o}) in
    let r = c.from_residual-in_err-applied.result in
    let is_err = c.from_residual-in_err-applied.ensures.1 in
    let exit = err_from_is_err_and r is_err in
    let read = c.in_ok-batch.ensures in
    let failed = c.in_err-applied.ensures in
    let breaks : BreaksOff q.kept q.came q.broke c.next_batch.new.destination c.apply.new.destination (committed c.args.group o.moments) (stops c.args.group now o.moments) =
    subst (λ (m : Member). BreaksOff q.kept q.came q.broke c.next_batch.new.destination c.apply.new.destination (committed c.args.group o.moments) (stops c.args.group m o.moments)) read.destination.same
    (subst (λ (x : Outcome). BreaksOff q.kept q.came q.broke c.next_batch.new.destination c.apply.new.destination (committed c.args.group x.moments) (stops c.args.group (q.state c.next_batch.new.destination) x.moments)) is failed.breaks_off) in record {
      end = if_ok_never _ _ r is_err;
      travel = ok_never _ _ r is_err;
      arrives = ok_never _ _ r is_err;
      breaks_off = on_err_always r (breaks_later g.met.Q.Provider.came_on read.destination breaks);
      ahead = ok_never _ _ r is_err;
      no_refusal = rw (exit.1, exit.2) failed.no_refusal;
      source = read.source;
      source_cause = rw (exit.1, exit.2) (read.source_cause, when_then (blames_source c.in_err-applied.field-0.0) (λ never. absurd never) failed.spares_source);
      destination_cause = rw (exit.1, exit.2)
          (cause_later blames_destination (q.faults c.args.destination.now) (q.faults c.next_batch.new.destination) (q.faults c.apply.new.destination) _ read.destination_cause failed.cause);
    }

pub returns-in_err-add : goal.returns-in_err-add
returns-in_err-add g c =
    let p = g.P.Provider in
    let q = g.Q.Provider in
    let rules = rules_view g.M.Merger.meaning c.args.rules.now in
    let now = q.state c.args.destination.now in
    let o = due_outcome g.row.U (p.state c.args.source.now) c.args.mode rules c.args.size now c.args.travel.now in
    let is : outcome_of g.row.U c.in_ok-batch.batch rules c.budget.result (q.state c.next_batch.new.destination) ≡ o =
    rw (c.in_ok-batch.ensures.value, c.from-from.ensures, c.budget.ensures, c.in_ok-batch.ensures.destination.same) (refl {a = o}) in
    let r = c.from_residual-in_err-add.result in
    let is_err = c.from_residual-in_err-add.ensures.1 in
    let exit = err_from_is_err_and r is_err in
    let read = c.in_ok-batch.ensures in
    let made = c.in_ok-applied.ensures in
    let arrives : Arrives q.state q.kept q.settled q.came c.next_batch.new.destination c.apply.new.destination (committed c.args.group o.moments) o.member =
    subst (λ (x : Outcome). Arrives q.state q.kept q.settled q.came c.next_batch.new.destination c.apply.new.destination (committed c.args.group x.moments) x.member) is made.arrives in record {
      end = if_ok_never _ _ r is_err;
      travel = ok_never _ _ r is_err;
      arrives = ok_never _ _ r is_err;
      breaks_off = on_err_always r
          (breaks_behind [] (committed c.args.group o.moments) (stops c.args.group now o.moments) g.met.Q.Provider.settled_kept
          (arrives_later g.met.Q.Provider.came_read read.destination arrives) (append-nil (committed c.args.group o.moments))
          (outcome_stops c.args.group g.row.U (p.state c.args.source.now) c.args.mode rules c.args.size now c.args.travel.now));
      ahead = ok_never _ _ r is_err;
      no_refusal = rw (exit.1, exit.2) tt;
      source = read.source;
      source_cause = rw (exit.1, exit.2) (read.source_cause, tt);
      destination_cause = rw (exit.1, exit.2) (le_trans read.destination_cause made.cause, tt);
    }

pub returns-clause-arrives : goal.returns-clause-arrives
returns-clause-arrives g c =
    let q = g.Q.Provider in
    let rules = rules_view g.M.Merger.meaning c.args.rules.now in
    let now = q.state c.args.destination.now in
    let o = due_outcome g.row.U (g.P.Provider.state c.args.source.now) c.args.mode rules c.args.size now c.args.travel.now in
    let is : outcome_of g.row.U c.in_ok-batch.batch rules c.budget.result (q.state c.next_batch.new.destination) ≡ o =
    rw (c.in_ok-batch.ensures.value, c.from-from.ensures, c.budget.ensures, c.in_ok-batch.ensures.destination.same) (refl {a = o}) in
    arrives_later g.met.Q.Provider.came_read c.in_ok-batch.ensures.destination
    (subst (λ (x : Outcome). Arrives q.state q.kept q.settled q.came c.next_batch.new.destination c.apply.new.destination (committed c.args.group x.moments) x.member) is c.in_ok-applied.ensures.arrives)

pub returns-clause-ahead : goal.returns-clause-ahead
returns-clause-ahead g c =
    let source = g.P.Provider.state c.args.source.now in
    let rules = rules_view g.M.Merger.meaning c.args.rules.now in
    let now = g.Q.Provider.state c.args.destination.now in
    let o = due_outcome g.row.U source c.args.mode rules c.args.size now c.args.travel.now in
    let is : outcome_of g.row.U c.in_ok-batch.batch rules c.budget.result (g.Q.Provider.state c.next_batch.new.destination) ≡ o =
    rw (c.in_ok-batch.ensures.value, c.from-from.ensures, c.budget.ensures, c.in_ok-batch.ensures.destination.same) (refl {a = o}) in
    ap (λ (m : Member). ahead_of m (laid_known g.row.U source) source.forgotten) (c.in_ok-applied.ensures.arrives.at ∙ ap (λ (x : Outcome). x.member) is)
    ∙ (ahead_stays now o.member (laid_known g.row.U source) source.forgotten (outcome_stays rules c.requires.skip g.row.U source c.args.mode c.args.size now c.args.travel.now) ∙ c.requires.ahead)

pub returns-clause-destination_cause : goal.returns-clause-destination_cause
returns-clause-destination_cause g c = le_trans c.in_ok-batch.ensures.destination_cause c.in_ok-applied.ensures.cause
