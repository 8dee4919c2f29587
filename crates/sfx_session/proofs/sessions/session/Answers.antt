use Rattle.std.proofs.Common.{◌≡◌, [], None, ap, inl, sym, refl, subst, length, ◌<◌, le_trans, ◌∙◌, rules}
use Rattle.std.proofs.lemmas.Result.{err_from_is_err_and}
use Rattle.sfx_ids.specs.declared.cut.Cut.{Cut}
use Rattle.sfx_model.specs.members.Readings.{items_from}
use Rattle.sfx_model.specs.members.Members.{Member}
use Rattle.sfx_model.specs.sessions.MemberKnowledge.{ahead_of, laid_known}
use Rattle.sfx_model.specs.sessions.Moments.{committed, stops}
use Rattle.sfx_model.specs.sessions.Session.{applied_data, reduced, session_of}
use Rattle.sfx_model.proofs.sessions.SessionsEnd.{less}
use Rattle.sfx_provider.proofs.FaultLemmas.{cause_later}
use Rattle.sfx_provider.proofs.AnswerLemmas.{if_ok_never, ok_never, on_err_always, on_fault_always, on_fault_never}
use Rattle.sfx_provider.proofs.LeavesLemmas.{arrives_still, breaks_still, rests_on}
use Rattle.sfx_provider.specs.Leaves.{Arrives}
use Rattle.sfx_session.specs.Fault.{blames_destination, blames_source, refuses_session}
use Rattle.sfx_session.specs.Report.{ReportData, report_of}
use Rattle.sfx_session.specs.Travel.{TravelData, due_batch, due_outcome, next_arrival, next_travel}
use Rattle.sfx_session.proofs.SessionsAct.{session_acts}
use Rattle.sfx_session.proofs.RefusalsLemmas.{free}
use Rattle.sfx_session.proofs.FaultLemmas.{no_refusal_ahead}
use Rattle.sfx_session.proofs.TravelLemmas.{Ended, batch_breaks, batch_ends, batch_goes, goes_to_place, travel_begins}
use Rattle.sfx_session.proofs.sessions.session.Goals as goal
use Rattle.sfx_settle.specs.Rules.{rules_view}

pub batches-init : goal.batches-init
batches-init g c =
    let p = g.P.Provider in
    let q = g.Q.Provider in
    let rules = rules_view g.M.Merger.meaning c.args.rules.now in
    let source = p.state c.args.source.now in
    let first = q.state c.args.destination.now in
    let free = free g.row.U source first c.in_ok-mode.ensures.refused in
    let begun = c.in_ok-mode.ensures in
    let travels = travel_begins (λ xs. Arrives q.state q.kept q.settled q.came c.args.destination.now c.refuse.new.destination xs first) g.row.U source first c.in_ok-mode.mode rules c.args.size c.args.group c.args.cut
    begun.mode (arrives_still c.requires.settled begun.destination) in record {
      travels = rw (begun.destination.same, c.new-travel.ensures) travels;
      place = rw c.new-travel.ensures tt;
      ahead = ap (λ (m : Member). ahead_of m (laid_known g.row.U source) source.forgotten) begun.destination.same ∙ free.ahead;
      settled = begun.destination.settles c.requires.settled;
      source = begun.source;
      source_faults = begun.source_cause;
      faults = begun.destination_cause;
    }

pub returns-in_err-mode-clause-breaks_off : goal.returns-in_err-mode-clause-breaks_off
returns-in_err-mode-clause-breaks_off g c =
    let q = g.Q.Provider in
    let rules = rules_view g.M.Merger.meaning c.args.rules.now in
    let first = q.state c.args.destination.now in
    let moments = (session_of g.row.U (g.P.Provider.state c.args.source.now) first rules c.args.size c.args.cut).course.moments in
    on_err_always c.from_residual.result
    (breaks_still (committed c.args.group moments) (stops c.args.group first moments) g.met.Q.Provider.settled_kept c.requires.settled c.in_err-mode.ensures.destination (inl refl))

pub returns-in_err-mode-clause-report : goal.returns-in_err-mode-clause-report
returns-in_err-mode-clause-report g c = if_ok_never _ _ c.from_residual.result c.from_residual.ensures.1

pub returns-in_err-mode-clause-arrives : goal.returns-in_err-mode-clause-arrives
returns-in_err-mode-clause-arrives g c = ok_never _ _ c.from_residual.result c.from_residual.ensures.1

pub returns-in_err-mode-clause-done : goal.returns-in_err-mode-clause-done
returns-in_err-mode-clause-done g c = λ none. if_ok_never _ _ c.from_residual.result c.from_residual.ensures.1

pub returns-in_err-mode-clause-acts : goal.returns-in_err-mode-clause-acts
returns-in_err-mode-clause-acts g c = ok_never _ _ c.from_residual.result c.from_residual.ensures.1

pub returns-in_err-mode-clause-unchanged : goal.returns-in_err-mode-clause-unchanged
returns-in_err-mode-clause-unchanged g c = on_fault_always refuses_session c.from_residual.result c.in_err-mode.ensures.destination

pub returns-in_err-mode-clause-source : goal.returns-in_err-mode-clause-source
returns-in_err-mode-clause-source g c = c.in_err-mode.ensures.source

pub returns-in_err-mode-clause-source_cause : goal.returns-in_err-mode-clause-source_cause
returns-in_err-mode-clause-source_cause g c =
    let exit = err_from_is_err_and c.from_residual.result c.from_residual.ensures.1 in
    rw (exit.1, exit.2) c.in_err-mode.ensures.source_cause

pub returns-in_err-mode-clause-destination_cause : goal.returns-in_err-mode-clause-destination_cause
returns-in_err-mode-clause-destination_cause g c =
    let exit = err_from_is_err_and c.from_residual.result c.from_residual.ensures.1 in
    rw (exit.1, exit.2) c.in_err-mode.ensures.destination_cause

pub returns-in_err-mode-clause-not_ahead : goal.returns-in_err-mode-clause-not_ahead
returns-in_err-mode-clause-not_ahead g c =
    let exit = err_from_is_err_and c.from_residual.result c.from_residual.ensures.1 in
    λ w part. rw (exit.1, exit.2) (c.in_err-mode.ensures.not_ahead w part)

pub returns-in_err-end-clause-breaks_off : goal.returns-in_err-end-clause-breaks_off
returns-in_err-end-clause-breaks_off g c =
    let q = g.Q.Provider in
    let rules = rules_view g.M.Merger.meaning c.args.rules.now in
    let source = g.P.Provider.state c.args.source.now in
    let first = q.state c.args.destination.now in
    let i = c.batches.invariant in
    on_err_always c.from_residual-in_err-end.result
    (batch_breaks g.row.U source c.in_ok-mode.mode rules c.args.size c.args.group first (session_of g.row.U source first rules c.args.size c.args.cut) (q.state c.batches.destination) c.batches.travel
    (g.P.Provider.state c.batches.source) g.met.Q.Provider.came_on i.travels i.source.same c.in_err-end.ensures.breaks_off)

pub returns-in_err-end-clause-report : goal.returns-in_err-end-clause-report
returns-in_err-end-clause-report g c = if_ok_never _ _ c.from_residual-in_err-end.result c.from_residual-in_err-end.ensures.1

pub returns-in_err-end-clause-arrives : goal.returns-in_err-end-clause-arrives
returns-in_err-end-clause-arrives g c = ok_never _ _ c.from_residual-in_err-end.result c.from_residual-in_err-end.ensures.1

pub returns-in_err-end-clause-done : goal.returns-in_err-end-clause-done
returns-in_err-end-clause-done g c = λ none. if_ok_never _ _ c.from_residual-in_err-end.result c.from_residual-in_err-end.ensures.1

pub returns-in_err-end-clause-acts : goal.returns-in_err-end-clause-acts
returns-in_err-end-clause-acts g c = ok_never _ _ c.from_residual-in_err-end.result c.from_residual-in_err-end.ensures.1

pub returns-in_err-end-clause-source : goal.returns-in_err-end-clause-source
returns-in_err-end-clause-source g c = rests_on g.met.P.Provider.came_read c.batches.invariant.source c.in_err-end.ensures.source

pub returns-in_err-end-clause-source_cause : goal.returns-in_err-end-clause-source_cause
returns-in_err-end-clause-source_cause g c =
    let p = g.P.Provider in
    let exit = err_from_is_err_and c.from_residual-in_err-end.result c.from_residual-in_err-end.ensures.1 in
    rw (exit.1, exit.2)
    (cause_later blames_source (p.faults c.args.source.now) (p.faults c.batches.source) (p.faults c.one_batch.new.source) _ c.batches.invariant.source_faults c.in_err-end.ensures.source_cause)

pub returns-in_err-end-clause-destination_cause : goal.returns-in_err-end-clause-destination_cause
returns-in_err-end-clause-destination_cause g c =
    let q = g.Q.Provider in
    let exit = err_from_is_err_and c.from_residual-in_err-end.result c.from_residual-in_err-end.ensures.1 in
    rw (exit.1, exit.2)
    (cause_later blames_destination (q.faults c.args.destination.now) (q.faults c.batches.destination) (q.faults c.one_batch.new.destination) _ c.batches.invariant.faults c.in_err-end.ensures.destination_cause)

pub returns-in_err-end-clause-unchanged : goal.returns-in_err-end-clause-unchanged
returns-in_err-end-clause-unchanged g c =
    let exit = err_from_is_err_and c.from_residual-in_err-end.result c.from_residual-in_err-end.ensures.1 in
    on_fault_never _ refuses_session c.from_residual-in_err-end.result (rw (exit.1, exit.2) c.in_err-end.ensures.no_refusal)

pub returns-in_err-end-clause-not_ahead : goal.returns-in_err-end-clause-not_ahead
returns-in_err-end-clause-not_ahead g c =
    let exit = err_from_is_err_and c.from_residual-in_err-end.result c.from_residual-in_err-end.ensures.1 in
    λ w part. rw (exit.1, exit.2) (no_refusal_ahead _ c.in_err-end.ensures.no_refusal)

pub returns-in-Some-clause-report : goal.returns-in-Some-clause-report
returns-in-Some-clause-report g c =
    let p = g.P.Provider in
    let q = g.Q.Provider in
    let rules = rules_view g.M.Merger.meaning c.args.rules.now in
    let source = p.state c.args.source.now in
    let first = q.state c.args.destination.now in
    let i = c.batches.invariant in
    let done = c.in_ok-end.ensures in
    let whole = session_of g.row.U source first rules c.args.size c.args.cut in
    let ended : Ended (Arrives q.state q.kept q.settled q.came c.args.destination.now c.one_batch.new.destination) c.args.group whole c.one_batch.new.travel c.in-Some.end =
    batch_ends g.row.U source c.in_ok-mode.mode rules c.args.size c.args.group first whole (q.state c.batches.destination) c.batches.travel
    (p.state c.batches.source) c.one_batch.new.travel c.in_ok-end.field-0 c.in-Some.end
    g.met.Q.Provider.came_on i.travels i.source.same done.end c.in-Some.is done.travel done.arrives in
    let report : c.report.result ≡ report_of g.row.U source first rules c.args.size c.args.cut =
    c.report.ensures ∙ rw (← c.in_ok-mode.ensures.mode, ← ended.steps, ← ended.end_is) refl in
    search (rules, report)

pub returns-in-Some-clause-arrives : goal.returns-in-Some-clause-arrives
returns-in-Some-clause-arrives g c =
    let p = g.P.Provider in
    let q = g.Q.Provider in
    let rules = rules_view g.M.Merger.meaning c.args.rules.now in
    let source = p.state c.args.source.now in
    let first = q.state c.args.destination.now in
    let i = c.batches.invariant in
    let done = c.in_ok-end.ensures in
    let whole = session_of g.row.U source first rules c.args.size c.args.cut in
    let ended : Ended (Arrives q.state q.kept q.settled q.came c.args.destination.now c.one_batch.new.destination) c.args.group whole c.one_batch.new.travel c.in-Some.end =
    batch_ends g.row.U source c.in_ok-mode.mode rules c.args.size c.args.group first whole (q.state c.batches.destination) c.batches.travel
    (p.state c.batches.source) c.one_batch.new.travel c.in_ok-end.field-0 c.in-Some.end
    g.met.Q.Provider.came_on i.travels i.source.same done.end c.in-Some.is done.travel done.arrives in
    ended.came

pub returns-in-Some-clause-done : goal.returns-in-Some-clause-done
returns-in-Some-clause-done g c =
    let p = g.P.Provider in
    let q = g.Q.Provider in
    let rules = rules_view g.M.Merger.meaning c.args.rules.now in
    let source = p.state c.args.source.now in
    let first = q.state c.args.destination.now in
    let i = c.batches.invariant in
    let done = c.in_ok-end.ensures in
    let whole = session_of g.row.U source first rules c.args.size c.args.cut in
    let ended : Ended (Arrives q.state q.kept q.settled q.came c.args.destination.now c.one_batch.new.destination) c.args.group whole c.one_batch.new.travel c.in-Some.end =
    batch_ends g.row.U source c.in_ok-mode.mode rules c.args.size c.args.group first whole (q.state c.batches.destination) c.batches.travel
    (p.state c.batches.source) c.one_batch.new.travel c.in_ok-end.field-0 c.in-Some.end
    g.met.Q.Provider.came_on i.travels i.source.same done.end c.in-Some.is done.travel done.arrives in
    let report : c.report.result ≡ report_of g.row.U source first rules c.args.size c.args.cut =
    c.report.ensures ∙ rw (← c.in_ok-mode.ensures.mode, ← ended.steps, ← ended.end_is) refl in
    let done : c.args.cut ≡ None → c.report.result.end ≡ (session_of g.row.U source first rules c.args.size None).end =
    λ none. ap (λ (x : ReportData). x.end) report ∙ rw none refl in
    search (rules, done)

pub returns-in-Some-clause-acts : goal.returns-in-Some-clause-acts
returns-in-Some-clause-acts g c =
    let p = g.P.Provider in
    let q = g.Q.Provider in
    let rules = rules_view g.M.Merger.meaning c.args.rules.now in
    let source = p.state c.args.source.now in
    let first = q.state c.args.destination.now in
    let i = c.batches.invariant in
    let done = c.in_ok-end.ensures in
    let whole = session_of g.row.U source first rules c.args.size c.args.cut in
    let ended : Ended (Arrives q.state q.kept q.settled q.came c.args.destination.now c.one_batch.new.destination) c.args.group whole c.one_batch.new.travel c.in-Some.end =
    batch_ends g.row.U source c.in_ok-mode.mode rules c.args.size c.args.group first whole (q.state c.batches.destination) c.batches.travel
    (p.state c.batches.source) c.one_batch.new.travel c.in_ok-end.field-0 c.in-Some.end
    g.met.Q.Provider.came_on i.travels i.source.same done.end c.in-Some.is done.travel done.arrives in
    session_acts g.row.U source first (q.state c.one_batch.new.destination) rules c.args.size c.args.cut
    c.in_ok-mode.ensures.consistent.0 c.in_ok-mode.ensures.consistent.1 c.requires.limits.sized ended.came.at

pub returns-in-Some-clause-source : goal.returns-in-Some-clause-source
returns-in-Some-clause-source g c =
    rests_on g.met.P.Provider.came_read c.batches.invariant.source c.in_ok-end.ensures.source

pub returns-in-Some-clause-source_cause : goal.returns-in-Some-clause-source_cause
returns-in-Some-clause-source_cause g c =
    le_trans c.batches.invariant.source_faults c.in_ok-end.ensures.source_cause

pub returns-in-Some-clause-destination_cause : goal.returns-in-Some-clause-destination_cause
returns-in-Some-clause-destination_cause g c =
    le_trans c.batches.invariant.faults c.in_ok-end.ensures.destination_cause

pub returns-in-Some-clause-refused : goal.returns-in-Some-clause-refused
returns-in-Some-clause-refused g c =
    c.in_ok-mode.ensures.refused

pub returns-in-Some-clause-breaks_off : goal.returns-in-Some-clause-breaks_off
returns-in-Some-clause-breaks_off g c =
    tt

pub returns-in-Some-clause-unchanged : goal.returns-in-Some-clause-unchanged
returns-in-Some-clause-unchanged g c =
    tt

pub returns-in-Some-clause-not_ahead : goal.returns-in-Some-clause-not_ahead
returns-in-Some-clause-not_ahead g c =
    λ w part. tt

pub batches-smaller : goal.batches-smaller
batches-smaller g c =
    let p = g.P.Provider in
    let q = g.Q.Provider in
    let rules = rules_view g.M.Merger.meaning c.args.rules.now in
    let mode = c.in_ok-mode.mode in
    let source = p.state c.args.source.now in
    let now = q.state c.batches.destination in
    let t = c.batches.travel in
    let i = c.batches.invariant in
    let done = c.in_ok-end.ensures in
    let o = due_outcome g.row.U source mode rules c.args.size now t in
    let is : next_arrival g.row.U source mode rules c.args.size now t ≡ None =
    rw i.source.same at (sym done.end ∙ c.in-None.is) in
    let fewer = less g.row.U source mode c.args.size (laid_known g.row.U now) t.from o.end (reduced t.budget (length o.entries)) is in
    let travel : c.one_batch.new.travel ≡ next_travel g.row.U source mode rules c.args.size now t = rw i.source.same at done.travel in
    subst (λ (place : Cut). length (items_from place source.items) < length (items_from t.from source.items)) (sym (ap (λ (x : TravelData). x.from) travel)) fewer

pub batches-preserved : goal.batches-preserved
batches-preserved g c =
    let p = g.P.Provider in
    let q = g.Q.Provider in
    let rules = rules_view g.M.Merger.meaning c.args.rules.now in
    let mode = c.in_ok-mode.mode in
    let source = p.state c.args.source.now in
    let first = q.state c.args.destination.now in
    let now = q.state c.batches.destination in
    let t = c.batches.travel in
    let i = c.batches.invariant in
    let done = c.in_ok-end.ensures in
    let b = due_batch g.row.U source mode c.args.size now t in
    let o = due_outcome g.row.U source mode rules c.args.size now t in
    let is : next_arrival g.row.U source mode rules c.args.size now t ≡ None = rw i.source.same at (sym done.end ∙ c.in-None.is) in
    let travel : c.one_batch.new.travel ≡ next_travel g.row.U source mode rules c.args.size now t = rw i.source.same at done.travel in record {
      travels = batch_goes g.row.U source mode rules c.args.size c.args.group first (session_of g.row.U source first rules c.args.size c.args.cut) now t
          (p.state c.batches.source) c.one_batch.new.travel g.met.Q.Provider.came_on i.travels i.source.same is done.travel done.arrives;
      place = rw travel (goes_to_place b (applied_data o) t is);
      ahead = subst (λ (s : Member). ahead_of (q.state c.one_batch.new.destination) (laid_known g.row.U s) s.forgotten ≡ None) i.source.same done.ahead;
      settled = done.arrives.settles;
      source = rests_on g.met.P.Provider.came_read i.source done.source;
      source_faults = le_trans i.source_faults done.source_cause;
      faults = le_trans i.faults done.destination_cause;
    }
