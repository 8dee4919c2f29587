use Rattle.std.proofs.Common.{ℕ, Some, ap, refl, sym, ◌∙◌}
use Rattle.std.specs.Option.{option_map}
use Rattle.std.proofs.lemmas.Result.{err_from_is_err_and}
use Rattle.sfx_model.specs.sessions.Batch.{BatchData}
use Rattle.sfx_provider.specs.Head.{HeadData}
use Rattle.sfx_provider.proofs.AnswerLemmas.{if_ok_never, ok_never}
use Rattle.sfx_apply.specs.declared.apply_fault.ApplyFault.TheVariants.{Ahead}
use Rattle.sfx_apply.specs.Fault.{batch_refusal}
use Rattle.sfx_apply.proofs.BatchesAct.{refuses_other}
use Rattle.sfx_apply.proofs.WaitingCommits.{head_waits}
use Rattle.sfx_apply.proofs.GreatestTicks.{before_tick, behind_clock, tick_found}
use Rattle.sfx_apply.proofs.applying.begin.Goals as goal

pub returns-in_err-head : goal.returns-in_err-head
returns-in_err-head g c =
    let p = g.P.Provider in
    let m = p.state c.args.provider.now in
    let b = c.args.batch.now in
    let r = c.from_residual.result in
    let is = c.from_residual.ensures.1 in
    let exit = err_from_is_err_and r is in
    let failed = c.in_err-head.ensures in record {
      begun = if_ok_never _ _ r is;
      budget = if_ok_never _ _ r is;
      waits = if_ok_never _ _ r is;
      no_more = ok_never _ _ r is;
      ahead = rw (exit.1, exit.2) (refuses_other (batch_refusal m b) _ failed.not_ahead);
      rests = failed.rests;
      cause = rw (exit.1, exit.2) failed.cause;
    }

pub returns-then-tick-clock-clause-ahead : goal.returns-then-tick-clock-clause-ahead
returns-then-tick-clock-clause-ahead g c =
    let m = g.P.Provider.state c.args.provider.now in
    let b = c.args.batch.now in
    let clock = ap (λ (h : HeadData). h.clock) c.head.view_is in
    let tick = tick_found g.row.U c.head.inside.id c.most_known-tick.result c.batch.inside.made_with c.batch.inside.forgotten m b c.in_ok-head.head
    c.in_ok-head.ensures.value (ap (λ (h : HeadData). h.id) c.head.view_is)
    (ap (λ (x : BatchData). x.made_with) c.batch.view_is) (ap (λ (x : BatchData). x.forgotten) c.batch.view_is) c.most_known-tick.ensures in
    let time = clock ∙ ap (λ (h : HeadData). h.clock) c.in_ok-head.ensures.value in
    ap (option_map (λ (t : ℕ). Ahead t m.clock))
    (before_tick g.row.U c.head.inside.clock c.most_known-tick.result m b c.in_ok-head.head c.in_ok-head.ensures.value clock tick c.if-tick-clock.true)
    ∙ ap (λ (t : ℕ). Some (Ahead c.most_known-tick.result t)) (sym time)

pub returns-clause-waits : goal.returns-clause-waits
returns-clause-waits g c =
    let p = g.P.Provider in
    head_waits g.row.U (p.state c.args.provider.now) (p.state c.head_of.new.provider) c.in_ok-head.head c.into_commit.result
    c.keeps-2.ensures.consistent c.in_ok-head.ensures.value c.in_ok-head.ensures.rests.same c.into_commit.ensures

pub returns-clause-no_more : goal.returns-clause-no_more
returns-clause-no_more g c =
    let p = g.P.Provider in
    let m = p.state c.args.provider.now in
    let b = c.args.batch.now in
    let tick = tick_found g.row.U c.head.inside.id c.most_known-tick.result c.batch.inside.made_with c.batch.inside.forgotten m b c.in_ok-head.head
    c.in_ok-head.ensures.value (ap (λ (h : HeadData). h.id) c.head.view_is)
    (ap (λ (x : BatchData). x.made_with) c.batch.view_is) (ap (λ (x : BatchData). x.forgotten) c.batch.view_is) c.most_known-tick.ensures in
    behind_clock g.row.U c.head.inside.clock c.most_known-tick.result m (p.state c.head_of.new.provider) b c.in_ok-head.head
    c.keeps.ensures.batch c.in_ok-head.ensures.value c.in_ok-head.ensures.rests.same (ap (λ (h : HeadData). h.clock) c.head.view_is) tick c.if-tick-clock.false

pub returns-then-tick-clock-clause-begun : goal.returns-then-tick-clock-clause-begun
returns-then-tick-clock-clause-begun g c = tt

pub returns-then-tick-clock-clause-budget : goal.returns-then-tick-clock-clause-budget
returns-then-tick-clock-clause-budget g c = tt

pub returns-then-tick-clock-clause-waits : goal.returns-then-tick-clock-clause-waits
returns-then-tick-clock-clause-waits g c = tt

pub returns-then-tick-clock-clause-no_more : goal.returns-then-tick-clock-clause-no_more
returns-then-tick-clock-clause-no_more g c = tt

pub returns-then-tick-clock-clause-rests : goal.returns-then-tick-clock-clause-rests
returns-then-tick-clock-clause-rests g c = c.in_ok-head.ensures.rests

pub returns-then-tick-clock-clause-cause : goal.returns-then-tick-clock-clause-cause
returns-then-tick-clock-clause-cause g c = (c.in_ok-head.ensures.cause, tt)

pub returns-clause-budget : goal.returns-clause-budget
returns-clause-budget g c = refl

pub returns-clause-rests : goal.returns-clause-rests
returns-clause-rests g c = c.in_ok-head.ensures.rests

pub returns-clause-cause : goal.returns-clause-cause
returns-clause-cause g c = c.in_ok-head.ensures.cause
