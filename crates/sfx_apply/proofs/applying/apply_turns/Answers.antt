use Rattle.std.proofs.Common.{lit<, arith}
use Rattle.sfx_provider.proofs.AnswerLemmas.{on_err_always}
use Rattle.sfx_settle.specs.Rules.{rules_view}
use Rattle.sfx_apply.specs.Turns.{seen_views}
use Rattle.sfx_apply.proofs.LaidCommits.{range_lays}
use Rattle.sfx_apply.proofs.TurnsLemmas.{at_range, ends_arrive, loop_begun, loop_breaks, loop_off, loop_on, range_breaks, range_end, turn_at, turns_normal}
use Rattle.sfx_apply.proofs.SkippedChanges.{at_turn}
use Rattle.sfx_apply.proofs.applying.apply_turns.Goals as goal

pub changes-init : goal.changes-init
changes-init g c =
    let b = c.args.batch.now in
    let refs = c.args.turns.now in record {
      stands = loop_begun c.args.provider.now b (rules_view g.M.Merger.meaning c.args.rules.now) c.args.group c.args.work.now refs
          c.keeps-2.ensures.consistent c.requires.no_more c.requires.settled g.met.P.Provider.came_self c.requires.begun
          (turns_normal g.row.U b (g.P.Provider.state c.args.provider.now) (seen_views refs) c.requires.normal c.requires.order);
      settled = c.requires.settled;
      faults = omega arith;
    }

pub change_step-requires : goal.change_step-requires
change_step-requires g c =
    let turn = turn_at {U = g.row.U} c.args.batch.now c.args.turns.now c.changes.index c.index-turns-index.result c.keeps.ensures.batch c.requires.order c.index-turns-index.is c.changes-test.true in
    let stands = c.changes.invariant.stands in (
      lit< tt,
      (
        lit< tt,
        (
          lit< tt,
          (c.changes.invariant.settled, (stands.waits, (c.requires.skip, (c.requires.normal, (stands.no_more, (turn.sent, c.requires.group)))))),
        ),
      ),
    )

pub changes-preserved : goal.changes-preserved
changes-preserved g c =
    let b = c.args.batch.now in
    let rules = rules_view g.M.Merger.meaning c.args.rules.now in
    let here = at_turn b rules c.args.turns.now c.changes.index c.index-turns-index.result c.keeps.ensures.batch c.requires.order c.index-turns-index.is
    c.changes-test.true c.requires.skip c.requires.normal c.change_step.ensures.consistent c.changes.invariant.stands in
    let done = c.in_ok-end.ensures in
    let low = c.changes.invariant.faults in
    let risen = done.cause in record {
      stands = loop_on c.change_step.new.work c.in_ok-end.field-0 g.met.P.Provider.came_on here done.value c.in_default.is done.work done.arrives;
      settled = done.arrives.settles;
      faults = omega (arith, low, risen);
    }

pub returns-in_err-end-clause-breaks_off : goal.returns-in_err-end-clause-breaks_off
returns-in_err-end-clause-breaks_off g c =
    let b = c.args.batch.now in
    let rules = rules_view g.M.Merger.meaning c.args.rules.now in
    let here = at_turn b rules c.args.turns.now c.changes.index c.index-turns-index.result c.keeps.ensures.batch c.requires.order c.index-turns-index.is
    c.changes-test.true c.requires.skip c.requires.normal c.change_step.ensures.consistent c.changes.invariant.stands in
    on_err_always c.from_residual.result (loop_breaks g.met.P.Provider.came_on here c.in_err-end.ensures.breaks_off)

pub returns-in-Some-clause-report : goal.returns-in-Some-clause-report
returns-in-Some-clause-report g c =
    let b = c.args.batch.now in
    let rules = rules_view g.M.Merger.meaning c.args.rules.now in
    let here = at_turn b rules c.args.turns.now c.changes.index c.index-turns-index.result c.keeps.ensures.batch c.requires.order c.index-turns-index.is
    c.changes-test.true c.requires.skip c.requires.normal c.change_step.ensures.consistent c.changes.invariant.stands in
    let done = c.in_ok-end.ensures in
    let ends = loop_off c.change_step.new.work c.in_ok-end.field-0 c.in-Some.end g.met.P.Provider.came_on here done.value c.in-Some.is done.work done.arrives in
    ends.report

pub returns-in-Some-clause-arrives : goal.returns-in-Some-clause-arrives
returns-in-Some-clause-arrives g c =
    let b = c.args.batch.now in
    let rules = rules_view g.M.Merger.meaning c.args.rules.now in
    let here = at_turn b rules c.args.turns.now c.changes.index c.index-turns-index.result c.keeps.ensures.batch c.requires.order c.index-turns-index.is
    c.changes-test.true c.requires.skip c.requires.normal c.change_step.ensures.consistent c.changes.invariant.stands in
    let done = c.in_ok-end.ensures in
    ends_arrive (loop_off c.change_step.new.work c.in_ok-end.field-0 c.in-Some.end g.met.P.Provider.came_on here done.value c.in-Some.is done.work done.arrives)

pub returns-in_err-range_step-clause-breaks_off : goal.returns-in_err-range_step-clause-breaks_off
returns-in_err-range_step-clause-breaks_off g c =
    let b = c.args.batch.now in
    let rules = rules_view g.M.Merger.meaning c.args.rules.now in
    let m = g.P.Provider.state c.changes.provider in
    let lays = range_lays g.row.U b c.changes.work m c.range_step.ensures.consistent c.changes.invariant.stands.waits c.keeps.ensures.batch c.requires.normal in
    let here = at_range _ b rules _ _ m c.changes.work c.args.turns.now c.changes.index c.changes.invariant.stands c.changes-test.false lays in
    on_err_always c.from_residual-in_err-range_step.result (range_breaks g.met.P.Provider.came_on here c.in_err-range_step.ensures.breaks_off)

pub returns-clause-report : goal.returns-clause-report
returns-clause-report g c =
    let b = c.args.batch.now in
    let rules = rules_view g.M.Merger.meaning c.args.rules.now in
    let m = g.P.Provider.state c.changes.provider in
    let lays = range_lays g.row.U b c.changes.work m c.range_step.ensures.consistent c.changes.invariant.stands.waits c.keeps.ensures.batch c.requires.normal in
    let here = at_range _ b rules _ _ m c.changes.work c.args.turns.now c.changes.index c.changes.invariant.stands c.changes-test.false lays in
    let done = c.in_ok-range_step.ensures in
    let ends = range_end c.range_step.new.work g.met.P.Provider.came_on here done.entries done.arrives in
    ends.report

pub returns-clause-arrives : goal.returns-clause-arrives
returns-clause-arrives g c =
    let b = c.args.batch.now in
    let rules = rules_view g.M.Merger.meaning c.args.rules.now in
    let m = g.P.Provider.state c.changes.provider in
    let lays = range_lays g.row.U b c.changes.work m c.range_step.ensures.consistent c.changes.invariant.stands.waits c.keeps.ensures.batch c.requires.normal in
    let here = at_range _ b rules _ _ m c.changes.work c.args.turns.now c.changes.index c.changes.invariant.stands c.changes-test.false lays in
    let done = c.in_ok-range_step.ensures in
    ends_arrive (range_end c.range_step.new.work g.met.P.Provider.came_on here done.entries done.arrives)
