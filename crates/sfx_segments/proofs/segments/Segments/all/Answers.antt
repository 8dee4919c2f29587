use Rattle.std.proofs.Common.{true, false, subst}
use Rattle.std.specs.Fn.{FnReturnsAt}
use Rattle.std.proofs.lemmas.List.Elements.{All-more}
use Rattle.sfx_ids.specs.declared.cut.Cut.{Cut}
use Rattle.sfx_segments.proofs.TestedValues.{walked, stopped}
use Rattle.sfx_segments.proofs.segments.Segments.all.Goals as goal

pub loop-segment-preserved : goal.loop-segment-preserved
loop-segment-preserved g c =
    All-more (λ (p : Cut × g.row.T.Denot). FnReturnsAt g.F.Fn c.args.test p.1 true)
    c.deref-segment-items.result.now c.loop-segment.segment-index c.segment-item.result c.loop-segment-test.true c.loop-segment.invariant
    (subst (λ (p : Cut × g.row.T.Denot). FnReturnsAt g.F.Fn c.args.test p.1 true) c.segment-item.is
    (subst (FnReturnsAt g.F.Fn c.args.test c.segment-item.result.1) c.if-not-passes.false c.passes.ensures))

pub returns-then-not-passes-clause-fails : goal.returns-then-not-passes-clause-fails
returns-then-not-passes-clause-fails g c fails =
    stopped (λ (v : g.row.T.Denot). FnReturnsAt g.F.Fn c.args.test v false)
    c.self.inside.items.items c.deref-segment-items.result.now c.args.self.now c.loop-segment.segment-index c.segment-item.result
    c.self.invariant c.deref-segment-items.ensures.value c.self.view_is c.loop-segment-test.true c.segment-item.is
    (subst (FnReturnsAt g.F.Fn c.args.test c.segment-item.result.1) c.if-not-passes.true c.passes.ensures)

pub returns-clause-holds : goal.returns-clause-holds
returns-clause-holds g c holds =
    walked (λ (v : g.row.T.Denot). FnReturnsAt g.F.Fn c.args.test v true)
    c.self.inside.items.items c.deref-segment-items.result.now c.args.self.now c.loop-segment.segment-index
    c.self.invariant c.deref-segment-items.ensures.value c.self.view_is c.loop-segment-test.false c.loop-segment.invariant
