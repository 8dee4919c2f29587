use Rattle.std.proofs.Common.{sym, ◌∙◌, subst}
use Rattle.std.proofs.lemmas.List.{take_all}
use Rattle.sfx_segments.specs.Segments.{AreSegments}
use Rattle.sfx_segments.proofs.ValueLookup.{copied_more}
use Rattle.sfx_segments.proofs.segments.Segments.copy.Goals as goal

pub loop-segment-preserved : goal.loop-segment-preserved
loop-segment-preserved g c =
    copied_more
    c.deref-segment-items.result.now
    c.loop-segment.items.items
    c.push.new.self.items
    c.segment-item.result
    c.in_ok-copy.field-0
    c.loop-segment.segment-index
    c.loop-segment.invariant
    c.loop-segment-test.true
    c.segment-item.is
    c.in_ok-copy.ensures
    c.in_ok-push.ensures.items

pub returns : goal.returns
returns g c =
    c.loop-segment.invariant
    ∙ take_all c.loop-segment.segment-index c.deref-segment-items.result.now c.loop-segment-test.false
    ∙ c.deref-segment-items.ensures.value
    ∙ c.self.view_is

pub invariant_of-result : goal.invariant_of-result
invariant_of-result g c =
    subst AreSegments
    (sym (c.loop-segment.invariant ∙ take_all c.loop-segment.segment-index c.deref-segment-items.result.now c.loop-segment-test.false ∙ c.deref-segment-items.ensures.value))
    c.self.invariant
