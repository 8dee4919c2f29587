use Rattle.std.proofs.Common.{◌≡◌, refl, ◌∙◌}
use Rattle.std.proofs.lemmas.List.{take_all}
use Rattle.sfx_segments.proofs.ValueLookup.{copied_more}
use Rattle.sfx_knowledge.proofs.unit_row.UnitRow.copy.Goals as goal

pub loop-other-preserved : goal.loop-other-preserved
loop-other-preserved g c =
    copied_more
    c.deref-other-items.result.now
    c.loop-other.others.items
    c.push.new.self.items
    c.other-item.result
    c.in_ok-copy.field-0
    c.loop-other.other-index
    c.loop-other.invariant
    c.loop-other-test.true
    c.other-item.is
    c.in_ok-copy.ensures
    c.in_ok-push.ensures.items

pub returns : goal.returns
returns g c =
    let others : c.loop-other.others.items ≡ c.self.inside.others.items =
    c.loop-other.invariant
    ∙ take_all c.loop-other.other-index c.deref-other-items.result.now c.loop-other-test.false
    ∙ c.deref-other-items.ensures.value in
    rw (← c.self.view_is, others, c.in_ok-base.ensures) refl

pub invariant_of-result : goal.invariant_of-result
invariant_of-result g c =
    let others : c.loop-other.others.items ≡ c.self.inside.others.items =
    c.loop-other.invariant
    ∙ take_all c.loop-other.other-index c.deref-other-items.result.now c.loop-other-test.false
    ∙ c.deref-other-items.ensures.value in
    rw (others, c.in_ok-base.ensures) c.self.invariant
