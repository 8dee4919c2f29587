use Rattle.std.proofs.Common.{◌≡◌, ◌<◌, ◌≤◌, length, get_or, refl, subst, ◌∙◌, arith}
use Rattle.std.proofs.Math.ListN.{drop_of_length-le}
use Rattle.sfx_vector.specs.Clocks.{AreClocks, tick_of}
use Rattle.sfx_vector.proofs.ClocksLemmas.{tick-item, within_more}
use Rattle.sfx_vector.proofs.clock_vector.ClockVector.within.Goals as goal

pub returns-then-get : goal.returns-then-get
returns-then-get c =
    let entry = c.entry-item.result in
    let whole : c.deref-entry-items.result.now ≡ c.args.self.now = c.deref-entry-items.ensures.value ∙ c.self.view_is in
    let from : AreClocks c.args.self.now = subst AreClocks c.self.view_is c.self.invariant in
    let is = subst (λ xs. entry ≡ get_or xs c.loop-entry.entry-index entry) whole c.entry-item.is in
    let within = subst (λ xs. c.loop-entry.entry-index < length xs) whole c.loop-entry-test.true in
    let item = tick-item 0 c.loop-entry.entry-index c.args.self.now entry from within is in
    (λ no. cc, λ all. absurd (omega (arith, item.1, all entry.0, c.get.ensures.value, c.get-in-loop-entry.ensures)))

pub loop-entry-init : goal.loop-entry-init
loop-entry-init c = λ all r.
    subst (λ xs. tick_of xs r ≤ tick_of c.args.other.now r) (c.deref-entry-items.ensures.value ∙ c.self.view_is) (all r)

pub loop-entry-preserved : goal.loop-entry-preserved
loop-entry-preserved c = λ behind.
    c.loop-entry.invariant
    (within_more
    c.args.other.now
    c.deref-entry-items.result.now
    c.entry-item.result
    c.loop-entry.entry-index
    c.loop-entry-test.true
    c.entry-item.is
    (omega arith)
    behind)

pub returns : goal.returns
returns c = (
  λ _. c.loop-entry.invariant (λ r. rw (drop_of_length-le c.deref-entry-items.result.now c.loop-entry-test.false) (omega arith)),
  λ _. refl,
)
