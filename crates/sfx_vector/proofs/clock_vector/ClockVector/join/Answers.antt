use Rattle.std.proofs.Common.{max, subst, sym}
use Rattle.sfx_vector.specs.Clocks.{AreClocks, tick_of}
use Rattle.sfx_vector.proofs.ClocksLemmas.{join_at}
use Rattle.sfx_vector.proofs.clock_vector.ClockVector.join.Goals as goal

pub loop-entry-preserved : goal.loop-entry-preserved
loop-entry-preserved c =
    let from = subst AreClocks (sym c.deref-entry-items.ensures.value) c.other.invariant in
    join_at c.deref-entry-items.result.now c.loop-entry.joined c.raise.new.self
    (λ r. max (tick_of c.args.self.now r) (tick_of c.args.other.now r)) c.loop-entry.entry-index c.entry-item.result
    from c.loop-entry-test.true c.entry-item.is c.in_ok-raise.ensures.ok c.loop-entry.invariant
