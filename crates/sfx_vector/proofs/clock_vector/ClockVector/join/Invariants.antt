use Rattle.std.proofs.Common.{◌≡◌, ℕ, drop, max}
use Rattle.sfx_vector.specs.Clocks.{tick_of}
use Rattle.sfx_vector.proofs.clock_vector.ClockVector.join.Given as goal

abbrev pub invariant-loop-entry : goal.invariant-loop-entry
invariant-loop-entry l = (r : ℕ) → max (tick_of l.joined r) (tick_of (drop l.entry-index l.entry-items) r) ≡ max (tick_of l.fn.self r) (tick_of l.fn.other r)
