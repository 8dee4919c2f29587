use Rattle.std.proofs.Common.{ℕ, ◌≤◌, drop}
use Rattle.sfx_vector.specs.Clocks.{tick_of}
use Rattle.sfx_vector.proofs.clock_vector.ClockVector.within.Given as goal

abbrev pub invariant-loop-entry : goal.invariant-loop-entry
invariant-loop-entry l = ((r : ℕ) → tick_of (drop l.entry-index l.entry-items) r ≤ tick_of l.other r) → (r : ℕ) → tick_of l.fn.self r ≤ tick_of l.other r
