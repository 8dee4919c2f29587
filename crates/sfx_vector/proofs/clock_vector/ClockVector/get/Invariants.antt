use Rattle.std.proofs.Common.{◌≡◌, drop}
use Rattle.sfx_vector.specs.Clocks.{tick_of}
use Rattle.sfx_vector.proofs.clock_vector.ClockVector.get.Given as goal

abbrev pub invariant-loop-entry : goal.invariant-loop-entry
invariant-loop-entry l = tick_of (drop l.entry-index l.entry-items) l.r ≡ tick_of l.fn.self l.r
