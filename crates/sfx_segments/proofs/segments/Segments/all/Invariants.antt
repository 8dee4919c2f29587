use Rattle.std.proofs.Common.{true, take}
use Rattle.std.specs.Fn.{FnReturnsAt}
use Rattle.std.specs.List.{All}
use Rattle.sfx_segments.proofs.segments.Segments.all.Given as goal

abbrev pub invariant-loop-segment : goal.invariant-loop-segment
invariant-loop-segment g l = All (λ p. FnReturnsAt g.F.Fn l.test p.1 true) (take l.segment-index l.segment-items)
