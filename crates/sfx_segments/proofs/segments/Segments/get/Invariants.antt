use Rattle.std.proofs.Common.{◌≡◌, Some, drop}
use Rattle.sfx_segments.specs.Segments.{segment_at, value_at}
use Rattle.sfx_segments.proofs.segments.Segments.get.Given as goal

abbrev pub invariant-loop-segment : goal.invariant-loop-segment
invariant-loop-segment g l = value_at l.fn.self l.at ≡ Some (segment_at l.found (drop l.segment-index l.segment-items) l.at)
