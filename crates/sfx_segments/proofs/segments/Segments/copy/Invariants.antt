use Rattle.std.proofs.Common.{◌≡◌, take}
use Rattle.sfx_segments.proofs.segments.Segments.copy.Given as goal

abbrev pub invariant-loop-segment : goal.invariant-loop-segment
invariant-loop-segment g l = l.items.items ≡ take l.segment-index l.segment-items
