use Rattle.std.proofs.Common.{◌≡◌, length}
use Rattle.sfx_segments.specs.Merge.{passed}
use Rattle.sfx_segments.proofs.merge.pass.Given as goal

abbrev pub invariant-walk : goal.invariant-walk
invariant-walk g l = passed l.value l.ahead l.place ≡ passed l.fn.value l.fn.ahead l.place

abbrev pub decreases-walk : goal.decreases-walk
decreases-walk g l = length l.ahead
