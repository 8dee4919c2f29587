use Rattle.std.proofs.Common.{◌+◌, length}
use Rattle.sfx_segments.proofs.MergeLemmas.{Merged}
use Rattle.sfx_segments.proofs.merge.merged.Given as goal

abbrev pub invariant-merge : goal.invariant-merge
invariant-merge g l = Merged (g.J.Join.meaning l.how) l.xs l.ys l.a l.left l.b l.right l.next l.items.items

abbrev pub decreases-merge : goal.decreases-merge
decreases-merge g l = length l.left + length l.right
