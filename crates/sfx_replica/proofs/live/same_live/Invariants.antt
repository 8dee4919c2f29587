use Rattle.std.proofs.Common.{length}
use Rattle.sfx_replica.proofs.LiveLemmas.{Compares}
use Rattle.sfx_replica.proofs.live.same_live.Given as goal

abbrev pub invariant-pairs : goal.invariant-pairs
invariant-pairs g l = Compares l.ours l.theirs l.left l.right

abbrev pub decreases-pairs : goal.decreases-pairs
decreases-pairs g l = length l.left
