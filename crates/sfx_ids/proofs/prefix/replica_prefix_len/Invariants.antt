use Rattle.std.proofs.Common.{◌≡◌, Some, take}
use Rattle.sfx_ids.proofs.StepsLemmas.{run}
use Rattle.sfx_ids.proofs.ReplicaPrefixes.{next_place}
use Rattle.sfx_ids.proofs.prefix.replica_prefix_len.Given as goal

abbrev pub invariant-loop-place : goal.invariant-loop-place
invariant-loop-place l = run next_place 0 (take l.place l.text) ≡ Some l.place
