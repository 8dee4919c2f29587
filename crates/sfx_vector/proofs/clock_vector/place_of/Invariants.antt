use Rattle.std.proofs.Common.{◌≡◌, ◌+◌, drop}
use Rattle.sfx_vector.specs.Places.{entry_place}
use Rattle.sfx_vector.proofs.clock_vector.place_of.Given as goal

abbrev pub invariant-loop-place : goal.invariant-loop-place
invariant-loop-place l = entry_place l.entries l.replica ≡ l.place + entry_place (drop l.place l.entries) l.replica
