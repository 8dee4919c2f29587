use Rattle.sfx_model.specs.members.Members.{AreAscending}
use Rattle.sfx_replica_tests.proofs.items.list.Given as goal

abbrev pub invariant-loop-ticks : goal.invariant-loop-ticks
invariant-loop-ticks g l = AreAscending l.items.items
