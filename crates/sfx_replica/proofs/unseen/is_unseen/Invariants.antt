use Rattle.std.proofs.Common.{◌≡◌, false}
use Rattle.sfx_model.specs.world.Events.{some_unit}
use Rattle.sfx_model.specs.members.Readings.{is_unseen_at}
use Rattle.sfx_replica.proofs.unseen.is_unseen.Given as goal

-- no unit so far is one
abbrev pub invariant-loop-k : goal.invariant-loop-k
invariant-loop-k g l = some_unit (is_unseen_at l.to l.item.id l.item.state) l.k ≡ false
