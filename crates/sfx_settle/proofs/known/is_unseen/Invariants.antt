use Rattle.std.proofs.Common.{◌≡◌, false}
use Rattle.sfx_model.specs.world.Events.{some_unit}
use Rattle.sfx_model.specs.members.Readings.{is_unseen_at}
use Rattle.sfx_settle.proofs.known.is_unseen.Given as goal

abbrev pub invariant-loop-index : goal.invariant-loop-index
invariant-loop-index g l = some_unit (is_unseen_at l.known l.id l.item.state) l.index ≡ false
