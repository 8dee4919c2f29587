use Rattle.std.proofs.Common.{◌≡◌, map}
use Rattle.std.specs.List.{range_with_len}
use Rattle.sfx_model.specs.sessions.Class.{unit_class}
use Rattle.sfx_settle.proofs.change.unit_classes.Given as goal

abbrev pub invariant-loop-index : goal.invariant-loop-index
invariant-loop-index g l =
    l.classes.items
    ≡ map (unit_class l.known l.made_with l.change.id l.change.state l.local.state) (range_with_len 0 l.index)
