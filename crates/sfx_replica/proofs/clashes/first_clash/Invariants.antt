use Rattle.std.proofs.Common.{◌≡◌, drop}
use Rattle.std.specs.Option.{option_copied}
use Rattle.sfx_model.specs.members.Readings.{first_clash}
use Rattle.sfx_replica.proofs.clashes.first_clash.Given as goal

-- the items that are left give the answer
abbrev pub invariant-loop-item : goal.invariant-loop-item
invariant-loop-item g l =
    first_clash l.name (option_copied l.except) l.items ≡ first_clash l.name (option_copied l.except) (drop l.item-index l.items)
