use Rattle.std.proofs.Common.{◌≡◌, ◌++◌, drop}
use Rattle.std.specs.Option.{option_copied}
use Rattle.sfx_model.specs.members.Readings.{clashing_with}
use Rattle.sfx_replica.proofs.clashes.clashing.Given as goal

-- what was found so far, and what the items that are left give
abbrev pub invariant-loop-item : goal.invariant-loop-item
invariant-loop-item g l =
    clashing_with l.name (option_copied l.except) l.items ≡ l.ids.items ++ clashing_with l.name (option_copied l.except) (drop l.item-index l.items)
