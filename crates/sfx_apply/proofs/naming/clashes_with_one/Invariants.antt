use Rattle.std.proofs.Common.{◌≡◌, Some, drop}
use Rattle.std.specs.List.{list_any}
use Rattle.sfx_model.specs.members.Readings.{is_in_the_way}
use Rattle.sfx_apply.proofs.naming.clashes_with_one.Given as goal

-- the items that are left give the answer
abbrev pub invariant-loop-item : goal.invariant-loop-item
invariant-loop-item g l =
    list_any (is_in_the_way l.name (Some l.except)) (drop l.item-index l.items)
    ≡ list_any (is_in_the_way l.name (Some l.except)) l.items
