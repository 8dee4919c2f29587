use Rattle.std.proofs.Common.{◌≡◌, take}
use Rattle.sfx_knowledge.proofs.unit_row.UnitRow.copy.Given as goal

abbrev pub invariant-loop-other : goal.invariant-loop-other
invariant-loop-other g l = l.others.items ≡ take l.other-index l.other-items
