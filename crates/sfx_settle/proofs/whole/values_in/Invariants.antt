use Rattle.std.proofs.Common.{◌≡◌, map, take}
use Rattle.sfx_settle.proofs.whole.values_in.Given as goal

abbrev pub invariant-loop-cell : goal.invariant-loop-cell
invariant-loop-cell g l = l.values.items ≡ map (λ c. c.value) (take l.cell-index l.cell-items)
