use Rattle.std.proofs.Common.{◌≡◌, replicate}
use Rattle.sfx_settle.proofs.per_unit.PerUnit.all.Given as goal

abbrev pub invariant-units : goal.invariant-units
invariant-units g l = l.each.items ≡ replicate l.counter l.element
