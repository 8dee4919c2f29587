use Rattle.sfx_knowledge.specs.Row.{VectorWithin}
use Rattle.sfx_knowledge.proofs.unit_row.UnitRow.contain.Given as goal

abbrev pub invariant-loop-unit : goal.invariant-loop-unit
invariant-loop-unit g l = VectorWithin l.unit l.vector l.self
