use Rattle.sfx_knowledge.specs.Row.{RowWithin}
use Rattle.sfx_knowledge.proofs.unit_row.UnitRow.within.Given as goal

abbrev pub invariant-loop-unit : goal.invariant-loop-unit
invariant-loop-unit g l = RowWithin l.unit l.self l.other
