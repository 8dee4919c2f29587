use Rattle.sfx_knowledge.specs.Row.{MostOfRow}
use Rattle.sfx_knowledge.proofs.unit_row.UnitRow.most.Given as goal

abbrev pub invariant-loop-unit : goal.invariant-loop-unit
invariant-loop-unit g l = MostOfRow l.unit l.self l.id l.given l.most
