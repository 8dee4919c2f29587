use Rattle.std.proofs.Common.{◌≡◌, drop}
use Rattle.sfx_knowledge.specs.Row.{listed_or, row_at}
use Rattle.sfx_knowledge.proofs.unit_row.UnitRow.at.Given as goal

abbrev pub invariant-loop-other : goal.invariant-loop-other
invariant-loop-other g l = listed_or l.self.base (drop l.other-index l.other-items) l.unit ≡ row_at l.fn.self l.unit
