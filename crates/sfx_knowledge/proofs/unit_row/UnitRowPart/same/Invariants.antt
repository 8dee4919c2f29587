use Rattle.std.proofs.Common.{◌≡◌, ℕ, ◌<◌}
use Rattle.sfx_knowledge.specs.Row.{row_at}
use Rattle.sfx_knowledge.proofs.unit_row.UnitRowPart.same.Given as goal

abbrev pub invariant-loop-unit : goal.invariant-loop-unit
invariant-loop-unit g l = (u : ℕ) → u < l.unit → row_at l.self u ≡ row_at l.other u
