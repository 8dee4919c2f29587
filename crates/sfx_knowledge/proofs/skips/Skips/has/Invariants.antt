use Rattle.std.proofs.Common.{◌≡◌, drop}
use Rattle.sfx_knowledge.specs.Skips.{is_skipped}
use Rattle.sfx_knowledge.proofs.skips.Skips.has.Given as goal

abbrev pub invariant-loop-cell : goal.invariant-loop-cell
invariant-loop-cell g l = is_skipped (drop l.cell-index l.cell-items) l.id l.unit ≡ is_skipped l.fn.self l.id l.unit
