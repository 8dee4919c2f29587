use Rattle.std.proofs.Common.{◌≡◌, ◌+◌, drop}
use Rattle.sfx_knowledge.specs.Skips.{cell_place}
use Rattle.sfx_knowledge.proofs.skips.place_of.Given as goal

abbrev pub invariant-loop-place : goal.invariant-loop-place
invariant-loop-place g l = cell_place l.cells l.cell ≡ l.place + cell_place (drop l.place l.cells) l.cell
