use Rattle.std.proofs.Common.{◌≡◌, ◌++◌, drop}
use Rattle.std.specs.List.{flat_map}
use Rattle.sfx_reply.specs.Listing.{cell_text}
use Rattle.sfx_reply.proofs.showing.write_cells.Given as goal

-- what is written, and what is left to write, make the whole
abbrev pub invariant-loop-cell : goal.invariant-loop-cell
invariant-loop-cell l =
    l.out.items ++ flat_map cell_text (drop l.cell-index l.cells) ≡ l.fn.out.items ++ flat_map cell_text l.cells
