use Rattle.std.proofs.Common.{◌≡◌, if◌then◌else◌}
use Rattle.sfx_model.specs.declared.mark.Mark.TheVariants.{Stays}
use Rattle.sfx_model.specs.sessions.Entry.{is_taken, no_cell}
use Rattle.sfx_model.specs.world.Units.{at_unit, each_unit}
use Rattle.sfx_apply.proofs.taking.taken_cells.Given as goal

abbrev pub invariant-loop-index : goal.invariant-loop-index
invariant-loop-index g l =
    l.cells.items
    ≡ each_unit l.index (λ u. if is_taken (at_unit l.marks u Stays) then at_unit l.seen u no_cell else at_unit l.here u no_cell)
