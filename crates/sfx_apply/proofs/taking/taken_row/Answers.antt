use Rattle.std.proofs.Common.{List, subst, sym, ◌∙◌}
use Rattle.sfx_item.specs.declared.cell.Cell.{Cell}
use Rattle.sfx_item.specs.Row.{IsCellRow}
use Rattle.sfx_apply.proofs.SkippingDrafts.{taken_row}
use Rattle.sfx_apply.proofs.TakenCells.{same_cells}
use Rattle.sfx_apply.proofs.taking.taken_row.Goals as goal

pub unwrap-requires : goal.unwrap-requires
unwrap-requires g c =
    let row = taken_row g.row.U c.args.marks.now c.args.row.now c.args.own.now c.requires c.cells.ensures.row c.cells-2.ensures.row in
    let is = c.in_ok-cells.ensures ∙ same_cells g.row.U c.as_slice.result.now c.args.marks.now c.cells.result.now c.args.row.now c.cells-2.result.now c.args.own.now
    c.as_slice.ensures.value c.cells.ensures.value c.cells-2.ensures.value in
    c.in_ok-new.ensures.valid.1 (subst (λ (cells : List Cell). IsCellRow g.row.U cells) (sym is) row)
