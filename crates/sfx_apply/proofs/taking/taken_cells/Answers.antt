use Rattle.std.proofs.Common.{arith, refl}
use Rattle.sfx_apply.proofs.TakenCells.{one_more_cell}
use Rattle.sfx_apply.proofs.taking.taken_cells.Goals as goal

pub loop-index-preserved : goal.loop-index-preserved
loop-index-preserved g c =
    let seen = c.requires.seen in
    let here = c.requires.here in
    let small = c.loop-index-test.true in
    one_more_cell c.args.marks.now c.args.seen.now c.args.here.now c.loop-index.cells.items c.push_cell.new.cells.items c.loop-index.index
    c.index-seen-index.result c.index-here-index.result _ c.loop-index.invariant c.in_ok-push_cell.ensures
    refl c.index-seen-index.is c.index-here-index.is (omega (arith, seen, small)) (omega (arith, here, small))
