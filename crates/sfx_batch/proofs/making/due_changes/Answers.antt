use Rattle.std.proofs.Common.{◌∙◌, arith}
use Rattle.sfx_batch.proofs.FirstItems.{end_taken, first_taken}
use Rattle.sfx_batch.proofs.making.due_changes.Goals as goal
use Rattle.sfx_model.specs.members.Readings.{unseen}

pub returns-clause-changes : goal.returns-clause-changes
returns-clause-changes g c =
    let given = c.in_ok-changes.ensures.value in
    c.cut_short-to.ensures.items
    ∙ first_taken c.args.size c.in_ok-changes.changes.items
    (unseen g.row.U c.args.known.now c.args.from.now (g.P.Provider.state c.args.source.now).items)
    c.ranges.size.fits (rw c.saturating_add.ensures at given)

pub returns-clause-end : goal.returns-clause-end
returns-clause-end g c =
    let given = c.in_ok-changes.ensures.value in
    end_taken c.args.size c.in_ok-changes.changes.items
    (unseen g.row.U c.args.known.now c.args.from.now (g.P.Provider.state c.args.source.now).items)
    c.cut_short-to.result c.ranges.size.fits
    (omega (arith, c.in_ok-changes.changes.ok, c.in_ok-changes.changes.small))
    (rw c.saturating_add.ensures at given) c.cut_short-to.ensures.end
