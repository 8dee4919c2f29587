use Rattle.std.proofs.Common.{◌∙◌}
use Rattle.sfx_batch.proofs.DueBatches.{right_batch}
use Rattle.sfx_batch.proofs.making.due_batch.Goals as goal
use Rattle.sfx_provider.specs.Head.{HeadData}

pub invariant_of-result : goal.invariant_of-result
invariant_of-result g c =
    let m = g.P.Provider.state c.args.source.now in
    let inside = c.id.inside in
    let head : HeadData = record { id = inside.id; clock = inside.clock; knowledge = inside.knowledge; forgotten = inside.forgotten } in
    let were = c.in_ok-id.ensures.rests.same in
    let stayed = c.in_ok-changes.ensures.rests.same in
    let end = c.in_ok-changes.ensures.end in
    let changes = c.in_ok-changes.ensures.changes in
    let here = c.in_ok-here.ensures.value in
    right_batch g.row.U c.args.size m c.args.mode c.args.known.now c.args.from.now head c.in_ok-changes.to
    c.in_ok-changes.changes.items c.in_ok-here.here.items
    c.keeps.ensures.consistent c.requires.place
    (c.id.view_is ∙ c.in_ok-id.ensures.value)
    (rw were at end)
    (rw were at changes)
    (rw (stayed, were) at here)
