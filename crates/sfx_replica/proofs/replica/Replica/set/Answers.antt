use Rattle.std.proofs.Common.{◌≡◌, ◌<◌, ℕ, List, Some, ap, sym, refl, ◌∙◌, subst, length, arith}
use Rattle.std.proofs.lemmas.Result.{err_from_is_err_and}
use Rattle.sfx_item.specs.declared.cell.Cell.{Cell}
use Rattle.sfx_item.specs.declared.item.Item.{Item}
use Rattle.sfx_model.specs.world.Events.{Make}
use Rattle.sfx_item.specs.Item.{Live}
use Rattle.sfx_model.specs.members.Members.{Member, shown}
use Rattle.sfx_model.specs.members.Replica.{ActsIn, RepresentsReplica}
use Rattle.sfx_model.specs.members.States.{cells_with, edited_contents, next_version, with_state}
use Rattle.sfx_model.proofs.members.EditsAct.{edited_acts}
use Rattle.sfx_provider.proofs.AnswerLemmas.{when_always}
use Rattle.sfx_replica.specs.Refusals.{refuses_edit}
use Rattle.sfx_replica.specs.Edits.{edited, edited_from, risen}
use Rattle.sfx_replica.specs.Replica.{member_view}
use Rattle.sfx_replica.proofs.EditsKeepConsistency.{edited_consistent}
use Rattle.sfx_items.proofs.ItemListLemmas.{at_place}
use Rattle.sfx_replica.proofs.RefusalsLemmas.{refused_write}
use Rattle.sfx_replica.proofs.EditsLemmas.{IsWritten, written}
use Rattle.sfx_replica.proofs.replica.Replica.set.Goals as goal

pub returns-in_err-place-clause-refused : goal.returns-in_err-place-clause-refused
returns-in_err-place-clause-refused g c =
    let items = ap (λ (m : Member). m.items) c.self.view_is in
    let (fault, is, same) = err_from_is_err_and c.from_residual.result c.from_residual.ensures.1 in
    let refused = c.in_err-place.ensures.err c.args.self.now c.args.value in
    let here = rw (c.as_slice.ensures.value, items) at refused in
    rw (is, same) (when_always (refuses_edit c.in_err-place.field-0.0) here)

pub returns-in_err-place-clause-made : goal.returns-in_err-place-clause-made
returns-in_err-place-clause-made g c =
    let (fault, is, same) = err_from_is_err_and c.from_residual.result c.from_residual.ensures.1 in
    rw is tt

pub returns-in_err-place-clause-after : goal.returns-in_err-place-clause-after
returns-in_err-place-clause-after g c =
    let (fault, is, same) = err_from_is_err_and c.from_residual.result c.from_residual.ensures.1 in
    rw is tt

pub returns-in_err-place-clause-err : goal.returns-in_err-place-clause-err
returns-in_err-place-clause-err g c =
    let (fault, is, same) = err_from_is_err_and c.from_residual.result c.from_residual.ensures.1 in
    rw is refl

pub returns-in_err-place-clause-acts : goal.returns-in_err-place-clause-acts
returns-in_err-place-clause-acts g c =
    let (fault, is, same) = err_from_is_err_and c.from_residual.result c.from_residual.ensures.1 in
    rw is tt

pub returns-in_err-cell-clause-refused : goal.returns-in_err-cell-clause-refused
returns-in_err-cell-clause-refused g c =
    let items = ap (λ (m : Member). m.items) c.self.view_is in
    let target = c.in_ok-place.ensures.ok in
    let there = target.live.1 in
    let live = rw (c.as_slice.ensures.value, items) at there in
    let (fault, is, same) = err_from_is_err_and c.from_residual-in_err-cell.result c.from_residual-in_err-cell.ensures.1 in
    rw (is, refused_write g.row.U c.args.self.now c.args.self.now.items c.args.id.now c.args.k c.args.value target.live.0 live target.inside, same)
    c.in_err-cell.ensures.refused

pub returns-in_err-cell-clause-made : goal.returns-in_err-cell-clause-made
returns-in_err-cell-clause-made g c =
    let (fault, is, same) = err_from_is_err_and c.from_residual-in_err-cell.result c.from_residual-in_err-cell.ensures.1 in
    rw is tt

pub returns-in_err-cell-clause-after : goal.returns-in_err-cell-clause-after
returns-in_err-cell-clause-after g c =
    let (fault, is, same) = err_from_is_err_and c.from_residual-in_err-cell.result c.from_residual-in_err-cell.ensures.1 in
    rw is tt

pub returns-in_err-cell-clause-err : goal.returns-in_err-cell-clause-err
returns-in_err-cell-clause-err g c =
    let (fault, is, same) = err_from_is_err_and c.from_residual-in_err-cell.result c.from_residual-in_err-cell.ensures.1 in
    rw is refl

pub returns-in_err-cell-clause-acts : goal.returns-in_err-cell-clause-acts
returns-in_err-cell-clause-acts g c =
    let (fault, is, same) = err_from_is_err_and c.from_residual-in_err-cell.result c.from_residual-in_err-cell.ensures.1 in
    rw is tt

pub write-requires : goal.write-requires
write-requires g c =
    let inside = (at_place c.self.inside.items.items c.as_slice.result.now c.args.id.now c.in_ok-place.place (Some c.in_ok-place.place)
    c.as_slice.ensures.value (sym c.in_ok-place.ensures.ok.found) refl).inside in
    let whole = ap length c.as_slice.ensures.value in
    let len = c.as_slice.ensures.len in
    (omega arith, (omega arith, omega (arith, inside, whole, len)))

pub invariant_of-self : goal.invariant_of-self
invariant_of-self g c = rw c.in_err-write.ensures.err c.self.invariant

pub returns-in_err-write-clause-refused : goal.returns-in_err-write-clause-refused
returns-in_err-write-clause-refused g c =
    let (fault, is, same) = err_from_is_err_and c.from_residual-in_err-write.result c.from_residual-in_err-write.ensures.1 in
    rw (is, same) tt

pub returns-in_err-write-clause-made : goal.returns-in_err-write-clause-made
returns-in_err-write-clause-made g c =
    let (fault, is, same) = err_from_is_err_and c.from_residual-in_err-write.result c.from_residual-in_err-write.ensures.1 in
    rw is tt

pub returns-in_err-write-clause-after : goal.returns-in_err-write-clause-after
returns-in_err-write-clause-after g c =
    let (fault, is, same) = err_from_is_err_and c.from_residual-in_err-write.result c.from_residual-in_err-write.ensures.1 in
    rw is tt

pub returns-in_err-write-clause-err : goal.returns-in_err-write-clause-err
returns-in_err-write-clause-err g c =
    let (fault, is, same) = err_from_is_err_and c.from_residual-in_err-write.result c.from_residual-in_err-write.ensures.1 in
    rw is
    (ap (λ (xs : List (Item g.row.U)). member_view c.self.inside.id c.self.inside.clock c.self.inside.knowledge c.self.inside.forgotten xs) c.in_err-write.ensures.err
    ∙ c.self.view_is)

pub returns-in_err-write-clause-acts : goal.returns-in_err-write-clause-acts
returns-in_err-write-clause-acts g c =
    let (fault, is, same) = err_from_is_err_and c.from_residual-in_err-write.result c.from_residual-in_err-write.ensures.1 in
    rw is tt

pub invariant_of-self-2 : goal.invariant_of-self-2
invariant_of-self-2 g c =
    let m = member_view c.self.inside.id c.self.inside.clock c.self.inside.knowledge c.self.inside.forgotten c.self.inside.items.items in
    let wrote : IsWritten g.row.U m c.args.id.now c.args.k c.args.value c.write.new.items.items =
    written g.row.U m c.args.self.now c.self.inside.items.items c.as_slice.result.now c.write.new.items.items c.args.id.now c.args.k c.in_ok-place.place c.in_ok-place.unit
    c.args.value c.in_ok-cell.cell c.self.view_is refl c.as_slice.ensures.value c.in_ok-place.ensures.ok c.in_ok-cell.ensures.refused c.in_ok-cell.ensures.value
    c.in_ok-write.ensures.ok in
    rw wrote.holds (edited_consistent g.row.U m c.args.id.now wrote.cells c.args.k c.args.value c.self.invariant wrote.live wrote.may)

pub returns-clause-refused : goal.returns-clause-refused
returns-clause-refused g c =
    let items = ap (λ (m : Member). m.items) c.self.view_is in
    let target = c.in_ok-place.ensures.ok in
    let there = target.live.1 in
    let live = rw (c.as_slice.ensures.value, items) at there in
    rw (refused_write g.row.U c.args.self.now c.args.self.now.items c.args.id.now c.args.k c.args.value target.live.0 live target.inside)
    c.in_ok-cell.ensures.refused

pub returns-clause-made : goal.returns-clause-made
returns-clause-made g c = ap (λ (x : Cell). x.version) c.in_ok-cell.ensures.value

pub returns-clause-after : goal.returns-clause-after
returns-clause-after g c =
    let m = member_view c.self.inside.id c.self.inside.clock c.self.inside.knowledge c.self.inside.forgotten c.self.inside.items.items in
    let wrote : IsWritten g.row.U m c.args.id.now c.args.k c.args.value c.write.new.items.items =
    written g.row.U m c.args.self.now c.self.inside.items.items c.as_slice.result.now c.write.new.items.items c.args.id.now c.args.k c.in_ok-place.place c.in_ok-place.unit
    c.args.value c.in_ok-cell.cell c.self.view_is refl c.as_slice.ensures.value c.in_ok-place.ensures.ok c.in_ok-cell.ensures.refused c.in_ok-cell.ensures.value
    c.in_ok-write.ensures.ok in
    let now : edited m c.args.id.now c.args.k c.args.value ≡ risen m (with_state c.args.id.now (Live (cells_with m wrote.cells c.args.k c.args.value)) m.items) =
    ap (edited_from m c.args.id.now c.args.k c.args.value) wrote.live in
    let n = risen m c.write.new.items.items in
    subst (λ (x : Member). n ≡ edited x c.args.id.now c.args.k c.args.value) c.self.view_is (ap (risen m) wrote.holds ∙ sym now)

pub returns-clause-err : goal.returns-clause-err
returns-clause-err g c = tt

pub returns-clause-acts : goal.returns-clause-acts
returns-clause-acts g c w ok units stands =
    let m = member_view c.self.inside.id c.self.inside.clock c.self.inside.knowledge c.self.inside.forgotten c.self.inside.items.items in
    let wrote : IsWritten g.row.U m c.args.id.now c.args.k c.args.value c.write.new.items.items =
    written g.row.U m c.args.self.now c.self.inside.items.items c.as_slice.result.now c.write.new.items.items c.args.id.now c.args.k c.in_ok-place.place c.in_ok-place.unit
    c.args.value c.in_ok-cell.cell c.self.view_is refl c.as_slice.ensures.value c.in_ok-place.ensures.ok c.in_ok-cell.ensures.refused c.in_ok-cell.ensures.value
    c.in_ok-write.ensures.ok in
    let n = risen m c.write.new.items.items in
    let here : RepresentsReplica w m.id (shown m) = subst (λ (x : Member). RepresentsReplica w x.id (shown x)) (sym c.self.view_is) stands in
    subst (λ (x : Member). ActsIn w (Make x.id c.args.id.now (next_version x) (edited_contents c.args.k c.args.value)) x.id n) c.self.view_is
    (edited_acts w m n c.args.id.now c.args.k c.args.value wrote.cells ok here c.self.invariant.ascending wrote.may.room
    (subst (λ (x : ℕ). c.args.k < x) (sym units) wrote.may.inside) wrote.live
    (record { id = refl; clock = refl; knowledge = λ place u r there small other. refl; forgotten = refl; holds = wrote.holds }))
