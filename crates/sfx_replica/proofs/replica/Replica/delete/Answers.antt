use Rattle.std.proofs.Common.{◌≡◌, ℕ, Some, ap, sym, refl, subst, length, arith}
use Rattle.sfx_item.specs.Item.{Dead}
use Rattle.sfx_model.specs.world.Events.{Make}
use Rattle.sfx_model.specs.members.Members.{Member, shown}
use Rattle.sfx_model.specs.members.Replica.{ActsIn, RepresentsReplica}
use Rattle.sfx_model.specs.members.States.{deleted_contents, next_version, with_state}
use Rattle.sfx_model.proofs.members.EditsAct.{deleted_acts}
use Rattle.sfx_replica.specs.Edits.{risen}
use Rattle.sfx_replica.specs.Replica.{member_view}
use Rattle.sfx_replica.proofs.EditsKeepConsistency.{deleted_consistent}
use Rattle.sfx_items.proofs.ItemListLemmas.{at_place}
use Rattle.sfx_replica.proofs.EditsLemmas.{IsBuried, buried}
use Rattle.sfx_replica.proofs.replica.Replica.delete.Goals as goal

pub bury-requires : goal.bury-requires
bury-requires g c =
    let inside = (at_place c.self.inside.items.items c.as_slice.result.now c.args.id.now c.in_ok-place.place (Some c.in_ok-place.place)
    c.as_slice.ensures.value (sym c.in_ok-place.ensures.ok.found) refl).inside in
    let whole = ap length c.as_slice.ensures.value in
    let len = c.as_slice.ensures.len in
    (omega arith, omega (arith, inside, whole, len))

pub invariant_of-self : goal.invariant_of-self
invariant_of-self g c =
    let m = member_view c.self.inside.id c.self.inside.clock c.self.inside.knowledge c.self.inside.forgotten c.self.inside.items.items in
    let gone : IsBuried m c.args.id.now c.bury.new.items.items =
    buried m c.args.self.now c.self.inside.items.items c.as_slice.result.now c.bury.new.items.items c.args.id.now c.in_ok-place.place c.in_ok-made.made
    c.self.view_is refl c.as_slice.ensures.value c.in_ok-place.ensures.ok c.in_ok-made.ensures.refused c.in_ok-made.ensures.value c.bury.ensures in
    rw gone.holds (deleted_consistent g.row.U m c.args.id.now gone.cells c.self.invariant gone.live gone.room)

pub returns-clause-acts : goal.returns-clause-acts
returns-clause-acts g c w ok units stands =
    let m = member_view c.self.inside.id c.self.inside.clock c.self.inside.knowledge c.self.inside.forgotten c.self.inside.items.items in
    let gone : IsBuried m c.args.id.now c.bury.new.items.items =
    buried m c.args.self.now c.self.inside.items.items c.as_slice.result.now c.bury.new.items.items c.args.id.now c.in_ok-place.place c.in_ok-made.made
    c.self.view_is refl c.as_slice.ensures.value c.in_ok-place.ensures.ok c.in_ok-made.ensures.refused c.in_ok-made.ensures.value c.bury.ensures in
    let n = risen m c.bury.new.items.items in
    let here : RepresentsReplica w m.id (shown m) = subst (λ (x : Member). RepresentsReplica w x.id (shown x)) (sym c.self.view_is) stands in
    subst (λ (x : Member). ActsIn w (Make x.id c.args.id.now (next_version x) (deleted_contents g.row.U)) x.id n) c.self.view_is
    (subst (λ (u : ℕ). ActsIn w (Make m.id c.args.id.now (next_version m) (deleted_contents u)) m.id n) units
    (deleted_acts w m n c.args.id.now gone.cells ok here c.self.invariant.ascending gone.room gone.live
    (record { id = refl; clock = refl; knowledge = λ place u r there small other. refl; forgotten = refl; holds = gone.holds })))
