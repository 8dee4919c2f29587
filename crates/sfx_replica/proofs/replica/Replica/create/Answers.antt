use Rattle.std.proofs.Common.{◌≡◌, ◌+◌, ◌<◌, None, ap, sym, refl, ◌∙◌, subst, slice_get}
use Rattle.sfx_ids.specs.Tick.{max_tick}
use Rattle.sfx_model.specs.world.Events.{Make}
use Rattle.sfx_item.specs.Item.{ItemData}
use Rattle.sfx_model.specs.members.Members.{Member, shown}
use Rattle.sfx_model.specs.members.ItemLists.{put_item}
use Rattle.sfx_model.specs.members.Replica.{ActsIn, RepresentsReplica}
use Rattle.sfx_model.specs.members.States.{created_contents, next_created, next_item, next_version}
use Rattle.sfx_model.proofs.members.EditsAct.{created_acts}
use Rattle.sfx_replica.specs.Edits.{created, risen}
use Rattle.sfx_replica.specs.Refusals.{create_refusal, first_name_refusal, full_clock}
use Rattle.sfx_replica.specs.Replica.{member_view}
use Rattle.sfx_replica.proofs.EditsKeepConsistency.{both_none, can_rise, created_consistent, next_put}
use Rattle.sfx_replica.proofs.replica.Replica.create.Goals as goal

pub invariant_of-self-2 : goal.invariant_of-self-2
invariant_of-self-2 g c =
    let m = member_view c.self.inside.id c.self.inside.clock c.self.inside.knowledge c.self.inside.forgotten c.self.inside.items.items in
    let item = c.in_ok-item.ensures.value ∙ ap (λ (x : Member). next_created x c.args.values.items) (sym c.self.view_is) in
    let holds = c.in_ok-put.ensures.ok ∙ ap (λ (x : ItemData). put_item x m.items) item ∙ next_put g.row.U m c.args.values.items c.self.invariant in
    let free : create_refusal m c.args.values.items ≡ None = subst (λ (x : Member). create_refusal x c.args.values.items ≡ None) (sym c.self.view_is) c.in_ok-item.ensures.refused in
    rw holds (created_consistent g.row.U m c.args.values.items c.self.invariant c.requires.whole free)

pub returns-clause-acts : goal.returns-clause-acts
returns-clause-acts g c w ok units stands =
    let m = member_view c.self.inside.id c.self.inside.clock c.self.inside.knowledge c.self.inside.forgotten c.self.inside.items.items in
    let item = c.in_ok-item.ensures.value ∙ ap (λ (x : Member). next_created x c.args.values.items) (sym c.self.view_is) in
    let holds = c.in_ok-put.ensures.ok ∙ ap (λ (x : ItemData). put_item x m.items) item ∙ next_put g.row.U m c.args.values.items c.self.invariant in
    let here : RepresentsReplica w m.id (shown m) = subst (λ (x : Member). RepresentsReplica w x.id (shown x)) (sym c.self.view_is) stands in
    let free : create_refusal m c.args.values.items ≡ None = subst (λ (x : Member). create_refusal x c.args.values.items ≡ None) (sym c.self.view_is) c.in_ok-item.ensures.refused in
    let room : m.clock < max_tick = can_rise m (both_none (first_name_refusal m (slice_get c.args.values.items 0)) (full_clock m) free).1 in
    let n = member_view c.self.inside.id (c.self.inside.clock + 1) c.self.inside.knowledge c.self.inside.forgotten c.put.new.items.items in
    subst (λ (x : Member). ActsIn w (Make x.id (next_item x) (next_version x) (created_contents c.args.values.items)) x.id n) c.self.view_is
    (created_acts w m n c.args.values.items ok here c.self.invariant.ascending room (c.requires.whole ∙ sym units)
    (record { id = refl; clock = refl; knowledge = λ place u r there small other. refl; forgotten = refl; holds = holds }))

pub returns-clause-after : goal.returns-clause-after
returns-clause-after g c =
    let m = member_view c.self.inside.id c.self.inside.clock c.self.inside.knowledge c.self.inside.forgotten c.self.inside.items.items in
    let item = c.in_ok-item.ensures.value ∙ ap (λ (x : Member). next_created x c.args.values.items) (sym c.self.view_is) in
    let holds = c.in_ok-put.ensures.ok ∙ ap (λ (x : ItemData). put_item x m.items) item ∙ next_put g.row.U m c.args.values.items c.self.invariant in
    ap (risen m) holds ∙ ap (λ (x : Member). created x c.args.values.items) c.self.view_is
