use Rattle.std.proofs.Common.{◌≡◌, sym, subst, ℕ, true}
use Rattle.sfx_model.specs.world.Events.{some_unit}
use Rattle.sfx_model.specs.members.Readings.{is_unseen_at}
use Rattle.sfx_model.proofs.world.UnitMarkLemmas.{some_of}
use Rattle.sfx_replica.proofs.unseen.is_unseen.Goals as goal

pub returns-in-loop-k : goal.returns-in-loop-k
returns-in-loop-k g c =
    let is : is_unseen_at c.args.to.now c.args.item.now.id c.args.item.now.state c.in-Some.unit ≡ true = sym c.if-is_unseen_at.ensures in
    let at : is_unseen_at c.args.to.now c.args.item.now.id c.args.item.now.state c.loop-k.k ≡ true =
    subst (λ (u : ℕ). is_unseen_at c.args.to.now c.args.item.now.id c.args.item.now.state u ≡ true) c.in-Some.ensures.value is in
    let some : some_unit (is_unseen_at c.args.to.now c.args.item.now.id c.args.item.now.state) g.row.U ≡ true =
    some_of (is_unseen_at c.args.to.now c.args.item.now.id c.args.item.now.state) g.row.U c.loop-k.k c.loop-k-test.true at in
    sym some
