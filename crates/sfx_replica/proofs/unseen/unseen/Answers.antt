use Rattle.std.proofs.Common.{◌≡◌, ◌∙◌, ◌<◌, ◌≤◌, ap, sym, true, false, drop, length, arith}
use Rattle.std.proofs.lemmas.Result.{err_from_is_err_and}
use Rattle.sfx_item.specs.Item.{ItemData}
use Rattle.sfx_model.specs.members.Readings.{unseen}
use Rattle.sfx_replica.specs.Items.{is_next_unseen}
use Rattle.sfx_replica.proofs.UnseenItems.{gathered_end, gathered_full, gathers_none, next_found, next_passed}
use Rattle.sfx_replica.proofs.unseen.unseen.Goals as goal

pub loop-item-preserved : goal.loop-item-preserved
loop-item-preserved g c =
    let len = c.len.ensures in
    let less = c.if-len-limit.false in
    let room : length c.loop-item.ids.items < c.args.limit = omega (arith, len, less) in
    let next : is_next_unseen g.row.U c.args.to.now c.args.from.now c.item-item.result ≡ true = sym c.is_next_unseen.ensures ∙ c.if-not-is_next_unseen.false in
    rw (c.in_ok-push.ensures.items, ap (λ (x : ItemData). x.id) c.item.view_is)
    (next_found g.row.U (λ x. x.id) c.args.limit c.args.to.now c.args.from.now c.args.items.now c.loop-item.item-index c.item-item.result c.loop-item.ids.items
    c.item-item.is c.loop-item-test.true c.loop-item.invariant next room)

pub loop-item-init : goal.loop-item-init
loop-item-init g c =
    rw c.new-ids.ensures.items (gathers_none (λ x. x.id) c.args.limit (unseen g.row.U c.args.to.now c.args.from.now c.args.items.now))

pub loop-item-preserved-then-not-is_next_unseen : goal.loop-item-preserved-then-not-is_next_unseen
loop-item-preserved-then-not-is_next_unseen g c =
    let next : is_next_unseen g.row.U c.args.to.now c.args.from.now c.item-item.result ≡ false = sym c.is_next_unseen.ensures ∙ c.if-not-is_next_unseen.true in
    next_passed g.row.U (λ x. x.id) c.args.limit c.args.to.now c.args.from.now c.args.items.now c.loop-item.item-index c.item-item.result c.loop-item.ids.items
    c.item-item.is c.loop-item-test.true c.loop-item.invariant next

pub returns-then-len-limit : goal.returns-then-len-limit
returns-then-len-limit g c =
    let len = c.len.ensures in
    let more = c.if-len-limit.true in
    let full : c.args.limit ≤ length c.loop-item.ids.items = omega (arith, len, more) in
    gathered_full (λ x. x.id) c.args.limit (unseen g.row.U c.args.to.now c.args.from.now c.args.items.now) c.loop-item.ids.items
    (unseen g.row.U c.args.to.now c.args.from.now (drop c.loop-item.item-index c.args.items.now)) c.loop-item.invariant full

pub returns-in_err-push : goal.returns-in_err-push
returns-in_err-push g c =
    let (fault, is, same) = err_from_is_err_and c.from_residual.result c.from_residual.ensures.1 in
    rw is tt

pub returns : goal.returns
returns g c =
    gathered_end g.row.U (λ x. x.id) c.args.limit c.args.to.now c.args.from.now c.args.items.now c.loop-item.item-index c.loop-item.ids.items
    c.loop-item-test.false c.loop-item.invariant
