use Rattle.std.proofs.Common.{◌≡◌, ◌∙◌, ◌<◌, sym, true, false, length, arith}
use Rattle.std.proofs.lemmas.Result.{err_from_is_err_and}
use Rattle.sfx_model.specs.members.Readings.{unseen}
use Rattle.sfx_replica.specs.Items.{is_next_unseen}
use Rattle.sfx_replica.proofs.UnseenItems.{gathers_none, next_found, next_passed}
use Rattle.sfx_replica.proofs.unseen.unseen_copies.Goals as goal

pub loop-item-preserved : goal.loop-item-preserved
loop-item-preserved g c =
    let copies = c.loop-item.copies.items in
    let len = c.len.ensures in
    let less = c.if-len-limit.false in
    let room : length copies < c.args.limit = omega (arith, len, less) in
    let next : is_next_unseen g.row.U c.args.to.now c.args.from.now c.item-item.result ≡ true = sym c.is_next_unseen.ensures ∙ c.if-not-is_next_unseen.false in
    rw (c.in_ok-push.ensures.items, c.in_ok-copy.ensures)
    (next_found g.row.U (λ x. x) c.args.limit c.args.to.now c.args.from.now c.args.items.now c.loop-item.item-index c.item-item.result copies
    c.item-item.is c.loop-item-test.true c.loop-item.invariant next room)

pub loop-item-init : goal.loop-item-init
loop-item-init g c =
    rw c.new-copies.ensures.items (gathers_none (λ x. x) c.args.limit (unseen g.row.U c.args.to.now c.args.from.now c.args.items.now))

pub loop-item-preserved-then-not-is_next_unseen : goal.loop-item-preserved-then-not-is_next_unseen
loop-item-preserved-then-not-is_next_unseen g c =
    let next : is_next_unseen g.row.U c.args.to.now c.args.from.now c.item-item.result ≡ false = sym c.is_next_unseen.ensures ∙ c.if-not-is_next_unseen.true in
    next_passed g.row.U (λ x. x) c.args.limit c.args.to.now c.args.from.now c.args.items.now c.loop-item.item-index c.item-item.result c.loop-item.copies.items
    c.item-item.is c.loop-item-test.true c.loop-item.invariant next

pub returns-in_err-copy : goal.returns-in_err-copy
returns-in_err-copy g c =
    let (fault, is, same) = err_from_is_err_and c.from_residual.result c.from_residual.ensures.1 in
    rw is tt

pub returns-in_err-push : goal.returns-in_err-push
returns-in_err-push g c =
    let (fault, is, same) = err_from_is_err_and c.from_residual-in_err-push.result c.from_residual-in_err-push.ensures.1 in
    rw is tt
