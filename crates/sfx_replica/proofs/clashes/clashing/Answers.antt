use Rattle.std.proofs.Common.{◌≡◌, ◌∙◌, ◌+◌, ◌++◌, ◌∷◌, [], List, ap, drop, refl, sym}
use Rattle.std.proofs.lemmas.List.{append-nil}
use Rattle.std.proofs.lemmas.Result.{err_from_is_err_and}
use Rattle.std.specs.Option.{option_copied}
use Rattle.sfx_item.specs.Item.{ItemData}
use Rattle.sfx_model.specs.members.Readings.{clashing_with}
use Rattle.sfx_replica.proofs.ClashingItems.{clashing_more, clashing_past, end_gives, next_gives}
use Rattle.sfx_replica.proofs.clashes.clashing.Goals as goal
use Rattle.sfx_replica.proofs.clashes.clashing.Goals.{then-is_in_the_way+in_ok-push, else-is_in_the_way}

pub loop-item-init : goal.loop-item-init
loop-item-init g c = rw c.new-ids.ensures.items refl

pub loop-item-preserved : goal.loop-item-preserved
loop-item-preserved g c =
    let name = c.args.name.now in
    let except = option_copied c.args.except in
    let left = (drop (c.loop-item.item-index + 1) c.args.items.now) in
    let whole = clashing_with name except c.args.items.now in
    let so_far : whole ≡ c.loop-item.ids.items ++ clashing_with name except (c.item-item.result ∷ left) =
    next_gives (λ (xs : List ItemData). c.loop-item.ids.items ++ clashing_with name except xs) c.args.items.now c.loop-item.item-index c.item-item.result whole
    c.item-item.is c.loop-item-test.true c.loop-item.invariant in
    elim c.if-is_in_the_way.branch [
      | then-is_in_the_way+in_ok-push w ↦
          clashing_more name except c.item-item.result left whole c.loop-item.ids.items c.if-is_in_the_way.ids.items
          (sym c.is_in_the_way.ensures ∙ w.if-is_in_the_way.true) so_far (ap (λ ids. ids.items) w.ids-is ∙ w.in_ok-push.ensures.items ∙ ap (λ (x : ItemData). c.loop-item.ids.items ++ x.id ∷ []) c.item.view_is)
      | else-is_in_the_way w ↦
          rw w.ids-is
          (clashing_past name except c.item-item.result left whole c.loop-item.ids.items
          (sym c.is_in_the_way.ensures ∙ w.if-is_in_the_way.false) so_far)
    ]

pub returns-in_err-push : goal.returns-in_err-push
returns-in_err-push g c =
    let (fault, is, same) = err_from_is_err_and c.from_residual.result c.from_residual.ensures.1 in
    rw is tt

pub returns : goal.returns
returns g c =
    let name = c.args.name.now in
    let except = option_copied c.args.except in
    let all = end_gives (λ (xs : List ItemData). c.loop-item.ids.items ++ clashing_with name except xs) c.args.items.now c.loop-item.item-index
    (clashing_with name except c.args.items.now) c.loop-item-test.false c.loop-item.invariant in
    sym (all ∙ append-nil c.loop-item.ids.items)
