use Rattle.std.proofs.Common.{◌∙◌, ◌+◌, Some, ap, drop, refl, sym}
use Rattle.std.specs.Option.{option_copied}
use Rattle.sfx_item.specs.Item.{ItemData}
use Rattle.sfx_model.specs.members.Readings.{first_clash, is_in_the_way}
use Rattle.sfx_replica.proofs.ClashingItems.{end_gives, if_false, if_true, next_gives}
use Rattle.sfx_replica.proofs.clashes.first_clash.Goals as goal

pub loop-item-init : goal.loop-item-init
loop-item-init g c = refl

pub loop-item-preserved : goal.loop-item-preserved
loop-item-preserved g c =
    let name = c.args.name.now in
    let except = option_copied c.args.except in
    let next = first_clash name except (drop (c.loop-item.item-index + 1) c.args.items.now) in
    next_gives (first_clash name except) c.args.items.now c.loop-item.item-index c.item-item.result (first_clash name except c.args.items.now)
    c.item-item.is c.loop-item-test.true c.loop-item.invariant
    ∙ if_false (is_in_the_way name except c.item-item.result) (Some c.item-item.result.id) next
    (sym c.is_in_the_way.ensures ∙ c.if-is_in_the_way.false)

pub returns-then-is_in_the_way : goal.returns-then-is_in_the_way
returns-then-is_in_the_way g c =
    let name = c.args.name.now in
    let except = option_copied c.args.except in
    let next = first_clash name except (drop (c.loop-item.item-index + 1) c.args.items.now) in
    rw (ap (λ (x : ItemData). x.id) c.item.view_is)
    (sym
    (next_gives (first_clash name except) c.args.items.now c.loop-item.item-index c.item-item.result (first_clash name except c.args.items.now)
    c.item-item.is c.loop-item-test.true c.loop-item.invariant
    ∙ if_true (is_in_the_way name except c.item-item.result) (Some c.item-item.result.id) next
    (sym c.is_in_the_way.ensures ∙ c.if-is_in_the_way.true)))

pub returns : goal.returns
returns g c =
    let name = c.args.name.now in
    let except = option_copied c.args.except in
    sym
    (end_gives (first_clash name except) c.args.items.now c.loop-item.item-index (first_clash name except c.args.items.now)
    c.loop-item-test.false c.loop-item.invariant)
