use Rattle.std.proofs.Common.{◌≡◌, ◌-◌, ◌<◌, ◌∙◌, Some, ap, arith, length, suc, sym}
use Rattle.sfx_item.specs.Item.{ItemData}
use Rattle.sfx_items.specs.Places.{count_before}
use Rattle.sfx_items.proofs.ItemListLemmas.{count_within, last_at, last_none}
use Rattle.sfx_items.proofs.beside.last_before.Goals as goal

pub returns-then-count-eq0 : goal.returns-then-count-eq0
returns-then-count-eq0 g c =
    sym (last_none c.args.place.now c.args.items.now c.requires.ascending (sym c.place_from-count.ensures ∙ c.if-count-eq0.true))

pub bounds-items-count : goal.bounds-items-count
bounds-items-count g c =
    let within = count_within c.args.place.now c.args.items.now in
    let count = c.place_from-count.ensures in
    omega (arith, within, count)

pub offset_bounds-items-count : goal.offset_bounds-items-count
offset_bounds-items-count g c =
    let within = count_within c.args.place.now c.args.items.now in
    let count = c.place_from-count.ensures in
    let inside : c.place_from-count.result - 1 < length c.args.items.now = omega (arith, within, count) in
    omega (arith, inside)

pub returns : goal.returns
returns g c =
    let count : count_before c.args.place.now c.args.items.now ≡ suc (c.place_from-count.result - 1) =
    let e = c.place_from-count.ensures in omega (arith, e) in
    ap (λ (x : ItemData). Some x) c.index-items-count.is
    ∙ sym (last_at c.args.place.now c.args.items.now (c.place_from-count.result - 1) c.index-items-count.result c.requires.ascending count)
