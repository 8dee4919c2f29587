use Rattle.std.proofs.Common.{◌∙◌, ap, arith, length}
use Rattle.sfx_ids.specs.declared.cut.Cut.{Cut}
use Rattle.sfx_ids.specs.declared.cut.Cut.TheVariants.{At}
use Rattle.sfx_item.specs.Item.{ItemData}
use Rattle.sfx_items.specs.Places.{count_before}
use Rattle.sfx_items.proofs.ItemListLemmas.{at_found, count_within, none_found, put_new, put_there}
use Rattle.sfx_items.proofs.one.put.Goals as goal

pub index_mut-requires : goal.index_mut-requires
index_mut-requires g c =
    let at = ap (λ (x : ItemData). At x.id) c.item.view_is in
    let place = at_found c.args.items.now.items c.as_slice.result.now c.args.item.id c.search-found.result.place c.search-found.result.exact
    c.as_slice.ensures.value (c.search-found.ensures.exact c.args.item.id at) c.if-found.true in
    let inside = place.inside in
    let whole = ap length c.as_slice.ensures.value in
    let len = c.as_slice.ensures.len in
    omega (arith, inside, whole, len)

pub insert-requires : goal.insert-requires
insert-requires g c =
    let within = count_within (At c.args.item.id) c.as_slice.result.now in
    let at = ap (λ (x : ItemData). count_before (At x.id) c.as_slice.result.now) c.item.view_is in
    let place = c.search-found.ensures.place ∙ at in
    let len = c.as_slice.ensures.len in
    omega (arith, within, place, len)

pub returns-then-found-clause-ok : goal.returns-then-found-clause-ok
returns-then-found-clause-ok g c =
    let at = ap (λ (x : ItemData). At x.id) c.item.view_is in
    put_there c.args.items.now.items c.args.item c.search-found.result.place
    (at_found c.args.items.now.items c.as_slice.result.now c.args.item.id c.search-found.result.place c.search-found.result.exact
    c.as_slice.ensures.value (c.search-found.ensures.exact c.args.item.id at) c.if-found.true)

pub returns-in_ok-insert-clause-ok : goal.returns-in_ok-insert-clause-ok
returns-in_ok-insert-clause-ok g c =
    let at = ap (λ (x : ItemData). At x.id) c.item.view_is in
    rw c.in_ok-insert.ensures.items
    (put_new c.args.items.now.items c.args.item c.search-found.result.place
    (none_found c.args.items.now.items c.as_slice.result.now c.args.item.id c.search-found.result.place c.search-found.result.exact
    c.as_slice.ensures.value (c.search-found.ensures.exact c.args.item.id at) c.if-found.false)
    (c.search-found.ensures.place ∙ ap (λ (i : Cut). count_before i c.as_slice.result.now) at ∙ ap (λ xs. count_before (At c.args.item.id) xs) c.as_slice.ensures.value))
