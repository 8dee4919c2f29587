use Rattle.std.proofs.Common.{◌∙◌, sym}
use Rattle.sfx_items.proofs.ItemListLemmas.{id_equal, id_greater, id_less, next_is_both, next_is_held, next_is_put, next_of_held, next_of_puts}
use Rattle.sfx_items.proofs.many.next.Goals as goal

pub returns-in-None-default-clause-next : goal.returns-in-None-default-clause-next
returns-in-None-default-clause-next g c =
    next_of_puts c.args.held.now.items c.args.puts.now.items c.pop_front.new.self.items c.pop_front.result c.requires.puts
    c.in-None-default.ensures.item.3 c.pop_front.ensures.items c.pop_front.ensures.rest

pub returns-in_default-None-clause-next : goal.returns-in_default-None-clause-next
returns-in_default-None-clause-next g c =
    next_of_held c.args.held.now.items c.args.puts.now.items c.pop_front-in_default-None.new.self.items c.pop_front-in_default-None.result
    c.in_default-None.ensures.item.3 c.pop_front-in_default-None.ensures.items c.pop_front-in_default-None.ensures.rest

pub returns-in-Less-clause-next : goal.returns-in-Less-clause-next
returns-in-Less-clause-next g c =
    let item = c.in-Some-Some.item.now in
    let put = c.in-Some-Some.put.now in
    next_is_held c.args.held.now.items c.args.puts.now.items c.pop_front-in-Less.new.self.items c.pop_front-in-Less.result item put
    c.requires.puts c.in-Some-Some.ensures.item.3.0 c.in-Some-Some.ensures'.item.3.0 c.in-Some-Some.ensures.item.1 c.in-Some-Some.ensures'.item.1
    (id_less item.id put.id (rw (sym c.item.view_is, sym c.put.view_is) (sym c.cmp.ensures ∙ c.in-Less.is))) c.pop_front-in-Less.ensures.items c.pop_front-in-Less.ensures.rest

pub returns-in-Equal-clause-next : goal.returns-in-Equal-clause-next
returns-in-Equal-clause-next g c =
    let item = c.in-Some-Some.item.now in
    let put = c.in-Some-Some.put.now in
    next_is_both c.args.held.now.items c.args.puts.now.items c.pop_front-in-Equal.new.self.items c.pop_front-in-Equal-2.new.self.items
    c.pop_front-in-Equal.result c.pop_front-in-Equal-2.result c.and.result item put
    c.requires.puts c.in-Some-Some.ensures.item.3.0 c.in-Some-Some.ensures'.item.3.0 c.in-Some-Some.ensures.item.1 c.in-Some-Some.ensures'.item.1
    (id_equal item.id put.id (rw (sym c.item.view_is, sym c.put.view_is) (sym c.cmp.ensures ∙ c.in-Equal.is))) c.pop_front-in-Equal.ensures.items c.pop_front-in-Equal.ensures.rest
    c.pop_front-in-Equal-2.ensures.items c.pop_front-in-Equal-2.ensures.rest c.and.ensures

pub returns-in-Greater-clause-next : goal.returns-in-Greater-clause-next
returns-in-Greater-clause-next g c =
    let item = c.in-Some-Some.item.now in
    let put = c.in-Some-Some.put.now in
    next_is_put c.args.held.now.items c.args.puts.now.items c.pop_front-in-Greater.new.self.items c.pop_front-in-Greater.result item put
    c.requires.held c.requires.puts c.in-Some-Some.ensures.item.3.0 c.in-Some-Some.ensures'.item.3.0 c.in-Some-Some.ensures.item.1
    c.in-Some-Some.ensures'.item.1 (id_greater item.id put.id (rw (sym c.item.view_is, sym c.put.view_is) (sym c.cmp.ensures ∙ c.in-Greater.is))) c.pop_front-in-Greater.ensures.items
    c.pop_front-in-Greater.ensures.rest
