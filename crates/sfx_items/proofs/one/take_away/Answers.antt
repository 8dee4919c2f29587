use Rattle.std.proofs.Common.{ap, arith, length, sym}
use Rattle.sfx_items.proofs.ItemListLemmas.{at_place, drop_absent, id_there, not_there, state_there}
use Rattle.sfx_items.proofs.one.take_away.Goals as goal

pub remove-requires : goal.remove-requires
remove-requires g c =
    let place = at_place c.args.items.now.items c.as_slice.result.now c.args.id.now c.in-Some.place c.place_of.result c.as_slice.ensures.value c.place_of.ensures c.in-Some.is in
    let inside = place.inside in
    let whole = ap length c.as_slice.ensures.value in
    let len = c.as_slice.ensures.len in
    omega (arith, inside, whole, len)

pub returns-in-Some-clause-items : goal.returns-in-Some-clause-items
returns-in-Some-clause-items g c =
    let place = at_place c.args.items.now.items c.as_slice.result.now c.args.id.now c.in-Some.place c.place_of.result c.as_slice.ensures.value c.place_of.ensures c.in-Some.is in
    rw c.remove.ensures.items place.removed

pub returns-in-Some-clause-state : goal.returns-in-Some-clause-state
returns-in-Some-clause-state g c =
    let place = at_place c.args.items.now.items c.as_slice.result.now c.args.id.now c.in-Some.place c.place_of.result c.as_slice.ensures.value c.place_of.ensures c.in-Some.is in
    sym (state_there c.args.items.now.items c.args.id.now c.in-Some.place c.remove.result place c.remove.ensures.value)

pub returns-in-Some-clause-same : goal.returns-in-Some-clause-same
returns-in-Some-clause-same g c =
    let place = at_place c.args.items.now.items c.as_slice.result.now c.args.id.now c.in-Some.place c.place_of.result c.as_slice.ensures.value c.place_of.ensures c.in-Some.is in
    id_there c.args.items.now.items c.args.id.now c.in-Some.place c.remove.result place c.remove.ensures.value

pub returns-in-None-clause-items : goal.returns-in-None-clause-items
returns-in-None-clause-items g c =
    let none = not_there c.args.items.now.items c.as_slice.result.now c.args.id.now c.place_of.result c.as_slice.ensures.value c.place_of.ensures c.in-None.is in
    sym (drop_absent c.args.id.now c.args.items.now.items none)

pub returns-in-None-clause-state : goal.returns-in-None-clause-state
returns-in-None-clause-state g c =
    sym (not_there c.args.items.now.items c.as_slice.result.now c.args.id.now c.place_of.result c.as_slice.ensures.value c.place_of.ensures c.in-None.is)
