use Rattle.std.proofs.Common.{arith, refl, sym}
use Rattle.sfx_items.proofs.ItemListLemmas.{at_place, id_there, not_there, state_there}
use Rattle.sfx_items.proofs.finding.find.Goals as goal

pub bounds-items-place : goal.bounds-items-place
bounds-items-place g c =
    (at_place c.args.items.now c.args.items.now c.args.id.now c.in-Some.place c.place_of.result refl c.place_of.ensures c.in-Some.is).inside

pub offset_bounds-items-place : goal.offset_bounds-items-place
offset_bounds-items-place g c =
    let inside = (at_place c.args.items.now c.args.items.now c.args.id.now c.in-Some.place c.place_of.result refl c.place_of.ensures c.in-Some.is).inside in
    omega (arith, inside)

pub returns-in-Some-clause-state : goal.returns-in-Some-clause-state
returns-in-Some-clause-state g c =
    sym
    (state_there c.args.items.now c.args.id.now c.in-Some.place c.index-items-place.result
    (at_place c.args.items.now c.args.items.now c.args.id.now c.in-Some.place c.place_of.result refl c.place_of.ensures c.in-Some.is)
    c.index-items-place.is)

pub returns-in-Some-clause-same : goal.returns-in-Some-clause-same
returns-in-Some-clause-same g c =
    id_there c.args.items.now c.args.id.now c.in-Some.place c.index-items-place.result
    (at_place c.args.items.now c.args.items.now c.args.id.now c.in-Some.place c.place_of.result refl c.place_of.ensures c.in-Some.is)
    c.index-items-place.is

pub returns-in-None-clause-state : goal.returns-in-None-clause-state
returns-in-None-clause-state g c =
    sym (not_there c.args.items.now c.args.items.now c.args.id.now c.place_of.result refl c.place_of.ensures c.in-None.is)
