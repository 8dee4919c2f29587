use Rattle.std.proofs.Common.{◌∙◌, Some, ap, arith, refl, sym}
use Rattle.sfx_item.specs.Item.{ItemData, state_view}
use Rattle.sfx_items.proofs.ItemListLemmas.{at_place, not_there, state_there}
use Rattle.sfx_replica.specs.Items.{not_live}
use Rattle.sfx_replica.proofs.items.live_place.Goals as goal

pub returns-in_default-clause-err : goal.returns-in_default-clause-err
returns-in_default-clause-err g c =
    ap not_live (not_there c.args.items.now c.args.items.now c.args.id.now c.place_of.result refl c.place_of.ensures c.in_default.is)

pub bounds-items-place : goal.bounds-items-place
bounds-items-place g c =
    (at_place c.args.items.now c.args.items.now c.args.id.now c.in-Some.place c.place_of.result refl c.place_of.ensures c.in-Some.is).inside

pub offset_bounds-items-place : goal.offset_bounds-items-place
offset_bounds-items-place g c =
    let inside = (at_place c.args.items.now c.args.items.now c.args.id.now c.in-Some.place c.place_of.result refl c.place_of.ensures c.in-Some.is).inside in
    omega (arith, inside)

pub returns-in-Live-clause-ok : goal.returns-in-Live-clause-ok
returns-in-Live-clause-ok g c =
    let place = at_place c.args.items.now c.args.items.now c.args.id.now c.in-Some.place c.place_of.result refl c.place_of.ensures c.in-Some.is in
    record {
      found = sym c.place_of.ensures ∙ c.in-Some.is;
      live = (
        c.in-Live.field-0,
        state_there c.args.items.now c.args.id.now c.in-Some.place c.index-items-place.result place c.index-items-place.is
            ∙ sym (ap (λ (x : ItemData). Some x.state) c.item.view_is) ∙ ap (λ s. Some (state_view s)) c.in-Live.is,
      );
    }

pub returns-in-Dead-clause-err : goal.returns-in-Dead-clause-err
returns-in-Dead-clause-err g c =
    let place = at_place c.args.items.now c.args.items.now c.args.id.now c.in-Some.place c.place_of.result refl c.place_of.ensures c.in-Some.is in
    ap not_live (state_there c.args.items.now c.args.id.now c.in-Some.place c.index-items-place.result place c.index-items-place.is
    ∙ sym (ap (λ (x : ItemData). Some x.state) c.item.view_is) ∙ ap (λ s. Some (state_view s)) c.in-Dead.is)
