use Rattle.std.proofs.Common.{◌≡◌, ◌∙◌, ℕ, false, sym, ap, subst, arith, length}
use Rattle.std.specs.List.{insert}
use Rattle.sfx_ids.specs.declared.item_id.ItemId.{ItemId}
use Rattle.sfx_knowledge.specs.Skips.{is_skipped, cell_place, AreSkips, AddsSkip}
use Rattle.sfx_knowledge.proofs.SkipsLemmas.{place-within, AreSkips-insert, added}
use Rattle.sfx_knowledge.proofs.skips.Skips.add.Goals as goal

pub insert-requires : goal.insert-requires
insert-requires g c =
    let items = c.self.inside.cells.items in
    let s : ItemId × ℕ = (c.args.id.now, c.args.unit) in
    let place : c.place_of-place.result ≡ cell_place items s = c.place_of-place.ensures ∙ ap (λ xs. cell_place xs s) c.as_slice.ensures.value in
    omega (arith, place, place-within items s, ap length c.as_slice.ensures.value)

pub invariant_of-self-2 : goal.invariant_of-self-2
invariant_of-self-2 g c =
    let items = c.self.inside.cells.items in
    let s : ItemId × ℕ = (c.args.id.now, c.args.unit) in
    let place : c.place_of-place.result ≡ cell_place items s = c.place_of-place.ensures ∙ ap (λ xs. cell_place xs s) c.as_slice.ensures.value in
    let none : is_skipped items c.args.id.now c.args.unit ≡ false =
    ap (λ xs. is_skipped xs c.args.id.now c.args.unit) c.self.view_is ∙ sym c.has.ensures.value ∙ c.if-has.false in
    subst (AreSkips g.row.U) (sym (c.in_ok-insert.ensures.items ∙ ap (λ n. insert items n s) place))
    (AreSkips-insert g.row.U items s c.unit_in_range.ensures c.self.invariant none)

pub returns-clause-ok : goal.returns-clause-ok
returns-clause-ok g c =
    let items = c.self.inside.cells.items in
    let s : ItemId × ℕ = (c.args.id.now, c.args.unit) in
    let place : c.place_of-place.result ≡ cell_place items s = c.place_of-place.ensures ∙ ap (λ xs. cell_place xs s) c.as_slice.ensures.value in
    subst (λ old. AddsSkip old c.insert.new.self.items c.args.id.now c.args.unit) c.self.view_is
    (added items c.insert.new.self.items c.args.id.now c.args.unit (c.in_ok-insert.ensures.items ∙ ap (λ n. insert items n s) place))

pub returns-clause-form : goal.returns-clause-form
returns-clause-form g c = invariant_of-self-2 g c
