use Rattle.std.proofs.Common.{◌≡◌, subst, ◌+◌, ◌-◌, ◌/◌, length, sym, ap, ◌∙◌, arith}
use Rattle.std.specs.declared.cmp.Ordering.TheVariants.{Less, Equal, Greater}
use Rattle.sfx_ids.specs.declared.cut.Cut.TheVariants.{At}
use Rattle.sfx_ids.specs.Cut.{cut_cmp}
use Rattle.sfx_item.specs.Item.{ItemData}
use Rattle.std.specs.Ordering.{is_le, is_lt}
use Rattle.sfx_items.proofs.ItemListLemmas.{all_open, halved, narrowed_found, narrowed_high, narrowed_low, narrowed_none, not_halved}
use Rattle.sfx_items.proofs.search.search.Goals as goal

pub halves-init : goal.halves-init
halves-init g c = record {
  narrowed = all_open c.args.cut.now c.args.items.now;
  halved = not_halved (length c.args.items.now) (length c.args.items.now - 0) (omega arith);
}

pub halves-preserved-in-Less : goal.halves-preserved-in-Less
halves-preserved-in-Less g c =
    let low = c.halves.low in
    let high = c.halves.high in
    let middle = low + (high - low) / 2 in
    let x = c.index-items-middle.result in
    let test = c.halves-test.true in record {
      narrowed = narrowed_low c.args.cut.now c.args.items.now low high middle x c.requires.ascending c.halves.invariant.narrowed (omega (arith, test))
          (ap is_lt (subst (λ (y : ItemData). cut_cmp (At y.id) c.args.cut.now ≡ Less) c.index-items-middle.is (sym c.compare.ensures ∙ c.in-Less.is)));
      halved = halved (length c.args.items.now) (high - low) (high - (middle + 1)) c.halves.compared c.halves.invariant.halved (omega (arith, test)) (omega (arith, test));
    }

pub halves-preserved : goal.halves-preserved
halves-preserved g c =
    let low = c.halves.low in
    let high = c.halves.high in
    let middle = low + (high - low) / 2 in
    let x = c.index-items-middle.result in
    let test = c.halves-test.true in record {
      narrowed = narrowed_high c.args.cut.now c.args.items.now low high middle x c.halves.invariant.narrowed (omega (arith, test))
          (ap is_le (subst (λ (y : ItemData). cut_cmp (At y.id) c.args.cut.now ≡ Greater) c.index-items-middle.is (sym c.compare.ensures ∙ c.in-Greater.is)));
      halved = halved (length c.args.items.now) (high - low) (middle - low) c.halves.compared c.halves.invariant.halved (omega (arith, test)) (omega (arith, test));
    }

pub returns-in-Equal-clause-place : goal.returns-in-Equal-clause-place
returns-in-Equal-clause-place g c =
    let low = c.halves.low in
    let high = c.halves.high in
    let test = c.halves-test.true in
    let inside = c.halves.invariant.narrowed.inside in
    (narrowed_found c.args.cut.now c.args.items.now (low + (high - low) / 2) c.index-items-middle.result c.requires.ascending (omega (arith, test, inside))
    (subst (λ (y : ItemData). cut_cmp (At y.id) c.args.cut.now ≡ Equal) c.index-items-middle.is (sym c.compare.ensures ∙ c.in-Equal.is))).0

pub returns-in-Equal-clause-exact : goal.returns-in-Equal-clause-exact
returns-in-Equal-clause-exact g c =
    let low = c.halves.low in
    let high = c.halves.high in
    let test = c.halves-test.true in
    let inside = c.halves.invariant.narrowed.inside in
    (narrowed_found c.args.cut.now c.args.items.now (low + (high - low) / 2) c.index-items-middle.result c.requires.ascending (omega (arith, test, inside))
    (subst (λ (y : ItemData). cut_cmp (At y.id) c.args.cut.now ≡ Equal) c.index-items-middle.is (sym c.compare.ensures ∙ c.in-Equal.is))).1

pub returns-in-Equal-clause-few : goal.returns-in-Equal-clause-few
returns-in-Equal-clause-few g c =
    let low = c.halves.low in
    let high = c.halves.high in
    let test = c.halves-test.true in
    (halved (length c.args.items.now) (high - low) 0 c.halves.compared c.halves.invariant.halved (omega (arith, test)) (omega arith)).few

pub returns-clause-exact : goal.returns-clause-exact
returns-clause-exact g c =
    (narrowed_none c.args.cut.now c.args.items.now c.halves.low c.halves.high c.requires.ascending c.halves.invariant.narrowed c.halves-test.false).1
