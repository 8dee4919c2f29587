use Rattle.std.proofs.Common.{◌≡◌, ℕ, ◌+◌, ◌<◌, List, [], ◌∷◌, ◌++◌, length, get_or, take, sym, ap, ◌∙◌}
use Rattle.std.proofs.lemmas.List.{take_all, take_more}
use Rattle.sfx_item.proofs.row.Row.copy.Goals as goal

-- one more cell that is copied
copied_more : {A : Type 0} (xs made new : List A) (cell value : A) (i : ℕ) →
    made ≡ take i xs → i < length xs → cell ≡ get_or xs i cell → value ≡ cell → new ≡ made ++ value ∷ [] → new ≡ take (i + 1) xs
copied_more xs made new cell value i so_far inside is same grown =
    grown
    ∙ rw (so_far, same) (sym (take_more xs i cell inside ∙ ap (λ s. take i xs ++ s ∷ []) (sym is)))

pub loop-cell-preserved : goal.loop-cell-preserved
loop-cell-preserved g c =
    copied_more
    c.deref-cell-items.result.now
    c.loop-cell.cells.items
    c.push.new.self.items
    c.cell-item.result
    c.in_ok-copy.field-0
    c.loop-cell.cell-index
    c.loop-cell.invariant
    c.loop-cell-test.true
    c.cell-item.is
    c.in_ok-copy.ensures
    c.in_ok-push.ensures.items

pub returns : goal.returns
returns g c =
    c.loop-cell.invariant
    ∙ take_all c.loop-cell.cell-index c.deref-cell-items.result.now c.loop-cell-test.false
    ∙ c.deref-cell-items.ensures.value
    ∙ c.self.view_is

pub invariant_of-result : goal.invariant_of-result
invariant_of-result g c =
    let cells : c.loop-cell.cells.items ≡ c.self.inside.cells.items =
    c.loop-cell.invariant
    ∙ take_all c.loop-cell.cell-index c.deref-cell-items.result.now c.loop-cell-test.false
    ∙ c.deref-cell-items.ensures.value in
    rw (cells, c.in_ok-copy-2.ensures) c.self.invariant
