use Rattle.std.proofs.Common.{◌≡◌, ℕ, List, Option, Some, None, Err, slice_get, refl, ap, sym, ◌∙◌}
use Rattle.std.specs.Option.{option_and_then}
use Rattle.sfx_item.specs.Name.{IsName}
use Rattle.sfx_item.specs.Decided.{name_fault}
use Rattle.sfx_item.proofs.NamesAreDecided.{name_decided}
use Rattle.sfx_model.specs.sessions.Clashes.{drafted_name}
use Rattle.sfx_apply.proofs.naming.drafted_name.Goals as goal

pub unreachable-requires : goal.unreachable-requires
unreachable-requires g c =
    let value = c.in-Some-first.value.now in
    let at = c.in-Err-BadName.field-0-0 in
    let values : c.args.draft.now.values ≡ Some c.in-Some.values.items = rw (← c.draft.view_is, c.in-Some.is) refl in
    let first : slice_get c.in-Some.values.items 0 ≡ Some value = rw (← c.deref.ensures.value) (sym c.in-Some-first.ensures.value) in
    let drafted : drafted_name c.args.draft.now ≡ Some value =
    ap (λ (o : Option (List (List ℕ))). option_and_then (λ vs. slice_get vs 0) o) values ∙ first in
    let name : IsName value = c.requires value drafted in
    let read : name_fault value ≡ Some at =
    ap name_fault (sym c.bytes.ensures) ∙ (c.read.ensures.decided at).0 (c.in-Err-BadName.is ∙ ap Err c.in-Err-BadName.field-0-is) in
    let none : name_fault value ≡ None = (name_decided value).1 name in
    let bad : None ≡ Some at = sym none ∙ read in
    cc
