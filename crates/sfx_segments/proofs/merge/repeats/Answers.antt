use Rattle.std.proofs.Common.{◌≡◌, ◌-◌, Some, length, slice_get, sym, ap, ◌∙◌}
use Rattle.std.specs.Option.{option_copied}
use Rattle.sfx_segments.specs.Merge.{last_value}
use Rattle.sfx_segments.proofs.PlaceValues.{some_same}
use Rattle.sfx_segments.proofs.PushedValues.{last_value-read}
use Rattle.sfx_segments.proofs.merge.repeats.Goals as goal

pub returns-in-Some : goal.returns-in-Some
returns-in-Some g c =
    let items = c.args.items.now in
    let read : slice_get items (length items - 1) ≡ Some c.in-Some.last.now = sym c.last.ensures.value ∙ ap option_copied c.in-Some.is in
    let last : last_value items ≡ Some c.in-Some.last.now.1 = last_value-read items c.in-Some.last.now read in
    (λ same. last ∙ ap Some (c.same.ensures.0 same), λ is. c.same.ensures.1 (some_same _ _ (sym last ∙ is)))
