-- What a walk over the segments, testing each value, says of every place.
use Rattle.std.proofs.Common.{◌≡◌, ℕ, ◌<◌, ◌≤◌, Some, refl, subst, List, length, get_or, take, slice_get}
use Rattle.std.specs.List.{All}
use Rattle.std.proofs.lemmas.List.{take_all}
use Rattle.std.proofs.lemmas.Option.{slice_get_read}
use Rattle.sfx_ids.specs.declared.cut.Cut.{Cut}
use Rattle.sfx_segments.specs.Segments.{AreSegments, EveryValue, SomeValue}
use Rattle.sfx_segments.proofs.PlaceValues.{begins_at_place, every_value}

pub walked : {A : Type 0} (P : A → Type 0) (xs ds ys : List (Cut × A)) (i : ℕ) → AreSegments xs → ds ≡ xs → xs ≡ ys → length ds ≤ i → All (λ p. P p.1) (take i ds) → EveryValue ys P
walked {A} P xs ds ys i form there view end all =
    subst (λ (zs : List (Cut × A)). EveryValue zs P) view
    (every_value P xs form
    (subst (λ (zs : List (Cut × A)). All (λ p. P p.1) zs) there
    (subst (λ (zs : List (Cut × A)). All (λ p. P p.1) zs) (take_all i ds end) all)))

pub stopped : {A : Type 0} (P : A → Type 0) (xs ds ys : List (Cut × A)) (i : ℕ) (p : Cut × A) → AreSegments xs → ds ≡ xs → xs ≡ ys → i < length ds → p ≡ get_or ds i p → P p.1 → SomeValue ys P
stopped {A} P xs ds ys i p form there view within read holds =
    subst (λ (zs : List (Cut × A)). SomeValue zs P) view
    (let at = begins_at_place xs i p form (subst (λ (zs : List (Cut × A)). slice_get zs i ≡ Some p) there (slice_get_read ds (length ds) i p refl within read)) in
    (p.0, p.1, at.0, at.1, holds))
