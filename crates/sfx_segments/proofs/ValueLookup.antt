-- Looking for the value at a place, and copying, segment by segment.
use Rattle.std.proofs.Common.{◌≡◌, ℕ, ◌+◌, ◌-◌, ◌<◌, ◌≤◌, true, false, List, [], ◌∷◌, ◌++◌, length, get_or, take, drop, Some, refl, sym, ap, ◌∙◌, add-one, drop-cons}
use Rattle.std.proofs.lemmas.List.{take_more, take_rest}
use Rattle.std.proofs.Math.ListN.{drop_of_length-le}
use Rattle.sfx_ids.specs.declared.cut.Cut.{Cut}
use Rattle.sfx_ids.specs.Cut.{cut_lt}
use Rattle.sfx_ids.proofs.CutLemmas.{not_lt}
use Rattle.sfx_segments.specs.Segments.{segment_at, value_at, AreSegments}
use Rattle.sfx_segments.proofs.PlaceValues.{segment_at-passed, segment_at-ahead, value_at-first}

-- from the first value and the segments behind it
pub get_begins : {A : Type 0} (xs : List (Cut × A)) (first : Cut × A) (q : Cut) →
    AreSegments xs → first ≡ get_or xs 0 first → value_at xs q ≡ Some (segment_at first.1 (take (length xs - 1) (drop 1 xs)) q)
get_begins [] first q form is = absurd form
get_begins (p ∷ ps) first q form is =
    let is_p : first ≡ p = is in
    rw (take_rest (p ∷ ps) 1, is_p) (value_at-first p ps q form.0)

-- the segment at the index, and those behind it
ahead_at : {A : Type 0} (items : List (Cut × A)) (segment : Cut × A) (i : ℕ) →
    i < length items → segment ≡ get_or items i segment → drop i items ≡ segment ∷ drop (i + 1) items
ahead_at items segment i inside is = drop-cons items i segment inside ∙ rw (add-one, ← is) refl

-- past a segment that begins no later
pub get_goes_on : {A : Type 0} (xs items : List (Cut × A)) (found : A) (segment : Cut × A) (i : ℕ) (q : Cut) →
    value_at xs q ≡ Some (segment_at found (drop i items) q) → i < length items → segment ≡ get_or items i segment →
    cut_lt q segment.0 ≡ false → value_at xs q ≡ Some (segment_at segment.1 (drop (i + 1) items) q)
get_goes_on xs items found segment i q at inside is later =
    at
    ∙ ap (λ ahead. Some (segment_at found ahead q)) (ahead_at items segment i inside is)
    ∙ ap Some (segment_at-passed found segment (drop (i + 1) items) q (not_lt q segment.0 later))

-- at a segment that begins later
pub get_stops : {A : Type 0} (xs items : List (Cut × A)) (found : A) (segment : Cut × A) (i : ℕ) (q : Cut) →
    value_at xs q ≡ Some (segment_at found (drop i items) q) → i < length items → segment ≡ get_or items i segment →
    cut_lt q segment.0 ≡ true → value_at xs q ≡ Some found
get_stops xs items found segment i q at inside is later =
    at
    ∙ ap (λ ahead. Some (segment_at found ahead q)) (ahead_at items segment i inside is)
    ∙ ap Some (segment_at-ahead found segment (drop (i + 1) items) q later)

-- behind the last segment
pub get_ends : {A : Type 0} (xs items : List (Cut × A)) (found : A) (i : ℕ) (q : Cut) →
    value_at xs q ≡ Some (segment_at found (drop i items) q) → length items ≤ i → value_at xs q ≡ Some found
get_ends xs items found i q at over = at ∙ ap (λ ahead. Some (segment_at found ahead q)) (drop_of_length-le items over)

-- one more pair that is copied
pub copied_more : {A B : Type 0} (xs made new : List (A × B)) (pair : A × B) (value : B) (i : ℕ) →
    made ≡ take i xs → i < length xs → pair ≡ get_or xs i pair → value ≡ pair.1 →
    new ≡ made ++ (pair.0, value) ∷ [] → new ≡ take (i + 1) xs
copied_more xs made new pair value i so_far inside is same grown =
    grown
    ∙ rw (so_far, same) (sym (take_more xs i pair inside ∙ ap (λ s. take i xs ++ s ∷ []) (sym is)))
