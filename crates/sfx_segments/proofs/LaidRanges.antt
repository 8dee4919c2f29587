-- One value laid over a range of places.
use Rattle.std.proofs.Common.{◌≡◌, Bool, true, false, true≢false, ◌&&◌, if◌then◌else◌, refl, sym, ap, ◌∙◌, List, [], ◌∷◌, Option, Some, None, IsSome}
use Rattle.sfx_ids.specs.declared.cut.Cut.{Cut}
use Rattle.sfx_ids.specs.declared.cut.Cut.TheVariants.{Start}
use Rattle.sfx_ids.specs.Cut.{cut_lt, cut_le, is_between}
use Rattle.sfx_ids.proofs.CutLemmas.{le-not_lt, not_le}
use Rattle.sfx_segments.specs.Segments.{value_at, AreSegments, combined, SetsRange}
use Rattle.sfx_segments.specs.Merge.{AreJoined}
use Rattle.sfx_segments.proofs.PlaceValues.{value_at-first, value_at-total}

-- the marks of a range
abbrev pub marks_of : Cut → Cut → List (Cut × Bool)
marks_of lo hi = (Start, false) ∷ (lo, true) ∷ (hi, false) ∷ []

-- a place is before the cut where the cut is not at or before it
before_end : (hi q : Cut) → cut_lt q hi ≡ (if cut_le hi q then false else true)
before_end hi q = by_test (cut_le hi q) (cut_lt q hi) (le-not_lt hi q) (not_le hi q)
  where
    by_test : (le lt : Bool) → (le ≡ true → lt ≡ false) → (le ≡ false → lt ≡ true) → lt ≡ (if le then false else true)
    by_test true lt first second = first refl
    by_test false lt first second = second refl

marked : (lo hi q : Cut) → value_at (marks_of lo hi) q ≡ Some (is_between lo hi q)
marked lo hi q =
    value_at-first (Start, false) ((lo, true) ∷ (hi, false) ∷ []) q refl ∙ ap Some (by_test (cut_le lo q) (cut_le hi q) (cut_lt q hi) (before_end hi q))
  where
    by_test : (from to lt : Bool) → lt ≡ (if to then false else true) → (if from then (if to then false else true) else false) ≡ (from && lt)
    by_test true to lt is = sym is
    by_test false to lt is = refl

laid_over : {A : Type 0} (value : A) (o : Option A) (b : Bool) → IsSome o → combined (λ old mark. (if mark then value else old)) o (Some b) ≡ (if b then Some value else o)
laid_over value None b some = absurd (true≢false (sym some))
laid_over value (Some old) true some = refl
laid_over value (Some old) false some = refl

-- segments joined with the marks of a range have the value in the range, and the old ones elsewhere
pub covered : {A : Type 0} (value : A) (lo hi : Cut) (xs ds ys out : List (Cut × A)) → AreSegments xs → ds ≡ xs → xs ≡ ys → AreJoined (λ old mark. (if mark then value else old)) ds (marks_of lo hi) out → SetsRange ys out lo hi value
covered {A} value lo hi xs ds ys out form there view joined q inside =
    let how : A → Bool → A = λ old mark. (if mark then value else old) in
    joined.everywhere q inside
    ∙ ap (λ o. combined how o (value_at (marks_of lo hi) q)) (ap (λ zs. value_at zs q) there)
    ∙ ap (λ o. combined how (value_at xs q) o) (marked lo hi q)
    ∙ laid_over value (value_at xs q) (is_between lo hi q) (value_at-total xs form q)
    ∙ ap (λ (zs : List (Cut × A)). (if is_between lo hi q then Some value else value_at zs q)) view
