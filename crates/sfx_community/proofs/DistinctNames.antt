-- The names of a map's entries are distinct.
use Rattle.std.proofs.Math.Numerals.{add-one}
use Rattle.std.proofs.Common.{◌≡◌, ℕ, zero, suc, ◌+◌, ◌||◌, Bool, true, false, Some, List, [], ◌∷◌, ◌++◌, take, length, slice_get, refl, sym, ap, ◌∙◌, subst}
use Rattle.std.specs.List.{AllByRecursion, IsDistinct}
use Rattle.std.specs.Map.{keys_of}
use Rattle.std.specs.Str.{bytes_eq}
use Rattle.std.proofs.lemmas.Map.Keys.{IsDistinct-head, IsDistinct-tail}
use Rattle.sfx_community.specs.State.{KeptData, has_name, kept_as, members_view}
use Rattle.sfx_community.proofs.MapEntries.{Entries}

-- a name that differs from those of all entries differs from that of each
other_at : (x : List ℕ) (es : Entries) (i : ℕ) (name : List ℕ) (k : KeptData)
    → AllByRecursion (λ y. bytes_eq x y ≡ false) (keys_of es) → slice_get es i ≡ Some (name, k) → bytes_eq x name ≡ false
other_at x [] i name k all at = absurd (cc)
other_at x (e ∷ es) zero name k all at = let same : e.0 ≡ name = cc in subst (λ (n : List ℕ). bytes_eq x n ≡ false) same all.0
other_at x (e ∷ es) (suc i) name k all at = other_at x es i name k all.1 at

-- the name of an entry is none of those before it
pub new_at : (es : Entries) (i : ℕ) (name : List ℕ) (k : KeptData)
    → IsDistinct bytes_eq (keys_of es) → slice_get es i ≡ Some (name, k) → has_name name (take i (members_view es)) ≡ false
new_at [] i name k distinct at = absurd (cc)
new_at (e ∷ es) zero name k distinct at = refl
new_at (e ∷ es) (suc i) name k distinct at =
    rw (other_at e.0 es i name k (IsDistinct-head bytes_eq e.0 (keys_of es) distinct) at)
    (new_at es i name k (IsDistinct-tail bytes_eq e.0 (keys_of es) distinct) at)

copied_next : (es : Entries) (i : ℕ) (name : List ℕ) (k : KeptData) → slice_get es i ≡ Some (name, k)
    → take i (members_view es) ++ kept_as name k ∷ [] ≡ take (suc i) (members_view es)
copied_next [] i name k at = absurd (cc)
copied_next (e ∷ es) zero name k at = let same : e ≡ (name, k) = cc in ap (λ (x : List ℕ × KeptData). kept_as x.0 x.1 ∷ []) (sym same)
copied_next (e ∷ es) (suc i) name k at = ap (λ ms. kept_as e.0 e.1 ∷ ms) (copied_next es i name k at)

-- the members that were copied, and the next one
pub copied_more : (es : Entries) (i : ℕ) (name : List ℕ) (k : KeptData) → slice_get es i ≡ Some (name, k)
    → take i (members_view es) ++ kept_as name k ∷ [] ≡ take (i + 1) (members_view es)
copied_more es i name k at = rw (add-one i) (copied_next es i name k at)
