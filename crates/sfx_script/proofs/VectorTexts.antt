-- The text of a vector, entry by entry.
use Rattle.std.proofs.Common.{◌≡◌, ℕ, zero, suc, ◌+◌, ◌<◌, [], ◌∷◌, ◌++◌, take, slice_get, Some, append_assoc, append-nil, sym, ap, ◌∙◌, arith}
use Rattle.std.proofs.lemmas.Option.{same_Some}
use Rattle.sfx_vector.specs.Clocks.{Clocks}
use Rattle.sfx_script.specs.Printed.{clock_text, further_text, entries_text}

further_on : (v : Clocks) (i : ℕ) (e : ℕ × ℕ) → slice_get v i ≡ Some e → further_text (take (suc i) v) ≡ further_text (take i v) ++ (44 ∷ clock_text e)
further_on [] i e is = absurd (cc)
further_on (x ∷ xs) zero e is = ap (λ t. 44 ∷ t) (append-nil (clock_text x)) ∙ ap (λ y. 44 ∷ clock_text y) (same_Some x e is)
further_on (x ∷ xs) (suc i) e is =
    ap (λ t. 44 ∷ (clock_text x ++ t)) (further_on xs i e is) ∙ ap (λ t. 44 ∷ t) (sym (append_assoc (clock_text x) (further_text (take i xs)) (44 ∷ clock_text e)))

entries_more : (v : Clocks) (i : ℕ) (e : ℕ × ℕ) → slice_get v (suc i) ≡ Some e → entries_text (take (suc (suc i)) v) ≡ (entries_text (take (suc i) v) ++ 44 ∷ []) ++ clock_text e
entries_more [] i e is = absurd (cc)
entries_more (x ∷ xs) i e is =
    ap (λ t. clock_text x ++ t) (further_on xs i e is) ∙ sym (append_assoc (clock_text x) (further_text (take i xs)) (44 ∷ clock_text e))
    ∙ sym (append_assoc (clock_text x ++ further_text (take i xs)) (44 ∷ []) (clock_text e))

-- one more entry behind a comma
pub entries_on : (v : Clocks) (i : ℕ) (e : ℕ × ℕ) → 0 < i → slice_get v i ≡ Some e → entries_text (take (i + 1) v) ≡ (entries_text (take i v) ++ 44 ∷ []) ++ clock_text e
entries_on v zero e some is = absurd (omega arith)
entries_on v (suc i) e some is = let more : suc i + 1 ≡ suc (suc i) = omega arith in rw more (entries_more v i e is)

-- the first entry
pub entries_first : (v : Clocks) (i : ℕ) (e : ℕ × ℕ) → i ≡ 0 → slice_get v i ≡ Some e → entries_text (take (i + 1) v) ≡ entries_text (take i v) ++ clock_text e
entries_first v (suc i) e none is = absurd (omega arith)
entries_first [] zero e none is = absurd (cc)
entries_first (x ∷ xs) zero e none is = append-nil (clock_text x) ∙ ap clock_text (same_Some x e is)
