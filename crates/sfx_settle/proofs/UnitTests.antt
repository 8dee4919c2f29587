-- Tests that pass at some unit, and lists with an element for each.
use Rattle.std.proofs.Common.{◌≡◌, ◌↔◌, ℕ, zero, suc, ◌<◌, Bool, true, false, IsTrue, ◌||◌, nat_eq, arith, refl, sym, ap, subst, ◌∙◌, List, [], ◌∷◌, ◌++◌, ◌+◌, ◌≤◌, map, length, Option, Some, IfSome}
use Rattle.std.specs.List.{range_with_len}
use Rattle.std.proofs.lemmas.List.FromFn.{length-map-range_with_len, map-range_with_len_more}
use Rattle.std.proofs.lemmas.Bool.{eqb-true}
use Rattle.sfx_segments.proofs.StandardFacts.{yes_it, not_it, tested}
use Rattle.sfx_model.specs.world.Events.{some_unit}

-- two tests that say the same are the same
pub same_test : (a b : Bool) (P : Type 0) → IsTrue a ↔ P → IsTrue b ↔ P → a ≡ b
same_test true true P here there = refl
same_test true false P here there = sym (there.1 (here.0 refl))
same_test false true P here there = here.1 (there.0 refl)
same_test false false P here there = refl

-- a test that passes at a unit passes at some
pub some_found : (test : ℕ → Bool) (u n : ℕ) → test u ≡ true → u < n → some_unit test n ≡ true
some_found test u zero passes low = absurd (omega (arith, low))
some_found test u (suc n) passes low = elim (tested (nat_eq u n)) [
  | yes_it same ↦ ap (λ (b : Bool). b || some_unit test n) (subst (λ (x : ℕ). test x ≡ true) (eqb-true u n same) passes)
  | not_it other ↦ or_true (test n) (some_unit test n) (some_found test u n passes (below u n low other))
] where
  or_true : (a b : Bool) → b ≡ true → (a || b) ≡ true
  or_true true b e = refl
  or_true false b e = e

  below : (u n : ℕ) → u < suc n → nat_eq u n ≡ false → u < n
  below u n low other = grind (arith, low, other)

-- one more element of a list with an element for each unit
pub each_more : {A : Type 0} (f : ℕ → A) (old new : List A) (u unit : ℕ) (x : A)
    → old ≡ map f (range_with_len 0 u) → new ≡ old ++ x ∷ [] → x ≡ f unit → unit ≡ u → new ≡ map f (range_with_len 0 (u + 1))
each_more {A} f old new u unit x before now is same =
    now
    ∙ (ap (λ (xs : List A). xs ++ x ∷ []) before
    ∙ (ap (λ (y : A). map f (range_with_len 0 u) ++ y ∷ []) (is ∙ ap f same)
    ∙ sym (map-range_with_len_more f 0 u u (omega arith))))

pub each_len : {A : Type 0} (f : ℕ → A) (xs : List A) (u n : ℕ) → xs ≡ map f (range_with_len 0 u) → u ≤ n → n ≤ u → length xs ≡ n
each_len f xs u n is low high = ap length is ∙ (length-map-range_with_len f 0 u ∙ omega (arith, low, high))

-- the unit with this number is the number
pub unit_is : (made : Option ℕ) (unit number : ℕ) → IfSome made (λ u. u ≡ number) → made ≡ Some unit → unit ≡ number
unit_is made unit number told is = subst (λ (o : Option ℕ). IfSome o (λ u. u ≡ number)) is told
