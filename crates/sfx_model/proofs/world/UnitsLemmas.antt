-- Lists that have something for each unit.
use Rattle.std.proofs.Common.{◌≡◌, ◌≢◌, ℕ, zero, suc, ◌<◌, ◌≤◌, ◌||◌, Bool, true, false, true≢false, List, [], ◌∷◌, length, map, replicate, Option, Some, slice_get, arith, inl, inr, refl, sym, ◌∙◌, ap, subst}
use Rattle.std.specs.Prelude.{slice_set}
use Rattle.std.specs.List.{list_any, list_all}
use Rattle.std.specs.Option.{unwrap_or, option_map}
use Rattle.std.proofs.lemmas.Bool.{cases_eq, and_parts}
use Rattle.std.proofs.lemmas.List.{get_or-replicate, get_or-set_same, get_or-set_other}
use Rattle.std.proofs.lemmas.List.Folds.{list_any_at}
use Rattle.std.proofs.lemmas.List.FromFn.{get_or-map-range_with_len, length-map-range_with_len}
use Rattle.std.proofs.lemmas.Option.{unwrap_or-slice_get, slice_get-get_or, slice_get-map, slice_get_within, slice_get_past}
use Rattle.sfx_model.specs.world.Events.{some_unit}
use Rattle.sfx_model.specs.world.Units.{each_unit, at_unit}

-- What the list has for a unit.
pub at_get : {A : Type 0} (xs : List A) (u : ℕ) (x d : A) → slice_get xs u ≡ Some x → at_unit xs u d ≡ x
at_get {A} xs u x d is = ap (λ (o : Option A). unwrap_or o d) is

pub get_at : {A : Type 0} (xs : List A) (u : ℕ) (d : A) → u < length xs → slice_get xs u ≡ Some (at_unit xs u d)
get_at xs u d small = slice_get-get_or xs u d small ∙ ap Some (sym (unwrap_or-slice_get xs u d))

pub at_past : {A : Type 0} (xs : List A) (u : ℕ) (d : A) → length xs ≤ u → at_unit xs u d ≡ d
at_past {A} xs u d big = ap (λ (o : Option A). unwrap_or o d) (slice_get_past xs u big)

-- A list made unit by unit.
pub length_each : {A : Type 0} (units : ℕ) (f : ℕ → A) → length (each_unit units f) ≡ units
length_each units f = length-map-range_with_len f 0 units

pub at_each : {A : Type 0} (units : ℕ) (f : ℕ → A) (u : ℕ) (d : A) → u < units → at_unit (each_unit units f) u d ≡ f u
at_each units f u d small =
    unwrap_or-slice_get (each_unit units f) u d ∙ get_or-map-range_with_len f 0 units u u d small (omega arith)

pub get_each : {A : Type 0} (units : ℕ) (f : ℕ → A) (u : ℕ) → u < units → slice_get (each_unit units f) u ≡ Some (f u)
get_each units f u small =
    slice_get-get_or (each_unit units f) u (f u) (subst (λ (n : ℕ). u < n) (sym (length_each units f)) small)
    ∙ ap Some (get_or-map-range_with_len f 0 units u u (f u) small (omega arith))

pub each_get :
    {A : Type 0} (units : ℕ) (f : ℕ → A) (u : ℕ) (x : A)
    → slice_get (each_unit units f) u ≡ Some x → (u < units) × (f u ≡ x)
each_get {A} units f u x is =
    let small : u < units = subst (λ (n : ℕ). u < n) (length_each units f) (slice_get_within (each_unit units f) u x is) in
    (small, let both : Some (f u) ≡ Some x = sym (get_each units f u small) ∙ is in cc)

-- A list with one thing for all units.
pub at_replicate : {A : Type 0} (units u : ℕ) (a d : A) → u < units → at_unit (replicate units a) u d ≡ a
at_replicate units u a d small = unwrap_or-slice_get (replicate units a) u d ∙ get_or-replicate units u a d small

-- A list made of another.
pub at_map : {A B : Type 0} (f : A → B) (xs : List A) (u : ℕ) (d : A) (e : B) → u < length xs → at_unit (map f xs) u e ≡ f (at_unit xs u d)
at_map f xs u d e small =
    at_get (map f xs) u (f (at_unit xs u d)) e (slice_get-map f xs u ∙ ap (option_map f) (get_at xs u d small))

-- A list with another thing for one unit.
pub at_set : {A : Type 0} (xs : List A) (u : ℕ) (a d : A) → u < length xs → at_unit (slice_set xs u a) u d ≡ a
at_set xs u a d small = unwrap_or-slice_get (slice_set xs u a) u d ∙ get_or-set_same xs u a d small

pub at_set_other : {A : Type 0} (xs : List A) (x u : ℕ) (a d : A) → u ≢ x → at_unit (slice_set xs x a) u d ≡ at_unit xs u d
at_set_other xs x u a d other =
    unwrap_or-slice_get (slice_set xs x a) u d ∙ get_or-set_other xs x u a d other ∙ sym (unwrap_or-slice_get xs u d)

-- Some unit passes a test, or none does.
pub any_at : {A : Type 0} (test : A → Bool) (xs : List A) (u : ℕ) (d : A) → u < length xs → test (at_unit xs u d) ≡ true → list_any test xs ≡ true
any_at {A} test xs u d small is =
    list_any_at test xs u d small (subst (λ (x : A). test x ≡ true) (unwrap_or-slice_get xs u d) is)

pub any_none : {A : Type 0} (test : A → Bool) (xs : List A) (d : A) → ((u : ℕ) → u < length xs → test (at_unit xs u d) ≡ false) → list_any test xs ≡ false
any_none test [] d none = refl
any_none test (x ∷ xs) d none =
    rw (none 0 (omega arith)) (any_none test xs d (λ u small. none (suc u) (omega arith)))

pub any_where : {A : Type 0} (test : A → Bool) (xs : List A) (d : A) → list_any test xs ≡ true → (u : ℕ) × (u < length xs) × (test (at_unit xs u d) ≡ true)
any_where test [] d some = absurd (true≢false (sym some))
any_where test (x ∷ xs) d some = by_test (any_where test xs d) (test x) refl some
  where
    by_test :
        (list_any test xs ≡ true → (u : ℕ) × (u < length xs) × (test (at_unit xs u d) ≡ true))
        → (b : Bool) → test x ≡ b → (b || list_any test xs) ≡ true
        → (u : ℕ) × (u < length (x ∷ xs)) × (test (at_unit (x ∷ xs) u d) ≡ true)
    by_test rest true e is = (0, omega arith, e)
    by_test rest false e is = let (u, small, here) = rest is in (suc u, omega arith, here)

pub any_false : {A : Type 0} (test : A → Bool) (xs : List A) (u : ℕ) (d : A) → u < length xs → list_any test xs ≡ false → test (at_unit xs u d) ≡ false
any_false test xs u d small none = by_test (test (at_unit xs u d)) refl
  where
    by_test : (b : Bool) → test (at_unit xs u d) ≡ b → b ≡ false
    by_test true e = sym (any_at test xs u d small e) ∙ none
    by_test false e = refl

pub all_at : {A : Type 0} (test : A → Bool) (xs : List A) (u : ℕ) (d : A) → u < length xs → list_all test xs ≡ true → test (at_unit xs u d) ≡ true
all_at test [] u d small all = absurd (omega arith)
all_at test (x ∷ xs) zero d small all = (and_parts (test x) (list_all test xs) all).0
all_at test (x ∷ xs) (suc u) d small all = all_at test xs u d (omega arith) (and_parts (test x) (list_all test xs) all).1

-- No unit passes a test.
pub none_at : (test : ℕ → Bool) (units u : ℕ) → some_unit test units ≡ false → u < units → test u ≡ false
none_at test zero u none small = absurd (omega arith)
none_at test (suc n) u none small =
    elim (cases_eq u n) [
      | inl same ↦ subst (λ (x : ℕ). test x ≡ false) (sym same) (here (test n) (some_unit test n) none)
      | inr other ↦ none_at test n u (rest (test n) (some_unit test n) none) (omega arith)
    ]
  where
    here : (a b : Bool) → (a || b) ≡ false → a ≡ false
    here true b is = absurd (true≢false is)
    here false b is = refl

    rest : (a b : Bool) → (a || b) ≡ false → b ≡ false
    rest true b is = absurd (true≢false is)
    rest false b is = is
