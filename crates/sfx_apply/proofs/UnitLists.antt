-- Lists with an element for each unit.
use Rattle.std.proofs.Common.{◌≡◌, ℕ, zero, suc, ◌<◌, ◌≤◌, Bool, true, false, ◌&&◌, ◌||◌, List, [], ◌∷◌, length, replicate, map, Option, Some, None, slice_get, refl, sym, ◌∙◌, ap, arith}
use Rattle.std.specs.List.{list_any, list_all}
use Rattle.std.specs.Option.{option_map, unwrap_or}
use Rattle.std.proofs.lemmas.List.{get_or-replicate}
use Rattle.std.proofs.lemmas.List.FromFn.{length-map-range_with_len, get_or-map-range_with_len}
use Rattle.std.proofs.lemmas.Option.{slice_get-get_or, slice_get-map, unwrap_or-slice_get}
use Rattle.sfx_knowledge.proofs.SegmentStarts.{same_by_index}
use Rattle.sfx_model.specs.world.Units.{each_unit, at_unit}

-- Both of two tests fail where neither passes.
pub or_first : (a b : Bool) → (a || b) ≡ false → a ≡ false
or_first true b e = e
or_first false b e = refl

pub or_second : (a b : Bool) → (a || b) ≡ false → b ≡ false
or_second true b e = absurd (cc)
or_second false b e = e

-- The element of a unit.
pub each_at : {A : Type 0} (f : ℕ → A) (n u : ℕ) → u < n → slice_get (each_unit n f) u ≡ Some (f u)
each_at f n u small =
    let inside : u < length (each_unit n f) = omega (arith, length-map-range_with_len f 0 n) in
    slice_get-get_or (each_unit n f) u (f u) inside ∙ ap (λ x. Some x) (get_or-map-range_with_len f 0 n u u (f u) small (omega arith))

pub length-each : {A : Type 0} (f : ℕ → A) (n : ℕ) → length (each_unit n f) ≡ n
length-each f n = length-map-range_with_len f 0 n

pub at_each : {A : Type 0} (f : ℕ → A) (n u : ℕ) (d : A) → u < n → at_unit (each_unit n f) u d ≡ f u
at_each {A} f n u d small = ap (λ (o : Option A). unwrap_or o d) (each_at f n u small)

-- Lists with the same elements are the same.
pub each_same : {A : Type 0} (f g : ℕ → A) (n : ℕ) → ((u : ℕ) → u < n → f u ≡ g u) → each_unit n f ≡ each_unit n g
each_same f g n same =
    same_by_index (each_unit n f) (each_unit n g) (length-each f n ∙ sym (length-each g n))
    (λ u inside.
    let small : u < n = omega (arith, inside, length-each f n) in
    each_at f n u small ∙ ap (λ x. Some x) (same u small) ∙ sym (each_at g n u small))

-- A list is that of its elements.
pub each_itself : {A : Type 0} (xs : List A) (d : A) (n : ℕ) → length xs ≡ n → each_unit n (λ u. at_unit xs u d) ≡ xs
each_itself xs d n whole =
    same_by_index (each_unit n (λ u. at_unit xs u d)) xs (length-each (λ u. at_unit xs u d) n ∙ sym whole)
    (λ u inside.
    let small : u < n = omega (arith, inside, length-each (λ v. at_unit xs v d) n) in
    let within : u < length xs = omega arith in
    each_at (λ v. at_unit xs v d) n u small ∙ ap (λ x. Some x) (unwrap_or-slice_get xs u d) ∙ sym (slice_get-get_or xs u d within))

-- One element for all units.
pub at_same : {A : Type 0} (n u : ℕ) (k d : A) → u < n → at_unit (replicate n k) u d ≡ k
at_same n u k d small = unwrap_or-slice_get (replicate n k) u d ∙ get_or-replicate n u k d small

pub none_same : {A : Type 0} (test : A → Bool) (k : A) (n : ℕ) → test k ≡ false → list_any test (replicate n k) ≡ false
none_same test k zero fails = refl
none_same test k (suc n) fails = rw fails (none_same test k n fails)

pub some_same : {A : Type 0} (test : A → Bool) (k : A) (n : ℕ) → 1 ≤ n → test k ≡ true → list_any test (replicate n k) ≡ true
some_same test k zero some passes = absurd (omega arith)
some_same test k (suc n) some passes = rw passes refl

-- No element passes a test that fails wherever the function leads.
pub none_mapped : {A B : Type 0} (test : B → Bool) (f : A → B) (xs : List A) → ((x : A) → test (f x) ≡ false) → list_any test (map f xs) ≡ false
none_mapped test f [] fails = refl
none_mapped test f (x ∷ xs) fails = rw (fails x) (none_mapped test f xs fails)

pub at_mapped : {A B : Type 0} (f : A → B) (xs : List A) (u : ℕ) (d : A) → at_unit (map f xs) u (f d) ≡ f (at_unit xs u d)
at_mapped {A} {B} f xs u d = ap (λ (o : Option B). unwrap_or o (f d)) (slice_get-map f xs u) ∙ by_element (slice_get xs u)
  where
    by_element : (o : Option A) → unwrap_or (option_map f o) (f d) ≡ f (unwrap_or o d)
    by_element None = refl
    by_element (Some x) = refl

-- A test that no element passes fails at each unit.
pub none_at : {A : Type 0} (test : A → Bool) (xs : List A) (u : ℕ) (d : A) → test d ≡ false → list_any test xs ≡ false → test (at_unit xs u d) ≡ false
none_at test [] u d fails none = fails
none_at test (x ∷ xs) zero d fails none = or_first (test x) (list_any test xs) none
none_at test (x ∷ xs) (suc u) d fails none = none_at test xs u d fails (or_second (test x) (list_any test xs) none)

-- Where some element passes one test, and with it fails the other, not all pass the other.
pub not_all : {A : Type 0} (test other : A → Bool) (xs : List A) → ((x : A) → test x ≡ true → other x ≡ false) → list_any test xs ≡ true → list_all other xs ≡ false
not_all test other [] apart some = absurd (cc)
not_all {A} test other (x ∷ xs) apart some = by_test (not_all test other xs apart) (test x) refl (other x) refl some
  where
    by_test :
        (list_any test xs ≡ true → list_all other xs ≡ false)
        → (b : Bool) → test x ≡ b → (c : Bool) → other x ≡ c → (b || list_any test xs) ≡ true
        → (c && list_all other xs) ≡ false
    by_test rest true e true f s = let bad : other x ≡ false = apart x e in absurd (cc)
    by_test rest b e false f s = refl
    by_test rest false e true f s = rest s
