-- Reading a word: what stands for a value has that value's text, and each text is read.
use Rattle.std.proofs.Common.{◌≡◌, ℕ, ◌<◌, ◌^◌, Bool, true, false, if◌then◌else◌, ◌&&◌, Option, Some, None, List, IfSome, refl, sym, arith, nat_lt, decimal, Result, Ok, Err}
use Rattle.std.proofs.lemmas.Bool.Decides.{nat_tests}
use Rattle.std.proofs.lemmas.Slice.Eq.{bytes_eq-Decides}
use Rattle.std.proofs.lemmas.Fmt.{decimal_is_IsNumeral}
use Rattle.std.specs.Str.{bytes_eq}
use Rattle.std.specs.Result.{result_ok}
use Rattle.std.specs.Str.Parse.{digits_value, ParsesUnsigned}
use Rattle.sfx_script.specs.Word.{number_of}

-- r is what a word reads as: an x in range whose text it is, and none only where there is no such x
pub record Reads {A : Type 0} (InRange : A → Type 0) (text_of : A → List ℕ) (word : List ℕ) (r : Option A) : Type 0 where
  pub sound : IfSome r (λ x. InRange x × (word ≡ text_of x))
  pub whole : (x : A) → InRange x → word ≡ text_of x → r ≡ Some x

-- a word reads in one way
pub same_reading : {A : Type 0} (InRange : A → Type 0) (text_of : A → List ℕ) (word : List ℕ) (r s : Option A)
    → Reads InRange text_of word r → Reads InRange text_of word s → r ≡ s
same_reading InRange text_of word (Some x) s a b = sym (b.whole x a.sound.0 a.sound.1)
same_reading InRange text_of word None None a b = refl
same_reading InRange text_of word None (Some y) a b = a.whole y b.sound.0 b.sound.1

-- a value that is kept only where a test passes
pub kept_where : {A : Type 0} (test : Bool) (x y : A) → (if test then Some x else None) ≡ Some y → (test ≡ true) × (x ≡ y)
kept_where true x y e = (refl, cc)
kept_where false x y e = absurd (cc)

pub both_true : (a b : Bool) → (a && b) ≡ true → (a ≡ true) × (b ≡ true)
both_true true b e = (refl, e)
both_true false b e = absurd (cc)

-- nothing is there, since nothing can be
pub none_where : {A : Type 0} (o : Option A) → ((x : A) → o ≡ Some x → ⊥) → o ≡ None
none_where None never = refl
none_where (Some x) never = absurd (never x refl)

pub number_sound : (word : List ℕ) (n : ℕ) → number_of word ≡ Some n → (n < 2 ^ 64) × (word ≡ decimal n)
number_sound word n e =
    let v = digits_value 10 word in
    let kept = kept_where (nat_lt v (2 ^ 64) && bytes_eq (decimal v) word) v n e in
    let tests = both_true (nat_lt v (2 ^ 64)) (bytes_eq (decimal v) word) kept.0 in
    let small : v < 2 ^ 64 = grind (arith, nat_tests, tests.0) in
    let spelled : decimal v ≡ word = (bytes_eq-Decides (decimal v) word).0 tests.1 in
    (rw (← kept.1) small, rw (← kept.1) (sym spelled))

pub number_whole : (word : List ℕ) (n : ℕ) → n < 2 ^ 64 → word ≡ decimal n → number_of word ≡ Some n
number_whole word n small is =
    let value : digits_value 10 word ≡ n = rw is (decimal_is_IsNumeral n small).1 in
    let spelled : bytes_eq (decimal n) word ≡ true = (bytes_eq-Decides (decimal n) word).1 (sym is) in
    let fits : nat_lt n (2 ^ 64) ≡ true = grind (arith, nat_tests) in
    rw (value, fits, spelled) refl

pub number_reads : (word : List ℕ) → Reads (λ n. n < 2 ^ 64) decimal word (number_of word)
number_reads word = record {
  sound = sound_at (number_of word) refl;
  whole = number_whole word;
} where
  sound_at : (o : Option ℕ) → number_of word ≡ o → IfSome o (λ n. (n < 2 ^ 64) × (word ≡ decimal n))
  sound_at None e = tt
  sound_at (Some n) e = number_sound word n e

-- what `parse` answers fits
pub parsed_small : {E : Type 0} (word : List ℕ) (r : Result ℕ E) (n : ℕ) → ParsesUnsigned 64 10 word r → result_ok r ≡ Some n → n < 2 ^ 64
parsed_small word (Ok x) n reads is =
    let value : x ≡ n = cc in
    let small = reads.0.1 in
    let same = reads.1 in
    omega (arith, value, small, same)
parsed_small word (Err e) n reads is = absurd (cc)
