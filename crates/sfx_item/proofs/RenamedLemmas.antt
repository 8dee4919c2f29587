-- A name clashes with one name at most of those that a mark makes of another: what stands before the first
-- slash ends with the mark, and the mark tells its number.
use Rattle.std.proofs.Common.{◌≡◌, ◌≢◌, ℕ, zero, suc, ◌+◌, ◌-◌, ◌^◌, ◌<◌, nat_eq, nat_le, Bool, true, false, true≢false, if◌then◌else◌, List, [], ◌∷◌, ◌++◌, length, take, drop, decimal, cond, min, arith, inl, inr, refl, sym, ◌∙◌, ap, subst}
use Rattle.std.specs.List.{before_first, position_or_len}
use Rattle.std.specs.Str.Parse.{AllDigits, digits_value}
use Rattle.std.specs.Fmt.Cut.{floor_char_boundary}
use Rattle.std.proofs.lemmas.Bool.{eqb-true, eq-eqb}
use Rattle.std.proofs.lemmas.Fmt.{decimal_is_IsNumeral_wide}
use Rattle.std.proofs.lemmas.List.{append-nil}
use Rattle.std.proofs.lemmas.List.Recursion.{is_position_or_len}
use Rattle.sfx_item.specs.Clash.{Clash}
use Rattle.sfx_item.specs.Decided.{is_clash}
use Rattle.sfx_item.specs.Name.{slash}
use Rattle.sfx_item.specs.Renamed.{tilde, is_mark, without_mark, mark_of, text_prefix, renamed}
use Rattle.sfx_item.proofs.ClashLemmas.{below_bytes}
use Rattle.sfx_item.proofs.NamesAreDecided.{clash_decided}

-- The byte is none of these.
abbrev IsNoneOf : ℕ → List ℕ → Type 0
IsNoneOf b [] = Unit {0}
IsNoneOf b (x ∷ xs) = (b ≢ x) × IsNoneOf b xs

-- ---- the first component of a name

abbrev prefix_of : List ℕ → List ℕ
prefix_of [] = []
prefix_of (b ∷ bs) = if nat_eq b slash then [] else b ∷ prefix_of bs

prefix_free : (bs : List ℕ) → IsNoneOf slash (prefix_of bs)
prefix_free [] = tt
prefix_free (b ∷ bs) = by_test (prefix_free bs) (nat_eq b slash) refl
  where
    by_test : IsNoneOf slash (prefix_of bs) → (t : Bool) → nat_eq b slash ≡ t → IsNoneOf slash (if t then [] else b ∷ prefix_of bs)
    by_test rest true e = tt
    by_test rest false e = ((λ is. true≢false (sym (eq-eqb b slash (sym is)) ∙ e)), rest)

prefix_append : (p r : List ℕ) → IsNoneOf slash p → prefix_of (p ++ r) ≡ p ++ prefix_of r
prefix_append [] r free = refl
prefix_append (b ∷ p) r free = by_test (prefix_append p r free.1) (nat_eq b slash) refl
  where
    by_test :
        prefix_of (p ++ r) ≡ p ++ prefix_of r
        → (t : Bool) → nat_eq b slash ≡ t → (if t then [] else b ∷ prefix_of (p ++ r)) ≡ b ∷ (p ++ prefix_of r)
    by_test rest true e = absurd (free.0 (sym (eqb-true b slash e)))
    by_test rest false e = ap (λ (xs : List ℕ). b ∷ xs) rest

prefix_whole : (p : List ℕ) → IsNoneOf slash p → prefix_of p ≡ p
prefix_whole p free = ap prefix_of (sym (append-nil p)) ∙ prefix_append p [] free ∙ append-nil p

prefix_cut : (b more : List ℕ) → prefix_of (b ++ slash ∷ more) ≡ prefix_of b
prefix_cut [] more = refl
prefix_cut (x ∷ b) more = ap (λ (xs : List ℕ). if nat_eq x slash then [] else x ∷ xs) (prefix_cut b more)

-- Names that clash have the same first component.
clash_prefix : (a b : List ℕ) → Clash a b → prefix_of a ≡ prefix_of b
clash_prefix a b (inl same) = ap prefix_of same
clash_prefix a b (inr (inl below)) = let (more, is) = below_bytes a b below in ap prefix_of is ∙ prefix_cut b more
clash_prefix a b (inr (inr above)) = let (more, is) = below_bytes b a above in sym (ap prefix_of is ∙ prefix_cut a more)

-- What stands before the first slash is the first component.
length_prefix : (bs : List ℕ) → length (prefix_of bs) ≡ position_or_len (λ b. nat_eq b slash) bs
length_prefix bs = is_position_or_len (λ (xs : List ℕ). length (prefix_of xs)) (λ b. nat_eq b slash) refl (λ x xs. by_test x xs (nat_eq x slash)) bs
  where
    by_test : (x : ℕ) (xs : List ℕ) (t : Bool) → length (let r : List ℕ = if t then [] else x ∷ prefix_of xs in r) ≡ cond t 0 (1 + length (prefix_of xs))
    by_test x xs true = refl
    by_test x xs false = let e : suc (length (prefix_of xs)) ≡ 1 + length (prefix_of xs) = omega arith in e

take_prefix : (bs : List ℕ) → take (length (prefix_of bs)) bs ≡ prefix_of bs
take_prefix [] = refl
take_prefix (b ∷ bs) = by_test (take_prefix bs) (nat_eq b slash)
  where
    by_test :
        take (length (prefix_of bs)) bs ≡ prefix_of bs
        → (t : Bool) → take (length (let r : List ℕ = if t then [] else b ∷ prefix_of bs in r)) (b ∷ bs) ≡ (if t then [] else b ∷ prefix_of bs)
    by_test rest true = refl
    by_test rest false = ap (λ (xs : List ℕ). b ∷ xs) rest

first_is : (name : List ℕ) → before_first (λ b. nat_eq b slash) name ≡ prefix_of name
first_is name = ap (λ n. take n name) (sym (length_prefix name)) ∙ take_prefix name

-- What follows it has no first component.
rest_prefix : (bs : List ℕ) → prefix_of (drop (length (prefix_of bs)) bs) ≡ []
rest_prefix [] = refl
rest_prefix (b ∷ bs) = by_test (rest_prefix bs) (nat_eq b slash) refl
  where
    by_test :
        prefix_of (drop (length (prefix_of bs)) bs) ≡ []
        → (t : Bool) → nat_eq b slash ≡ t → prefix_of (drop (length (let r : List ℕ = if t then [] else b ∷ prefix_of bs in r)) (b ∷ bs)) ≡ []
    by_test rest true e = rw e refl
    by_test rest false e = rest

-- ---- marks

digit_not : (c : ℕ) (ds : List ℕ) → AllDigits 10 ds → ((b : ℕ) (bs : List ℕ) → AllDigits 10 (b ∷ bs) → c ≢ b) → IsNoneOf c ds
digit_not c [] digits other = tt
digit_not c (d ∷ ds) digits other = (other d ds digits, digit_not c ds digits.1 other)

no_tilde : (ds : List ℕ) → AllDigits 10 ds → IsNoneOf tilde ds
no_tilde ds digits = digit_not tilde ds digits (λ b bs is same. tilde_none bs (subst (λ (x : ℕ). AllDigits 10 (x ∷ bs)) (sym same) is))
  where
    tilde_none : (bs : List ℕ) → AllDigits 10 (tilde ∷ bs) → ⊥
    tilde_none bs is = let bad = is.0 in omega (arith, bad)

no_slash : (ds : List ℕ) → AllDigits 10 ds → IsNoneOf slash ds
no_slash ds digits = digit_not slash ds digits (λ b bs is same. slash_none bs (subst (λ (x : ℕ). AllDigits 10 (x ∷ bs)) (sym same) is))
  where
    slash_none : (bs : List ℕ) → AllDigits 10 (slash ∷ bs) → ⊥
    slash_none bs is = let bad = is.0 in omega (arith, bad)

mark_free : (n : ℕ) → n < 10 ^ 64 → IsNoneOf slash (mark_of n)
mark_free n small = ((λ is. let bad : slash ≡ tilde = is in omega arith), no_slash (decimal n) (decimal_is_IsNumeral_wide n small).0.1)

-- The part behind the last tilde tells the number.
not_between : (q e : List ℕ) → IsNoneOf tilde (q ++ tilde ∷ e) → ⊥
not_between [] e free = free.0 refl
not_between (x ∷ q) e free = not_between q e free.1

behind_tilde : (p q d e : List ℕ) → IsNoneOf tilde d → IsNoneOf tilde e → p ++ tilde ∷ d ≡ q ++ tilde ∷ e → d ≡ e
behind_tilde [] [] d e free_d free_e same = cc
behind_tilde [] (c ∷ q) d e free_d free_e same =
    let rest : d ≡ q ++ tilde ∷ e = cc in absurd (not_between q e (subst (λ (xs : List ℕ). IsNoneOf tilde xs) rest free_d))
behind_tilde (c ∷ p) [] d e free_d free_e same =
    let rest : p ++ tilde ∷ d ≡ e = cc in absurd (not_between p d (subst (λ (xs : List ℕ). IsNoneOf tilde xs) (sym rest) free_e))
behind_tilde (c ∷ p) (b ∷ q) d e free_d free_e same =
    let rest : p ++ tilde ∷ d ≡ q ++ tilde ∷ e = cc in
    behind_tilde p q d e free_d free_e rest

one_number : (n m : ℕ) (p q : List ℕ) → n < 10 ^ 64 → m < 10 ^ 64 → p ++ mark_of n ≡ q ++ mark_of m → n ≡ m
one_number n m p q small big same =
    let first = decimal_is_IsNumeral_wide n small in
    let second = decimal_is_IsNumeral_wide m big in
    let digits : decimal n ≡ decimal m =
    behind_tilde p q (decimal n) (decimal m) (no_tilde (decimal n) first.0.1) (no_tilde (decimal m) second.0.1) same in
    sym first.1 ∙ ap (digits_value 10) digits ∙ second.1

-- ---- the first component of a name with a mark

taken_free : (b n : ℕ) (xs : List ℕ) → IsNoneOf b xs → IsNoneOf b (take n xs)
taken_free b zero xs free = tt
taken_free b (suc n) [] free = tt
taken_free b (suc n) (x ∷ xs) free = (free.0, taken_free b n xs free.1)

unmarked_free : (b : ℕ) (bs : List ℕ) → IsNoneOf b bs → IsNoneOf b (without_mark bs)
unmarked_free b [] free = tt
unmarked_free b (x ∷ bs) free = by_test (unmarked_free b bs free.1) (is_mark (x ∷ bs))
  where
    by_test : IsNoneOf b (without_mark bs) → (t : Bool) → IsNoneOf b (let r : List ℕ = if t then [] else x ∷ without_mark bs in r)
    by_test rest true = tt
    by_test rest false = (free.0, rest)

-- It ends with the mark.
renamed_prefix : (name : List ℕ) (n : ℕ) → n < 10 ^ 64 → (p : List ℕ) × (prefix_of (renamed name n) ≡ p ++ mark_of n)
unfolding renamed
renamed_prefix name n small = by_size (nat_le (length (mark_of n) + length rest) 255)
  where
    first : List ℕ
    first = before_first (λ b. nat_eq b slash) name

    rest : List ℕ
    rest = drop (length first) name

    size : ℕ
    size = 255 - (length (mark_of n) + length rest)

    short : List ℕ
    short = text_prefix size (without_mark first)

    short_free : IsNoneOf slash short
    short_free =
        taken_free slash (floor_char_boundary (without_mark first) (min size (length (without_mark first)))) (without_mark first)
        (unmarked_free slash first (subst (λ (xs : List ℕ). IsNoneOf slash xs) (sym (first_is name)) (prefix_free name)))

    rest_none : prefix_of rest ≡ []
    rest_none = ap (λ (xs : List ℕ). prefix_of (drop (length xs) name)) (first_is name) ∙ rest_prefix name

    by_size :
        (t : Bool)
        → (p : List ℕ) × (prefix_of (let r : List ℕ = if t then short ++ (mark_of n ++ rest) else mark_of n in r) ≡ p ++ mark_of n)
    by_size true = (
      short,
      prefix_append short (mark_of n ++ rest) short_free
          ∙ ap (λ (xs : List ℕ). short ++ xs)
          (prefix_append (mark_of n) rest (mark_free n small) ∙ ap (λ (xs : List ℕ). mark_of n ++ xs) rest_none ∙ append-nil (mark_of n)),
    )
    by_size false = ([], prefix_whole (mark_of n) (mark_free n small))

-- A name clashes with one of those at most that marks make of another.
pub one_candidate :
    (name own : List ℕ) (n m : ℕ)
    → n < 10 ^ 64 → m < 10 ^ 64 → is_clash (renamed name n) own ≡ true → is_clash (renamed name m) own ≡ true → n ≡ m
one_candidate name own n m small big first second =
    let (p, is) = renamed_prefix name n small in
    let (q, it) = renamed_prefix name m big in
    one_number n m p q small big
    (sym is ∙ clash_prefix (renamed name n) own ((clash_decided (renamed name n) own).0 first)
    ∙ sym (clash_prefix (renamed name m) own ((clash_decided (renamed name m) own).0 second)) ∙ it)
