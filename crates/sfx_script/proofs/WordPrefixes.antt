-- Words with bytes that may not stand in a line: the prefix before the first of them, and what of it begins a text.
use Rattle.std.proofs.Common.{◌≡◌, ◌≢◌, ℕ, zero, suc, ◌+◌, ◌<◌, ◌≤◌, ◌⊎◌, Bool, true, false, ◌&&◌, cond, Option, Some, None, List, [], ◌∷◌, ◌++◌, length, length-append, take, get_or, refl, sym, ap, subst, ◌∙◌, inl, inr, arith, true≢false, length-take-le, take-take, take_all}
use Rattle.std.proofs.lemmas.Bool.{cases_lt, cases_Bool}
use Rattle.std.proofs.lemmas.Bool.Decides.{nat_tests}
use Rattle.std.proofs.lemmas.List.{get_or_append_left}
use Rattle.std.proofs.lemmas.Option.{same_Some}
use Rattle.std.specs.List.{list_all, prefix_len}
use Rattle.sfx_ids.proofs.IdBytes.{is_id_byte, AreIdBytes, AreIdBytes-item_text, AreIdBytes-version_text}
use Rattle.sfx_ids.specs.Prefix.{BeginsItem, BeginsVersion, IsLongestPrefix}
use Rattle.sfx_script.specs.Word.{is_printable, printed}

module _ {A : Type 0} (p : A → Bool) where
  all_prefix_by : (x : A) (xs : List A) (b : Bool) → p x ≡ b → list_all p (take (prefix_len p xs) xs) ≡ true → list_all p (take (cond b (1 + prefix_len p xs) 0) (x ∷ xs)) ≡ true
  all_prefix_by x xs true e rest = let one : 1 + prefix_len p xs ≡ suc (prefix_len p xs) = omega arith in rw (one, e) rest
  all_prefix_by x xs false e rest = refl

  -- the elements before the first that fails all pass
  pub all_prefix : (xs : List A) → list_all p (take (prefix_len p xs) xs) ≡ true
  all_prefix [] = refl
  all_prefix (x ∷ xs) = all_prefix_by x xs (p x) refl (all_prefix xs)

  prefix_within_by : (n m : ℕ) (b : Bool) → n ≤ m → cond b (1 + n) 0 ≤ suc m
  prefix_within_by n m true le = omega arith
  prefix_within_by n m false le = omega arith

  pub prefix_within : (xs : List A) → prefix_len p xs ≤ length xs
  prefix_within [] = omega arith
  prefix_within (x ∷ xs) = prefix_within_by (prefix_len p xs) (length xs) (p x) (prefix_within xs)

  prefix_whole_by : (n m : ℕ) (b c : Bool) → (c ≡ true → n ≡ m) → (b && c) ≡ true → cond b (1 + n) 0 ≡ suc m
  prefix_whole_by n m true c rest e = omega (arith, rest e)
  prefix_whole_by n m false c rest e = absurd (true≢false (sym e))

  pub prefix_whole : (xs : List A) → list_all p xs ≡ true → prefix_len p xs ≡ length xs
  prefix_whole [] e = refl
  prefix_whole (x ∷ xs) e = prefix_whole_by (prefix_len p xs) (length xs) (p x) (list_all p xs) (prefix_whole xs) e

  pub whole_prefix : (xs : List A) → prefix_len p xs ≡ length xs → list_all p xs ≡ true
  whole_prefix xs e = subst (λ ys. list_all p ys ≡ true) (ap (λ n. take n xs) e ∙ take_all (length xs) xs (omega arith)) (all_prefix xs)

  prefix_most_by : (n m : ℕ) (b c : Bool) → (c ≡ true → n ≤ m) → (b && c) ≡ true → suc n ≤ cond b (1 + m) 0
  prefix_most_by n m true c rest e = omega (arith, rest e)
  prefix_most_by n m false c rest e = absurd (true≢false (sym e))

  -- a prefix whose elements all pass is no longer
  pub prefix_most : (xs : List A) (n : ℕ) → n ≤ length xs → list_all p (take n xs) ≡ true → n ≤ prefix_len p xs
  prefix_most xs zero le e = omega arith
  prefix_most [] (suc n) le e = absurd (omega arith)
  prefix_most (x ∷ xs) (suc n) le e = prefix_most_by n (prefix_len p xs) (p x) (list_all p (take n xs)) (prefix_most xs n (omega arith)) e

-- what each byte passes, the whole list passes
pub list_all-from : {A : Type 0} (p : A → Bool) (xs : List A) → ((k : ℕ) (d : A) → k < length xs → p (get_or xs k d) ≡ true) → list_all p xs ≡ true
list_all-from p [] h = refl
list_all-from p (x ∷ xs) h = rw (h 0 x (omega arith)) (list_all-from p xs (λ k d small. h (suc k) d (omega arith)))

id_byte_prints : (b : ℕ) → is_id_byte b ≡ true → is_printable b ≡ true
id_byte_prints b e = grind (arith, nat_tests)

-- a prefix of a text of ids may stand in a line
prefix_prints : (text prefix rest : List ℕ) → AreIdBytes text → text ≡ prefix ++ rest → list_all is_printable prefix ≡ true
prefix_prints text prefix rest ids is =
    list_all-from is_printable prefix
    (λ k d small.
    let byte : get_or text k d ≡ get_or prefix k d = ap (λ t. get_or t k d) is ∙ get_or_append_left prefix rest d k small in
    id_byte_prints (get_or prefix k d) (subst (λ b. is_id_byte b ≡ true) byte (ids k d (omega (arith, ap length is, length-append prefix rest)))))

pub item_prints : (text : List ℕ) → BeginsItem text → list_all is_printable text ≡ true
item_prints text b = prefix_prints _ text b.rest (AreIdBytes-item_text b.item b.valid) b.spelled

pub version_prints : (text : List ℕ) → BeginsVersion text → list_all is_printable text ≡ true
version_prints text b = prefix_prints _ text b.rest (AreIdBytes-version_text b.version b.valid) b.spelled

module _ (Begins : List ℕ → Type 0) (prints : (text : List ℕ) → Begins text → list_all is_printable text ≡ true) where
  -- what the printable prefix of a word says of the longest prefix that begins a text, it says of the word
  pub longest_of_prefix : (word : List ℕ) (at : ℕ) → IsLongestPrefix Begins (take (prefix_len is_printable word) word) at → IsLongestPrefix Begins word at
  longest_of_prefix word at longest =
      let n = prefix_len is_printable word in
      let le : n ≤ length word = prefix_within is_printable word in
      let len : length (take n word) ≡ n = length-take-le n word le in
      let inside : at ≤ n = omega (arith, longest.within) in
      record {
        within = omega arith;
        begins = subst Begins (take-take at n word inside) longest.begins;
        longest = λ m small begins.
            let most : m ≤ n = prefix_most is_printable word m small (prints (take m word) begins) in
            longest.longest m (omega arith) (subst Begins (sym (take-take m n word most)) begins);
      }

  -- the printable prefix begins a text, so it is the longest that does
  pub longest_is_prefix : (word : List ℕ) → Begins (take (prefix_len is_printable word) word) → IsLongestPrefix Begins word (prefix_len is_printable word)
  longest_is_prefix word begins = record {
    within = prefix_within is_printable word;
    begins = begins;
    longest = λ m small other. prefix_most is_printable word m small (prints (take m word) other);
  }

  -- the longest prefix that begins a text holds no byte that may not stand in a line
  pub longest_prints : (word : List ℕ) (at : ℕ) → IsLongestPrefix Begins word at → at ≤ prefix_len is_printable word
  longest_prints word at longest = prefix_most is_printable word at longest.within (prints (take at word) longest.begins)

  -- some prefix is the longest, if the empty one begins a text
  pub some_longest : (word : List ℕ) → Begins [] → ((at : ℕ) → IsLongestPrefix Begins word at → ⊥) → ⊥
  some_longest word empty none = none_from (length word) 0 (omega arith) (omega arith) empty where
    none_from : (d n : ℕ) → length word ≤ n + d → n ≤ length word → Begins (take n word) → ⊥
    none_from zero n high low begins = none n (record { within = low; begins = begins; longest = λ m le other. omega arith })
    none_from (suc d) n high low begins = none n (record {
      within = low;
      begins = begins;
      longest = λ m le other. elim (cases_lt n m) [
        | inl more ↦ absurd (none_from d m (omega arith) le other)
        | inr less ↦ less
      ];
    })

-- a word whose printable prefix is shorter has no printed reading
pub unprinted : {A : Type 0} (of : List ℕ → Option A) (word : List ℕ) → prefix_len is_printable word ≢ length word → printed of word ≡ None
unprinted of word short = by (cases_Bool (list_all is_printable word)) where
  by : (list_all is_printable word ≡ true) ⊎ (list_all is_printable word ≡ false) → printed of word ≡ None
  by (inl all) = absurd (short (prefix_whole is_printable word all))
  by (inr some) = rw some refl

pub printed_whole : {A : Type 0} (of : List ℕ → Option A) (word : List ℕ) → prefix_len is_printable word ≡ length word → printed of word ≡ of word
printed_whole of word same = rw (whole_prefix is_printable word same) refl

pub prefix_is_word : (word : List ℕ) → prefix_len is_printable word ≡ length word → take (prefix_len is_printable word) word ≡ word
prefix_is_word word same = ap (λ n. take n word) same ∙ take_all (length word) word (omega arith)

-- an item or a version that the printable prefix spells, and the whole word
pub spelled_whole : {A : Type 0} (of : List ℕ → Option A) (word prefix : List ℕ) (x : A) → prefix ≡ take (prefix_len is_printable word) word → length prefix ≡ length word → of prefix ≡ Some x → printed of word ≡ Some x
spelled_whole of word prefix x is same spelled =
    let n = prefix_len is_printable word in
    let len : n ≡ length word = sym (length-take-le n word (prefix_within is_printable word)) ∙ sym (ap length is) ∙ same in
    printed_whole of word len ∙ ap of (sym (is ∙ prefix_is_word word len)) ∙ spelled

pub unspelled : {A : Type 0} (of : List ℕ → Option A) (word prefix : List ℕ) → prefix ≡ take (prefix_len is_printable word) word → of prefix ≡ None → printed of word ≡ None
unspelled of word prefix is none = by (cases_Bool (list_all is_printable word)) where
  by : (list_all is_printable word ≡ true) ⊎ (list_all is_printable word ≡ false) → printed of word ≡ None
  by (inl all) =
      let len = prefix_whole is_printable word all in
      rw all (ap of (sym (is ∙ prefix_is_word word len)) ∙ none)
  by (inr some) = rw some refl

pub too_short : {A : Type 0} (of : List ℕ → Option A) (word prefix : List ℕ) → prefix ≡ take (prefix_len is_printable word) word → (length prefix ≡ length word → ⊥) → printed of word ≡ None
too_short of word prefix is short =
    unprinted of word (λ same. short (ap length (is ∙ prefix_is_word word same)))

-- a printed reading is one of the text
pub printed_text : {A : Type 0} (of : List ℕ → Option A) (word text : List ℕ) → Some text ≡ printed (λ x. Some x) word → printed of word ≡ of text
printed_text of word text is = by (cases_Bool (list_all is_printable word)) where
  by : (list_all is_printable word ≡ true) ⊎ (list_all is_printable word ≡ false) → printed of word ≡ of text
  by (inl all) = let same : text ≡ word = same_Some text word (is ∙ rw all refl) in rw (all, same) refl
  by (inr some) = let none : Some text ≡ None = is ∙ rw some refl in absurd (cc)
