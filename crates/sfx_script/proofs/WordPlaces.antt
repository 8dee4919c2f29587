-- The words of a line, one after another.
use Rattle.std.proofs.Common.{◌≡◌, ℕ, ◌+◌, ◌-◌, ◌<◌, ◌≤◌, true, false, not, Some, List, [], ◌∷◌, length, length-drop, take, drop, nat_le, All, refl, sym, ap, ◌∙◌, inl, inr, arith, length-take-le, take_all, drop-drop}
use Rattle.std.proofs.lemmas.Bool.{cases_lt}
use Rattle.std.proofs.lemmas.Bool.Decides.{nat_tests}
use Rattle.std.proofs.lemmas.List.Splits.{slice_split_first, slice_split_none}
use Rattle.std.proofs.lemmas.List.Sums.{fails_before_first}
use Rattle.std.proofs.lemmas.Option.{same_Some}
use Rattle.std.specs.List.{position_or_len, before_first}
use Rattle.sfx_script.specs.Faults.{Placed}
use Rattle.sfx_script.specs.Reading.{left_at, first_of, behind_next}
use Rattle.sfx_script.specs.Script.{is_blank}
use Rattle.sfx_script.proofs.WordPrefixes.{prefix_within}

-- where a word would begin behind the end, none is left
pub none_left : (line : List ℕ) (at : ℕ) → length line < at → (left_at line at).left ≡ []
none_left line at less = let no_room : nat_le at (length line) ≡ false = grind (arith, nat_tests) in rw no_room refl

-- the word that begins at an index, and the words behind it
pub word_left : (line : List ℕ) (at : ℕ) → at ≤ length line
    → (left_at line at).left ≡ record { at = at; text = before_first is_blank (drop at line) } ∷ (left_at line (at + (position_or_len is_blank (drop at line) + 1))).left
word_left line at le =
    let rest = drop at line in
    let n = position_or_len is_blank rest in
    let within : n ≤ length rest = prefix_within (λ b. not (is_blank b)) rest in
    let long : length rest ≡ length line - at = length-drop at line in
    let len : length (take n rest) ≡ n = length-take-le n rest within in
    let room : nat_le at (length line) ≡ true = grind (arith, nat_tests) in
    elim (cases_lt n (length rest)) [
      | inl less ↦
          let split = slice_split_first is_blank rest 0 less in
          let more : nat_le (at + (n + 1)) (length line) ≡ true = let fits : at + (n + 1) ≤ length line = omega arith in grind (arith, nat_tests) in
          let behind : drop (n + 1) rest ≡ drop (at + (n + 1)) line = drop-drop (n + 1) at line in
          let place : at + length (take n rest) + 1 ≡ at + (n + 1) = omega arith in
          rw (room, split, more, behind, place) refl
      | inr over ↦
          let same : n ≡ length rest = omega arith in
          let none : All (λ b. is_blank b ≡ false) rest = λ k d small. fails_before_first is_blank rest k d (omega arith) in
          let split = slice_split_none is_blank rest none in
          let whole : take n rest ≡ rest = take_all n rest (omega arith) in
          let no_room : nat_le (at + (n + 1)) (length line) ≡ false = let past : length line < at + (n + 1) = omega arith in grind (arith, nat_tests) in
          rw (room, split, no_room, whole) refl
    ]

-- what is known of an index where a word is next: the word stands there, and the others behind it
pub record IsNext (line : List ℕ) (at : ℕ) (word : Placed) : Type 0 where
  pub within : at + (length word.text + 1) ≤ length line + 1
  pub behind : left_at line (at + (length word.text + 1)) ≡ behind_next (left_at line at)

pub is_next : (line : List ℕ) (at : ℕ) (word : Placed) → first_of (left_at line at).left ≡ Some word → IsNext line at word
is_next line at word is = elim (cases_lt (length line) at) [
  | inl less ↦ let none = ap first_of (none_left line at less) in let bad = sym is ∙ none in absurd (cc)
  | inr le ↦
      let here = word_left line at le in
      let rest = drop at line in
      let n = position_or_len is_blank rest in
      let within : n ≤ length rest = prefix_within (λ b. not (is_blank b)) rest in
      let first : record { at = at; text = before_first is_blank rest } ≡ word = same_Some _ word (sym (ap first_of here) ∙ is) in
      let len : length word.text ≡ n = sym (ap (λ (w : Placed). length w.text) first) ∙ length-take-le n rest within in
      record {
        within = omega (arith, length-drop at line);
        behind = rw (len, here) refl;
      }
]
