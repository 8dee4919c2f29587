-- The text of a value is a word, and stands for the value.
use Rattle.std.proofs.Common.{◌≡◌, ℕ, ◌<◌, ◌≤◌, true, false, Some, All, List, [], ◌∷◌, length, codes, refl, sym, ap, ◌∙◌, inl, inr, true≢false, arith}
use Rattle.std.proofs.lemmas.Bool.{agree_below, agree_below_at, cases_Bool, cases_lt}
use Rattle.std.proofs.lemmas.Bool.Decides.{nat_tests}
use Rattle.std.proofs.lemmas.List.Splits.{slice_split_none}
use Rattle.std.proofs.lemmas.Slice.Eq.{bytes_eq-Decides}
use Rattle.std.specs.List.{list_all}
use Rattle.std.specs.Str.{bytes_eq}
use Rattle.percent_encoding.proofs.AsciiSetLemmas.{ascii_from_kept, outside_from_kept, kept_from_outside, escaped_from_inside}
use Rattle.percent_encoding.proofs.OnLiterals.{percent_encoding_on_literals}
use Rattle.percent_encoding.proofs.PercentLemmas.{All-percent_encode, IsEscapeByte, percent_encode_nonempty, round_trip}
use Rattle.percent_encoding.specs.AsciiSet.{contains, should_percent_encode}
use Rattle.percent_encoding.specs.Percent.{percent_decode, percent_encode}
use Rattle.sfx_script.specs.Printed.{is_escaped, value_text}
use Rattle.sfx_script.specs.Script.{is_blank, words_of}
use Rattle.sfx_script.specs.Word.{is_printable, printed, value_of}
use Rattle.sfx_script.specs.declared.printed.TheConstants.{VALUE_SET}
use Rattle.sfx_script.proofs.WordPrefixes.{prefix_whole, list_all-from}
use Rattle.sfx_script.proofs.ValueWords.{value_decoded}

table : agree_below (contains VALUE_SET) is_escaped 128 ≡ true
table = refl

in_table : (b : ℕ) → b < 128 → contains VALUE_SET b ≡ is_escaped b
in_table b small = agree_below_at (contains VALUE_SET) is_escaped 128 b table small

pub escaped : (b : ℕ) → b < 256 → should_percent_encode VALUE_SET b ≡ is_escaped b
escaped b small = elim (cases_lt b 128) [
  | inl less ↦ elim (cases_Bool (is_escaped b)) [
    | inl inside ↦ escaped_from_inside VALUE_SET b (in_table b less ∙ inside) ∙ sym inside
    | inr outside ↦ kept_from_outside VALUE_SET b less (in_table b less ∙ outside) ∙ sym outside
  ]
  | inr high ↦
      let above : is_escaped b ≡ true = grind (arith, nat_tests) in
      elim (cases_Bool (should_percent_encode VALUE_SET b)) [
        | inl is ↦ is ∙ sym above
        | inr kept ↦ absurd (omega (arith, ascii_from_kept VALUE_SET b kept))
      ]
]

-- a byte that is no blank and may stand in a line
abbrev pub IsPlain : ℕ → Type 0
IsPlain b = (33 ≤ b) × (b ≤ 126)

kept_plain : (b : ℕ) → should_percent_encode VALUE_SET b ≡ false → IsPlain b
kept_plain b kept =
    let small = ascii_from_kept VALUE_SET b kept in
    let outside : is_escaped b ≡ false = sym (in_table b small) ∙ outside_from_kept VALUE_SET b kept in
    (grind (arith, nat_tests), grind (arith, nat_tests))

escape_plain : (b : ℕ) → IsEscapeByte b → IsPlain b
escape_plain b (inl percent) = (omega arith, omega arith)
escape_plain b (inr (inl digit)) = (omega (arith, digit.0), omega (arith, digit.1))
escape_plain b (inr (inr letter)) = (omega (arith, letter.0), omega (arith, letter.1))

encoded_plain : (value : List ℕ) → All IsPlain (percent_encode VALUE_SET value)
encoded_plain value = All-percent_encode IsPlain VALUE_SET value kept_plain escape_plain

has_percent : contains VALUE_SET 37 ≡ true
has_percent = refl

bare : bytes_eq (percent_decode (codes "-")) (codes "-") ≡ true
unfolding percent_encoding_on_literals
bare = refl

dash : printed value_of (codes "%2D") ≡ Some (codes "-")
unfolding percent_encoding_on_literals
dash = refl

plain_prints : (text : List ℕ) → All IsPlain text → list_all is_printable text ≡ true
plain_prints text plain = list_all-from is_printable text (λ k d small. let p = plain k d small in let low = p.0 in let high = p.1 in grind (arith, nat_tests))

plain_word : (text : List ℕ) → All IsPlain text → words_of text ≡ text ∷ []
plain_word text plain = slice_split_none is_blank text (λ k d small. let p = plain k d small in let low = p.0 in grind (arith, nat_tests))

-- a text that is decoded
encoded_reads : (value text : List ℕ) → 0 < length text → All IsPlain text → percent_decode text ≡ value → bytes_eq value (codes "-") ≡ false → printed value_of text ≡ Some value
encoded_reads value text some plain decoded other =
    let bare_not : bytes_eq text (codes "-") ≡ false = elim (cases_Bool (bytes_eq text (codes "-"))) [
      | inl same ↦
          let is : text ≡ codes "-" = (bytes_eq-Decides text (codes "-")).0 same in
          let value_is : bytes_eq value (codes "-") ≡ true = ap (λ t. bytes_eq t (codes "-")) (sym decoded ∙ ap percent_decode is) ∙ bare in
          absurd (true≢false (sym value_is ∙ other))
      | inr differs ↦ differs
    ] in
    value_decoded text some (prefix_whole is_printable text (plain_prints text plain)) bare_not ∙ ap (λ v. Some v) decoded

-- the text of a value stands for the value
pub value_reads : (value : List ℕ) → All (λ b. b < 256) value → printed value_of (value_text value) ≡ Some value
value_reads [] small = refl
value_reads (b ∷ bs) small = elim (cases_Bool (bytes_eq (b ∷ bs) (codes "-"))) [
  | inl same ↦
      let is : b ∷ bs ≡ codes "-" = (bytes_eq-Decides (b ∷ bs) (codes "-")).0 same in
      rw same (dash ∙ ap (λ v. Some v) (sym is))
  | inr other ↦
      rw other (encoded_reads (b ∷ bs) (percent_encode VALUE_SET (b ∷ bs)) (percent_encode_nonempty VALUE_SET (b ∷ bs) (omega arith)) (encoded_plain (b ∷ bs))
      (round_trip VALUE_SET (b ∷ bs) has_percent small) other)
]

-- and is one word
pub value_is_word : (value : List ℕ) → All (λ b. b < 256) value → words_of (value_text value) ≡ value_text value ∷ []
value_is_word [] small = refl
value_is_word (b ∷ bs) small = elim (cases_Bool (bytes_eq (b ∷ bs) (codes "-"))) [
  | inl same ↦ rw same refl
  | inr other ↦ rw other (plain_word (percent_encode VALUE_SET (b ∷ bs)) (encoded_plain (b ∷ bs)))
]
