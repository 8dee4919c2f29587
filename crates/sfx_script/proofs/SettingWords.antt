-- A word that begins with a key.
use Rattle.std.proofs.Common.{◌≡◌, ℕ, true, None, List, ◌++◌, length, take, drop, refl, sym, ap, ◌∙◌, inl, inr, take-append-drop, take_at}
use Rattle.std.proofs.lemmas.Bool.{cases_Bool}
use Rattle.std.proofs.lemmas.Slice.Eq.{bytes_eq-Decides}
use Rattle.std.specs.Option.{option_and_then}
use Rattle.std.specs.Str.{bytes_eq}
use Rattle.sfx_script.specs.Word.{number_of, setting_of, within}

pub setting_none : (key word : List ℕ) (most : ℕ) → ((rest : List ℕ) → word ≡ key ++ rest → ⊥) → setting_of key most word ≡ None
setting_none key word most lacks = elim (cases_Bool (bytes_eq (take (length key) word) key)) [
  | inl same ↦
      let prefix : take (length key) word ≡ key = (bytes_eq-Decides (take (length key) word) key).0 same in
      absurd (lacks (drop (length key) word) (sym (take-append-drop (length key) word) ∙ ap (λ t. t ++ drop (length key) word) prefix))
  | inr other ↦ rw other refl
]

pub setting_some : (key word rest : List ℕ) (most n : ℕ) → n ≡ length key → word ≡ key ++ drop n word → rest ≡ drop n word → setting_of key most word ≡ option_and_then (within most) (number_of rest)
setting_some key word rest most n len is behind =
    let prefix : take (length key) word ≡ key = ap (take (length key)) is ∙ take_at key (drop n word) (length key) refl in
    let same : bytes_eq (take (length key) word) key ≡ true = (bytes_eq-Decides (take (length key) word) key).1 prefix in
    let tail : drop (length key) word ≡ rest = ap (λ m. drop m word) (sym len) ∙ sym behind in
    rw (same, tail) refl
