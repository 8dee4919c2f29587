-- The number of a UUID that was read has 128 bits.
use Rattle.std.proofs.Common.{◌≡◌, ℕ, ◌+◌, ◌*◌, ◌<◌, ◌^◌, Bool, true, false, ◌&&◌, ◌==◌, if◌then◌else◌, Option, Some, None, List, length, get_or, slice_index, take, drop, inl, inr, refl, sym, ◌∙◌, subst, arith}
use Rattle.std.proofs.lemmas.Bool.{cases_Bool, cases_lt, eqb-true}
use Rattle.std.proofs.lemmas.Bool.Decides.{nat_tests}
use Rattle.std.proofs.lemmas.List.{get_or_past}
use Rattle.std.proofs.lemmas.List.Folds.{list_all_at}
use Rattle.std.specs.Int.{from_be_bytes, w128}
use Rattle.std.specs.List.{list_all}
use Rattle.std.specs.Option.{option_map}
use Rattle.uuid.specs.Text.{by_index, byte_of_digits, digits_of, has_hyphens, has_urn_prefix, is_hex_digit, parsed, parsed_braced, parsed_hyphenated, parsed_simple, parsed_urn, value_of, open_brace, close_brace}
use Rattle.uuid.proofs.TextLemmas.{by_index_at, by_index_length}
use Rattle.sfx_ids.proofs.ReplicaBytes.{AreBytes, number_fits}
use Rattle.sfx_script.specs.Word.{uuid_of}

value_small : (c : ℕ) → is_hex_digit c ≡ true → value_of c < 16
value_small c digit = grind (arith, nat_tests)

digit_small : (hex : List ℕ) (i : ℕ) → list_all is_hex_digit hex ≡ true → i < length hex → value_of (get_or hex i 0) < 16
digit_small hex i all within = elim (cases_Bool (is_hex_digit (get_or hex i 0))) [
  | inl digit ↦ value_small (get_or hex i 0) digit
  | inr other ↦
      let none : list_all is_hex_digit hex ≡ false = list_all_at is_hex_digit hex i 0 within other in
      let bad : true ≡ false = sym all ∙ none in
      absurd (cc)
]

abbrev bytes_in : List ℕ → List ℕ
bytes_in hex = by_index 16 (byte_of_digits hex)

digits_bytes : (hex : List ℕ) → length hex ≡ 32 → list_all is_hex_digit hex ≡ true → AreBytes (bytes_in hex)
digits_bytes hex whole all = record {
  fit = λ i. elim (cases_lt i 16) [
    | inl within ↦
        let at : get_or (bytes_in hex) i 0 ≡ value_of (get_or hex (2 * i) 0) * 16 + value_of (get_or hex (2 * i + 1) 0) =
        by_index_at 16 (byte_of_digits hex) i 0 within in
        let high = digit_small hex (2 * i) all (omega (arith, whole, within)) in
        let low = digit_small hex (2 * i + 1) all (omega (arith, whole, within)) in
        omega (arith, at, high, low)
    | inr over ↦ rw (get_or_past (bytes_in hex) i 0 (rw (by_index_length 16 (byte_of_digits hex)) over)) (omega arith)
  ];
}

both : (a b : Bool) → (a && b) ≡ true → (a ≡ true) × (b ≡ true)
both true true e = (refl, refl)
both true false e = let bad : false ≡ true = e in absurd (cc)
both false b e = let bad : false ≡ true = e in absurd (cc)

simple_bytes : (hex bs : List ℕ) → parsed_simple hex ≡ Some bs → AreBytes bs
simple_bytes hex bs e = by ((length hex == 32) && list_all is_hex_digit hex) refl e where
  by : (b : Bool) → ((length hex == 32) && list_all is_hex_digit hex) ≡ b → (if b then Some (bytes_in hex) else None) ≡ Some bs → AreBytes bs
  by true test is =
      let (whole, all) = both (length hex == 32) (list_all is_hex_digit hex) test in
      let same : bytes_in hex ≡ bs = cc in
      subst AreBytes same (digits_bytes hex (eqb-true (length hex) 32 whole) all)
  by false test is = let bad : None ≡ Some bs = is in absurd (cc)

-- where a reading depends on a test
abbrev tested : Bool → Option (List ℕ) → Option (List ℕ)
tested b o = if b then o else None

tested_is : (b : Bool) (o : Option (List ℕ)) (bs : List ℕ) → tested b o ≡ Some bs → o ≡ Some bs
tested_is true o bs e = e
tested_is false o bs e = let bad : None ≡ Some bs = e in absurd (cc)

hyphenated_bytes : (s bs : List ℕ) → parsed_hyphenated s ≡ Some bs → AreBytes bs
hyphenated_bytes s bs e =
    simple_bytes (digits_of s) bs (tested_is ((length s == 36) && has_hyphens s) (parsed_simple (digits_of s)) bs e)

braced_bytes : (s bs : List ℕ) → parsed_braced s ≡ Some bs → AreBytes bs
braced_bytes s bs e =
    hyphenated_bytes (take 36 (drop 1 s)) bs
    (tested_is ((length s == 38) && (slice_index s 0 == open_brace) && (slice_index s 37 == close_brace)) (parsed_hyphenated (take 36 (drop 1 s))) bs e)

urn_bytes : (s bs : List ℕ) → parsed_urn s ≡ Some bs → AreBytes bs
urn_bytes s bs e =
    hyphenated_bytes (drop 9 s) bs (tested_is ((length s == 45) && has_urn_prefix s) (parsed_hyphenated (drop 9 s)) bs e)

parsed_bytes : (s bs : List ℕ) → parsed s ≡ Some bs → AreBytes bs
parsed_bytes s bs e = by_simple (length s == 32) e where
  by_urn : (b : Bool) → (if b then parsed_urn s else None) ≡ Some bs → AreBytes bs
  by_urn true e = urn_bytes s bs e
  by_urn false e = let bad : None ≡ Some bs = e in absurd (cc)

  by_braced : (b : Bool) → (if b then parsed_braced s else if length s == 45 then parsed_urn s else None) ≡ Some bs → AreBytes bs
  by_braced true e = braced_bytes s bs e
  by_braced false e = by_urn (length s == 45) e

  by_hyphenated : (b : Bool) → (if b then parsed_hyphenated s else if length s == 38 then parsed_braced s else if length s == 45 then parsed_urn s else None) ≡ Some bs → AreBytes bs
  by_hyphenated true e = hyphenated_bytes s bs e
  by_hyphenated false e = by_braced (length s == 38) e

  by_simple : (b : Bool)
      → (if b then parsed_simple s else if length s == 36 then parsed_hyphenated s else if length s == 38 then parsed_braced s else if length s == 45 then parsed_urn s else None) ≡ Some bs
      → AreBytes bs
  by_simple true e = simple_bytes s bs e
  by_simple false e = by_hyphenated (length s == 36) e

pub uuid_fits : (word : List ℕ) (id : ℕ) → uuid_of word ≡ Some id → id < 2 ^ 128
uuid_fits word id e = by (parsed word) refl e where
  by : (o : Option (List ℕ)) → parsed word ≡ o → option_map (from_be_bytes w128) o ≡ Some id → id < 2 ^ 128
  by None is e = let bad : None ≡ Some id = e in absurd (cc)
  by (Some bs) is e =
      let same : from_be_bytes w128 bs ≡ id = cc in
      subst (λ n. n < 2 ^ 128) same (number_fits bs (parsed_bytes word bs is))
