-- The texts that begin a replica are those whose bytes fit their places.
use Rattle.std.proofs.Common.{◌≡◌, ◌⊎◌, ℕ, zero, suc, ◌+◌, ◌*◌, ◌/◌, ◌%◌, ◌^◌, ◌<◌, ◌≤◌, List, [], ◌∷◌, ◌++◌, length, length-append, get_or, slice_index, take, drop, Bool, true, false, Option, Some, None, option_and_then, nat_lt, if◌then◌else◌, inl, inr, arith, refl, sym, ap, subst, ◌∙◌}
use Rattle.std.proofs.lemmas.Bool.{cases_lt, cases_eq}
use Rattle.std.proofs.Common.{lt-ltb, le-ltb, true≢false}
use Rattle.std.proofs.lemmas.Bool.Decides.{nat_tests}
use Rattle.std.proofs.lemmas.List.{get_or_append_left, get_or_past, get_or_default, take-append-drop}
use Rattle.std.proofs.lemmas.Option.{cond_some, option_and_then_some}
use Rattle.std.specs.Int.{from_be_bytes, to_be_bytes, w128}
use Rattle.uuid.specs.Text.{by_index, hex_digit, nibble, lower, hyphen, is_hyphen_place, digit_place, hyphen_place, digits_of, value_of, byte_of_digits, hyphenated_text}
use Rattle.uuid.proofs.TextLemmas.{by_index_length, by_index_at, by_index_same, nibble_even, nibble_odd, nibble_small, take_same}
use Rattle.sfx_ids.specs.Prefix.{BeginsReplica}
use Rattle.sfx_ids.specs.Steps.{fits_place}
use Rattle.sfx_ids.specs.Text.{replica_text}
use Rattle.sfx_ids.proofs.StepsLemmas.{run, ReadsPrefixes}
use Rattle.sfx_ids.proofs.ReplicaTexts.{length-replica_text}
use Rattle.sfx_ids.proofs.ReplicaBytes.{AreBytes, number_fits, to_be_bytes-from_be_bytes_16}

-- the step over a place: the next place, where the byte fits this one
abbrev pub next_place : ℕ → ℕ → Option ℕ
next_place place byte = if fits_place place byte then Some (place + 1) else None

-- the bytes fit the places from this one on
pub record FitsFrom (place : ℕ) (text : List ℕ) : Type 0 where
  pub fit : (i : ℕ) → i < length text → fits_place (place + i) (get_or text i 0) ≡ true

first_fits : (place byte : ℕ) (bytes : List ℕ) → FitsFrom place (byte ∷ bytes) → fits_place place byte ≡ true
first_fits place byte bytes fits =
    let same : place + 0 ≡ place = omega arith in
    subst (λ p. fits_place p byte ≡ true) same (fits.fit 0 (omega arith))

rest_fits : (place byte : ℕ) (bytes : List ℕ) → FitsFrom place (byte ∷ bytes) → FitsFrom (place + 1) bytes
rest_fits place byte bytes fits = record {
  fit = λ i within.
      let same : place + suc i ≡ place + 1 + i = omega arith in
      subst (λ p. fits_place p (get_or bytes i 0) ≡ true) same (fits.fit (suc i) (omega arith));
}

one_more : (place byte : ℕ) (bytes : List ℕ) → fits_place place byte ≡ true → FitsFrom (place + 1) bytes → FitsFrom place (byte ∷ bytes)
one_more place byte bytes first rest = record { fit = fit_of }
  where
    fit_of : (i : ℕ) → i < length (byte ∷ bytes) → fits_place (place + i) (get_or (byte ∷ bytes) i 0) ≡ true
    fit_of zero within =
        let same : place ≡ place + 0 = omega arith in
        subst (λ p. fits_place p byte ≡ true) same first
    fit_of (suc i) within =
        let same : place + 1 + i ≡ place + suc i = omega arith in
        subst (λ p. fits_place p (get_or bytes i 0) ≡ true) same (rest.fit i (omega arith))

-- bytes that fit are read
places_read : (text : List ℕ) (place : ℕ) → FitsFrom place text → (end : ℕ) × (run next_place place text ≡ Some end)
places_read [] place fits = (place, refl)
places_read (b ∷ bs) place fits =
    let step : next_place place b ≡ Some (place + 1) = ap (λ t. if t then Some (place + 1) else None) (first_fits place b bs fits) in
    let rest = places_read bs (place + 1) (rest_fits place b bs fits) in
    (rest.0, ap (option_and_then (λ next. run next_place next bs)) step ∙ rest.1)

-- bytes that are read fit
places_fit : (text : List ℕ) (place end : ℕ) → run next_place place text ≡ Some end → FitsFrom place text
places_fit [] place end read = record { fit = λ i within. absurd (omega arith) }
places_fit (b ∷ bs) place end read =
    option_and_then_some (λ next. run next_place next bs) (next_place place b) end read (λ next step rest.
    let parts = cond_some (fits_place place b) (place + 1) next step in
    one_more place b bs parts.0 (places_fit bs (place + 1) end (ap (λ p. run next_place p bs) parts.1 ∙ rest)))

-- the characters of a replica's text fit
fits_at : (is_hyphen : Bool) (place digit : ℕ) → is_hyphen_place place ≡ is_hyphen → place < 36 → digit < 16
    → fits_place place (if is_hyphen then hyphen else hex_digit lower digit) ≡ true
fits_at true place digit is within small = grind (arith, nat_tests)
fits_at false place digit is within small = grind (arith, nat_tests)

text_fits : (replica place : ℕ) → place < 36 → fits_place place (get_or (replica_text replica) place 0) ≡ true
unfolding replica_text
text_fits replica place within =
    let bytes = to_be_bytes w128 replica in
    let character = by_index_at 36 (λ k. if is_hyphen_place k then hyphen else hex_digit lower (nibble bytes (digit_place k))) place 0 within in
    ap (fits_place place) character
    ∙ fits_at (is_hyphen_place place) place (nibble bytes (digit_place place)) refl within (nibble_small bytes (digit_place place))

reads : (text : List ℕ) → BeginsReplica text → (end : ℕ) × (run next_place 0 text ≡ Some end)
reads text prefix =
    let whole = length-replica_text prefix.replica in
    places_read text 0 (record {
      fit = λ i within.
          let zero_more : 0 + i ≡ i = omega arith in
          let same = ap (λ t. get_or t i 0) prefix.spelled ∙ get_or_append_left text prefix.rest 0 i within in
          let inside : i < 36 = omega (arith, whole, ap length prefix.spelled, length-append text prefix.rest) in
          rw zero_more (ap (fits_place i) (sym same) ∙ text_fits prefix.replica i inside);
    })

-- a character that fits a digit's place is the digit of its value
digit_back : (place byte : ℕ) → is_hyphen_place place ≡ false → fits_place place byte ≡ true → (value_of byte < 16) × (hex_digit lower (value_of byte) ≡ byte)
digit_back place byte no_hyphen fits = (grind (arith, nat_tests), grind (arith, nat_tests))

hyphen_back : (place byte : ℕ) → is_hyphen_place place ≡ true → fits_place place byte ≡ true → byte ≡ hyphen
hyphen_back place byte is_hyphen fits = grind (arith, nat_tests)

-- the characters of the text of a replica: 36 that fit their places
record IsWhole (text : List ℕ) : Type 0 where
  pub long : length text ≡ 36
  pub fits : (k : ℕ) → k < 36 → fits_place k (get_or text k 0) ≡ true

-- the digit at a place among the 32, which is no hyphen
digit_at : (text : List ℕ) → IsWhole text → (j : ℕ) → j < 32
    → (value_of (get_or (digits_of text) j 0) < 16) × (get_or (digits_of text) j 0 ≡ get_or text (hyphen_place j) 0)
digit_at text whole j within =
    let inside : hyphen_place j < 36 = grind (arith, nat_tests) in
    let no_hyphen : is_hyphen_place (hyphen_place j) ≡ false = grind (arith, nat_tests) in
    let is = by_index_at 32 (λ i. slice_index text (hyphen_place i)) j 0 within in
    (rw is (digit_back (hyphen_place j) (get_or text (hyphen_place j) 0) no_hyphen (whole.fits (hyphen_place j) inside)).0, is)

-- the bytes that the digits make
abbrev bytes_of : List ℕ → List ℕ
bytes_of text = by_index 16 (byte_of_digits (digits_of text))

byte_at : (text : List ℕ) → IsWhole text → (i : ℕ) → i < 16
    → (get_or (bytes_of text) i 0 ≡ value_of (get_or (digits_of text) (2 * i) 0) * 16 + value_of (get_or (digits_of text) (2 * i + 1) 0))
    × (value_of (get_or (digits_of text) (2 * i) 0) < 16) × (value_of (get_or (digits_of text) (2 * i + 1) 0) < 16)
byte_at text whole i within =
    (by_index_at 16 (byte_of_digits (digits_of text)) i 0 within, (digit_at text whole (2 * i) (omega arith)).0, (digit_at text whole (2 * i + 1) (omega arith)).0)

AreBytes-of_text : (text : List ℕ) → IsWhole text → AreBytes (bytes_of text)
AreBytes-of_text text whole = record {
  fit = λ i. elim (cases_lt i 16) [
    | inl within ↦
        let at = byte_at text whole i within in
        omega (arith, at.0, at.1, at.2)
    | inr over ↦ rw (get_or_past (bytes_of text) i 0 (rw (by_index_length 16 (byte_of_digits (digits_of text))) over)) (omega arith)
  ];
}

high_half : (byte high low : ℕ) → byte ≡ high * 16 + low → high < 16 → low < 16 → byte / 16 % 16 ≡ high
high_half byte high low is h l = omega arith

low_half : (byte high low : ℕ) → byte ≡ high * 16 + low → high < 16 → low < 16 → byte % 16 ≡ low
low_half byte high low is h l = omega arith

-- the half of a byte is the digit that it was made of
nibble_back : (text : List ℕ) → IsWhole text → (j : ℕ) → j < 32 → nibble (bytes_of text) j ≡ value_of (get_or (digits_of text) j 0)
nibble_back text whole j within =
    let i = j / 2 in
    let at = byte_at text whole i (omega arith) in
    elim (cases_eq (j % 2) 0) [
      | inl even ↦
          let place : 2 * (j / 2) ≡ j = omega arith in
          ap (nibble (bytes_of text)) (sym place) ∙ nibble_even (bytes_of text) i ∙ high_half _ _ _ at.0 at.1 at.2
          ∙ ap (λ k. value_of (get_or (digits_of text) k 0)) place
      | inr odd ↦
          let place : 2 * (j / 2) + 1 ≡ j = omega arith in
          ap (nibble (bytes_of text)) (sym place) ∙ nibble_odd (bytes_of text) i ∙ low_half _ _ _ at.0 at.1 at.2
          ∙ ap (λ k. value_of (get_or (digits_of text) k 0)) place
    ]

-- the character at a place of the text that the bytes give
character_back : (is_hyphen : Bool) (text : List ℕ) → IsWhole text → (k : ℕ) → k < 36 → is_hyphen_place k ≡ is_hyphen
    → get_or text k 0 ≡ (if is_hyphen then hyphen else hex_digit lower (nibble (bytes_of text) (digit_place k)))
character_back true text whole k within is = hyphen_back k (get_or text k 0) is (whole.fits k within)
character_back false text whole k within is =
    let inside : digit_place k < 32 = grind (arith, nat_tests) in
    let place : hyphen_place (digit_place k) ≡ k = grind (arith, nat_tests) in
    let digit = digit_back k (get_or text k 0) is (whole.fits k within) in
    let character = (digit_at text whole (digit_place k) inside).1 ∙ ap (λ p. get_or text p 0) place in
    sym (ap (hex_digit lower) (nibble_back text whole (digit_place k) inside ∙ ap value_of character) ∙ digit.1)

-- such characters are the text of a replica
replica_of : (text : List ℕ) → IsWhole text → (replica : ℕ) × (replica < 2 ^ 128) × (replica_text replica ≡ text)
unfolding replica_text
replica_of text whole =
    let bytes = bytes_of text in
    let are_bytes = AreBytes-of_text text whole in
    let len = by_index_length 16 (byte_of_digits (digits_of text)) in
    let fits = number_fits bytes are_bytes in
    let spelled : text ≡ hyphenated_text lower bytes =
    by_index_same text 36 (λ k. if is_hyphen_place k then hyphen else hex_digit lower (nibble bytes (digit_place k))) whole.long
    (λ k d within. get_or_default text k d 0 (rw whole.long within) ∙ character_back (is_hyphen_place k) text whole k within refl) in
    (from_be_bytes w128 bytes, fits, ap (hyphenated_text lower) (to_be_bytes-from_be_bytes_16 bytes len are_bytes) ∙ sym spelled)

-- what may stand at a place that is still to come
abbrev filler : ℕ → ℕ
filler place = if is_hyphen_place place then hyphen else 48

filler_fits : (place : ℕ) → place < 36 → fits_place place (filler place) ≡ true
filler_fits place within = grind (arith, nat_tests)

-- a text that fits its places, filled up
abbrev filled : List ℕ → List ℕ
filled text = by_index 36 (λ k. if nat_lt k (length text) then get_or text k 0 else filler k)

IsWhole-filled : (text : List ℕ) → FitsFrom 0 text → IsWhole (filled text)
IsWhole-filled text fits = record {
  long = by_index_length 36 (λ k. if nat_lt k (length text) then get_or text k 0 else filler k);
  fits = λ k within. rw (by_index_at 36 (λ i. if nat_lt i (length text) then get_or text i 0 else filler i) k 0 within) (by_side k within (cases_lt k (length text)));
}
  where
    by_side : (k : ℕ) → k < 36 → (k < length text) ⊎ (length text ≤ k) → fits_place k (if nat_lt k (length text) then get_or text k 0 else filler k) ≡ true
    by_side k within (inl inside) =
        let zero_more : 0 + k ≡ k = omega arith in
        rw (lt-ltb k (length text) inside) (subst (λ p. fits_place p (get_or text k 0) ≡ true) zero_more (fits.fit k inside))
    by_side k within (inr beyond) = rw (le-ltb k (length text) beyond) (filler_fits k within)

-- at most 36 bytes fit
short : (text : List ℕ) → FitsFrom 0 text → length text ≤ 36
short text fits = by_side (cases_lt 36 (length text))
  where
    by_side : (36 < length text) ⊎ (length text ≤ 36) → length text ≤ 36
    by_side (inl long) = absurd (true≢false (sym (fits.fit 36 long)))
    by_side (inr within) = within

-- a text that fits its places is a prefix of what it is filled up to
filled_prefix : (text : List ℕ) → FitsFrom 0 text → take (length text) (filled text) ≡ text
filled_prefix text fits =
    let long = by_index_length 36 (λ k. if nat_lt k (length text) then get_or text k 0 else filler k) in
    take_same (filled text) text (omega (arith, long, short text fits)) (λ i inside.
    by_index_at 36 (λ k. if nat_lt k (length text) then get_or text k 0 else filler k) i 0 (omega (arith, short text fits))
    ∙ rw (lt-ltb i (length text) inside) refl)

begins : (text : List ℕ) (end : ℕ) → run next_place 0 text ≡ Some end → BeginsReplica text
begins text end read =
    let fits = places_fit text 0 end read in
    let whole = replica_of (filled text) (IsWhole-filled text fits) in
    let parts = ap (λ prefix. prefix ++ drop (length text) (filled text)) (sym (filled_prefix text fits)) ∙ take-append-drop (length text) (filled text) in
    record { replica = whole.0; rest = drop (length text) (filled text); valid = whole.1; spelled = whole.2 ∙ sym parts }

-- the prefixes of the texts of replicas are what the steps read
pub replica_prefixes : ReadsPrefixes next_place BeginsReplica
replica_prefixes = record { begins = begins; reads = reads }
