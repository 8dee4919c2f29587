-- The bytes that texts of ids are made of: digits, the letters `a` to `f`, `-`, `:` and `@`. So such a text is ASCII, and has
-- no space, quotation mark or backslash.
use Rattle.std.proofs.Common.{◌≡◌, ℕ, ◌+◌, ◌%◌, ◌^◌, ◌<◌, ◌==◌, ◌&&◌, ◌||◌, List, [], ◌∷◌, length, get_or, Bool, true, false, nat_le, decimal, All, if◌then◌else◌, inl, inr, arith, refl, ap, ◌∙◌}
use Rattle.std.proofs.lemmas.Bool.{cases_lt}
use Rattle.std.proofs.lemmas.Bool.Decides.{nat_tests}
use Rattle.std.proofs.lemmas.Fmt.{decimal_by_steps}
use Rattle.std.proofs.lemmas.List.{get_or_past}
use Rattle.std.proofs.lemmas.List.Elements.{All-nil, All-cons, All-append}
use Rattle.std.specs.Char.{is_ascii_digit}
use Rattle.std.specs.Int.{to_be_bytes, w128}
use Rattle.std.specs.Str.{IsAscii}
use Rattle.uuid.specs.Text.{hex_digit, nibble, lower, hyphen, is_hyphen_place, digit_place}
use Rattle.uuid.proofs.TextLemmas.{by_index_at, by_index_length, nibble_small}
use Rattle.sfx_ids.specs.declared.item_id.ItemId.{ItemId}
use Rattle.sfx_ids.specs.declared.version.Version.{Version}
use Rattle.sfx_ids.specs.ItemId.{IsItemId}
use Rattle.sfx_ids.specs.Text.{pair_text, replica_text, item_text, version_text, colon, at_sign}
use Rattle.sfx_ids.specs.Tick.{IsTick}
use Rattle.sfx_ids.specs.Version.{IsVersion}

-- whether a byte may stand in a text of an id
abbrev pub is_id_byte : ℕ → Bool
is_id_byte c = is_ascii_digit c || (nat_le 97 c && nat_le c 102) || (c == hyphen) || (c == colon) || (c == at_sign)

-- each byte may
abbrev pub AreIdBytes : List ℕ → Type 0
AreIdBytes text = All (λ c. is_id_byte c ≡ true) text

one_byte : (c : ℕ) → is_id_byte c ≡ true → AreIdBytes (c ∷ [])
one_byte c fits = All-cons (λ b. is_id_byte b ≡ true) c [] fits (All-nil (λ b. is_id_byte b ≡ true))

digit_fits : (d : ℕ) → d < 10 → is_id_byte (48 + d) ≡ true
digit_fits d small = grind (arith, nat_tests)

pub AreIdBytes-decimal : (n : ℕ) → n < 2 ^ 64 → AreIdBytes (decimal n)
AreIdBytes-decimal =
    decimal_by_steps (λ n ds. AreIdBytes ds) (λ n small. one_byte (48 + n) (digit_fits n small))
    (λ n ds big prefix. All-append (λ b. is_id_byte b ≡ true) ds ((48 + n % 10) ∷ []) prefix (one_byte (48 + n % 10) (digit_fits (n % 10) (omega arith))))

character_fits : (is_hyphen : Bool) (digit : ℕ) → digit < 16 → is_id_byte (if is_hyphen then hyphen else hex_digit lower digit) ≡ true
character_fits true digit small = refl
character_fits false digit small = grind (arith, nat_tests)

pub AreIdBytes-replica_text : (replica : ℕ) → AreIdBytes (replica_text replica)
unfolding replica_text
AreIdBytes-replica_text replica k d within =
    let bytes = to_be_bytes w128 replica in
    let inside : k < 36 = rw (by_index_length 36 (λ i. if is_hyphen_place i then hyphen else hex_digit lower (nibble bytes (digit_place i)))) at within in
    ap is_id_byte (by_index_at 36 (λ i. if is_hyphen_place i then hyphen else hex_digit lower (nibble bytes (digit_place i))) k d inside)
    ∙ character_fits (is_hyphen_place k) (nibble bytes (digit_place k)) (nibble_small bytes (digit_place k))

pair_fits : (separator tick replica : ℕ) → is_id_byte separator ≡ true → IsTick tick → AreIdBytes (pair_text separator tick replica)
pair_fits separator tick replica fits is_tick =
    All-append (λ b. is_id_byte b ≡ true) (decimal tick) (separator ∷ replica_text replica) (AreIdBytes-decimal tick (omega arith))
    (All-cons (λ b. is_id_byte b ≡ true) separator (replica_text replica) fits (AreIdBytes-replica_text replica))

pub AreIdBytes-item_text : (x : ItemId) → IsItemId x → AreIdBytes (item_text x)
unfolding item_text
AreIdBytes-item_text x valid = pair_fits colon x.tick x.replica refl valid.tick

pub AreIdBytes-version_text : (v : Version) → IsVersion v → AreIdBytes (version_text v)
unfolding version_text
AreIdBytes-version_text v valid = pair_fits at_sign v.tick v.replica refl valid.tick

small_byte : (c : ℕ) → is_id_byte c ≡ true → c < 128
small_byte c fits = grind (arith, nat_tests)

-- such a text is ASCII
pub IsAscii-id_bytes : (text : List ℕ) → AreIdBytes text → IsAscii text
IsAscii-id_bytes text fits i = elim (cases_lt i (length text)) [
  | inl within ↦ small_byte (get_or text i 0) (fits i 0 within)
  | inr over ↦ rw (get_or_past text i 0 over) (omega arith)
]
