-- The sixteen bytes of a number are those that it was made of.
use Rattle.std.proofs.Common.{◌≡◌, ℕ, ◌+◌, ◌*◌, ◌/◌, ◌%◌, ◌^◌, ◌<◌, List, [], ◌∷◌, ◌++◌, length, get_or, take, drop, inl, inr, arith, refl, sym, ap, ◌∙◌}
use Rattle.std.proofs.lemmas.Bool.{cases_lt}
use Rattle.std.proofs.lemmas.List.{get_or-take, get_or-drop, get_or_past, length-take}
use Rattle.std.proofs.lemmas.Nat.{be_bytes_8, div-mul-add}
use Rattle.std.proofs.Math.Nat.{div-div-eq-div-mul}
use Rattle.std.specs.Int.{from_be_bytes, to_be_bytes, w64, w128}

-- each element fits a byte
pub record AreBytes (bs : List ℕ) : Type 0 where
  pub fit : (i : ℕ) → get_or bs i 0 < 256

prefix_fits : (n : ℕ) (bs : List ℕ) → AreBytes bs → AreBytes (take n bs)
prefix_fits n bs bytes = record {
  fit = λ i. elim (cases_lt i n) [
    | inl within ↦ rw (get_or-take n bs i 0 within) (bytes.fit i)
    | inr over ↦ rw (get_or_past (take n bs) i 0 (omega (arith, length-take n bs))) (omega arith)
  ];
}

rest_fits : (n : ℕ) (bs : List ℕ) → AreBytes bs → AreBytes (drop n bs)
rest_fits n bs bytes = record { fit = λ i. rw (get_or-drop n bs i 0) (bytes.fit (n + i)) }

-- a byte of the high half of a number
high_byte : (high low part : ℕ) → low < 2 ^ 64 → (high * 2 ^ 64 + low) / (2 ^ 64 * part) % 256 ≡ high / part % 256
high_byte high low part fits =
    ap (λ n. n % 256) (sym (div-div-eq-div-mul (high * 2 ^ 64 + low) (2 ^ 64) part) ∙ ap (λ n. n / part) (div-mul-add high (2 ^ 64) low fits))

-- the bytes of a number are those of its halves
halves : (high low : ℕ) → low < 2 ^ 64 → to_be_bytes w128 (high * 2 ^ 64 + low) ≡ to_be_bytes w64 high ++ to_be_bytes w64 low
halves high low fits =
    let h7 = high_byte high low (256 ^ 7) fits in
    let h6 = high_byte high low (256 ^ 6) fits in
    let h5 = high_byte high low (256 ^ 5) fits in
    let h4 = high_byte high low (256 ^ 4) fits in
    let h3 = high_byte high low (256 ^ 3) fits in
    let h2 = high_byte high low (256 ^ 2) fits in
    let h1 = high_byte high low (256 ^ 1) fits in
    let h0 = ap (λ n. n % 256) (div-mul-add high (2 ^ 64) low fits) in
    let l7 : (high * 2 ^ 64 + low) / 256 ^ 7 % 256 ≡ low / 256 ^ 7 % 256 = omega arith in
    let l6 : (high * 2 ^ 64 + low) / 256 ^ 6 % 256 ≡ low / 256 ^ 6 % 256 = omega arith in
    let l5 : (high * 2 ^ 64 + low) / 256 ^ 5 % 256 ≡ low / 256 ^ 5 % 256 = omega arith in
    let l4 : (high * 2 ^ 64 + low) / 256 ^ 4 % 256 ≡ low / 256 ^ 4 % 256 = omega arith in
    let l3 : (high * 2 ^ 64 + low) / 256 ^ 3 % 256 ≡ low / 256 ^ 3 % 256 = omega arith in
    let l2 : (high * 2 ^ 64 + low) / 256 ^ 2 % 256 ≡ low / 256 ^ 2 % 256 = omega arith in
    let l1 : (high * 2 ^ 64 + low) / 256 ^ 1 % 256 ≡ low / 256 ^ 1 % 256 = omega arith in
    let l0 : (high * 2 ^ 64 + low) % 256 ≡ low % 256 = omega arith in
    λ i. h7 i ∷ h6 i ∷ h5 i ∷ h4 i ∷ h3 i ∷ h2 i ∷ h1 i ∷ h0 i ∷ l7 i ∷ l6 i ∷ l5 i ∷ l4 i ∷ l3 i ∷ l2 i ∷ l1 i ∷ l0 i ∷ []

-- the number of sixteen bytes has these bytes
pub to_be_bytes-from_be_bytes_16 : (bs : List ℕ) → length bs ≡ 16 → AreBytes bs → to_be_bytes w128 (from_be_bytes w128 bs) ≡ bs
to_be_bytes-from_be_bytes_16 [] len bytes = absurd (omega arith)
to_be_bytes-from_be_bytes_16 (b0 ∷ []) len bytes = absurd (omega arith)
to_be_bytes-from_be_bytes_16 (b0 ∷ b1 ∷ []) len bytes = absurd (omega arith)
to_be_bytes-from_be_bytes_16 (b0 ∷ b1 ∷ b2 ∷ []) len bytes = absurd (omega arith)
to_be_bytes-from_be_bytes_16 (b0 ∷ b1 ∷ b2 ∷ b3 ∷ []) len bytes = absurd (omega arith)
to_be_bytes-from_be_bytes_16 (b0 ∷ b1 ∷ b2 ∷ b3 ∷ b4 ∷ []) len bytes = absurd (omega arith)
to_be_bytes-from_be_bytes_16 (b0 ∷ b1 ∷ b2 ∷ b3 ∷ b4 ∷ b5 ∷ []) len bytes = absurd (omega arith)
to_be_bytes-from_be_bytes_16 (b0 ∷ b1 ∷ b2 ∷ b3 ∷ b4 ∷ b5 ∷ b6 ∷ []) len bytes = absurd (omega arith)
to_be_bytes-from_be_bytes_16 (b0 ∷ b1 ∷ b2 ∷ b3 ∷ b4 ∷ b5 ∷ b6 ∷ b7 ∷ []) len bytes = absurd (omega arith)
to_be_bytes-from_be_bytes_16 (b0 ∷ b1 ∷ b2 ∷ b3 ∷ b4 ∷ b5 ∷ b6 ∷ b7 ∷ b8 ∷ []) len bytes = absurd (omega arith)
to_be_bytes-from_be_bytes_16 (b0 ∷ b1 ∷ b2 ∷ b3 ∷ b4 ∷ b5 ∷ b6 ∷ b7 ∷ b8 ∷ b9 ∷ []) len bytes = absurd (omega arith)
to_be_bytes-from_be_bytes_16 (b0 ∷ b1 ∷ b2 ∷ b3 ∷ b4 ∷ b5 ∷ b6 ∷ b7 ∷ b8 ∷ b9 ∷ b10 ∷ []) len bytes = absurd (omega arith)
to_be_bytes-from_be_bytes_16 (b0 ∷ b1 ∷ b2 ∷ b3 ∷ b4 ∷ b5 ∷ b6 ∷ b7 ∷ b8 ∷ b9 ∷ b10 ∷ b11 ∷ []) len bytes = absurd (omega arith)
to_be_bytes-from_be_bytes_16 (b0 ∷ b1 ∷ b2 ∷ b3 ∷ b4 ∷ b5 ∷ b6 ∷ b7 ∷ b8 ∷ b9 ∷ b10 ∷ b11 ∷ b12 ∷ []) len bytes = absurd (omega arith)
to_be_bytes-from_be_bytes_16 (b0 ∷ b1 ∷ b2 ∷ b3 ∷ b4 ∷ b5 ∷ b6 ∷ b7 ∷ b8 ∷ b9 ∷ b10 ∷ b11 ∷ b12 ∷ b13 ∷ []) len bytes = absurd (omega arith)
to_be_bytes-from_be_bytes_16 (b0 ∷ b1 ∷ b2 ∷ b3 ∷ b4 ∷ b5 ∷ b6 ∷ b7 ∷ b8 ∷ b9 ∷ b10 ∷ b11 ∷ b12 ∷ b13 ∷ b14 ∷ []) len bytes = absurd (omega arith)
to_be_bytes-from_be_bytes_16 (b0 ∷ b1 ∷ b2 ∷ b3 ∷ b4 ∷ b5 ∷ b6 ∷ b7 ∷ b8 ∷ b9 ∷ b10 ∷ b11 ∷ b12 ∷ b13 ∷ b14 ∷ b15 ∷ []) len bytes =
    let prefix = prefix_fits 8 (b0 ∷ b1 ∷ b2 ∷ b3 ∷ b4 ∷ b5 ∷ b6 ∷ b7 ∷ b8 ∷ b9 ∷ b10 ∷ b11 ∷ b12 ∷ b13 ∷ b14 ∷ b15 ∷ []) bytes in
    let rest = rest_fits 8 (b0 ∷ b1 ∷ b2 ∷ b3 ∷ b4 ∷ b5 ∷ b6 ∷ b7 ∷ b8 ∷ b9 ∷ b10 ∷ b11 ∷ b12 ∷ b13 ∷ b14 ∷ b15 ∷ []) bytes in
    let high = from_be_bytes w64 (b0 ∷ b1 ∷ b2 ∷ b3 ∷ b4 ∷ b5 ∷ b6 ∷ b7 ∷ []) in
    let low = from_be_bytes w64 (b8 ∷ b9 ∷ b10 ∷ b11 ∷ b12 ∷ b13 ∷ b14 ∷ b15 ∷ []) in
    let fits : low < 2 ^ 64 = omega (arith, rest.fit 0, rest.fit 1, rest.fit 2, rest.fit 3, rest.fit 4, rest.fit 5, rest.fit 6, rest.fit 7) in
    let number : from_be_bytes w128 (b0 ∷ b1 ∷ b2 ∷ b3 ∷ b4 ∷ b5 ∷ b6 ∷ b7 ∷ b8 ∷ b9 ∷ b10 ∷ b11 ∷ b12 ∷ b13 ∷ b14 ∷ b15 ∷ []) ≡ high * 2 ^ 64 + low = omega arith in
    let high_back = be_bytes_8 (b0 ∷ b1 ∷ b2 ∷ b3 ∷ b4 ∷ b5 ∷ b6 ∷ b7 ∷ []) high refl prefix.fit refl in
    let low_back = be_bytes_8 (b8 ∷ b9 ∷ b10 ∷ b11 ∷ b12 ∷ b13 ∷ b14 ∷ b15 ∷ []) low refl rest.fit refl in
    ap (to_be_bytes w128) number ∙ halves high low fits ∙ ap (λ l. l ++ to_be_bytes w64 low) high_back ∙ ap (λ l. (b0 ∷ b1 ∷ b2 ∷ b3 ∷ b4 ∷ b5 ∷ b6 ∷ b7 ∷ []) ++ l) low_back
to_be_bytes-from_be_bytes_16 (b0 ∷ b1 ∷ b2 ∷ b3 ∷ b4 ∷ b5 ∷ b6 ∷ b7 ∷ b8 ∷ b9 ∷ b10 ∷ b11 ∷ b12 ∷ b13 ∷ b14 ∷ b15 ∷ b16 ∷ bs) len bytes = absurd (omega arith)

-- the number of sixteen bytes fits
pub number_fits : (bs : List ℕ) → AreBytes bs → from_be_bytes w128 bs < 2 ^ 128
number_fits bs bytes = omega (arith, bytes.fit 0, bytes.fit 1, bytes.fit 2, bytes.fit 3, bytes.fit 4, bytes.fit 5, bytes.fit 6, bytes.fit 7, bytes.fit 8, bytes.fit 9, bytes.fit 10, bytes.fit 11, bytes.fit 12, bytes.fit 13, bytes.fit 14, bytes.fit 15)
