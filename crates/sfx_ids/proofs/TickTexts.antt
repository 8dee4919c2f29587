-- The digits of a tick.
use Rattle.std.proofs.Common.{◌≢◌, ◌⊎◌, ℕ, zero, suc, ◌+◌, ◌%◌, ◌^◌, ◌<◌, ◌≤◌, List, [], ◌∷◌, ◌++◌, length, length-append, get_or, decimal, arith, inl, inr}
use Rattle.std.proofs.lemmas.Bool.{cases_lt}
use Rattle.std.proofs.lemmas.Fmt.{decimal_by_steps}
use Rattle.std.proofs.lemmas.List.{get_or_append_left, get_or_push}

-- each element is the code of a digit
pub record AreDigits (text : List ℕ) : Type 0 where
  pub low : (i : ℕ) → i < length text → 48 ≤ get_or text i 0
  pub high : (i : ℕ) → i < length text → get_or text i 0 ≤ 57

one_digit : (d : ℕ) → d < 10 → AreDigits ((48 + d) ∷ [])
one_digit d small = record { low = low_of; high = high_of }
  where
    low_of : (i : ℕ) → i < 1 → 48 ≤ get_or ((48 + d) ∷ []) i 0
    low_of zero here = omega arith
    low_of (suc i) here = absurd (omega arith)

    high_of : (i : ℕ) → i < 1 → get_or ((48 + d) ∷ []) i 0 ≤ 57
    high_of zero here = omega arith
    high_of (suc i) here = absurd (omega arith)

digit_more : (text : List ℕ) (d : ℕ) → d < 10 → AreDigits text → AreDigits (text ++ (48 + d) ∷ [])
digit_more text d small digits = record { low = λ i here. low_of i here (cases_lt i (length text)); high = λ i here. high_of i here (cases_lt i (length text)) }
  where
    low_of : (i : ℕ) → i < length (text ++ (48 + d) ∷ []) → (i < length text) ⊎ (length text ≤ i) → 48 ≤ get_or (text ++ (48 + d) ∷ []) i 0
    low_of i here (inl prefix) = rw (get_or_append_left text ((48 + d) ∷ []) 0 i prefix) (digits.low i prefix)
    low_of i here (inr last) = rw (get_or_push text (48 + d) 0 i (omega (arith, length-append text ((48 + d) ∷ [])))) (omega arith)

    high_of : (i : ℕ) → i < length (text ++ (48 + d) ∷ []) → (i < length text) ⊎ (length text ≤ i) → get_or (text ++ (48 + d) ∷ []) i 0 ≤ 57
    high_of i here (inl prefix) = rw (get_or_append_left text ((48 + d) ∷ []) 0 i prefix) (digits.high i prefix)
    high_of i here (inr last) = rw (get_or_push text (48 + d) 0 i (omega (arith, length-append text ((48 + d) ∷ [])))) (omega arith)

pub AreDigits-decimal : (n : ℕ) → n < 2 ^ 64 → AreDigits (decimal n)
AreDigits-decimal =
    decimal_by_steps (λ n ds. AreDigits ds) (λ n small. one_digit n small) (λ n ds big prefix. digit_more ds (n % 10) (omega arith) prefix)

-- no separator stands among the digits
pub no_separator : (n c : ℕ) → n < 2 ^ 64 → 57 < c → (i : ℕ) → i < length (decimal n) → get_or (decimal n) i 0 ≢ c
no_separator n c fits behind i here same = omega (arith, (AreDigits-decimal n fits).high i here)
