-- Bytes that are taken one after another, and counts of faults that rise.
use Rattle.std.proofs.Common.{◌≡◌, ℕ, ◌<◌, ◌≤◌, List, ◌++◌, length, take, Option, None, Some, IfSome, inl, inr, refl, ap, sym, arith, length-append, append_assoc}
use Rattle.std.proofs.lemmas.List.{append-nil}
use Rattle.sfx_outside.specs.Fault.{HasRisen}
use Rattle.sfx_outside.specs.Source.{IsAtEnd, Takes}

-- bytes that are taken, and then those behind them
pub Takes-append : (before between now : Option (List ℕ)) (xs ys : List ℕ) →
    Takes before between xs → Takes between now ys → Takes before now (xs ++ ys)
Takes-append before between None xs ys first second = rw (first, second) refl
Takes-append before between (Some rest) xs ys first second = rw (first, second) (ap Some (sym (append_assoc xs ys rest)))

-- bytes that are taken, and then none
pub Takes-none : (before between now : Option (List ℕ)) (xs into : List ℕ) (count : ℕ) →
    Takes before between xs → count ≡ 0 → Takes between now (take count into) → Takes before now xs
Takes-none before between None xs into count first none second = rw (first, second) refl
Takes-none before between (Some rest) xs into count first none second =
    let same : between ≡ Some rest = rw none at second in
    rw (first, same) refl

-- what was taken by the end is all that was left
pub Takes-all : (before now : Option (List ℕ)) (bytes : List ℕ) →
    Takes before now bytes → IsAtEnd now → IfSome before (λ all. bytes ≡ all)
Takes-all before None bytes taken at_end = rw taken tt
Takes-all before (Some rest) bytes taken at_end = rw (taken, at_end) (sym (append-nil bytes))

-- more than the limit is left where more than the limit was taken
pub Takes-long : (before now : Option (List ℕ)) (bytes : List ℕ) (limit : ℕ) →
    Takes before now bytes → limit < length bytes → IfSome before (λ all. limit < length all)
Takes-long before None bytes limit taken long = rw taken tt
Takes-long before (Some rest) bytes limit taken long = rw taken (omega (arith, length-append bytes rest))

-- what no limit asks, of bytes that are more than the limit
pub never_short : (before : Option (List ℕ)) (limit : ℕ) (P : Type 0) →
    IfSome before (λ all. limit < length all) → IfSome before (λ all. length all ≤ limit → P)
never_short None limit P long = tt
never_short (Some all) limit P long = λ short. absurd (omega arith)

-- what no limit asks, of bytes that are all within the limit
pub never_long : (before : Option (List ℕ)) (bytes : List ℕ) (limit : ℕ) (P : Type 0) →
    IfSome before (λ all. bytes ≡ all) → length bytes ≤ limit → IfSome before (λ all. limit < length all → P)
never_long None bytes limit P same within = tt
never_long (Some all) bytes limit P same within = λ long. absurd (omega (arith, ap length same))

-- what holds at once holds of all that is left
pub always : (before : Option (List ℕ)) (Q : List ℕ → Type 0) (P : Type 0) → P → IfSome before (λ all. Q all → P)
always None Q P holds = tt
always (Some all) Q P holds = λ _. holds

-- a count that has risen later has risen
pub HasRisen-before : (before between now : ℕ) → before ≤ between → HasRisen between now → HasRisen before now
HasRisen-before before between now earlier (inl more) = inl (omega arith)
HasRisen-before before between now earlier (inr full) = inr full
