-- Counts of calls and of faults.
use Rattle.std.specs.Prelude.{◌≡◌, ℕ, ◌+◌, ◌<◌, ◌⊎◌, min}

-- The greatest count, that of a `u64`. A count that stands there stays there.
abbrev pub greatest_count : ℕ
greatest_count = 18446744073709551615

-- The count with one more.
abbrev pub counted : ℕ → ℕ
counted n = min (n + 1) greatest_count

-- The count has risen in between. One that stands at the greatest counts as risen, since it cannot
-- rise further.
abbrev pub HasRisen : ℕ → ℕ → Type 0
HasRisen before now = (before < now) ⊎ (now ≡ greatest_count)
