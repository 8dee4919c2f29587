-- What a source tells of the bytes that it has left.
use Rattle.std.specs.Prelude.{◌≡◌, ℕ, ◌≤◌, List, [], ◌++◌, length, Option, IfSome}
use Rattle.std.specs.Option.{option_map}

-- These bytes were the prefix of what was left, and the rest is left now, where the source tells.
-- Whether it tells is as before.
abbrev pub Takes : Option (List ℕ) → Option (List ℕ) → List ℕ → Type 0
Takes old new bytes = old ≡ option_map (λ rest. bytes ++ rest) new

-- Nothing is left, where the source tells.
abbrev pub IsAtEnd : Option (List ℕ) → Type 0
IsAtEnd left = IfSome left (λ rest. rest ≡ [])

-- At most this many bytes have been taken from the front of what was left, perhaps none.
abbrev pub TakesAtMost : ℕ → Option (List ℕ) → Option (List ℕ) → Type 0
TakesAtMost most old new = (bytes : List ℕ) × (length bytes ≤ most) × Takes old new bytes

-- This many bytes have been taken from the front of what was left.
abbrev pub TakesExactly : ℕ → Option (List ℕ) → Option (List ℕ) → Type 0
TakesExactly count old new = (bytes : List ℕ) × (length bytes ≡ count) × Takes old new bytes
