-- What a sink tells of the bytes that it holds.
use Rattle.std.specs.Prelude.{◌≡◌, ℕ, ◌≤◌, List, ◌++◌, length, take, Option}
use Rattle.std.specs.Option.{option_map}

-- These bytes have been added behind those that the sink held, where it tells. Whether it tells is
-- as before.
abbrev pub Adds : Option (List ℕ) → Option (List ℕ) → List ℕ → Type 0
Adds old new bytes = new ≡ option_map (λ held. held ++ bytes) old

-- Some prefix of the piece has been added, perhaps nothing and perhaps all of it.
abbrev pub AddsPrefix : Option (List ℕ) → Option (List ℕ) → List ℕ → Type 0
AddsPrefix old new piece = (n : ℕ) × (n ≤ length piece) × Adds old new (take n piece)
