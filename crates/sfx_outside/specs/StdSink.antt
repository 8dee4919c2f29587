-- A sink that stands on a writer.
use Rattle.std.specs.Prelude.{ℕ, ◌≤◌, List, length, take, Option}
use Rattle.std.specs.Io.KnownBytes.{Appends}

-- What such a sink is: the bytes that its writer has, where the writer says so (standard output does
-- not), and how many writes have failed.
pub record StdSinkData : Type 0 where
  pub known : Option (List ℕ)
  pub faults : ℕ

-- The writer has taken some prefix of the piece, perhaps nothing and perhaps all of it.
abbrev pub AppendsPrefix : Option (List ℕ) → Option (List ℕ) → List ℕ → Type 0
AppendsPrefix old new piece = (n : ℕ) × (n ≤ length piece) × Appends old new (take n piece)
