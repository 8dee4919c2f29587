-- A source that stands on a reader.
use Rattle.std.specs.Prelude.{ℕ, List, Option}

-- What such a source is: the bytes that its reader will give, where the reader says so (standard
-- input does not), and how many reads have failed.
pub record StdSourceData : Type 0 where
  pub known : Option (List ℕ)
  pub faults : ℕ
