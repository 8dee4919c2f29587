-- A source in memory, as plain data, and what a read of it gives.
use Rattle.std.specs.Prelude.{ℕ, ◌<◌, ◌≤◌, ◌^◌, List, length, drop, min, Contains}
use Rattle.sfx_outside.specs.Fault.{counted}

-- What a source in memory is: the bytes that it has left, how many it gives at most in one call, the
-- numbers of the calls that fail, counted from 1, and how many calls were made and how many failed.
pub record MemorySourceData : Type 0 where
  pub left : List ℕ
  pub piece : ℕ
  pub fails : List ℕ
  pub calls : ℕ
  pub faults : ℕ

-- A source as the program has it: it gives at least one byte in a call, and its counts fit a `u64`.
pub record IsSource (s : MemorySourceData) : Type 0 where
  pub piece : 1 ≤ s.piece
  pub calls : s.calls < 2 ^ 64
  pub faults : s.faults < 2 ^ 64

-- The next call is one of those that fail.
abbrev pub SourceFailsNext : MemorySourceData → Type 0
SourceFailsNext s = Contains s.fails (counted s.calls)

-- How many bytes the next call gives, for a slice with this much room.
abbrev pub next_count : MemorySourceData → ℕ → ℕ
next_count s room = min (min s.piece room) (length s.left)

-- The source after a call that gave this many bytes.
abbrev pub after_read : MemorySourceData → ℕ → MemorySourceData
after_read s n = record s { left = drop n s.left; calls = counted s.calls }

-- The source after a call that failed.
abbrev pub source_after_fault : MemorySourceData → MemorySourceData
source_after_fault s = record s { calls = counted s.calls; faults = counted s.faults }
