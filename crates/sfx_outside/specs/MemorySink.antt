-- A sink in memory, as plain data, and what a write does to it.
use Rattle.std.specs.Prelude.{ℕ, ◌<◌, ◌^◌, List, ◌++◌, Contains}
use Rattle.sfx_outside.specs.Fault.{counted}

-- What a sink in memory is: the bytes that it holds, the numbers of the calls that fail, counted
-- from 1, and how many calls were made and how many failed.
pub record MemorySinkData : Type 0 where
  pub held : List ℕ
  pub fails : List ℕ
  pub calls : ℕ
  pub faults : ℕ

-- A sink as the program has it: its counts fit a `u64`.
pub record IsSink (s : MemorySinkData) : Type 0 where
  pub calls : s.calls < 2 ^ 64
  pub faults : s.faults < 2 ^ 64

-- The next call is one of those that fail.
abbrev pub SinkFailsNext : MemorySinkData → Type 0
SinkFailsNext s = Contains s.fails (counted s.calls)

-- The sink after a call that took these bytes.
abbrev pub after_write : MemorySinkData → List ℕ → MemorySinkData
after_write s bytes = record s { held = s.held ++ bytes; calls = counted s.calls }

-- The sink after a call that failed.
abbrev pub sink_after_fault : MemorySinkData → MemorySinkData
sink_after_fault s = record s { calls = counted s.calls; faults = counted s.faults }
