-- The limits of the numbers in a line.
use Rattle.std.specs.Prelude.{ℕ, ◌≤◌, ◌<◌, ◌^◌, IfSome}
use Rattle.sfx_script.specs.declared.line.Line.{Line}
use Rattle.sfx_script.specs.declared.line.Line.TheVariants.{Replica, Files, Sync}
use Rattle.sfx_script.specs.declared.options.Options.{Options}

-- The number is from 1 to the most.
abbrev pub IsInLimit : ℕ → ℕ → Type 0
IsInLimit most n = (1 ≤ n) × (n ≤ most)

-- Each of the options is within its limits.
pub record AreWithinLimits (options : Options) : Type 0 where
  pub batch : IsInLimit 10000 options.batch
  pub group : IsInLimit 10000 options.group
  pub cut : IfSome options.cut (IsInLimit 1000000000)

-- The numbers of the line are within their limits: an id has 128 bits, and options keep to theirs.
abbrev pub IsLimited : Line → Type 0
IsLimited (Replica name id) = id < 2 ^ 128
IsLimited (Files name id) = id < 2 ^ 128
IsLimited (Sync source destination keep clash options) = AreWithinLimits options
IsLimited line = Unit {0}
