-- How a run ends.
use Rattle.std.specs.Prelude.{◌≡◌, ◌⊎◌, ℕ}
use Rattle.sfx_run.specs.declared.status.Status.{Status}
use Rattle.sfx_run.specs.declared.status.Status.TheVariants.{Done, Refused, Usage, SourceFault, SinkFault, TooLong, Memory}

-- The number with which the process ends.
abbrev pub status_number : Status → ℕ
status_number Done = 0
status_number Refused = 1
status_number Usage = 2
status_number SourceFault = 3
status_number SinkFault = 4
status_number TooLong = 7
status_number Memory = 8

-- Every line was answered.
abbrev pub IsAnswered : Status → Type 0
IsAnswered status = (status ≡ Done) ⊎ (status ≡ Refused)

-- The run ended before its first line.
abbrev pub HasNotBegun : Status → Type 0
HasNotBegun status = (status ≡ Usage) ⊎ ((status ≡ SourceFault) ⊎ (status ≡ TooLong))

-- The run broke off, perhaps in the middle of a reply.
abbrev pub HasBrokenOff : Status → Type 0
HasBrokenOff status = (status ≡ SinkFault) ⊎ (status ≡ Memory)
