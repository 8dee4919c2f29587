-- What the answer of a call says of a provider's count of faults.
use Rattle.std.specs.Prelude.{ℕ, ◌≤◌, Bool, true, false, Result, Ok, Err}
use Rattle.sfx_outside.specs.Fault.{HasRisen}
use Rattle.sfx_provider.specs.declared.provider_fault.ProviderFault.{ProviderFault}
use Rattle.sfx_provider.specs.declared.provider_fault.ProviderFault.TheVariants.{Failed, Memory}
use Rattle.sfx_provider.specs.Answer.{When}

-- The fault is one of the storage.
abbrev pub blames_storage : ProviderFault → Bool
blames_storage Failed = true
blames_storage Memory = false

-- The count did not fall, and where a fault blames the provider it has risen.
abbrev pub HasCause : {A E : Type 0} → (E → Bool) → ℕ → ℕ → Result A E → Type 0
HasCause blames before now (Ok x) = before ≤ now
HasCause blames before now (Err e) = (before ≤ now) × When (blames e) (HasRisen before now)
