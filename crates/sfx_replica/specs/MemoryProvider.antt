-- A provider in memory, as plain data, and what a call does to it.
use Rattle.std.specs.Prelude.{◌≡◌, ℕ, ◌<◌, ◌^◌, List, [], Contains, Option, Some, Result, Ok, Err, IsErrOf, ◌↔◌}
use Rattle.sfx_model.specs.members.Consistent.{IsConsistent}
use Rattle.sfx_model.specs.members.Members.{Member}
use Rattle.sfx_outside.specs.Fault.{counted}
use Rattle.sfx_provider.specs.Fault.{HasCause, blames_storage}
use Rattle.sfx_provider.specs.Leaves.{Rests}
use Rattle.sfx_provider.specs.declared.provider_fault.ProviderFault.{ProviderFault}
use Rattle.sfx_provider.specs.declared.provider_fault.ProviderFault.TheVariants.{Failed, Memory}

-- What a provider in memory is: the replica's state, the numbers of the calls that fail, counted from 1,
-- and how many calls were made and how many failed.
pub record MemoryProviderData : Type 0 where
  pub member : Member
  pub fails : List ℕ
  pub calls : ℕ
  pub faults : ℕ

-- A provider as the program has it: its state is consistent, its counts fit a `u64`, and where no call is to
-- fail none has failed.
pub record IsProvider (units : ℕ) (p : MemoryProviderData) : Type 0 where
  pub member : IsConsistent units p.member
  pub calls : p.calls < 2 ^ 64
  pub faults : p.faults < 2 ^ 64
  pub quiet : p.fails ≡ [] → p.faults ≡ 0

-- Both have the same list of calls that fail.
abbrev pub FailAlike : MemoryProviderData → MemoryProviderData → Type 0
FailAlike p q = q.fails ≡ p.fails

-- The members of the provider: its storage is the replica itself, and so it is always settled; of what it came
-- by it says that it fails at the same calls.
abbrev pub held_member : MemoryProviderData → Member
held_member p = p.member

abbrev pub kept_by : MemoryProviderData → Option Member
kept_by p = Some p.member

abbrev pub IsSettled : MemoryProviderData → Type 0
IsSettled p = Unit {0}

abbrev pub CameBy : MemoryProviderData → MemoryProviderData → List Member → Type 0
CameBy p q states = FailAlike p q

abbrev pub BrokeAt : MemoryProviderData → MemoryProviderData → Member → Type 0
BrokeAt p q state = FailAlike p q

-- The next call is one of those that fail.
abbrev pub ProviderFailsNext : MemoryProviderData → Type 0
ProviderFailsNext p = Contains p.fails (counted p.calls)

-- The count of faults after a call with this answer.
abbrev pub faults_after : {T : Type 0} → ℕ → Result T ProviderFault → ℕ
faults_after before (Ok x) = before
faults_after before (Err Failed) = counted before
faults_after before (Err Memory) = before

-- What every call that counts does: it answers Failed exactly where it is one of those that fail; it is
-- counted, and so is its fault, and the list of those that fail stays.
pub record Counts {T : Type 0} (old new : MemoryProviderData) (result : Result T ProviderFault) : Type 0 where
  pub fails : IsErrOf result Failed ↔ ProviderFailsNext old
  pub list : FailAlike old new
  pub calls : new.calls ≡ counted old.calls
  pub faults : new.faults ≡ faults_after old.faults result
  pub cause : HasCause blames_storage old.faults new.faults result

-- What a call that reads does: the replica's state stays.
pub record Reads {T : Type 0} (old new : MemoryProviderData) (result : Result T ProviderFault) : Type 0 where
  pub counts : Counts old new result
  pub rests : Rests held_member kept_by IsSettled CameBy old new
