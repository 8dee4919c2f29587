-- What the fault of a provider on one side of a session says.
use Rattle.std.proofs.Common.{◌≡◌, ℕ, ◌≤◌, Err, le_refl, sym, subst}
use Rattle.sfx_provider.specs.declared.provider_fault.ProviderFault.{ProviderFault}
use Rattle.sfx_provider.specs.declared.provider_fault.ProviderFault.TheVariants.{Failed, Memory}
use Rattle.sfx_provider.specs.Answer.{IsNever}
use Rattle.sfx_provider.specs.Fault.{HasCause, blames_storage}
use Rattle.sfx_session.specs.declared.session_fault.SessionFault.{SessionFault}
use Rattle.sfx_session.specs.declared.session_fault.SessionFault.TheVariants as session_faults
use Rattle.sfx_session.specs.declared.session_fault.SessionFault.TheVariants.{SameReplica, Ahead, NotBuilt, Source, Destination}
use Rattle.sfx_session.specs.declared.side.Side.{Side}
use Rattle.sfx_session.specs.declared.side.Side.TheVariants as sides
use Rattle.sfx_session.specs.Fault.{blames, blames_destination, blames_source, fault_at, source_is_ahead, refuses_session}

of_source : (before now : ℕ) (f : ProviderFault) → before ≤ now → HasCause {A = Unit {0}} blames_destination before now (Err (fault_at sides.Source f))
of_source before now Failed low = (low, tt)
of_source before now Memory low = (low, tt)

of_destination : (before now : ℕ) (f : ProviderFault) → before ≤ now → HasCause {A = Unit {0}} blames_source before now (Err (fault_at sides.Destination f))
of_destination before now Failed low = (low, tt)
of_destination before now Memory low = (low, tt)

pub source_spares_destination :
    (now : ℕ) (e : SessionFault) → (f : ProviderFault) × (e ≡ fault_at sides.Source f)
    → HasCause {A = Unit {0}} blames_destination now now (Err e)
source_spares_destination now e (f, is) =
    subst (λ (x : SessionFault). HasCause {A = Unit {0}} blames_destination now now (Err x)) (sym is) (of_source now now f (le_refl now))

pub destination_spares_source :
    (before now : ℕ) (e : SessionFault) → (f : ProviderFault) × (e ≡ fault_at sides.Destination f) → before ≤ now
    → HasCause {A = Unit {0}} blames_source before now (Err e)
destination_spares_source before now e (f, is) low =
    subst (λ (x : SessionFault). HasCause {A = Unit {0}} blames_source before now (Err x)) (sym is) (of_destination before now f low)

-- What is no refusal does not say that the source is ahead.
pub no_refusal_ahead : (e : SessionFault) → IsNever {A = Unit {0}} refuses_session (Err e) → IsNever {A = Unit {0}} source_is_ahead (Err e)
no_refusal_ahead SameReplica never = tt
no_refusal_ahead (Ahead tick clock) never = never
no_refusal_ahead NotBuilt never = tt
no_refusal_ahead Source never = tt
no_refusal_ahead Destination never = tt
no_refusal_ahead session_faults.Memory never = tt

-- A fault of a provider is no refusal.
pub fault_at_refuses : (side : Side) (f : ProviderFault) → IsNever {A = Unit {0}} refuses_session (Err (fault_at side f))
fault_at_refuses sides.Source Failed = tt
fault_at_refuses sides.Source Memory = tt
fault_at_refuses sides.Destination Failed = tt
fault_at_refuses sides.Destination Memory = tt

-- The cause of a fault at a provider is that of the provider's own fault.
pub fault_at_cause : (side : Side) (before now : ℕ) (f : ProviderFault)
    → HasCause {A = Unit {0}} blames_storage before now (Err f) → HasCause {A = Unit {0}} (blames side) before now (Err (fault_at side f))
fault_at_cause sides.Source before now Failed cause = cause
fault_at_cause sides.Source before now Memory cause = cause
fault_at_cause sides.Destination before now Failed cause = cause
fault_at_cause sides.Destination before now Memory cause = cause
