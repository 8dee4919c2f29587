-- What holds at an exit by `?`, whose answer is an Err.
use Rattle.std.proofs.Common.{◌≡◌, ℕ, ◌≤◌, Option, Some, None, Result, Ok, Err, sym, subst}
use Rattle.std.specs.Prelude.{IsSome, IsErrAnd}
use Rattle.sfx_provider.specs.Fault.{HasCause, blames_storage}
use Rattle.sfx_provider.specs.declared.provider_fault.ProviderFault.{ProviderFault}
use Rattle.sfx_provider.specs.declared.provider_fault.ProviderFault.TheVariants.{Memory}

-- Running out of memory needs no cause.
pub cause_memory :
    {T : Type 0} (before now : ℕ) (r : Result T ProviderFault)
    → IsErrAnd r (λ y. y ≡ Memory) → before ≤ now → HasCause blames_storage before now r
cause_memory before now (Ok x) is low = low
cause_memory before now (Err y) is low =
    subst (λ (x : ProviderFault). HasCause {A = Unit {0}} blames_storage before now (Err x)) (sym is) (low, tt)

-- None is no Some.
pub some_never : {A : Type 0} (Q : Type 0) (o : Option A) → o ≡ None → IsSome o → Q
some_never Q None is some = absurd (cc)
some_never Q (Some x) is some = absurd (cc)
