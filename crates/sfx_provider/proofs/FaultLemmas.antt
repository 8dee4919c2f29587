-- The cause of a fault behind steps that went well, and of one that is handed on.
use Rattle.std.proofs.Common.{◌≡◌, ℕ, ◌≤◌, Bool, true, false, Result, Ok, Err, inl, inr, le_trans, lt_of_le_of_lt, sym, subst}
use Rattle.std.specs.Prelude.{IsErrAnd}
use Rattle.sfx_outside.specs.Fault.{HasRisen}
use Rattle.sfx_provider.specs.Answer.{When}
use Rattle.sfx_provider.specs.Fault.{HasCause}

risen_later : (before middle now : ℕ) → before ≤ middle → HasRisen middle now → HasRisen before now
risen_later before middle now low risen = elim risen [ inl more ↦ inl (lt_of_le_of_lt low more) | inr full ↦ inr full ]

-- What follows holds where the first fact does.
pub when_then : {P Q : Type 0} (test : Bool) → (P → Q) → When test P → When test Q
when_then true then fact = then fact
when_then false then fact = tt

-- A fault has its cause also where the count rose before.
pub cause_later :
    {E : Type 0} (blames : E → Bool) (before middle now : ℕ) (e : E)
    → before ≤ middle → HasCause {A = Unit {0}} blames middle now (Err e) → HasCause {A = Unit {0}} blames before now (Err e)
cause_later blames before middle now e low (rose, risen) =
    (le_trans low rose, when_then (blames e) (risen_later before middle now low) risen)

-- The cause of an answer is that of the fault that it hands on.
pub cause_handed :
    {A E : Type 0} (blames : E → Bool) (before now : ℕ) (e : E) (r : Result A E)
    → IsErrAnd r (λ y. y ≡ e) → HasCause {A = Unit {0}} blames before now (Err e) → HasCause blames before now r
cause_handed blames before now e (Ok x) is cause = absurd is
cause_handed {E = E} blames before now e (Err y) is cause =
    subst (λ (x : E). HasCause {A = Unit {0}} blames before now (Err x)) (sym is) cause
