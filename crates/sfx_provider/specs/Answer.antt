-- What an answer says, by its fault.
use Rattle.std.specs.Prelude.{◌≡◌, Bool, true, false, Option, Some, None, Result, Ok, Err}

-- The fact holds where the test does.
abbrev pub When : Bool → Type 0 → Type 0
When true P = P
When false P = Unit {0}

-- The fact holds where the answer is a fault that meets the test.
abbrev pub OnFault : {A E : Type 0} → (E → Bool) → Result A E → Type 0 → Type 0
OnFault test (Ok x) P = Unit {0}
OnFault test (Err e) P = When (test e) P

-- The answer is no fault that meets the test.
abbrev pub IsNever : {A E : Type 0} → (E → Bool) → Result A E → Type 0
IsNever test result = OnFault test result ⊥

-- The answer agrees with what refuses the call: Ok comes only where nothing does, and a fault that is a refusal
-- only where it is just this one. Any other fault may come in the place of either.
abbrev pub Refuses : {A E : Type 0} → (E → Bool) → Result A E → Option E → Type 0
Refuses is_refusal (Ok x) refusal = refusal ≡ None
Refuses is_refusal (Err e) refusal = When (is_refusal e) (refusal ≡ Some e)
