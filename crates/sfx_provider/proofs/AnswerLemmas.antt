-- What holds at an exit by `?`, whose answer is an Err.
use Rattle.std.proofs.Common.{◌≡◌, Bool, true, false, Result, Ok, Err, subst, sym}
use Rattle.std.specs.Prelude.{IfOk, IsErrAnd, OnErr, OnOk}
use Rattle.sfx_provider.specs.Answer.{IsNever, OnFault, When}

-- What always holds is said of an answer Err too.
pub on_err_always : {A E P : Type 0} (r : Result A E) → P → OnErr r P
on_err_always (Ok x) holds = tt
on_err_always (Err e) holds = holds

-- What is said of an answer Ok holds of none.
pub ok_never : {A E : Type 0} (Q : Type 0) (R : E → Type 0) (r : Result A E) → IsErrAnd r R → OnOk r Q
ok_never Q R (Ok x) is = absurd is
ok_never Q R (Err e) is = tt

pub if_ok_never : {A E : Type 0} (P : A → Type 0) (R : E → Type 0) (r : Result A E) → IsErrAnd r R → IfOk r P
if_ok_never P R (Ok x) is = absurd is
if_ok_never P R (Err e) is = tt

-- What is said of an answer Ok holds where it follows from what is said.
pub ok_then : {A E P Q : Type 0} (r : Result A E) → (P → Q) → OnOk r P → OnOk r Q
ok_then (Ok x) then fact = then fact
ok_then (Err e) then fact = tt

-- What always holds holds where a test does.
pub when_always : {P : Type 0} (test : Bool) → P → When test P
when_always true holds = holds
when_always false holds = tt

-- What always holds is said of a fault that meets a test, too.
pub on_fault_always : {A E P : Type 0} (test : E → Bool) (r : Result A E) → P → OnFault test r P
on_fault_always test (Ok x) holds = tt
on_fault_always test (Err e) holds = when_always (test e) holds

-- Of a fault that does not meet the test nothing is said.
pub on_fault_never : {A E : Type 0} (P : Type 0) (test : E → Bool) (r : Result A E) → IsNever test r → OnFault test r P
on_fault_never P test (Ok x) never = tt
on_fault_never P test (Err e) never = by_test (test e) never
  where
    by_test : (b : Bool) → When b ⊥ → When b P
    by_test true never = absurd never
    by_test false never = tt

-- A fault that is handed on meets a test where it did.
pub fault_handed :
    {A E : Type 0} (P : E → Type 0) (e : E) (r : Result A E) → IsErrAnd r (λ y. y ≡ e) → P e → IsErrAnd r P
fault_handed P e (Ok x) is holds = absurd is
fault_handed P e (Err y) is holds = subst P (sym is) holds
