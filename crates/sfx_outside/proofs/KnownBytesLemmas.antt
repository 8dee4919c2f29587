-- Calls of a reader or a writer that change nothing of its bytes, and then one that does.
use Rattle.std.proofs.Common.{ℕ, List, Option, None, Some, Ok, Err, Result, take, sym, ap, ◌++◌, ◌∙◌, refl}
use Rattle.std.specs.Io.KnownBytes.{Keeps, Appends, ReadConsumes, WriteAppends}

-- nothing was done
pub Keeps-refl : (known : Option (List ℕ)) → Keeps known known
Keeps-refl None = tt
Keeps-refl (Some xs) = refl

-- nothing was done twice
pub Keeps-trans : (a b c : Option (List ℕ)) → Keeps a b → Keeps b c → Keeps a c
Keeps-trans None b c first second = tt
Keeps-trans (Some xs) None c first second = absurd first
Keeps-trans (Some xs) (Some ys) None first second = absurd second
Keeps-trans (Some xs) (Some ys) (Some zs) first second = second ∙ first

-- nothing was done, and then there was a read
pub Keeps-ReadConsumes : {E : Type 0} → (a b c : Option (List ℕ)) (r : Result ℕ E) (buf : List ℕ) →
    Keeps a b → ReadConsumes b c r buf → ReadConsumes a c r buf
Keeps-ReadConsumes None b c (Ok n) buf first second = (tt, second.1)
Keeps-ReadConsumes None b c (Err e) buf first second = tt
Keeps-ReadConsumes (Some xs) None c r buf first second = absurd first
Keeps-ReadConsumes (Some xs) (Some ys) None (Ok n) buf first second = absurd second.0
Keeps-ReadConsumes (Some xs) (Some ys) None (Err e) buf first second = absurd second
Keeps-ReadConsumes (Some xs) (Some ys) (Some zs) (Ok n) buf first second = (sym first ∙ second.0, second.1)
Keeps-ReadConsumes (Some xs) (Some ys) (Some zs) (Err e) buf first second = second ∙ first

-- nothing was done, and then there was a write
pub Keeps-WriteAppends : {E : Type 0} → (a b c : Option (List ℕ)) (r : Result ℕ E) (buf : List ℕ) →
    Keeps a b → WriteAppends b c r buf → WriteAppends a c r buf
Keeps-WriteAppends None b c (Ok n) buf first second = tt
Keeps-WriteAppends None b c (Err e) buf first second = tt
Keeps-WriteAppends (Some xs) None c r buf first second = absurd first
Keeps-WriteAppends (Some xs) (Some ys) None (Ok n) buf first second = absurd second
Keeps-WriteAppends (Some xs) (Some ys) None (Err e) buf first second = absurd second
Keeps-WriteAppends (Some xs) (Some ys) (Some zs) (Ok n) buf first second = second ∙ ap (λ known. known ++ take n buf) first
Keeps-WriteAppends (Some xs) (Some ys) (Some zs) (Err e) buf first second = second ∙ first

-- there was a write, and then nothing was done
pub Appends-Keeps : (a b c : Option (List ℕ)) (bytes : List ℕ) → Appends a b bytes → Keeps b c → Appends a c bytes
Appends-Keeps None b c bytes first second = tt
Appends-Keeps (Some xs) None c bytes first second = absurd first
Appends-Keeps (Some xs) (Some ys) None bytes first second = absurd second
Appends-Keeps (Some xs) (Some ys) (Some zs) bytes first second = second ∙ first
