-- Tests with what they say.
use Rattle.std.proofs.Common.{◌≡◌, Bool, true, false, refl}

-- What a test says.
pub data Tested (b : Bool) : Type 0 where
  yes_it : b ≡ true → Tested b
  not_it : b ≡ false → Tested b

pub tested : (b : Bool) → Tested b
tested true = yes_it refl
tested false = not_it refl
