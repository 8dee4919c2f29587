-- Two tests together.
use Rattle.std.proofs.Common.{◌≡◌, ◌&&◌, ◌||◌, Bool, true, false, true≢false, refl, sym}

pub and-left : (x y : Bool) → (x && y) ≡ true → x ≡ true
and-left true y both = refl
and-left false y both = both

pub and-right : (x y : Bool) → (x && y) ≡ true → y ≡ true
and-right true y both = both
and-right false y both = absurd (true≢false (sym both))

pub and-true : (x y : Bool) → x ≡ true → y ≡ true → (x && y) ≡ true
and-true x y first second = rw (first, second) refl

pub or-left : (x y : Bool) → (x || y) ≡ false → x ≡ false
or-left true y none = none
or-left false y none = refl

pub or-right : (x y : Bool) → (x || y) ≡ false → y ≡ false
or-right true y none = absurd (true≢false none)
or-right false y none = none
