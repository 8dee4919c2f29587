use Rattle.std.specs.Prelude.{◌≡◌, true, if◌then◌else◌, List, [], ◌∷◌, Option, Some, None}
use Rattle.sfx_ids.specs.declared.cut.Cut.{Cut}
use Rattle.sfx_ids.specs.declared.cut.Cut.TheVariants.{Start, End}
use Rattle.sfx_ids.specs.Cut.{cut_lt, cut_le}
use Rattle.sfx_segments.specs.Segments.{value_at, AreSegments, AreCombined}

-- Where the first of the segments begins, and the end where there is none.
abbrev pub start_of : {A : Type 0} → List (Cut × A) → Cut
start_of [] = End
start_of (p ∷ ps) = p.0

-- The cut that comes first.
abbrev pub earlier : Cut → Cut → Cut
earlier a b = if cut_le a b then a else b

-- The value at the place and the segments that begin behind it, from the value before these segments.
abbrev pub passed : {A : Type 0} → A → List (Cut × A) → Cut → A × List (Cut × A)
passed value [] place = (value, [])
passed value (p ∷ ps) place = if cut_le p.0 place then passed p.1 ps place else (value, p ∷ ps)

-- The value of the last segment, and the given one where there is none.
abbrev pub last_of : {A : Type 0} → A → List (Cut × A) → A
last_of value [] = value
last_of value (p ∷ ps) = last_of p.1 ps

-- The value of the last segment.
abbrev pub last_value : {A : Type 0} → List (Cut × A) → Option A
last_value [] = None
last_value (p ∷ ps) = Some (last_of p.1 ps)

-- Each of the segments begins before the place.
abbrev pub BeginBefore : {A : Type 0} → Cut → List (Cut × A) → Type 0
BeginBefore place [] = Unit {0}
BeginBefore place (p ∷ ps) = (cut_lt p.0 place ≡ true) × BeginBefore place ps

-- The segments are those of the places before this one, in their one form.
abbrev pub ArePrefix : {A : Type 0} → List (Cut × A) → Cut → Type 0
ArePrefix [] place = place ≡ Start
ArePrefix (p ∷ ps) place = AreSegments (p ∷ ps) × BeginBefore place (p ∷ ps)

-- The new segments have the value from the place on, and before it the values of the old ones.
pub record Extends {A : Type 0} (old new : List (Cut × A)) (place : Cut) (value : A) : Type 0 where
  pub form : AreSegments new
  pub before : (q : Cut) → cut_lt q place ≡ true → value_at new q ≡ value_at old q
  pub after : (q : Cut) → cut_le place q ≡ true → value_at new q ≡ Some value
  pub behind : (q : Cut) → cut_lt place q ≡ true → BeginBefore q new

-- The segments, in their one form, are made of both lists place by place.
pub record AreJoined {A B C : Type 0} (how : A → B → C) (xs : List (Cut × A)) (ys : List (Cut × B)) (out : List (Cut × C)) : Type 0 where
  pub form : AreSegments out
  pub everywhere : AreCombined how xs ys out
