use Rattle.std.specs.Prelude.{◌≡◌, ◌≢◌, true, if◌then◌else◌, List, [], ◌∷◌, Option, Some, None}
use Rattle.sfx_ids.specs.declared.cut.Cut.{Cut}
use Rattle.sfx_ids.specs.declared.cut.Cut.TheVariants.{Start, At, After, End}
use Rattle.sfx_ids.specs.Cut.{cut_lt, cut_le, is_between}

-- The cut is a place: any cut is but the end.
abbrev pub IsPlace : Cut → Type 0
IsPlace Start = Unit {0}
IsPlace (At x) = Unit {0}
IsPlace (After x) = Unit {0}
IsPlace End = ⊥

-- The value of the last segment that begins no later than the place, and the given one where there is
-- none. A segment is the place where it begins and its value.
abbrev pub segment_at : {A : Type 0} → A → List (Cut × A) → Cut → A
segment_at before [] place = before
segment_at before (p ∷ ps) place = if cut_le p.0 place then segment_at p.1 ps place else before

-- The value at the place: that of the last segment that begins no later.
abbrev pub value_at : {A : Type 0} → List (Cut × A) → Cut → Option A
value_at [] place = None
value_at (p ∷ ps) place = if cut_le p.0 place then Some (segment_at p.1 ps place) else None

-- After a segment with this start and value come these: each begins at a place behind the one before it,
-- and has another value.
abbrev pub GoOn : {A : Type 0} → Cut → A → List (Cut × A) → Type 0
GoOn place value [] = Unit {0}
GoOn place value (p ∷ ps) = (cut_lt place p.0 ≡ true) × IsPlace p.0 × (value ≢ p.1) × GoOn p.0 p.1 ps

-- The list is a map of all places in its one form: it begins at the start, its places ascend, and
-- neighbours differ.
abbrev pub AreSegments : {A : Type 0} → List (Cut × A) → Type 0
AreSegments [] = ⊥
AreSegments (p ∷ ps) = (p.0 ≡ Start) × GoOn p.0 p.1 ps

-- The segments have this value at every place.
abbrev pub HaveEverywhere : {A : Type 0} → List (Cut × A) → A → Type 0
HaveEverywhere segments value = (place : Cut) → IsPlace place → value_at segments place ≡ Some value

-- Both lists have the same value at every place.
abbrev pub AgreeEverywhere : {A : Type 0} → List (Cut × A) → List (Cut × A) → Type 0
AgreeEverywhere xs ys = (place : Cut) → IsPlace place → value_at xs place ≡ value_at ys place

-- At the places from `lo` up to but not `hi` the new segments have the value, and at all others what the old
-- ones have.
abbrev pub SetsRange : {A : Type 0} → List (Cut × A) → List (Cut × A) → Cut → Cut → A → Type 0
SetsRange old new lo hi value =
    (place : Cut) → IsPlace place → value_at new place ≡ (if is_between lo hi place then Some value else value_at old place)

-- What the function makes of both values, where there are both.
abbrev pub combined : {A B C : Type 0} → (A → B → C) → Option A → Option B → Option C
combined how (Some a) (Some b) = Some (how a b)
combined how (Some a) None = None
combined how None b = None

-- The segments have at every place what the function makes of the values that both lists have there.
abbrev pub AreCombined : {A B C : Type 0} → (A → B → C) → List (Cut × A) → List (Cut × B) → List (Cut × C) → Type 0
AreCombined how xs ys made =
    (place : Cut) → IsPlace place → value_at made place ≡ combined how (value_at xs place) (value_at ys place)

-- The fact holds of the value at every place.
abbrev pub EveryValue : {A : Type 0} → List (Cut × A) → (A → Type 0) → Type 0
EveryValue {A} segments P = (place : Cut) (value : A) → IsPlace place → value_at segments place ≡ Some value → P value

-- The fact holds of the value at some place.
abbrev pub SomeValue : {A : Type 0} → List (Cut × A) → (A → Type 0) → Type 0
SomeValue {A} segments P = (place : Cut) × (value : A) × IsPlace place × (value_at segments place ≡ Some value) × P value
