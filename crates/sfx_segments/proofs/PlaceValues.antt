-- The value at a place.
use Rattle.std.proofs.Common.{◌≡◌, ◌≢◌, Bool, true, false, if◌then◌else◌, refl, sym, ap, subst, ◌∙◌, ℕ, zero, suc, List, [], ◌∷◌, slice_get, Option, Some, None, IsSome, is_some, unwrap_or}
use Rattle.std.specs.List.{All}
use Rattle.std.proofs.lemmas.List.Elements.{All-head, All-tail}
use Rattle.sfx_ids.specs.declared.cut.Cut.{Cut}
use Rattle.sfx_ids.specs.declared.cut.Cut.TheVariants.{Start, At, After, End}
use Rattle.sfx_ids.specs.Cut.{cut_lt, cut_le}
use Rattle.sfx_ids.proofs.CutLemmas.{start-le, le-self, lt-le, lt-not_le, lt_trans}
use Rattle.sfx_segments.specs.Segments.{IsPlace, segment_at, value_at, GoOn, AreSegments, EveryValue}

-- ---- options

pub some_same : {A : Type 0} (a b : A) → Some a ≡ Some b → a ≡ b
some_same a b same = cc

-- ---- places

pub lt-end : (q : Cut) → IsPlace q → cut_lt q End ≡ true
lt-end Start place = refl
lt-end (At x) place = refl
lt-end (After x) place = refl
lt-end End place = absurd place

-- ---- the value at a place

-- a segment that begins no later is passed
pub segment_at-passed : {A : Type 0} (before : A) (p : Cut × A) (ps : List (Cut × A)) (q : Cut) → cut_le p.0 q ≡ true → segment_at before (p ∷ ps) q ≡ segment_at p.1 ps q
segment_at-passed before p ps q le = ap (λ (b : Bool). if b then segment_at p.1 ps q else before) le

-- and one that begins later is not
pub segment_at-ahead : {A : Type 0} (before : A) (p : Cut × A) (ps : List (Cut × A)) (q : Cut) → cut_lt q p.0 ≡ true → segment_at before (p ∷ ps) q ≡ before
segment_at-ahead before p ps q lt = ap (λ (b : Bool). if b then segment_at p.1 ps q else before) (lt-not_le q p.0 lt)

pub value_at-passed : {A : Type 0} (p : Cut × A) (ps : List (Cut × A)) (q : Cut) → cut_le p.0 q ≡ true → value_at (p ∷ ps) q ≡ Some (segment_at p.1 ps q)
value_at-passed p ps q le = ap (λ (b : Bool). if b then Some (segment_at p.1 ps q) else None) le

-- at the first segment of a map every cut is passed
pub value_at-first : {A : Type 0} (p : Cut × A) (ps : List (Cut × A)) (q : Cut) → p.0 ≡ Start → value_at (p ∷ ps) q ≡ Some (segment_at p.1 ps q)
value_at-first p ps q first = value_at-passed p ps q (subst (λ c. cut_le c q ≡ true) (sym first) (start-le q))

pub value_at-total : {A : Type 0} (xs : List (Cut × A)) → AreSegments xs → (q : Cut) → IsSome (value_at xs q)
value_at-total [] form q = absurd form
value_at-total (p ∷ ps) form q = ap is_some (value_at-first p ps q form.0)

pub never_empty : {A : Type 0} (xs : List (Cut × A)) → AreSegments xs → xs ≢ []
never_empty [] form same = form
never_empty (p ∷ ps) form same = cc

pub or_else : {A : Type 0} (xs : List (Cut × A)) (before : A) (q : Cut) → segment_at before xs q ≡ unwrap_or (value_at xs q) before
or_else [] before q = refl
or_else (p ∷ ps) before q = by_test (cut_le p.0 q) (segment_at p.1 ps q) before
  where
    by_test : {A : Type 0} (b : Bool) (x before : A) → (if b then x else before) ≡ unwrap_or (if b then Some x else None) before
    by_test true x before = refl
    by_test false x before = refl

pub segment_at-value_at : {A : Type 0} (xs : List (Cut × A)) (before value : A) (q : Cut) → value_at xs q ≡ Some value → segment_at before xs q ≡ value
segment_at-value_at xs before value q at = or_else xs before q ∙ ap (λ o. unwrap_or o before) at

-- what goes on from a place has the value before it up to its first segment
pub at_start : {A : Type 0} (from : Cut) (value : A) (ps : List (Cut × A)) → GoOn from value ps → segment_at value ps from ≡ value
at_start from value [] on = refl
at_start from value (p ∷ ps) on = segment_at-ahead value p ps from on.0

-- ---- the segments of a list

-- a segment of the list stands behind the place from which the list goes on, and has its own value where it begins
pub record IsSegment {A : Type 0} (from : Cut) (value : A) (ps : List (Cut × A)) (p : Cut × A) : Type 0 where
  pub place : IsPlace p.0
  pub behind : cut_lt from p.0 ≡ true
  pub has : segment_at value ps p.0 ≡ p.1

segment_of : {A : Type 0} (from : Cut) (value : A) (ps : List (Cut × A)) (i : ℕ) (p : Cut × A) → GoOn from value ps → slice_get ps i ≡ Some p → IsSegment from value ps p
segment_of from value [] i p on at = absurd (no_none at)
  where
    no_none : {B : Type 0} {x : B} → (let n : Option B = None in n ≡ Some x) → ⊥
    no_none e = cc
segment_of from value (q ∷ ps) zero p on at =
    subst (λ (s : Cut × _). IsSegment from value (q ∷ ps) s) (some_same q p at)
    (record { place = on.1; behind = on.0; has = segment_at-passed value q ps q.0 (le-self q.0) ∙ at_start q.0 q.1 ps on.3 })
segment_of from value (q ∷ ps) (suc i) p on at =
    let rest = segment_of q.0 q.1 ps i p on.3 at in
    record {
      place = rest.place;
      behind = lt_trans from q.0 p.0 on.0 rest.behind;
      has = segment_at-passed value q ps p.0 (lt-le q.0 p.0 rest.behind) ∙ rest.has;
    }

pub begins_at_place : {A : Type 0} (xs : List (Cut × A)) (i : ℕ) (p : Cut × A) → AreSegments xs → slice_get xs i ≡ Some p → IsPlace p.0 × (value_at xs p.0 ≡ Some p.1)
begins_at_place [] i p form at = absurd form
begins_at_place (q ∷ ps) zero p form at =
    subst (λ (s : Cut × _). IsPlace s.0 × (value_at (q ∷ ps) s.0 ≡ Some s.1)) (some_same q p at)
    (subst IsPlace (sym form.0) tt, value_at-first q ps q.0 form.0 ∙ ap Some (at_start q.0 q.1 ps form.1))
begins_at_place (q ∷ ps) (suc i) p form at =
    let rest = segment_of q.0 q.1 ps i p form.1 at in
    (rest.place, value_at-first q ps p.0 form.0 ∙ ap Some rest.has)

-- what holds of each segment's value holds of the value at every place
segment_at-all : {A : Type 0} (P : A → Type 0) (value : A) (ps : List (Cut × A)) (q : Cut) → P value → All (λ p. P p.1) ps → P (segment_at value ps q)
segment_at-all {A} P value [] q first rest = first
segment_at-all {A} P value (p ∷ ps) q first rest =
    by_test (cut_le p.0 q) (segment_at p.1 ps q) value (segment_at-all P p.1 ps q (All-head (λ (s : Cut × A). P s.1) p ps rest) (All-tail (λ (s : Cut × A). P s.1) p ps rest)) first
  where
    by_test : (b : Bool) (x y : A) → P x → P y → P (if b then x else y)
    by_test true x y first second = first
    by_test false x y first second = second

pub every_value : {A : Type 0} (P : A → Type 0) (xs : List (Cut × A)) → AreSegments xs → All (λ p. P p.1) xs → EveryValue xs P
every_value {A} P [] form all q value place at = absurd form
every_value {A} P (p ∷ ps) form all q value place at =
    subst P (some_same _ _ (sym (value_at-first p ps q form.0) ∙ at)) (segment_at-all P p.1 ps q (All-head (λ (s : Cut × A). P s.1) p ps all) (All-tail (λ (s : Cut × A). P s.1) p ps all))
