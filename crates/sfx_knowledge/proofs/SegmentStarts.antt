-- The segment of a place, and what is compared where segments begin.
use Rattle.std.proofs.Common.{◌≡◌, ◌⊎◌, ℕ, zero, suc, ◌+◌, ◌<◌, ◌≤◌, true, inl, inr, arith, refl, sym, ap, subst, ◌∙◌, List, [], ◌∷◌, length, slice_get, Option, Some, None, option_map}
use Rattle.std.proofs.lemmas.Bool.{cases_lt}
use Rattle.sfx_ids.specs.declared.cut.Cut.{Cut}
use Rattle.sfx_ids.specs.declared.cut.Cut.TheVariants.{Start}
use Rattle.sfx_ids.specs.Cut.{cut_le}
use Rattle.sfx_ids.proofs.CutLemmas.{start-le, le-self, lt-le, not_le, le_trans, le_lt_trans, le_or_lt}
use Rattle.sfx_vector.specs.Clocks.{tick_of}
use Rattle.sfx_segments.specs.Segments.{IsPlace, segment_at, GoOn, AreSegments}
use Rattle.sfx_segments.proofs.PlaceValues.{segment_at-passed, segment_at-ahead, begins_at_place, segment_at-value_at, some_same}
use Rattle.sfx_segments.proofs.StandardFacts.{yes_it, not_it, tested}
use Rattle.sfx_knowledge.specs.Row.{UnitRowData, row_at, MostOfRow}
use Rattle.sfx_knowledge.specs.Knowledge.{Known, no_row, tick_at, IsWithin, IsMost}
use Rattle.sfx_knowledge.specs.Places.{EveryRow, AtEachStart, WithinAt}

-- ---- the segment of a place

-- a segment that begins no later than the place, with the value that all places from there on have, up to it
pub record Found {A : Type 0} (before : A) (xs : List (Cut × A)) (place : Cut) : Type 0 where
  pub index : ℕ
  pub segment : Cut × A
  pub at : slice_get xs index ≡ Some segment
  pub le : cut_le segment.0 place ≡ true
  pub has : (q : Cut) → cut_le segment.0 q ≡ true → cut_le q place ≡ true → segment_at before xs q ≡ segment.1

-- the same of a list that begins with a segment before the place, with its start no earlier
record Beyond {A : Type 0} (p : Cut × A) (ps : List (Cut × A)) (place : Cut) : Type 0 where
  pub index : ℕ
  pub segment : Cut × A
  pub at : slice_get (p ∷ ps) index ≡ Some segment
  pub behind : cut_le p.0 segment.0 ≡ true
  pub le : cut_le segment.0 place ≡ true
  pub has : (q : Cut) → cut_le segment.0 q ≡ true → cut_le q place ≡ true → segment_at p.1 ps q ≡ segment.1

beyond : {A : Type 0} (p : Cut × A) (ps : List (Cut × A)) (place : Cut) → GoOn p.0 p.1 ps → cut_le p.0 place ≡ true → Beyond p ps place
beyond p [] place on le = record {
  index = 0;
  segment = p;
  at = refl;
  behind = le-self p.0;
  le = le;
  has = λ q low high. refl;
}
beyond p (s ∷ ps) place on le = elim (tested (cut_le s.0 place)) [
  | yes_it here ↦
      let rest = beyond s ps place on.3 here in
      record {
        index = suc rest.index;
        segment = rest.segment;
        at = rest.at;
        behind = le_trans p.0 s.0 rest.segment.0 (lt-le p.0 s.0 on.0) rest.behind;
        le = rest.le;
        has = λ q low high. segment_at-passed p.1 s ps q (le_trans s.0 rest.segment.0 q rest.behind low) ∙ rest.has q low high;
      }
  | not_it ahead ↦ record {
    index = 0;
    segment = p;
    at = refl;
    behind = le-self p.0;
    le = le;
    has = λ q low high. segment_at-ahead p.1 s ps q (le_lt_trans q place s.0 high (not_le s.0 place ahead));
  }
]

pub segment_found : {A : Type 0} (before : A) (xs : List (Cut × A)) (place : Cut) → AreSegments xs → Found before xs place
segment_found before [] place form = absurd form
segment_found before (p ∷ ps) place form =
    let first : (q : Cut) → cut_le p.0 q ≡ true = λ q. subst (λ c. cut_le c q ≡ true) (sym form.0) (start-le q) in
    let rest = beyond p ps place form.1 (first place) in
    record {
      index = rest.index;
      segment = rest.segment;
      at = rest.at;
      le = rest.le;
      has = λ q low high. segment_at-passed before p ps q (first q) ∙ rest.has q low high;
    }

-- a segment of the list begins at a place, and has its value there
pub begins : {A : Type 0} (before : A) (xs : List (Cut × A)) (k : ℕ) (p : Cut × A) → AreSegments xs → slice_get xs k ≡ Some p → IsPlace p.0 × (segment_at before xs p.0 ≡ p.1)
begins before xs k p form at =
    let there = begins_at_place xs k p form at in
    (there.0, segment_at-value_at xs before p.1 p.0 there.1)

-- ---- a walk over the segments by index

-- the fact holds of each segment with a lesser index
abbrev pub EachUpTo : {A : Type 0} → ℕ → List (Cut × A) → (Cut × A → Type 0) → Type 0
EachUpTo {A} n xs P = (k : ℕ) (p : Cut × A) → k < n → slice_get xs k ≡ Some p → P p

pub each_more : {A : Type 0} (n : ℕ) (xs : List (Cut × A)) (P : Cut × A → Type 0) → EachUpTo n xs P → ((p : Cut × A) → slice_get xs n ≡ Some p → P p) → EachUpTo (n + 1) xs P
each_more n xs P each next k p less at = elim (cases_lt k n) [
  | inl lt ↦ each k p lt at
  | inr le ↦
      let is : k ≡ n = omega arith in
      next p (subst (λ m. slice_get xs m ≡ Some p) is at)
]

within_length : {A : Type 0} (xs : List A) (k : ℕ) (p : A) → slice_get xs k ≡ Some p → k < length xs
within_length {A} [] k p at = absurd (no_none at)
  where
    no_none : (let n : Option A = None in n ≡ Some p) → ⊥
    no_none e = cc
within_length (x ∷ xs) zero p at = omega arith
within_length (x ∷ xs) (suc k) p at = let rest : k < length xs = within_length xs k p at in omega arith

-- what is read of a segment is that of some segment
read_some : {A B : Type 0} (f : A → B) (o : Option A) (b : B) → option_map f o ≡ Some b → (a : A) × (o ≡ Some a) × (f a ≡ b)
read_some f None b read = absurd (no_none read)
  where
    no_none : (let n : Option _ = None in n ≡ Some b) → ⊥
    no_none e = cc
read_some f (Some a) b read = (a, refl, some_same (f a) b read)

-- what holds of the row at every place holds of each segment's
pub row_of_every : (known : Known) (k : ℕ) (row : UnitRowData) (P : UnitRowData → Type 0) → AreSegments known → option_map (λ s. s.1) (slice_get known k) ≡ Some row → EveryRow known P → P row
row_of_every known k row P form read every =
    let there = read_some (λ (s : Cut × UnitRowData). s.1) (slice_get known k) row read in
    let at = begins no_row known k there.0 form there.1 in
    subst P (at.1 ∙ there.2) (every there.0.0 at.0)

-- what holds where each segment begins holds at each start
pub start_of_each : (known : Known) (k : ℕ) (start : Cut) (P : Cut → Type 0) → option_map (λ s. s.0) (slice_get known k) ≡ Some start → AtEachStart known P → P start
start_of_each known k start P read each =
    let there = read_some (λ (s : Cut × UnitRowData). s.0) (slice_get known k) start read in
    subst P there.2 (each k there.0 there.1)

-- a fact of each start holds where each segment begins
pub each_start : (known : Known) (n : ℕ) (P : Cut → Type 0) → length known ≤ n → EachUpTo n known (λ p. P p.0) → AtEachStart known P
each_start known n P end each k p at =
    let within : k < length known = within_length known k p at in
    each k p (omega arith) at

-- lists with the same segments are the same
pub same_by_index : {A : Type 0} (xs ys : List A) → length xs ≡ length ys → ((k : ℕ) → k < length xs → slice_get xs k ≡ slice_get ys k) → xs ≡ ys
same_by_index [] [] lengths same = refl
same_by_index [] (y ∷ ys) lengths same = absurd (omega arith)
same_by_index (x ∷ xs) [] lengths same = absurd (omega arith)
same_by_index (x ∷ xs) (y ∷ ys) lengths same =
    let heads : x ≡ y = some_same x y (same 0 (omega arith)) in
    let tails : xs ≡ ys = same_by_index xs ys (omega arith) (λ k within. same (suc k) (omega arith)) in
    cc

-- a fact of each row holds at every place
pub every_row : (known : Known) (n : ℕ) (P : UnitRowData → Type 0) → AreSegments known → length known ≤ n → EachUpTo n known (λ p. P p.1) → EveryRow known P
every_row known n P form end each place is_place =
    let at = segment_found no_row known place form in
    let within : at.index < length known = within_length known at.index at.segment at.at in
    subst P (sym (at.has place at.le (le-self place))) (each at.index at.segment (omega arith) at.at)

-- ---- two pieces of knowledge, compared where segments of either begin

pub at_starts_all : (units : ℕ) (a b : Known) → AreSegments a → AreSegments b → AtEachStart a (WithinAt units a b) → AtEachStart b (WithinAt units a b) → IsWithin units a b
at_starts_all units a b form_a form_b at_a at_b place u r is_place within =
    let x = segment_found no_row a place form_a in
    let y = segment_found no_row b place form_b in
    elim (le_or_lt x.segment.0 y.segment.0) [
      | inl le ↦
          let here = at_b y.index y.segment y.at u r within in
          subst (λ (row : UnitRowData). tick_of (row_at row u) r ≤ tick_at b place u r) (x.has y.segment.0 le y.le ∙ sym (x.has place x.le (le-self place)))
          (subst (λ (row : UnitRowData). tick_at a y.segment.0 u r ≤ tick_of (row_at row u) r) (y.has y.segment.0 (le-self y.segment.0) y.le ∙ sym (y.has place y.le (le-self place))) here)
      | inr lt ↦
          let le : cut_le y.segment.0 x.segment.0 ≡ true = lt-le y.segment.0 x.segment.0 lt in
          let here = at_a x.index x.segment x.at u r within in
          subst (λ (row : UnitRowData). tick_of (row_at row u) r ≤ tick_at b place u r) (x.has x.segment.0 (le-self x.segment.0) x.le ∙ sym (x.has place x.le (le-self place)))
          (subst (λ (row : UnitRowData). tick_at a x.segment.0 u r ≤ tick_of (row_at row u) r) (y.has x.segment.0 le x.le ∙ sym (y.has place y.le (le-self place))) here)
    ]

pub all_at_starts : (units : ℕ) (a b starts : Known) → AreSegments starts → IsWithin units a b → AtEachStart starts (WithinAt units a b)
all_at_starts units a b starts form all k p at u r within = all p.0 u r (begins no_row starts k p form at).0 within

-- ---- the greatest tick, segment by segment

-- the number is the greatest of the replica's ticks in the segments with a lesser index, or is 0
pub record MostUpTo (units n : ℕ) (known : Known) (r most : ℕ) : Type 0 where
  pub bound : (k : ℕ) (p : Cut × UnitRowData) (u : ℕ) → k < n → slice_get known k ≡ Some p → u < units → tick_of (row_at p.1 u) r ≤ most
  pub met : (most ≡ 0) ⊎ ((k : ℕ) × (p : Cut × UnitRowData) × (u : ℕ) × (slice_get known k ≡ Some p) × (u < units) × (tick_of (row_at p.1 u) r ≡ most))

pub most_none : (units : ℕ) (known : Known) (r : ℕ) → MostUpTo units 0 known r 0
most_none units known r = record { bound = λ k p u less at within. absurd (omega arith); met = inl refl }

pub most_more : (units n : ℕ) (known : Known) (r before most : ℕ) (p : Cut × UnitRowData) → slice_get known n ≡ Some p → MostUpTo units n known r before → MostOfRow units p.1 r before most → MostUpTo units (n + 1) known r most
most_more units n known r before most p at so_far row = record {
  bound = λ k s u less here within. by_case k s u here within (cases_lt k n) less;
  met = elim row.met [
    | inl is ↦ elim so_far.met [
      | inl none ↦ inl (is ∙ none)
      | inr some ↦ inr (some.0, some.1, some.2, some.3, some.4, some.5 ∙ sym is)
    ]
    | inr some ↦ inr (n, p, some.0, at, some.1, some.2)
  ];
}
  where
    by_case : (k : ℕ) (s : Cut × UnitRowData) (u : ℕ) → slice_get known k ≡ Some s → u < units → (k < n) ⊎ (n ≤ k) → k < n + 1 → tick_of (row_at s.1 u) r ≤ most
    by_case k s u here within (inl lt) less = omega (arith, so_far.bound k s u lt here within, row.low)
    by_case k s u here within (inr le) less =
        let is : k ≡ n = omega arith in
        let same : s ≡ p = some_same s p (sym here ∙ ap (slice_get known) is ∙ at) in
        subst (λ (x : Cut × UnitRowData). tick_of (row_at x.1 u) r ≤ most) (sym same) (row.bound u within)

pub most_all : (units n : ℕ) (known : Known) (r most : ℕ) → 1 ≤ units → AreSegments known → length known ≤ n → MostUpTo units n known r most → IsMost units known r most
most_all units n known r most some form end up_to = record { bound = bound; met = met up_to.met }
  where
    bound : (place : Cut) (u : ℕ) → IsPlace place → u < units → tick_at known place u r ≤ most
    bound place u is_place within =
        let at = segment_found no_row known place form in
        let inside : at.index < length known = within_length known at.index at.segment at.at in
        subst (λ (row : UnitRowData). tick_of (row_at row u) r ≤ most) (sym (at.has place at.le (le-self place)))
        (up_to.bound at.index at.segment u (omega arith) at.at within)

    met : (most ≡ 0) ⊎ ((k : ℕ) × (p : Cut × UnitRowData) × (u : ℕ) × (slice_get known k ≡ Some p) × (u < units) × (tick_of (row_at p.1 u) r ≡ most)) → (place : Cut) × (u : ℕ) × IsPlace place × (u < units) × (tick_at known place u r ≡ most)
    met (inl none) = (Start, 0, tt, some, (let low = bound Start 0 tt some in omega arith))
    met (inr there) =
        let at = begins no_row known there.0 there.1 form there.3 in
        (there.1.0, there.2, at.0, there.4, ap (λ (row : UnitRowData). tick_of (row_at row there.2) r) at.1 ∙ there.5)
