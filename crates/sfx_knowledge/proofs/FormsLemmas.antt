-- Knowledge made of ticks.
use Rattle.std.proofs.Common.{◌≡◌, ◌≢◌, ◌⊎◌, ℕ, ◌+◌, ◌<◌, ◌≤◌, ◌^◌, ◌&&◌, ◌||◌, Bool, true, false, true≢false, if◌then◌else◌, nat_eq, inl, inr, arith, refl, sym, ap, subst, ◌∙◌, List, [], ◌∷◌, map}
use Rattle.std.specs.List.{flat_map}
use Rattle.std.proofs.Math.Path.{fun_ext}
use Rattle.std.proofs.lemmas.Bool.{eq-eqb, ne_eqb}
use Rattle.sfx_ids.specs.Tick.{max_tick}
use Rattle.sfx_ids.specs.declared.cut.Cut.{Cut}
use Rattle.sfx_ids.specs.declared.cut.Cut.TheVariants.{Start}
use Rattle.sfx_ids.specs.Cut.{cut_lt, cut_le}
use Rattle.sfx_ids.proofs.CutLemmas.{start-le, le-self, lt-le, lt-not_le, le-not_lt, not_le, not_lt, lt_trans, le_trans, le_cases, le_antisym}
use Rattle.sfx_vector.specs.Clocks.{Clocks, AreClocks, tick_of}
use Rattle.sfx_vector.proofs.ClocksLemmas.{same_ticks}
use Rattle.sfx_segments.specs.Segments.{IsPlace, segment_at, GoOn, AreSegments, AreCombined}
use Rattle.sfx_segments.proofs.PlaceValues.{segment_at-passed, segment_at-ahead}
use Rattle.sfx_segments.proofs.StandardFacts.{yes_it, not_it, tested}
use Rattle.sfx_knowledge.specs.Row.{UnitRowData, row_at, listed_or, AreExceptions, IsClockRow}
use Rattle.sfx_knowledge.specs.Knowledge.{Known, no_row, clocks_at, tick_at, AreRows, IsKnowledge, Ticks, HasTicks, laid_over}
use Rattle.sfx_knowledge.specs.Forms.{clocks_of, row_of, same_row, with_cut, in_order, changes_at, segments_of, knowledge_of, starts_of, listed_in, listed_in_row, replicas_of, with_own, is_listed, AreReplicas, AreTicks, ArePlaces, is_parted, ChangeAtAlone}
use Rattle.sfx_knowledge.specs.Vectors.{own_clocks, own_row}
use Rattle.sfx_knowledge.proofs.StandardFacts.{or-left, or-right}
use Rattle.sfx_knowledge.proofs.VectorsLemmas.{AreClocks-clocks_of, tick-clocks_of, AreReplicas-append, AreReplicas-listed_in, listed-append, tick-unlisted, tick-most, AreClocks-own, tick-own}
use Rattle.sfx_knowledge.proofs.RowLemmas.{IsRow-row_of, row_at-row_of, same_row-is, same_row-self, not_same_row}
use Rattle.sfx_knowledge.proofs.KnowledgeLemmas.{same_known, AreClocks-clocks_at, combined_is}

-- ---- cuts in order

-- the cuts ascend, behind this one
abbrev Above : Cut → List Cut → Type 0
Above from [] = Unit {0}
Above from (c ∷ cs) = (cut_lt from c ≡ true) × Above c cs

abbrev Ascend : List Cut → Type 0
Ascend [] = Unit {0}
Ascend (c ∷ cs) = Above c cs

Above-lower : (a b : Cut) (cs : List Cut) → cut_lt a b ≡ true → Above b cs → Above a cs
Above-lower a b [] lt above = tt
Above-lower a b (c ∷ cs) lt above = (lt_trans a b c lt above.0, above.1)

with_cut-past : (cut c : Cut) (cs : List Cut) → cut_lt c cut ≡ true → with_cut cut (c ∷ cs) ≡ c ∷ with_cut cut cs
with_cut-past cut c cs lt =
    ap (λ (b : Bool). let r : List Cut = if b then c ∷ with_cut cut cs else (if cut_lt cut c then cut ∷ c ∷ cs else c ∷ cs) in r) lt

with_cut-new : (cut c : Cut) (cs : List Cut) → cut_lt c cut ≡ false → cut_lt cut c ≡ true → with_cut cut (c ∷ cs) ≡ cut ∷ c ∷ cs
with_cut-new cut c cs not lt =
    ap (λ (b : Bool). let r : List Cut = if b then c ∷ with_cut cut cs else (if cut_lt cut c then cut ∷ c ∷ cs else c ∷ cs) in r) not
    ∙ ap (λ (b : Bool). let r : List Cut = if b then cut ∷ c ∷ cs else c ∷ cs in r) lt

with_cut-there : (cut c : Cut) (cs : List Cut) → cut_lt c cut ≡ false → cut_lt cut c ≡ false → with_cut cut (c ∷ cs) ≡ c ∷ cs
with_cut-there cut c cs not nor =
    ap (λ (b : Bool). let r : List Cut = if b then c ∷ with_cut cut cs else (if cut_lt cut c then cut ∷ c ∷ cs else c ∷ cs) in r) not
    ∙ ap (λ (b : Bool). let r : List Cut = if b then cut ∷ c ∷ cs else c ∷ cs in r) nor

Above-with_cut : (from cut : Cut) (cs : List Cut) → cut_lt from cut ≡ true → Above from cs → Above from (with_cut cut cs)
Above-with_cut from cut [] lt above = (lt, tt)
Above-with_cut from cut (c ∷ cs) lt above = elim (tested (cut_lt c cut)) [
  | yes_it past ↦ subst (Above from) (sym (with_cut-past cut c cs past)) (above.0, Above-with_cut c cut cs past above.1)
  | not_it not ↦ elim (tested (cut_lt cut c)) [
    | yes_it new ↦ subst (Above from) (sym (with_cut-new cut c cs not new)) (lt, (new, above.1))
    | not_it nor ↦ subst (Above from) (sym (with_cut-there cut c cs not nor)) above
  ]
]

Ascend-with_cut : (cut : Cut) (cs : List Cut) → Ascend cs → Ascend (with_cut cut cs)
Ascend-with_cut cut [] ascend = tt
Ascend-with_cut cut (c ∷ cs) ascend = elim (tested (cut_lt c cut)) [
  | yes_it past ↦ subst Ascend (sym (with_cut-past cut c cs past)) (Above-with_cut c cut cs past ascend)
  | not_it not ↦ elim (tested (cut_lt cut c)) [
    | yes_it new ↦ subst Ascend (sym (with_cut-new cut c cs not new)) (new, ascend)
    | not_it nor ↦ subst Ascend (sym (with_cut-there cut c cs not nor)) ascend
  ]
]

ArePlaces-with_cut : (cut : Cut) (cs : List Cut) → IsPlace cut → ArePlaces cs → ArePlaces (with_cut cut cs)
ArePlaces-with_cut cut [] place places = (place, tt)
ArePlaces-with_cut cut (c ∷ cs) place places = elim (tested (cut_lt c cut)) [
  | yes_it past ↦ subst ArePlaces (sym (with_cut-past cut c cs past)) (places.0, ArePlaces-with_cut cut cs place places.1)
  | not_it not ↦ elim (tested (cut_lt cut c)) [
    | yes_it new ↦ subst ArePlaces (sym (with_cut-new cut c cs not new)) (place, (places.0, places.1))
    | not_it nor ↦ subst ArePlaces (sym (with_cut-there cut c cs not nor)) places
  ]
]

or-none : (x y : Bool) → x ≡ false → y ≡ false → (x || y) ≡ false
or-none x y first second = rw (first, second) refl

-- what no cut of the list parts, the one more does not part either
unparted-with_cut : (cut : Cut) (cs : List Cut) (p q : Cut) → is_parted (with_cut cut cs) p q ≡ false → ((cut_lt p cut && cut_le cut q) ≡ false) × (is_parted cs p q ≡ false)
unparted-with_cut cut [] p q none = (or-left (cut_lt p cut && cut_le cut q) false none, refl)
unparted-with_cut cut (c ∷ cs) p q none = elim (tested (cut_lt c cut)) [
  | yes_it past ↦
      let none' : is_parted (c ∷ with_cut cut cs) p q ≡ false = subst (λ xs. is_parted xs p q ≡ false) (with_cut-past cut c cs past) none in
      let rest = unparted-with_cut cut cs p q (or-right (cut_lt p c && cut_le c q) (is_parted (with_cut cut cs) p q) none') in
      (rest.0, or-none (cut_lt p c && cut_le c q) (is_parted cs p q) (or-left (cut_lt p c && cut_le c q) (is_parted (with_cut cut cs) p q) none') rest.1)
  | not_it not ↦ elim (tested (cut_lt cut c)) [
    | yes_it new ↦
        let none' : is_parted (cut ∷ c ∷ cs) p q ≡ false = subst (λ xs. is_parted xs p q ≡ false) (with_cut-new cut c cs not new) none in
        (or-left (cut_lt p cut && cut_le cut q) (is_parted (c ∷ cs) p q) none', or-right (cut_lt p cut && cut_le cut q) (is_parted (c ∷ cs) p q) none')
    | not_it nor ↦
        let none' : is_parted (c ∷ cs) p q ≡ false = subst (λ xs. is_parted xs p q ≡ false) (with_cut-there cut c cs not nor) none in
        let same : c ≡ cut = le_antisym c cut (not_lt cut c nor) (not_lt c cut not) in
        (subst (λ x. (cut_lt p x && cut_le x q) ≡ false) same (or-left (cut_lt p c && cut_le c q) (is_parted cs p q) none'), none')
  ]
]

Ascend-in_order : (cs : List Cut) → Ascend (in_order cs)
Ascend-in_order [] = tt
Ascend-in_order (c ∷ cs) = Ascend-with_cut c (in_order cs) (Ascend-in_order cs)

ArePlaces-in_order : (cs : List Cut) → ArePlaces cs → ArePlaces (in_order cs)
ArePlaces-in_order [] places = tt
ArePlaces-in_order (c ∷ cs) places = ArePlaces-with_cut c (in_order cs) places.0 (ArePlaces-in_order cs places.1)

unparted-in_order : (cs : List Cut) (p q : Cut) → is_parted (in_order cs) p q ≡ false → is_parted cs p q ≡ false
unparted-in_order [] p q none = refl
unparted-in_order (c ∷ cs) p q none =
    let parts = unparted-with_cut c (in_order cs) p q none in
    or-none (cut_lt p c && cut_le c q) (is_parted cs p q) parts.0 (unparted-in_order cs p q parts.1)

-- cuts behind the second place part nothing
unparted-above : (cs : List Cut) (p q : Cut) → Above q cs → is_parted cs p q ≡ false
unparted-above [] p q above = refl
unparted-above (c ∷ cs) p q above =
    or-none (cut_lt p c && cut_le c q) (is_parted cs p q) (by_test (cut_lt p c) (lt-not_le q c above.0))
    (unparted-above cs p q (Above-lower q c cs above.0 above.1))
  where
    by_test : (b : Bool) → cut_le c q ≡ false → (b && cut_le c q) ≡ false
    by_test true apart = apart
    by_test false apart = refl

-- and nor does a cut that is not behind the first
unparted-passed : (c : Cut) (cs : List Cut) (p q : Cut) → cut_le c p ≡ true → is_parted cs p q ≡ false → is_parted (c ∷ cs) p q ≡ false
unparted-passed c cs p q le none =
    or-none (cut_lt p c && cut_le c q) (is_parted cs p q) (ap (λ (b : Bool). b && cut_le c q) (le-not_lt c p le)) none

-- ---- segments that change at cuts

changes-same : (row : Cut → UnitRowData) (before : UnitRowData) (c : Cut) (cs : List Cut) → same_row (row c) before ≡ true → changes_at row before (c ∷ cs) ≡ changes_at row before cs
changes-same row before c cs same =
    ap (λ (b : Bool). let r : Known = if b then changes_at row before cs else (c, row c) ∷ changes_at row (row c) cs in r) same

changes-differ : (row : Cut → UnitRowData) (before : UnitRowData) (c : Cut) (cs : List Cut) → same_row (row c) before ≡ false → let p : Cut × UnitRowData = (c, row c) in changes_at row before (c ∷ cs) ≡ p ∷ changes_at row (row c) cs
changes-differ row before c cs differ =
    ap (λ (b : Bool). let r : Known = if b then changes_at row before cs else (c, row c) ∷ changes_at row (row c) cs in r) differ

go_on-changes : (row : Cut → UnitRowData) (from : Cut) (before : UnitRowData) (cs : List Cut) → Above from cs → ArePlaces cs → GoOn from before (changes_at row before cs)
go_on-changes row from before [] above places = tt
go_on-changes row from before (c ∷ cs) above places = elim (tested (same_row (row c) before)) [
  | yes_it same ↦
      subst (λ (ps : Known). GoOn from before ps) (sym (changes-same row before c cs same))
      (go_on-changes row from before cs (Above-lower from c cs above.0 above.1) places.1)
  | not_it differ ↦
      subst (λ (ps : Known). GoOn from before ps) (sym (changes-differ row before c cs differ))
      (above.0, places.0, (λ is. not_same_row (row c) before differ (sym is)), go_on-changes row c (row c) cs above.1 places.1)
]

from_start : (row : Cut → UnitRowData) (cs : List Cut) → Ascend cs → ArePlaces cs → GoOn Start (row Start) (changes_at row (row Start) cs)
from_start row [] ascend places = tt
from_start row (c ∷ cs) ascend places = elim (le_cases Start c (start-le c)) [
  | inl lt ↦ go_on-changes row Start (row Start) (c ∷ cs) (lt, ascend) places
  | inr is ↦
      let same : same_row (row c) (row Start) ≡ true = subst (λ x. same_row (row x) (row Start) ≡ true) is (same_row-self (row Start)) in
      subst (λ (ps : Known). GoOn Start (row Start) ps) (sym (changes-same row (row Start) c cs same))
      (go_on-changes row Start (row Start) cs (subst (λ x. Above x cs) (sym is) ascend) places.1)
]

pub AreSegments-segments_of : (cuts : List Cut) (row : Cut → UnitRowData) → ArePlaces cuts → AreSegments (segments_of cuts row)
AreSegments-segments_of cuts row places = (refl, from_start row (in_order cuts) (Ascend-in_order cuts) (ArePlaces-in_order cuts places))

rows-changes : (units : ℕ) (row : Cut → UnitRowData) (before : UnitRowData) (cs : List Cut) → ArePlaces cs → ((q : Cut) → IsPlace q → IsClockRow units (row q)) → AreRows units (changes_at row before cs)
rows-changes units row before [] places each = tt
rows-changes units row before (c ∷ cs) places each = elim (tested (same_row (row c) before)) [
  | yes_it same ↦
      subst (AreRows units) (sym (changes-same row before c cs same)) (rows-changes units row before cs places.1 each)
  | not_it differ ↦
      subst (AreRows units) (sym (changes-differ row before c cs differ))
      (each c places.0, rows-changes units row (row c) cs places.1 each)
]

pub IsKnowledge-segments_of : (units : ℕ) (cuts : List Cut) (row : Cut → UnitRowData) → ArePlaces cuts → ((q : Cut) → IsPlace q → IsClockRow units (row q)) → IsKnowledge units (segments_of cuts row)
IsKnowledge-segments_of units cuts row places each = record {
  segments = AreSegments-segments_of cuts row places;
  rows = (each Start tt, rows-changes units row (row Start) (in_order cuts) (ArePlaces-in_order cuts places) each);
}

-- before the first cut nothing changes
changes-ahead : (row : Cut → UnitRowData) (before : UnitRowData) (cs : List Cut) (q : Cut) → Above q cs → segment_at before (changes_at row before cs) q ≡ before
changes-ahead row before [] q above = refl
changes-ahead row before (c ∷ cs) q above = elim (tested (same_row (row c) before)) [
  | yes_it same ↦
      ap (λ (ps : Known). segment_at before ps q) (changes-same row before c cs same)
      ∙ changes-ahead row before cs q (Above-lower q c cs above.0 above.1)
  | not_it differ ↦
      ap (λ (ps : Known). segment_at before ps q) (changes-differ row before c cs differ)
      ∙ segment_at-ahead before (c, row c) (changes_at row (row c) cs) q above.0
]

-- what is seen of a row is the same up to the place, where no cut parts: the segments have it there
pub record Steady {A : Type 0} (see : UnitRowData → A) (row : Cut → UnitRowData) (from : Cut) (cs : List Cut) (q : Cut) : Type 0 where
  pub up_to : (p : Cut) → IsPlace p → cut_le from p ≡ true → cut_le p q ≡ true → is_parted cs p q ≡ false → see (row p) ≡ see (row q)

steady-passed : {A : Type 0} (see : UnitRowData → A) (row : Cut → UnitRowData) (from c : Cut) (cs : List Cut) (q : Cut) → cut_le from c ≡ true → Steady see row from (c ∷ cs) q → Steady see row c cs q
steady-passed see row from c cs q behind steady = record {
  up_to = λ p place le le_q none. steady.up_to p place (le_trans from c p behind le) le_q (unparted-passed c cs p q le none);
}

seen-changes : {A : Type 0} (see : UnitRowData → A) (row : Cut → UnitRowData) (from : Cut) (before : UnitRowData) (cs : List Cut) (q : Cut) → before ≡ row from → IsPlace from → cut_le from q ≡ true → Above from cs → ArePlaces cs → Steady see row from cs q → see (segment_at before (changes_at row before cs) q) ≡ see (row q)
seen-changes see row from before [] q is place le above places steady = ap see is ∙ steady.up_to from place (le-self from) le refl
seen-changes {A} see row from before (c ∷ cs) q is place le above places steady = elim (tested (cut_le c q)) [
  | yes_it here ↦
      let rest : Steady see row c cs q = steady-passed see row from c cs q (lt-le from c above.0) steady in
      elim (tested (same_row (row c) before)) [
        | yes_it same ↦
            ap (λ (ps : Known). see (segment_at before ps q)) (changes-same row before c cs same)
            ∙ seen-changes see row c before cs q (sym (same_row-is (row c) before same)) places.0 here above.1 places.1 rest
        | not_it differ ↦
            ap (λ (ps : Known). see (segment_at before ps q)) (changes-differ row before c cs differ)
            ∙ ap see (segment_at-passed before (c, row c) (changes_at row (row c) cs) q here)
            ∙ seen-changes see row c (row c) cs q refl places.0 here above.1 places.1 rest
      ]
  | not_it ahead ↦
      let behind : Above q (c ∷ cs) = (not_le c q ahead, above.1) in
      ap see (changes-ahead row before (c ∷ cs) q behind ∙ is)
      ∙ steady.up_to from place (le-self from) le (unparted-above (c ∷ cs) from q behind)
]

-- what is seen of the segments is what is seen of the row at the place
pub seen-segments : {A : Type 0} (see : UnitRowData → A) (cuts : List Cut) (row : Cut → UnitRowData) (q : Cut) → ArePlaces cuts → IsPlace q → ((p : Cut) → IsPlace p → cut_le p q ≡ true → is_parted cuts p q ≡ false → see (row p) ≡ see (row q)) → see (segment_at no_row (segments_of cuts row) q) ≡ see (row q)
seen-segments {A} see cuts row q places place alike =
    ap see (segment_at-passed no_row (Start, row Start) (changes_at row (row Start) (in_order cuts)) q (start-le q))
    ∙ by_first (in_order cuts) (Ascend-in_order cuts) (ArePlaces-in_order cuts places)
    (record { up_to = λ p is_place le le_q none. alike p is_place le_q (unparted-in_order cuts p q none) })
  where
    by_first : (cs : List Cut) → Ascend cs → ArePlaces cs → Steady see row Start cs q → see (segment_at (row Start) (changes_at row (row Start) cs) q) ≡ see (row q)
    by_first [] ascend places' steady = seen-changes see row Start (row Start) [] q refl tt (start-le q) tt tt steady
    by_first (c ∷ cs) ascend places' steady = elim (le_cases Start c (start-le c)) [
      | inl lt ↦ seen-changes see row Start (row Start) (c ∷ cs) q refl tt (start-le q) (lt, ascend) places' steady
      | inr is ↦
          let same : same_row (row c) (row Start) ≡ true = subst (λ x. same_row (row x) (row Start) ≡ true) is (same_row-self (row Start)) in
          let rest : Steady see row Start cs q = subst (λ x. Steady see row x cs q) (sym is) (steady-passed see row Start c cs q (start-le c) steady) in
          ap (λ (ps : Known). see (segment_at (row Start) ps q)) (changes-same row (row Start) c cs same)
          ∙ seen-changes see row Start (row Start) cs q refl tt (start-le q) (subst (λ x. Above x cs) (sym is) ascend) places'.1 rest
    ]

-- ---- knowledge with these ticks

pub IsKnowledge-knowledge_of : (units : ℕ) (cuts : List Cut) (replicas : List ℕ) (ticks : Ticks) → ArePlaces cuts → AreReplicas replicas → ((q : Cut) (u r : ℕ) → IsPlace q → (u < units) ⊎ (u ≡ 0) → ticks q u r ≤ max_tick) → IsKnowledge units (knowledge_of units cuts replicas ticks)
IsKnowledge-knowledge_of units cuts replicas ticks places listed most =
    IsKnowledge-segments_of units cuts (λ q. row_of units (λ u. clocks_of replicas (ticks q u))) places
    (λ q place. IsRow-row_of units (λ u. clocks_of replicas (ticks q u)) (λ u within. AreClocks-clocks_of replicas (ticks q u) listed (λ r. most q u r place within)))

-- with at least one unit
pub form-knowledge_of : (units : ℕ) (cuts : List Cut) (replicas : List ℕ) (ticks : Ticks) → 1 ≤ units → AreTicks units replicas ticks → ChangeAtAlone units cuts ticks → IsKnowledge units (knowledge_of units cuts replicas ticks)
form-knowledge_of units cuts replicas ticks some are change =
    IsKnowledge-knowledge_of units cuts replicas ticks change.places are.listed
    (λ q u r place within. are.most q u r place (elim within [ inl less ↦ less | inr least ↦ omega arith ]))

pub ticks-knowledge_of : (units : ℕ) (cuts : List Cut) (replicas : List ℕ) (ticks : Ticks) → AreTicks units replicas ticks → ChangeAtAlone units cuts ticks → HasTicks units (knowledge_of units cuts replicas ticks) ticks
ticks-knowledge_of units cuts replicas ticks are change q u r place within =
    let row : Cut → UnitRowData = λ x. row_of units (λ v. clocks_of replicas (ticks x v)) in
    seen-segments (λ (x : UnitRowData). tick_of (row_at x u) r) cuts (λ x. row_of units (λ v. clocks_of replicas (ticks x v))) q change.places place
    (λ p is_place le none. at p is_place ∙ change.alike p q u r is_place place within le none ∙ sym (at q place))
    ∙ at q place
  where
    at : (p : Cut) → IsPlace p → tick_of (row_at (row_of units (λ v. clocks_of replicas (ticks p v))) u) r ≡ ticks p u r
    at p is_place =
        ap (λ c. tick_of c r) (row_at-row_of units (λ v. clocks_of replicas (ticks p v)) u (inl within))
        ∙ tick-clocks_of replicas (ticks p u) r are.listed (λ x. are.most p u x is_place within) (are.others p u r is_place within)

-- ---- the ticks of knowledge

pub ArePlaces-behind : {A : Type 0} (from : Cut) (value : A) (ps : List (Cut × A)) → GoOn from value ps → ArePlaces (map (λ p. p.0) ps)
ArePlaces-behind from value [] on = tt
ArePlaces-behind from value (p ∷ ps) on = (on.1, ArePlaces-behind p.0 p.1 ps on.3)

pub ArePlaces-starts_of : (known : Known) → AreSegments known → ArePlaces (starts_of known)
ArePlaces-starts_of [] form = absurd form
ArePlaces-starts_of (p ∷ ps) form = (subst IsPlace (sym form.0) tt, ArePlaces-behind p.0 p.1 ps form.1)

-- where no start parts two places, both have one segment
pub segment-unparted : {A : Type 0} (before : A) (ps : List (Cut × A)) (p q : Cut) → cut_le p q ≡ true → is_parted (map (λ s. s.0) ps) p q ≡ false → segment_at before ps p ≡ segment_at before ps q
segment-unparted before [] p q le none = refl
segment-unparted before (s ∷ ps) p q le none = elim (tested (cut_le s.0 p)) [
  | yes_it here ↦
      segment_at-passed before s ps p here
      ∙ segment-unparted s.1 ps p q le (or-right (cut_lt p s.0 && cut_le s.0 q) (is_parted (map (λ x. x.0) ps) p q) none)
      ∙ sym (segment_at-passed before s ps q (le_trans s.0 p q here le))
  | not_it ahead ↦
      let behind : cut_lt p s.0 ≡ true = not_le s.0 p ahead in
      let apart : cut_le s.0 q ≡ false =
      ap (λ (b : Bool). b && cut_le s.0 q) (sym behind) ∙ or-left (cut_lt p s.0 && cut_le s.0 q) (is_parted (map (λ x. x.0) ps) p q) none in
      segment_at-ahead before s ps p behind ∙ sym (segment_at-ahead before s ps q (not_le s.0 q apart))
]

AreReplicas-exceptions : (units : ℕ) (base : Clocks) (low : ℕ) (os : List (ℕ × Clocks)) → AreExceptions units base low os → AreReplicas (flat_map (λ o. listed_in o.1) os)
AreReplicas-exceptions units base low [] form = tt
AreReplicas-exceptions units base low (o ∷ os) form =
    AreReplicas-append (listed_in o.1) (flat_map (λ x. listed_in x.1) os) (AreReplicas-listed_in 0 o.1 form.2) (AreReplicas-exceptions units base (o.0 + 1) os form.4)

AreReplicas-row : (units : ℕ) (row : UnitRowData) → IsClockRow units row → AreReplicas (listed_in_row row)
AreReplicas-row units row form =
    AreReplicas-append (listed_in row.base) (flat_map (λ x. listed_in x.1) row.others) (AreReplicas-listed_in 0 row.base form.base) (AreReplicas-exceptions units row.base 1 row.others form.others)

pub AreReplicas-known : (units : ℕ) (known : Known) → AreRows units known → AreReplicas (replicas_of known)
AreReplicas-known units [] rows = tt
AreReplicas-known units (p ∷ ps) rows =
    AreReplicas-append (listed_in_row p.1) (flat_map (λ x. listed_in_row x.1) ps) (AreReplicas-row units p.1 rows.0) (AreReplicas-known units ps rows.1)

tick-unlisted_other : (base : Clocks) (os : List (ℕ × Clocks)) (u r : ℕ) → tick_of base r ≡ 0 → is_listed (flat_map (λ o. listed_in o.1) os) r ≡ false → tick_of (listed_or base os u) r ≡ 0
tick-unlisted_other base [] u r first none = first
tick-unlisted_other base (o ∷ os) u r first none =
    let parts = listed-append (listed_in o.1) (flat_map (λ x. listed_in x.1) os) r none in
    by_test (nat_eq o.0 u) (tick-unlisted o.1 r parts.0) (tick-unlisted_other base os u r first parts.1)
  where
    by_test : (b : Bool) → tick_of o.1 r ≡ 0 → tick_of (listed_or base os u) r ≡ 0 → tick_of (if b then o.1 else listed_or base os u) r ≡ 0
    by_test true here rest = here
    by_test false here rest = rest

tick-unlisted_row : (row : UnitRowData) (u r : ℕ) → is_listed (listed_in_row row) r ≡ false → tick_of (row_at row u) r ≡ 0
tick-unlisted_row row u r none =
    let parts = listed-append (listed_in row.base) (flat_map (λ x. listed_in x.1) row.others) r none in
    tick-unlisted_other row.base row.others u r (tick-unlisted row.base r parts.0) parts.1

tick-unlisted_from : (before : UnitRowData) (ps : Known) (q : Cut) (u r : ℕ) → tick_of (row_at before u) r ≡ 0 → is_listed (replicas_of ps) r ≡ false → tick_of (row_at (segment_at before ps q) u) r ≡ 0
tick-unlisted_from before [] q u r first none = first
tick-unlisted_from before (p ∷ ps) q u r first none =
    let parts = listed-append (listed_in_row p.1) (flat_map (λ x. listed_in_row x.1) ps) r none in
    by_test (cut_le p.0 q) (tick-unlisted_from p.1 ps q u r (tick-unlisted_row p.1 u r parts.0) parts.1)
  where
    by_test : (b : Bool) → tick_of (row_at (segment_at p.1 ps q) u) r ≡ 0 → tick_of (row_at (if b then segment_at p.1 ps q else before) u) r ≡ 0
    by_test true rest = rest
    by_test false rest = first

-- a replica that the knowledge does not list has the tick 0
pub tick-unlisted_known : (known : Known) (q : Cut) (u r : ℕ) → is_listed (replicas_of known) r ≡ false → tick_at known q u r ≡ 0
tick-unlisted_known known q u r none = tick-unlisted_from no_row known q u r refl none

-- ---- one's own tick laid over

own_most : (units own tick : ℕ) (known : Known) → IsKnowledge units known → tick ≤ max_tick → (q : Cut) (u r : ℕ) → laid_over own tick (tick_at known) q u r ≤ max_tick
own_most units own tick known form most q u r = by_test (nat_eq r own)
  where
    by_test : (b : Bool) → (if b then tick else tick_at known q u r) ≤ max_tick
    by_test true = most
    by_test false = tick-most 0 (clocks_at known q u) r (AreClocks-clocks_at units known q u form.rows)

own_others : (own tick : ℕ) (known : Known) (q : Cut) (u r : ℕ) → is_listed (own ∷ replicas_of known) r ≡ false → laid_over own tick (tick_at known) q u r ≡ 0
own_others own tick known q u r none =
    let other : own ≢ r = λ is. absurd (true≢false (sym (eq-eqb own r is) ∙ or-left (nat_eq own r) (is_listed (replicas_of known) r) none)) in
    ap (λ b. if b then tick else tick_at known q u r) (ne_eqb r own (λ is. other (sym is)))
    ∙ tick-unlisted_known known q u r (or-right (nat_eq own r) (is_listed (replicas_of known) r) none)

pub AreTicks-own : (units own tick : ℕ) (known : Known) → IsKnowledge units known → tick ≤ max_tick → own < 2 ^ 128 → AreTicks units (own ∷ replicas_of known) (laid_over own tick (tick_at known))
AreTicks-own units own tick known form most fits = record {
  listed = (fits, AreReplicas-known units known form.rows);
  most = λ q u r place within. own_most units own tick known form most q u r;
  others = λ q u r place within none. own_others own tick known q u r none;
}

pub ChangeAtAlone-own : (units own tick : ℕ) (known : Known) → IsKnowledge units known → ChangeAtAlone units (starts_of known) (laid_over own tick (tick_at known))
ChangeAtAlone-own units own tick known form = record {
  places = ArePlaces-starts_of known form.segments;
  alike = λ p q u r is_place place within le none.
      ap (λ row. if nat_eq r own then tick else tick_of (row_at row u) r) (segment-unparted no_row known p q le none);
}

pub IsKnowledge-with_own : (units own tick : ℕ) (known : Known) → IsKnowledge units known → tick ≤ max_tick → own < 2 ^ 128 → IsKnowledge units (with_own units own tick known)
IsKnowledge-with_own units own tick known form most fits =
    IsKnowledge-knowledge_of units (starts_of known) (own ∷ replicas_of known) (laid_over own tick (tick_at known))
    (ArePlaces-starts_of known form.segments) (fits, AreReplicas-known units known form.rows)
    (λ q u r place within. own_most units own tick known form most q u r)

pub ticks-with_own : (units own tick : ℕ) (known : Known) → IsKnowledge units known → tick ≤ max_tick → own < 2 ^ 128 → HasTicks units (with_own units own tick known) (laid_over own tick (tick_at known))
ticks-with_own units own tick known form most fits =
    ticks-knowledge_of units (starts_of known) (own ∷ replicas_of known) (laid_over own tick (tick_at known))
    (AreTicks-own units own tick known form most fits) (ChangeAtAlone-own units own tick known form)

-- the row of the knowledge at a place, with the own tick
row_with_own : (units own tick : ℕ) (known : Known) (q : Cut) → IsKnowledge units known → tick ≤ max_tick → own < 2 ^ 128 → row_of units (λ u. clocks_of (own ∷ replicas_of known) (laid_over own tick (tick_at known) q u)) ≡ own_row units own tick (segment_at no_row known q)
row_with_own units own tick known q form most fits =
    ap (row_of units)
    (fun_ext (λ u.
    let a = clocks_at known q u in
    let form_a : AreClocks (clocks_at known q u) = AreClocks-clocks_at units known q u form.rows in
    same_ticks 0 (clocks_of (own ∷ replicas_of known) (laid_over own tick (tick_at known) q u)) (own_clocks own tick (clocks_at known q u))
    (AreClocks-clocks_of (own ∷ replicas_of known) (laid_over own tick (tick_at known) q u) (fits, AreReplicas-known units known form.rows) (λ r. own_most units own tick known form most q u r))
    (AreClocks-own own tick (clocks_at known q u) fits most form_a)
    (λ r.
    tick-clocks_of (own ∷ replicas_of known) (laid_over own tick (tick_at known) q u) r (fits, AreReplicas-known units known form.rows) (λ x. own_most units own tick known form most q u x) (own_others own tick known q u r)
    ∙ sym (tick-own own tick (clocks_at known q u) r fits most form_a))))

-- segments whose rows have the own tick are the knowledge with it
pub own_known_is : (units own tick : ℕ) (known made : Known) → IsKnowledge units known → tick ≤ max_tick → own < 2 ^ 128 → AreSegments made → AreCombined (λ x y. own_row units own tick x) known known made → made ≡ with_own units own tick known
own_known_is units own tick known made form most fits segments all =
    same_known made (with_own units own tick known) segments (IsKnowledge-with_own units own tick known form most fits).segments
    (λ q place.
    combined_is (λ x y. own_row units own tick x) known known made no_row no_row no_row q form.segments form.segments all place
    ∙ sym (row_with_own units own tick known q form most fits)
    ∙ sym (seen-segments (λ (x : UnitRowData). x) (starts_of known)
    (λ p. row_of units (λ u. clocks_of (own ∷ replicas_of known) (laid_over own tick (tick_at known) p u)))
    q (ArePlaces-starts_of known form.segments) place
    (λ p is_place le none.
    ap (λ (row : UnitRowData). row_of units (λ u. clocks_of (own ∷ replicas_of known) (λ r. if nat_eq r own then tick else tick_of (row_at row u) r)))
    (segment-unparted no_row known p q le none))))
