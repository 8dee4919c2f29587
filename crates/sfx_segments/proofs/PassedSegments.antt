-- Walking a list of segments up to a place.
use Rattle.std.proofs.Common.{◌≡◌, ◌⊎◌, ◌-◌, ◌<◌, ◌≤◌, Bool, true, false, true≢false, if◌then◌else◌, inl, inr, arith, refl, sym, ap, subst, ◌∙◌, List, [], ◌∷◌, length, get_or, take, drop}
use Rattle.std.proofs.lemmas.List.{take_rest}
use Rattle.sfx_ids.specs.declared.cut.Cut.{Cut}
use Rattle.sfx_ids.specs.declared.cut.Cut.TheVariants.{Start, End}
use Rattle.sfx_ids.specs.Cut.{cut_lt, cut_le}
use Rattle.sfx_ids.proofs.CutLemmas.{lt-not_le, not_le, not_lt, le_trans, lt_trans, lt_le_trans}
use Rattle.sfx_segments.specs.Segments.{segment_at}
use Rattle.sfx_segments.specs.Merge.{start_of, earlier, passed}
use Rattle.sfx_segments.proofs.PlaceValues.{segment_at-passed, segment_at-ahead}
use Rattle.sfx_segments.proofs.StandardFacts.{yes_it, not_it, tested}

-- ---- one list

passed-cons : {A : Type 0} (value : A) (p : Cut × A) (ps : List (Cut × A)) (place : Cut) → cut_le p.0 place ≡ true → passed value (p ∷ ps) place ≡ passed p.1 ps place
passed-cons {A} value p ps place le =
    ap (λ (b : Bool). let r : A × List (Cut × A) = if b then passed p.1 ps place else (value, p ∷ ps) in r) le

passed-ahead : {A : Type 0} (value : A) (p : Cut × A) (ps : List (Cut × A)) (place : Cut) → cut_le p.0 place ≡ false → let r : A × List (Cut × A) = (value, p ∷ ps) in passed value (p ∷ ps) place ≡ r
passed-ahead {A} value p ps place ahead =
    ap (λ (b : Bool). let r : A × List (Cut × A) = if b then passed p.1 ps place else (value, p ∷ ps) in r) ahead

-- segments that begin at the start are some
pub not_empty : {A : Type 0} (xs : List (Cut × A)) → start_of xs ≡ Start → 0 < length xs
not_empty [] starts = cc
not_empty (p ∷ ps) starts = omega arith

-- past a segment that begins no later
pub pass_goes_on : {A : Type 0} (value : A) (ahead : List (Cut × A)) (first : Cut × A) (place : Cut) →
    1 ≤ length ahead → first ≡ get_or ahead 0 first → cut_lt place first.0 ≡ false →
    passed first.1 (take (length ahead - 1) (drop 1 ahead)) place ≡ passed value ahead place
pass_goes_on value [] first place some is later = absurd (omega arith)
pass_goes_on value (p ∷ ps) first place some is later =
    let is_p : first ≡ p = is in
    rw (take_rest (p ∷ ps) 1, is_p)
    (sym (passed-cons value p ps place (not_lt place p.0 (rw is_p at later))))

-- at a segment that begins later
pub pass_stops : {A : Type 0} (value : A) (ahead : List (Cut × A)) (first : Cut × A) (place : Cut) →
    1 ≤ length ahead → first ≡ get_or ahead 0 first → cut_lt place first.0 ≡ true →
    let r : A × List (Cut × A) = (value, ahead) in r ≡ passed value ahead place
pass_stops value [] first place some is later = absurd (omega arith)
pass_stops value (p ∷ ps) first place some is later =
    let is_p : first ≡ p = is in
    sym (passed-ahead value p ps place (lt-not_le place p.0 (rw is_p at later)))

-- behind the last segment
pub pass_ends : {A : Type 0} (value : A) (ahead : List (Cut × A)) (place : Cut) →
    length ahead < 1 → let r : A × List (Cut × A) = (value, ahead) in r ≡ passed value ahead place
pass_ends value [] place over = refl
pass_ends value (p ∷ ps) place over = absurd (omega arith)

-- from the place on, what is left gives what the list gives
pub segment_at-passed_list : {A : Type 0} (value : A) (ps : List (Cut × A)) (place q : Cut) → cut_le place q ≡ true → segment_at (passed value ps place).0 (passed value ps place).1 q ≡ segment_at value ps q
segment_at-passed_list value [] place q le = refl
segment_at-passed_list {A} value (p ∷ ps) place q le = elim (tested (cut_le p.0 place)) [
  | yes_it here ↦
      subst (λ (r : A × List (Cut × A)). segment_at r.0 r.1 q ≡ segment_at value (p ∷ ps) q) (sym (passed-cons value p ps place here))
      (segment_at-passed_list p.1 ps place q le ∙ sym (segment_at-passed value p ps q (le_trans p.0 place q here le)))
  | not_it ahead ↦
      subst (λ (r : A × List (Cut × A)). segment_at r.0 r.1 q ≡ segment_at value (p ∷ ps) q) (sym (passed-ahead value p ps place ahead)) refl
]

-- what is left begins behind the place
pub start_of-passed : {A : Type 0} (value : A) (ps : List (Cut × A)) (place : Cut) → cut_lt place End ≡ true → cut_lt place (start_of (passed value ps place).1) ≡ true
start_of-passed value [] place inside = inside
start_of-passed {A} value (p ∷ ps) place inside = elim (tested (cut_le p.0 place)) [
  | yes_it here ↦
      subst (λ (r : A × List (Cut × A)). cut_lt place (start_of r.1) ≡ true) (sym (passed-cons value p ps place here))
      (start_of-passed p.1 ps place inside)
  | not_it ahead ↦
      subst (λ (r : A × List (Cut × A)). cut_lt place (start_of r.1) ≡ true) (sym (passed-ahead value p ps place ahead))
      (not_le p.0 place ahead)
]

pub length-passed : {A : Type 0} (value : A) (ps : List (Cut × A)) (place : Cut) → length (passed value ps place).1 ≤ length ps
length-passed value [] place = omega arith
length-passed {A} value (p ∷ ps) place = elim (tested (cut_le p.0 place)) [
  | yes_it here ↦
      subst (λ (r : A × List (Cut × A)). length r.1 ≤ length (p ∷ ps)) (sym (passed-cons value p ps place here))
      (let rest : length (passed p.1 ps place).1 ≤ length ps = length-passed p.1 ps place in omega arith)
  | not_it ahead ↦
      subst (λ (r : A × List (Cut × A)). length r.1 ≤ length (p ∷ ps)) (sym (passed-ahead value p ps place ahead)) (omega arith)
]

pub passed_shorter : {A : Type 0} (value : A) (ps : List (Cut × A)) (place : Cut) → cut_le (start_of ps) place ≡ true → cut_lt place End ≡ true → length (passed value ps place).1 < length ps
passed_shorter value [] place le inside = absurd (true≢false (sym le ∙ lt-not_le place End inside))
passed_shorter {A} value (p ∷ ps) place le inside =
    subst (λ (r : A × List (Cut × A)). length r.1 < length (p ∷ ps)) (sym (passed-cons value p ps place le))
    (let rest : length (passed p.1 ps place).1 ≤ length ps = length-passed p.1 ps place in omega arith)

-- before the first segment there is the value
pub segment_at-before : {A : Type 0} (value : A) (ps : List (Cut × A)) (q : Cut) → cut_lt q (start_of ps) ≡ true → segment_at value ps q ≡ value
segment_at-before value [] q lt = refl
segment_at-before value (p ∷ ps) q lt = segment_at-ahead value p ps q lt

-- ---- the earlier of two cuts

pub before_earlier : (a b q : Cut) → cut_lt q (earlier a b) ≡ true → (cut_lt q a ≡ true) × (cut_lt q b ≡ true)
before_earlier a b q lt = elim (tested (cut_le a b)) [
  | yes_it le ↦
      let here : cut_lt q a ≡ true = subst (λ c. cut_lt q c ≡ true) (ap (λ (t : Bool). if t then a else b) le) lt in
      (here, lt_le_trans q a b here le)
  | not_it ahead ↦
      let here : cut_lt q b ≡ true = subst (λ c. cut_lt q c ≡ true) (ap (λ (t : Bool). if t then a else b) ahead) lt in
      (lt_trans q b a here (not_le a b ahead), here)
]

pub lt-earlier : (a b q : Cut) → cut_lt q a ≡ true → cut_lt q b ≡ true → cut_lt q (earlier a b) ≡ true
lt-earlier a b q first second = elim (tested (cut_le a b)) [
  | yes_it le ↦ subst (λ c. cut_lt q c ≡ true) (sym (ap (λ (t : Bool). if t then a else b) le)) first
  | not_it ahead ↦ subst (λ c. cut_lt q c ≡ true) (sym (ap (λ (t : Bool). if t then a else b) ahead)) second
]

pub earlier_cases : (a b : Cut) → (earlier a b ≡ a) ⊎ (earlier a b ≡ b)
earlier_cases a b = elim (tested (cut_le a b)) [
  | yes_it le ↦ inl (ap (λ (t : Bool). if t then a else b) le)
  | not_it ahead ↦ inr (ap (λ (t : Bool). if t then a else b) ahead)
]
