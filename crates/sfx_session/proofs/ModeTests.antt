-- What the code finds out about knowledge: the mode of a session.
use Rattle.std.proofs.Common.{◌≡◌, ℕ, ◌<◌, ◌≤◌, Bool, true, false, ◌&&◌, if◌then◌else◌, inl, inr, refl, sym, subst, ◌∙◌, List, [], ◌∷◌, map}
use Rattle.sfx_ids.specs.declared.cut.Cut.{Cut}
use Rattle.sfx_ids.specs.Cut.{cut_le}
use Rattle.sfx_ids.proofs.CutLemmas.{le-self, lt-le, le_or_lt}
use Rattle.sfx_vector.specs.Clocks.{Clocks, tick_of}
use Rattle.sfx_segments.specs.Segments.{IsPlace, AreSegments}
use Rattle.sfx_knowledge.specs.Row.{UnitRowData, row_at}
use Rattle.sfx_knowledge.specs.Knowledge.{Known, no_row, tick_at, IsKnowledge}
use Rattle.sfx_knowledge.specs.Forgotten.{Forgets, AreForgets, fvec, IsForgottenWithin}
use Rattle.sfx_knowledge.specs.Forms.{starts_of}
use Rattle.sfx_knowledge.proofs.StandardFacts.{and-left, and-right, and-true}
use Rattle.sfx_knowledge.proofs.SegmentStarts.{segment_found, begins}
use Rattle.sfx_model.specs.declared.mode.Mode.TheVariants.{Normal, Recover}
use Rattle.sfx_model.specs.sessions.Batch.{is_forgotten_everywhere, mode_of}
use Rattle.sfx_model.specs.sessions.Class.{is_within}
use Rattle.sfx_model.specs.sessions.MemberKnowledge.{forgets_starts}
use Rattle.sfx_model.specs.world.Sets.{Has}
use Rattle.sfx_model.specs.world.Units.{every_unit}
use Rattle.sfx_model.proofs.sessions.MemberKnowledgeLemmas.{every_is, every_true, within_is, within_true}
use Rattle.sfx_model.proofs.sessions.DueBatch.{has_map}
use Rattle.sfx_model.proofs.sessions.NoneIsAhead.{has_at, at_has, has_mapped}

everywhere_is : (units : ℕ) (forgotten : Forgets) (known : Known) (cuts : List Cut) → is_forgotten_everywhere units forgotten known cuts ≡ true
    → (c : Cut) → Has c cuts → (u r : ℕ) → u < units → tick_of (fvec forgotten c) r ≤ tick_at known c u r
everywhere_is units forgotten known [] all c h u r low = absurd h
everywhere_is units forgotten known (d ∷ ds) all c h u r low =
    let here = and-left (every_unit (is_within (fvec forgotten d) known d) units) (is_forgotten_everywhere units forgotten known ds) all in
    let rest = and-right (every_unit (is_within (fvec forgotten d) known d) units) (is_forgotten_everywhere units forgotten known ds) all in
    elim h [
      | inl is ↦ subst (λ (x : Cut). tick_of (fvec forgotten x) r ≤ tick_at known x u r) (sym is)
          (within_is (fvec forgotten d) known d u (every_is (is_within (fvec forgotten d) known d) units here u low) r)
      | inr there ↦ everywhere_is units forgotten known ds rest c there u r low
    ]

everywhere_true : (units : ℕ) (forgotten : Forgets) (known : Known) (cuts : List Cut)
    → ((c : Cut) → Has c cuts → (u r : ℕ) → u < units → tick_of (fvec forgotten c) r ≤ tick_at known c u r)
    → is_forgotten_everywhere units forgotten known cuts ≡ true
everywhere_true units forgotten known [] each = refl
everywhere_true units forgotten known (d ∷ ds) each =
    and-true (every_unit (is_within (fvec forgotten d) known d) units) (is_forgotten_everywhere units forgotten known ds)
    (every_true (is_within (fvec forgotten d) known d) units (λ u low. within_true (fvec forgotten d) known d u (λ r. each d (inl refl) u r low)))
    (everywhere_true units forgotten known ds (λ c h. each c (inr h)))

-- what holds where segments of either begin holds at every place
within_at_starts : (units : ℕ) (forgotten : Forgets) (known : Known) → AreSegments forgotten → AreSegments known
    → ((c : Cut) → Has c (forgets_starts forgotten) → (u r : ℕ) → u < units → tick_of (fvec forgotten c) r ≤ tick_at known c u r)
    → ((c : Cut) → Has c (starts_of known) → (u r : ℕ) → u < units → tick_of (fvec forgotten c) r ≤ tick_at known c u r)
    → IsForgottenWithin units forgotten known
within_at_starts units forgotten known form_f form_k at_f at_k place u r is_place low =
    let x = segment_found [] forgotten place form_f in
    let y = segment_found no_row known place form_k in
    elim (le_or_lt x.segment.0 y.segment.0) [
      | inl le ↦
          (let here = at_k y.segment.0 (has_map (λ (p : Cut × UnitRowData). p.0) y.segment known (has_at known y.index y.segment y.at)) u r low in
          subst (λ (c : Clocks). tick_of c r ≤ tick_at known place u r) (x.has y.segment.0 le y.le ∙ sym (x.has place x.le (le-self place)))
          (subst (λ (row : UnitRowData). tick_of (fvec forgotten y.segment.0) r ≤ tick_of (row_at row u) r) (y.has y.segment.0 (le-self y.segment.0) y.le ∙ sym (y.has place y.le (le-self place))) here))
      | inr lt ↦
          (let le : cut_le y.segment.0 x.segment.0 ≡ true = lt-le y.segment.0 x.segment.0 lt in
          let here = at_f x.segment.0 (has_map (λ (p : Cut × Clocks). p.0) x.segment forgotten (has_at forgotten x.index x.segment x.at)) u r low in
          subst (λ (c : Clocks). tick_of c r ≤ tick_at known place u r) (x.has x.segment.0 (le-self x.segment.0) x.le ∙ sym (x.has place x.le (le-self place)))
          (subst (λ (row : UnitRowData). tick_of (fvec forgotten x.segment.0) r ≤ tick_of (row_at row u) r) (y.has x.segment.0 le x.le ∙ sym (y.has place y.le (le-self place))) here))
    ]

-- each start is a place
start_is_place : {A : Type 0} (before : A) (xs : List (Cut × A)) (c : Cut) → AreSegments xs → Has c (map (λ p. p.0) xs) → IsPlace c
start_is_place {A} before xs c form h =
    let segment = has_mapped (λ (p : Cut × A). p.0) xs c h in
    let at = at_has xs segment.0 segment.1 in
    subst IsPlace (sym segment.2) (begins before xs at.0 segment.0 form at.1).0

pub mode-normal : (units : ℕ) (forgotten : Forgets) (known : Known) → AreForgets forgotten → IsKnowledge units known
    → IsForgottenWithin units forgotten known → mode_of units forgotten known ≡ Normal
mode-normal units forgotten known form_f form_k within =
    let first = everywhere_true units forgotten known (forgets_starts forgotten)
    (λ c h u r low. within c u r (start_is_place [] forgotten c form_f.segments h) low) in
    let second = everywhere_true units forgotten known (starts_of known)
    (λ c h u r low. within c u r (start_is_place no_row known c form_k.segments h) low) in
    rw (first, second) refl

pub mode-recover : (units : ℕ) (forgotten : Forgets) (known : Known) → AreForgets forgotten → IsKnowledge units known
    → ¬ IsForgottenWithin units forgotten known → mode_of units forgotten known ≡ Recover
mode-recover units forgotten known form_f form_k beyond =
    by_test (is_forgotten_everywhere units forgotten known (forgets_starts forgotten)) (is_forgotten_everywhere units forgotten known (starts_of known)) refl refl
  where
    by_test : (a b : Bool) → is_forgotten_everywhere units forgotten known (forgets_starts forgotten) ≡ a
        → is_forgotten_everywhere units forgotten known (starts_of known) ≡ b → (if a && b then Normal else Recover) ≡ Recover
    by_test true true p q = absurd (beyond (within_at_starts units forgotten known form_f.segments form_k.segments
        (everywhere_is units forgotten known (forgets_starts forgotten) p) (everywhere_is units forgotten known (starts_of known) q)))
    by_test true false p q = refl
    by_test false b p q = refl
