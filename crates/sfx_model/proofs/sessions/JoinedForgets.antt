-- The list of forgotten deletions after they were joined with others: it is in its one form, and has the
-- ticks of both.
use Rattle.std.proofs.Common.{◌≡◌, ℕ, max, Bool, true, false, if◌then◌else◌, List, [], ◌∷◌, ◌++◌, map, arith, refl, sym, ◌∙◌, ap, subst}
use Rattle.sfx_ids.specs.declared.cut.Cut.{Cut}
use Rattle.sfx_ids.specs.declared.cut.Cut.TheVariants.{Start}
use Rattle.sfx_ids.specs.Cut.{cut_le}
use Rattle.sfx_ids.proofs.CutLemmas.{start-le, le-self, lt-le, le_trans}
use Rattle.sfx_vector.specs.Clocks.{Clocks, AreClocks, tick_of}
use Rattle.sfx_vector.proofs.ClocksLemmas.{same_ticks}
use Rattle.sfx_segments.specs.Segments.{IsPlace, segment_at, GoOn, AreSegments}
use Rattle.sfx_segments.proofs.PlaceValues.{segment_at-passed, at_start}
use Rattle.sfx_knowledge.specs.Row.{UnitRowData, IsClockRow, AreExceptions}
use Rattle.sfx_knowledge.specs.Knowledge.{Known, no_row, Ticks, HasTicks, IsKnowledge, AreRows}
use Rattle.sfx_knowledge.specs.Forgotten.{Forgets, ForgotBoth, AreForgets, fvec}
use Rattle.sfx_knowledge.specs.Forms.{AreTicks, ArePlaces, AreReplicas, ChangeAtAlone, is_listed, listed_in, knowledge_of}
use Rattle.sfx_knowledge.proofs.VectorsLemmas.{AreReplicas-append, AreReplicas-listed_in, listed-append, tick-most, tick-unlisted}
use Rattle.sfx_knowledge.proofs.RowLemmas.{row_at-first}
use Rattle.sfx_knowledge.proofs.KnowledgeLemmas.{row_at_place}
use Rattle.sfx_knowledge.proofs.FormsLemmas.{form-knowledge_of, ticks-knowledge_of, segment-unparted, ArePlaces-behind}
use Rattle.sfx_knowledge.proofs.ForgottenLemmas.{same_forgets}
use Rattle.sfx_model.specs.sessions.MemberKnowledge.{forgets_starts, forgets_replicas, joined_forgets}
use Rattle.sfx_model.proofs.sessions.MemberKnowledgeLemmas.{ArePlaces-append}
use Rattle.sfx_model.proofs.sessions.StoredKnowledge.{unparted_append}

-- ---- the replicas and places of a list

replicas_behind :
    (from : Cut) (value : Clocks) (ps : Forgets)
    → GoOn from value ps → ((q : Cut) → IsPlace q → cut_le from q ≡ true → AreClocks (segment_at value ps q))
    → AreReplicas (forgets_replicas ps)
replicas_behind from value [] on each = tt
replicas_behind from value (p ∷ ps) on each =
    AreReplicas-append (listed_in p.1) (forgets_replicas ps)
    (AreReplicas-listed_in 0 p.1
    (subst AreClocks (segment_at-passed value p ps p.0 (le-self p.0) ∙ at_start p.0 p.1 ps on.3)
    (each p.0 on.1 (lt-le from p.0 on.0))))
    (replicas_behind p.0 p.1 ps on.3
    (λ q at le. subst AreClocks (segment_at-passed value p ps q le) (each q at (le_trans from p.0 q (lt-le from p.0 on.0) le))))

replicas_listed : (a : Forgets) → AreForgets a → AreReplicas (forgets_replicas a)
replicas_listed [] form = tt
replicas_listed (p ∷ ps) form =
    let on : GoOn Start p.1 ps = subst (λ (c : Cut). GoOn c p.1 ps) form.segments.0 form.segments.1 in
    let passed : (q : Cut) → segment_at [] (p ∷ ps) q ≡ segment_at p.1 ps q =
    λ q. segment_at-passed [] p ps q (subst (λ (c : Cut). cut_le c q ≡ true) (sym form.segments.0) (start-le q)) in
    AreReplicas-append (listed_in p.1) (forgets_replicas ps)
    (AreReplicas-listed_in 0 p.1 (subst AreClocks (passed Start ∙ at_start Start p.1 ps on) (form.clocks Start tt)))
    (replicas_behind Start p.1 ps on (λ q at le. subst AreClocks (passed q) (form.clocks q at)))

starts_placed : (a : Forgets) → AreForgets a → ArePlaces (forgets_starts a)
starts_placed [] form = tt
starts_placed (p ∷ ps) form =
    (subst IsPlace (sym form.segments.0) tt, ArePlaces-behind p.0 p.1 ps form.segments.1)

unlisted_from :
    (before : Clocks) (ps : Forgets) (q : Cut) (r : ℕ)
    → tick_of before r ≡ 0 → is_listed (forgets_replicas ps) r ≡ false → tick_of (segment_at before ps q) r ≡ 0
unlisted_from before [] q r first none = first
unlisted_from before (p ∷ ps) q r first none =
    let parts = listed-append (listed_in p.1) (forgets_replicas ps) r none in
    by_test (cut_le p.0 q) (unlisted_from p.1 ps q r (tick-unlisted p.1 r parts.0) parts.1)
  where
    by_test :
        (b : Bool) → tick_of (segment_at p.1 ps q) r ≡ 0 → tick_of (if b then segment_at p.1 ps q else before) r ≡ 0
    by_test true rest = rest
    by_test false rest = first

unlisted_forgets : (a : Forgets) (q : Cut) (r : ℕ) → is_listed (forgets_replicas a) r ≡ false → tick_of (fvec a q) r ≡ 0
unlisted_forgets a q r none = unlisted_from [] a q r refl none

-- ---- the ticks of both

abbrev both_ticks : Forgets → Forgets → Ticks
both_ticks a b place u r = max (tick_of (fvec a place) r) (tick_of (fvec b place) r)

abbrev both_known : Forgets → Forgets → Known
both_known a b =
    knowledge_of 1 (forgets_starts a ++ forgets_starts b) (forgets_replicas a ++ forgets_replicas b) (both_ticks a b)

both_are :
    (a b : Forgets) → AreForgets a → AreForgets b → AreTicks 1 (forgets_replicas a ++ forgets_replicas b) (both_ticks a b)
both_are a b form_a form_b = record {
  listed = AreReplicas-append (forgets_replicas a) (forgets_replicas b) (replicas_listed a form_a) (replicas_listed b form_b);
  most = λ place u r at small.
      let ours = tick-most 0 (fvec a place) r (form_a.clocks place at) in
      let theirs = tick-most 0 (fvec b place) r (form_b.clocks place at) in
      omega (arith, ours, theirs);
  others = λ place u r at small none.
      let (ours, theirs) = listed-append (forgets_replicas a) (forgets_replicas b) r none in
      let first = unlisted_forgets a place r ours in
      let second = unlisted_forgets b place r theirs in
      omega (arith, first, second);
}

both_change :
    (a b : Forgets) → AreForgets a → AreForgets b → ChangeAtAlone 1 (forgets_starts a ++ forgets_starts b) (both_ticks a b)
both_change a b form_a form_b = record {
  places = ArePlaces-append (forgets_starts a) (forgets_starts b) (starts_placed a form_a) (starts_placed b form_b);
  alike = λ p q u r at_p at_q small le none.
      let (ours, theirs) = unparted_append (forgets_starts a) (forgets_starts b) p q none in
      let first : fvec a p ≡ fvec a q = segment-unparted [] a p q le ours in
      let second : fvec b p ≡ fvec b q = segment-unparted [] b p q le theirs in
      rw (first, second) refl;
}

both_form : (a b : Forgets) → AreForgets a → AreForgets b → IsKnowledge 1 (both_known a b)
both_form a b form_a form_b =
    form-knowledge_of 1 (forgets_starts a ++ forgets_starts b) (forgets_replicas a ++ forgets_replicas b) (both_ticks a b)
    (omega arith) (both_are a b form_a form_b) (both_change a b form_a form_b)

both_has : (a b : Forgets) → AreForgets a → AreForgets b → HasTicks 1 (both_known a b) (both_ticks a b)
both_has a b form_a form_b =
    ticks-knowledge_of 1 (forgets_starts a ++ forgets_starts b) (forgets_replicas a ++ forgets_replicas b) (both_ticks a b)
    (both_are a b form_a form_b) (both_change a b form_a form_b)

-- ---- the bases of rows of one unit

abbrev bases : Known → Forgets
bases known = map (λ p. (p.0, p.1.base)) known

base_from :
    (before : UnitRowData) (ps : Known) (q : Cut) → segment_at before.base (bases ps) q ≡ (segment_at before ps q).base
base_from before [] q = refl
base_from before (p ∷ ps) q = by_test (cut_le p.0 q) (base_from p.1 ps q)
  where
    by_test :
        (b : Bool)
        → segment_at p.1.base (bases ps) q ≡ (segment_at p.1 ps q).base
        → (if b then segment_at p.1.base (bases ps) q else before.base) ≡ (if b then segment_at p.1 ps q else before).base
    by_test true rest = rest
    by_test false rest = refl

none_other : (base : Clocks) (os : List (ℕ × Clocks)) → AreExceptions 1 base 1 os → os ≡ []
none_other base [] form = refl
none_other base (o ∷ os) form = let low = form.0 in let high = form.1 in absurd (omega (arith, low, high))

abbrev row_with : Clocks → List (ℕ × Clocks) → UnitRowData
row_with base others = record { base = base; others = others }

one_unit : (a b : UnitRowData) → IsClockRow 1 a → IsClockRow 1 b → a.base ≡ b.base → a ≡ b
one_unit a b form_a form_b same =
    let others : a.others ≡ b.others =
    none_other a.base a.others form_a.others ∙ sym (none_other b.base b.others form_b.others) in
    let rows : row_with a.base a.others ≡ row_with b.base b.others = rw (same, others) refl in
    rows

bases_on :
    (from : Cut) (value : UnitRowData) (ps : Known)
    → IsClockRow 1 value → AreRows 1 ps → GoOn from value ps → GoOn from value.base (bases ps)
bases_on from value [] form rows on = tt
bases_on from value (p ∷ ps) form rows on =
    (on.0, on.1, (λ same. on.2 (one_unit value p.1 form rows.0 same)), bases_on p.0 p.1 ps rows.0 rows.1 on.3)

bases_segments : (known : Known) → IsKnowledge 1 known → AreSegments (bases known)
bases_segments [] form = form.segments
bases_segments (p ∷ ps) form = (form.segments.0, bases_on p.0 p.1 ps form.rows.0 form.rows.1 form.segments.1)

-- ---- joined

pub forgot_all : (a b : Forgets) → AreForgets a → AreForgets b → ForgotBoth a b (joined_forgets a b)
forgot_all a b form_a form_b place r at =
    ap (λ (c : Clocks). tick_of c r)
    (base_from no_row (both_known a b) place
    ∙ sym (row_at-first 1 (segment_at no_row (both_known a b) place)
    (row_at_place 1 (both_known a b) place (both_form a b form_a form_b).rows)))
    ∙ both_has a b form_a form_b place 0 r at (omega arith)

pub forgets_form : (a b : Forgets) → AreForgets a → AreForgets b → AreForgets (joined_forgets a b)
forgets_form a b form_a form_b = record {
  segments = bases_segments (both_known a b) (both_form a b form_a form_b);
  clocks = λ place at. subst AreClocks (sym (base_from no_row (both_known a b) place))
      (row_at_place 1 (both_known a b) place (both_form a b form_a form_b).rows).base;
}

pub forgets_are :
    (a b joined : Forgets) → AreForgets a → AreForgets b → AreForgets joined → ForgotBoth a b joined → joined ≡ joined_forgets a b
forgets_are a b joined form_a form_b form both =
    same_forgets joined (joined_forgets a b) form (forgets_form a b form_a form_b)
    (λ place at. same_ticks 0 (fvec joined place) (fvec (joined_forgets a b) place) (form.clocks place at)
    ((forgets_form a b form_a form_b).clocks place at)
    (λ r. both place r at ∙ sym (forgot_all a b form_a form_b place r at)))
