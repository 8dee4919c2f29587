-- One more value behind a list of segments.
use Rattle.std.proofs.Common.{◌≡◌, ◌≢◌, ◌-◌, true, true≢false, if◌then◌else◌, arith, refl, sym, ap, subst, ◌∙◌, List, [], ◌∷◌, ◌++◌, length, slice_get, Some}
use Rattle.sfx_ids.specs.declared.cut.Cut.{Cut}
use Rattle.sfx_ids.specs.declared.cut.Cut.TheVariants.{Start}
use Rattle.sfx_ids.specs.Cut.{cut_lt, cut_le}
use Rattle.sfx_ids.proofs.CutLemmas.{lt-le, lt-not_le, lt_trans, lt_le_trans, start-le}
use Rattle.sfx_segments.specs.Segments.{IsPlace, segment_at, GoOn}
use Rattle.sfx_segments.specs.Merge.{last_of, last_value, BeginBefore, ArePrefix, Extends}
use Rattle.sfx_segments.proofs.PlaceValues.{segment_at-passed, segment_at-ahead, value_at-first, some_same}

-- ---- the last value

last_of-read : {A : Type 0} (p : Cut × A) (ps : List (Cut × A)) (e : Cut × A) → slice_get (p ∷ ps) (length ps) ≡ Some e → last_of p.1 ps ≡ e.1
last_of-read p [] e read = ap (λ (s : Cut × _). s.1) (some_same p e read)
last_of-read p (q ∷ ps) e read = last_of-read q ps e read

pub last_value-read : {A : Type 0} (xs : List (Cut × A)) (e : Cut × A) → slice_get xs (length xs - 1) ≡ Some e → last_value xs ≡ Some e.1
last_value-read [] e read = cc
last_value-read (p ∷ ps) e read =
    let last : length (p ∷ ps) - 1 ≡ length ps = omega arith in
    ap Some (last_of-read p ps e (subst (λ n. slice_get (p ∷ ps) n ≡ Some e) last read))

-- ---- the value behind all segments

segment_at-last : {A : Type 0} (value : A) (ps : List (Cut × A)) (place q : Cut) → BeginBefore place ps → cut_le place q ≡ true → segment_at value ps q ≡ last_of value ps
segment_at-last value [] place q before le = refl
segment_at-last value (p ∷ ps) place q before le =
    segment_at-passed value p ps q (lt-le p.0 q (lt_le_trans p.0 place q before.0 le)) ∙ segment_at-last p.1 ps place q before.1 le

before_later : {A : Type 0} (ps : List (Cut × A)) (place q : Cut) → BeginBefore place ps → cut_lt place q ≡ true → BeginBefore q ps
before_later [] place q before lt = tt
before_later (p ∷ ps) place q before lt = (lt_trans p.0 place q before.0 lt, before_later ps place q before.1 lt)

-- ---- a value that repeats the last

pub repeated : {A : Type 0} (xs : List (Cut × A)) (place : Cut) (value : A) → ArePrefix xs place → last_value xs ≡ Some value → Extends xs xs place value
repeated [] place value prefix last = cc
repeated (p ∷ ps) place value prefix last = record {
  form = prefix.0;
  before = λ q lt. refl;
  after = λ q le. value_at-first p ps q prefix.0.0 ∙ ap Some (segment_at-last p.1 ps place q prefix.1.1 le) ∙ last;
  behind = λ q lt. before_later (p ∷ ps) place q prefix.1 lt;
}

-- ---- a value that differs

go_on-push : {A : Type 0} (from : Cut) (value : A) (ps : List (Cut × A)) (place : Cut) (w : A) → GoOn from value ps → cut_lt from place ≡ true → BeginBefore place ps → IsPlace place → last_of value ps ≢ w → GoOn from value (ps ++ (place, w) ∷ [])
go_on-push from value [] place w on lt before inside other = (lt, inside, other, tt)
go_on-push from value (p ∷ ps) place w on lt before inside other =
    (on.0, on.1, on.2, go_on-push p.0 p.1 ps place w on.3 before.0 before.1 inside other)

segment_at-push_before : {A : Type 0} (value : A) (ps : List (Cut × A)) (place : Cut) (w : A) (q : Cut) → cut_lt q place ≡ true → segment_at value (ps ++ (place, w) ∷ []) q ≡ segment_at value ps q
segment_at-push_before value [] place w q lt = segment_at-ahead value (place, w) [] q lt
segment_at-push_before value (p ∷ ps) place w q lt =
    ap (λ x. if cut_le p.0 q then x else value) (segment_at-push_before p.1 ps place w q lt)

segment_at-push_after : {A : Type 0} (value : A) (ps : List (Cut × A)) (place : Cut) (w : A) (q : Cut) → BeginBefore place ps → cut_le place q ≡ true → segment_at value (ps ++ (place, w) ∷ []) q ≡ w
segment_at-push_after value [] place w q before le = segment_at-passed value (place, w) [] q le
segment_at-push_after value (p ∷ ps) place w q before le =
    segment_at-passed value p (ps ++ (place, w) ∷ []) q (lt-le p.0 q (lt_le_trans p.0 place q before.0 le))
    ∙ segment_at-push_after p.1 ps place w q before.1 le

before-push : {A : Type 0} (ps : List (Cut × A)) (place : Cut) (w : A) (q : Cut) → BeginBefore place ps → cut_lt place q ≡ true → BeginBefore q (ps ++ (place, w) ∷ [])
before-push [] place w q before lt = (lt, tt)
before-push (p ∷ ps) place w q before lt = (lt_trans p.0 place q before.0 lt, before-push ps place w q before.1 lt)

pub pushed : {A : Type 0} (xs : List (Cut × A)) (place : Cut) (value : A) → ArePrefix xs place → IsPlace place → last_value xs ≢ Some value → Extends xs (xs ++ (place, value) ∷ []) place value
pushed [] place value prefix inside other = record {
  form = (prefix, tt);
  before = λ q lt. absurd (true≢false (sym (start-le q) ∙ lt-not_le q Start (subst (λ c. cut_lt q c ≡ true) prefix lt)));
  after = λ q le. value_at-first (place, value) [] q prefix;
  behind = λ q lt. (lt, tt);
}
pushed (p ∷ ps) place value prefix inside other = record {
  form = (prefix.0.0, go_on-push p.0 p.1 ps place value prefix.0.1 prefix.1.0 prefix.1.1 inside (λ same. other (ap Some same)));
  before = λ q lt.
      value_at-first p (ps ++ (place, value) ∷ []) q prefix.0.0 ∙ ap Some (segment_at-push_before p.1 ps place value q lt)
      ∙ sym (value_at-first p ps q prefix.0.0);
  after = λ q le.
      value_at-first p (ps ++ (place, value) ∷ []) q prefix.0.0 ∙ ap Some (segment_at-push_after p.1 ps place value q prefix.1.1 le);
  behind = λ q lt. before-push (p ∷ ps) place value q prefix.1 lt;
}
