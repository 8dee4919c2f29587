-- What is known at each place.
use Rattle.std.proofs.Common.{◌≡◌, ℕ, ◌<◌, ◌≤◌, ◌^◌, max, Bool, true, false, if◌then◌else◌, nat_eq, inl, arith, refl, sym, ap, subst, ◌∙◌, List, [], ◌∷◌, length, slice_get, suc, Option, Some, option_map}
use Rattle.sfx_ids.specs.Tick.{max_tick}
use Rattle.sfx_ids.specs.declared.cut.Cut.{Cut}
use Rattle.sfx_ids.specs.declared.cut.Cut.TheVariants.{Start}
use Rattle.sfx_ids.specs.Cut.{cut_le, is_between}
use Rattle.sfx_ids.proofs.CutLemmas.{start-le, le-self, lt-le, le_trans}
use Rattle.sfx_vector.specs.Clocks.{AreClocks, tick_of}
use Rattle.sfx_segments.specs.Segments.{IsPlace, segment_at, value_at, GoOn, AreSegments, HaveEverywhere, SetsRange, combined, AreCombined}
use Rattle.sfx_segments.proofs.PlaceValues.{segment_at-passed, value_at-first, segment_at-value_at, at_start, some_same}
use Rattle.sfx_segments.proofs.SegmentsLemmas.{one_form}
use Rattle.sfx_knowledge.specs.Row.{UnitRowData, row_at, IsClockRow}
use Rattle.sfx_knowledge.specs.Knowledge.{Known, no_row, nothing_known, clocks_at, tick_at, AreRows, IsKnowledge, HasTicks, KnowAlike, joined, laid_over}
use Rattle.sfx_knowledge.specs.Vectors.{joined_clocks, own_clocks, joined_row, own_row}
use Rattle.sfx_knowledge.proofs.VectorsLemmas.{AreClocks-joined, AreClocks-own, tick-joined, tick-own}
use Rattle.sfx_knowledge.proofs.RowLemmas.{AreClocks-row_at, one_row, IsRow-row_of, row_at-row_of}

-- ---- the value at a place

pub value_is : {A : Type 0} (xs : List (Cut × A)) (before : A) (q : Cut) → AreSegments xs → value_at xs q ≡ Some (segment_at before xs q)
value_is [] before q form = absurd form
value_is (p ∷ ps) before q form =
    value_at-first p ps q form.0
    ∙ ap Some (sym (segment_at-passed before p ps q (subst (λ c. cut_le c q ≡ true) (sym form.0) (start-le q))))

pub combined_is : {A B C : Type 0} (how : A → B → C) (xs : List (Cut × A)) (ys : List (Cut × B)) (made : List (Cut × C)) (a : A) (b : B) (c : C) (q : Cut) → AreSegments xs → AreSegments ys → AreCombined how xs ys made → IsPlace q → segment_at c made q ≡ how (segment_at a xs q) (segment_at b ys q)
combined_is how xs ys made a b c q form_x form_y all place =
    segment_at-value_at made c (how (segment_at a xs q) (segment_at b ys q)) q
    (all q place
    ∙ ap (λ o. combined how o (value_at ys q)) (value_is xs a q form_x)
    ∙ ap (λ o. combined how (Some (segment_at a xs q)) o) (value_is ys b q form_y))

pub set_is : {A : Type 0} (old new : List (Cut × A)) (lo hi : Cut) (value before : A) (q : Cut) → AreSegments old → SetsRange old new lo hi value → IsPlace q → segment_at before new q ≡ (if is_between lo hi q then value else segment_at before old q)
set_is {A} old new lo hi value before q form sets place =
    segment_at-value_at new before (if is_between lo hi q then value else segment_at before old q) q
    (sets q place ∙ by_test (is_between lo hi q) (value_at old q) (segment_at before old q) (value_is old before q form))
  where
    by_test : (b : Bool) (o : Option A) (x : A) → o ≡ Some x → (if b then Some value else o) ≡ Some (if b then value else x)
    by_test true o x is = refl
    by_test false o x is = is

-- ---- the row at a place

pub IsRow-no_row : (units : ℕ) → IsClockRow units no_row
IsRow-no_row units = record { base = tt; others = tt }

row_from : (units : ℕ) (before : UnitRowData) (ps : Known) (q : Cut) → IsClockRow units before → AreRows units ps → IsClockRow units (segment_at before ps q)
row_from units before [] q first rows = first
row_from units before (p ∷ ps) q first rows =
    by_test (cut_le p.0 q) (row_from units p.1 ps q rows.0 rows.1)
  where
    by_test : (b : Bool) → IsClockRow units (segment_at p.1 ps q) → IsClockRow units (if b then segment_at p.1 ps q else before)
    by_test true rest = rest
    by_test false rest = first

pub row_at_place : (units : ℕ) (known : Known) (q : Cut) → AreRows units known → IsClockRow units (segment_at no_row known q)
row_at_place units known q rows = row_from units no_row known q (IsRow-no_row units) rows

pub AreClocks-clocks_at : (units : ℕ) (known : Known) (q : Cut) (u : ℕ) → AreRows units known → AreClocks (clocks_at known q u)
AreClocks-clocks_at units known q u rows = AreClocks-row_at units (segment_at no_row known q) u (row_at_place units known q rows)

rows_behind : (units : ℕ) (from : Cut) (value : UnitRowData) (ps : Known) → GoOn from value ps → ((q : Cut) → IsPlace q → cut_le from q ≡ true → IsClockRow units (segment_at value ps q)) → AreRows units ps
rows_behind units from value [] on each = tt
rows_behind units from value (p ∷ ps) on each = (
  subst (IsClockRow units) (segment_at-passed value p ps p.0 (le-self p.0) ∙ at_start p.0 p.1 ps on.3) (each p.0 on.1 (lt-le from p.0 on.0)),
  rows_behind units p.0 p.1 ps on.3
      (λ q place le. subst (IsClockRow units) (segment_at-passed value p ps q le) (each q place (le_trans from p.0 q (lt-le from p.0 on.0) le))),
)

-- where each place has a row in form, each segment has
pub rows_from_places : (units : ℕ) (known : Known) → AreSegments known → ((q : Cut) → IsPlace q → IsClockRow units (segment_at no_row known q)) → AreRows units known
rows_from_places units [] form each = absurd form
rows_from_places units (p ∷ ps) form each =
    let on : GoOn Start p.1 ps = subst (λ c. GoOn c p.1 ps) form.0 form.1 in
    let passed : (q : Cut) → segment_at no_row (p ∷ ps) q ≡ segment_at p.1 ps q =
    λ q. segment_at-passed no_row p ps q (subst (λ c. cut_le c q ≡ true) (sym form.0) (start-le q)) in (
      subst (IsClockRow units) (passed Start ∙ at_start Start p.1 ps on) (each Start tt),
      rows_behind units Start p.1 ps on (λ q place le. subst (IsClockRow units) (passed q) (each q place)),
    )

-- the row of the segment with this index is in form
pub record RowIsForm (units : ℕ) (known : Known) (k : ℕ) : Type 0 where
  pub form : (p : Cut × UnitRowData) → slice_get known k ≡ Some p → IsClockRow units p.1

-- what is read at the index
pub row_read : {A : Type 0} (xs : List (Cut × A)) (k : ℕ) (p : Cut × A) (value : A) → slice_get xs k ≡ Some p → option_map (λ s. s.1) (slice_get xs k) ≡ Some value → p.1 ≡ value
row_read {A} xs k p value at read = some_same p.1 value (ap (option_map (λ (s : Cut × A). s.1)) (sym at) ∙ read)

pub start_read : {A : Type 0} (xs : List (Cut × A)) (k : ℕ) (p : Cut × A) (start : Cut) → slice_get xs k ≡ Some p → option_map (λ s. s.0) (slice_get xs k) ≡ Some start → p.0 ≡ start
start_read {A} xs k p start at read = some_same p.0 start (ap (option_map (λ (s : Cut × A). s.0)) (sym at) ∙ read)

pub rows_by_index : (units : ℕ) (known : Known) → ((k : ℕ) → k < length known → RowIsForm units known k) → AreRows units known
rows_by_index units [] each = tt
rows_by_index units (p ∷ ps) each = (
  (each 0 (omega arith)).form p refl,
  rows_by_index units ps (λ k within. record { form = λ q at. (each (suc k) (omega arith)).form q at }),
)

-- ---- one form

pub same_known : (a b : Known) → AreSegments a → AreSegments b → ((q : Cut) → IsPlace q → segment_at no_row a q ≡ segment_at no_row b q) → a ≡ b
same_known a b form_a form_b alike =
    one_form a b form_a form_b
    (λ q place. value_is a no_row q form_a ∙ ap Some (alike q place) ∙ sym (value_is b no_row q form_b))

pub one_knowledge : (units : ℕ) (a b : Known) → 1 ≤ units → IsKnowledge units a → IsKnowledge units b → KnowAlike units a b → a ≡ b
one_knowledge units a b some form_a form_b alike =
    same_known a b form_a.segments form_b.segments
    (λ q place. one_row units (segment_at no_row a q) (segment_at no_row b q) some (row_at_place units a q form_a.rows) (row_at_place units b q form_b.rows) (λ u r within. alike q u r place within))

pub IsKnowledge-nothing : (units : ℕ) → IsKnowledge units nothing_known
IsKnowledge-nothing units = record { segments = (refl, tt); rows = (IsRow-no_row units, tt) }

pub nothing_is : (known : Known) → AreSegments known → HaveEverywhere known no_row → known ≡ nothing_known
nothing_is known form everywhere =
    same_known known nothing_known form (refl, tt)
    (λ q place. segment_at-value_at known no_row no_row q (everywhere q place) ∙ sym (by_test (cut_le Start q)))
  where
    by_test : (b : Bool) → (if b then no_row else no_row) ≡ no_row
    by_test true = refl
    by_test false = refl

-- ---- both joined

IsRow-joined : (units : ℕ) (a b : UnitRowData) → IsClockRow units a → IsClockRow units b → IsClockRow units (joined_row units a b)
IsRow-joined units a b form_a form_b =
    IsRow-row_of units (λ u. joined_clocks (row_at a u) (row_at b u))
    (λ u within. AreClocks-joined (row_at a u) (row_at b u) (AreClocks-row_at units a u form_a) (AreClocks-row_at units b u form_b))

tick-joined_row : (units : ℕ) (a b : UnitRowData) (u r : ℕ) → IsClockRow units a → IsClockRow units b → u < units → tick_of (row_at (joined_row units a b) u) r ≡ max (tick_of (row_at a u) r) (tick_of (row_at b u) r)
tick-joined_row units a b u r form_a form_b within =
    ap (λ c. tick_of c r) (row_at-row_of units (λ x. joined_clocks (row_at a x) (row_at b x)) u (inl within))
    ∙ tick-joined (row_at a u) (row_at b u) r (AreClocks-row_at units a u form_a) (AreClocks-row_at units b u form_b)

pub rows-joined : (units : ℕ) (a b made : Known) → IsKnowledge units a → IsKnowledge units b → AreSegments made → AreCombined (joined_row units) a b made → IsKnowledge units made
rows-joined units a b made form_a form_b form all = record {
  segments = form;
  rows = rows_from_places units made form
      (λ q place. subst (IsClockRow units) (sym (combined_is (joined_row units) a b made no_row no_row no_row q form_a.segments form_b.segments all place))
      (IsRow-joined units (segment_at no_row a q) (segment_at no_row b q) (row_at_place units a q form_a.rows) (row_at_place units b q form_b.rows)));
}

pub ticks-joined : (units : ℕ) (a b made : Known) → IsKnowledge units a → IsKnowledge units b → AreCombined (joined_row units) a b made → HasTicks units made (joined (tick_at a) (tick_at b))
ticks-joined units a b made form_a form_b all q u r place within =
    ap (λ row. tick_of (row_at row u) r) (combined_is (joined_row units) a b made no_row no_row no_row q form_a.segments form_b.segments all place)
    ∙ tick-joined_row units (segment_at no_row a q) (segment_at no_row b q) u r (row_at_place units a q form_a.rows) (row_at_place units b q form_b.rows) within

-- ---- one's own tick

IsRow-own : (units own tick : ℕ) (a : UnitRowData) → own < 2 ^ 128 → tick ≤ max_tick → IsClockRow units a → IsClockRow units (own_row units own tick a)
IsRow-own units own tick a fits most form =
    IsRow-row_of units (λ u. own_clocks own tick (row_at a u))
    (λ u within. AreClocks-own own tick (row_at a u) fits most (AreClocks-row_at units a u form))

tick-own_row : (units own tick : ℕ) (a : UnitRowData) (u r : ℕ) → own < 2 ^ 128 → tick ≤ max_tick → IsClockRow units a → u < units → tick_of (row_at (own_row units own tick a) u) r ≡ (if nat_eq r own then tick else tick_of (row_at a u) r)
tick-own_row units own tick a u r fits most form within =
    ap (λ c. tick_of c r) (row_at-row_of units (λ x. own_clocks own tick (row_at a x)) u (inl within))
    ∙ tick-own own tick (row_at a u) r fits most (AreClocks-row_at units a u form)

pub rows-own : (units own tick : ℕ) (a made : Known) → own < 2 ^ 128 → tick ≤ max_tick → IsKnowledge units a → AreSegments made → AreCombined (λ x y. own_row units own tick x) a a made → IsKnowledge units made
rows-own units own tick a made fits most form_a form all = record {
  segments = form;
  rows = rows_from_places units made form
      (λ q place. subst (IsClockRow units) (sym (combined_is (λ x y. own_row units own tick x) a a made no_row no_row no_row q form_a.segments form_a.segments all place))
      (IsRow-own units own tick (segment_at no_row a q) fits most (row_at_place units a q form_a.rows)));
}

pub ticks-own : (units own tick : ℕ) (a made : Known) → own < 2 ^ 128 → tick ≤ max_tick → IsKnowledge units a → AreCombined (λ x y. own_row units own tick x) a a made → HasTicks units made (laid_over own tick (tick_at a))
ticks-own units own tick a made fits most form all q u r place within =
    ap (λ row. tick_of (row_at row u) r) (combined_is (λ x y. own_row units own tick x) a a made no_row no_row no_row q form.segments form.segments all place)
    ∙ tick-own_row units own tick (segment_at no_row a q) u r fits most (row_at_place units a q form.rows) within

-- knowledge has its own ticks
pub ticks-self : (units : ℕ) (known : Known) → HasTicks units known (tick_at known)
ticks-self units known place u r at small = refl
