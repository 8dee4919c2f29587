-- Ranges of places, and one unit of an item.
use Rattle.std.proofs.Common.{◌≡◌, ℕ, ◌<◌, max, ◌&&◌, ◌||◌, not, Bool, true, false, true≢false, if◌then◌else◌, arith, refl, sym, ap, subst, ◌∙◌, List, [], ◌∷◌, ◌++◌}
use Rattle.std.proofs.lemmas.Bool.{eq-eqb}
use Rattle.sfx_ids.specs.declared.cut.Cut.{Cut}
use Rattle.sfx_ids.specs.declared.cut.Cut.TheVariants.{Start, At, After, End}
use Rattle.sfx_ids.specs.declared.item_id.ItemId.{ItemId}
use Rattle.sfx_ids.specs.Cut.{cut_lt, cut_le, is_between}
use Rattle.sfx_ids.proofs.CutLemmas.{start-le, le-self, not_le, le-not_lt, at-lt-after, alone}
use Rattle.sfx_vector.specs.Clocks.{tick_of}
use Rattle.sfx_segments.specs.Segments.{IsPlace, segment_at, AreSegments, SetsRange}
use Rattle.sfx_segments.proofs.PlaceValues.{lt-end}
use Rattle.sfx_segments.proofs.StandardFacts.{Tested, yes_it, not_it, tested}
use Rattle.sfx_knowledge.specs.Row.{UnitRowData, row_at, IsClockRow, ChangesUnit}
use Rattle.sfx_knowledge.specs.Skips.{same_cell, is_skipped, is_skipped_at}
use Rattle.sfx_knowledge.specs.Knowledge.{Known, no_row, clocks_at, tick_at, IsKnowledge, Ticks, HasTicks, joined, projected, learned_ticks}
use Rattle.sfx_knowledge.specs.Places.{Restores}
use Rattle.sfx_knowledge.proofs.SkipsLemmas.{cells_same}
use Rattle.sfx_knowledge.proofs.KnowledgeLemmas.{set_is, rows_from_places, row_at_place}

-- ---- a row over a range

pub form-set : (units : ℕ) (old new : Known) (lo hi : Cut) (row : UnitRowData) → IsKnowledge units old → IsClockRow units row → AreSegments new → SetsRange old new lo hi row → IsKnowledge units new
form-set units old new lo hi row form form_row segments sets = record {
  segments = segments;
  rows = rows_from_places units new segments
      (λ q place. subst (IsClockRow units) (sym (set_is old new lo hi row no_row q form.segments sets place)) (by_test (is_between lo hi q) (segment_at no_row old q) (row_at_place units old q form.rows)));
}
  where
    by_test : (b : Bool) (there : UnitRowData) → IsClockRow units there → IsClockRow units (if b then row else there)
    by_test true there is = form_row
    by_test false there is = is

-- ---- nothing outside a range

-- a place is before a cut that is not at or before it
before_cut : (c q : Cut) → cut_lt q c ≡ not (cut_le c q)
before_cut c q = by_test (cut_le c q) (cut_lt q c) (le-not_lt c q) (not_le c q)
  where
    by_test : (le lt : Bool) → (le ≡ true → lt ≡ false) → (le ≡ false → lt ≡ true) → lt ≡ not le
    by_test true lt first second = first refl
    by_test false lt first second = second refl

from_start : (lo q : Cut) → is_between Start lo q ≡ not (cut_le lo q)
from_start lo q = ap (λ (b : Bool). b && cut_lt q lo) (start-le q) ∙ before_cut lo q

to_end : (hi q : Cut) → IsPlace q → is_between hi End q ≡ cut_le hi q
to_end hi q place = ap (λ (b : Bool). cut_le hi q && b) (lt-end q place) ∙ by_test (cut_le hi q)
  where
    by_test : (b : Bool) → (b && true) ≡ b
    by_test true = refl
    by_test false = refl

in_between : (lo hi q : Cut) → is_between lo hi q ≡ (cut_le lo q && not (cut_le hi q))
in_between lo hi q = ap (λ (b : Bool). cut_le lo q && b) (before_cut hi q)

pub row-projected : (old cut made : Known) (lo hi q : Cut) → AreSegments old → AreSegments cut → SetsRange old cut Start lo no_row → SetsRange cut made hi End no_row → IsPlace q → segment_at no_row made q ≡ (if is_between lo hi q then segment_at no_row old q else no_row)
row-projected old cut made lo hi q form form_cut below behind place =
    set_is cut made hi End no_row no_row q form_cut behind place
    ∙ ap (λ (row : UnitRowData). if is_between hi End q then no_row else row) (set_is old cut Start lo no_row no_row q form below place)
    ∙ ap (λ (b : Bool). if b then no_row else (if is_between Start lo q then no_row else segment_at no_row old q)) (to_end hi q place)
    ∙ ap (λ (b : Bool). if cut_le hi q then no_row else (if b then no_row else segment_at no_row old q)) (from_start lo q)
    ∙ by_tests (cut_le lo q) (cut_le hi q)
    ∙ sym (ap (λ (b : Bool). if b then segment_at no_row old q else no_row) (in_between lo hi q))
  where
    by_tests : (lo_le hi_le : Bool) → (if hi_le then no_row else (if not lo_le then no_row else segment_at no_row old q)) ≡ (if lo_le && not hi_le then segment_at no_row old q else no_row)
    by_tests true true = refl
    by_tests true false = refl
    by_tests false true = refl
    by_tests false false = refl

pub ticks-projected : (units : ℕ) (old cut made : Known) (lo hi : Cut) → AreSegments old → AreSegments cut → SetsRange old cut Start lo no_row → SetsRange cut made hi End no_row → HasTicks units made (projected lo hi (tick_at old))
ticks-projected units old cut made lo hi form form_cut below behind q u r place within =
    ap (λ (row : UnitRowData). tick_of (row_at row u) r) (row-projected old cut made lo hi q form form_cut below behind place)
    ∙ by_test (is_between lo hi q)
  where
    by_test : (b : Bool) → tick_of (row_at (if b then segment_at no_row old q else no_row) u) r ≡ (if b then tick_at old q u r else 0)
    by_test true = refl
    by_test false = refl

-- ---- one unit of an item

between_item : (i : ItemId) → is_between (At i) (After i) (At i) ≡ true
between_item i = rw (le-self (At i), at-lt-after i) refl

pub restored : (units : ℕ) (old new other : Known) (i : ItemId) (unit : ℕ) (row changed : UnitRowData) → AreSegments old → row ≡ segment_at no_row old (At i) → ChangesUnit units row changed unit (clocks_at other (At i) unit) → SetsRange old new (At i) (After i) changed → Restores units old new other i unit
restored units old new other i unit row changed form is changes sets = record {
  there =
      ap (λ (x : UnitRowData). row_at x unit) (set_is old new (At i) (After i) changed no_row (At i) form sets tt)
      ∙ ap (λ (b : Bool). row_at (if b then changed else segment_at no_row old (At i)) unit) (between_item i)
      ∙ changes.changed;
  others = λ q u r place within apart.
      ap (λ (x : UnitRowData). tick_of (row_at x u) r) (set_is old new (At i) (After i) changed no_row q form sets place)
      ∙ by_test q u r within apart (tested (is_between (At i) (After i) q));
}
  where
    by_test : (q : Cut) (u r : ℕ) → u < units → (q ≡ At i → u ≡ unit → ⊥) → Tested (is_between (At i) (After i) q) → tick_of (row_at (if is_between (At i) (After i) q then changed else segment_at no_row old q) u) r ≡ tick_at old q u r
    by_test q u r within apart (yes_it here) =
        let at : q ≡ At i = alone i q here in
        ap (λ (b : Bool). tick_of (row_at (if b then changed else segment_at no_row old q) u) r) here
        ∙ ap (λ c. tick_of c r) (changes.others u within (apart at))
        ∙ ap (λ (x : UnitRowData). tick_of (row_at x u) r) (is ∙ ap (segment_at no_row old) (sym at))
    by_test q u r within apart (not_it elsewhere) =
        ap (λ (b : Bool). tick_of (row_at (if b then changed else segment_at no_row old q) u) r) elsewhere

-- ---- learning but for skipped units

-- before any skipped unit is put back, all of the range is joined
pub learned_none : (units : ℕ) (made here there range : Known) (lo hi : Cut) → HasTicks units made (joined (tick_at here) (tick_at range)) → HasTicks units range (projected lo hi (tick_at there)) → HasTicks units made (learned_ticks lo hi [] (tick_at here) (tick_at there))
learned_none units made here there range lo hi union project q u r place within =
    union q u r place within ∙ ap (max (tick_at here q u r)) (project q u r place within)
    ∙ by_test (is_between lo hi q) (is_skipped_at [] q u) (none q)
  where
    none : (q : Cut) → is_skipped_at [] q u ≡ false
    none Start = refl
    none (At i) = refl
    none (After i) = refl
    none End = refl

    by_test : (b s : Bool) → s ≡ false → max (tick_at here q u r) (if b then tick_at there q u r else 0) ≡ (if b && not s then max (tick_at here q u r) (tick_at there q u r) else tick_at here q u r)
    by_test b true is = absurd (true≢false is)
    by_test true false is = refl
    by_test false false is = omega arith

pub is_skipped-append : (ss ts : List (ItemId × ℕ)) (i : ItemId) (u : ℕ) → is_skipped (ss ++ ts) i u ≡ (is_skipped ss i u || is_skipped ts i u)
is_skipped-append [] ts i u = refl
is_skipped-append (s ∷ ss) ts i u = by_test (same_cell s.0 s.1 i u) (is_skipped-append ss ts i u)
  where
    by_test : (b : Bool) → is_skipped (ss ++ ts) i u ≡ (is_skipped ss i u || is_skipped ts i u) → (b || is_skipped (ss ++ ts) i u) ≡ ((b || is_skipped ss i u) || is_skipped ts i u)
    by_test true rest = refl
    by_test false rest = rest

skipped_at-append : (ss ts : List (ItemId × ℕ)) (q : Cut) (u : ℕ) → is_skipped_at (ss ++ ts) q u ≡ (is_skipped_at ss q u || is_skipped_at ts q u)
skipped_at-append ss ts Start u = refl
skipped_at-append ss ts (At i) u = is_skipped-append ss ts i u
skipped_at-append ss ts (After i) u = refl
skipped_at-append ss ts End u = refl

-- one skipped unit more is as it was before
learned-push : (lo hi : Cut) (ss : List (ItemId × ℕ)) (s : ItemId × ℕ) (here there : Ticks) (q : Cut) (u r : ℕ) → learned_ticks lo hi (ss ++ s ∷ []) here there q u r ≡ (if is_skipped_at (s ∷ []) q u then here q u r else learned_ticks lo hi ss here there q u r)
learned-push lo hi ss s here there q u r =
    ap (λ (b : Bool). if is_between lo hi q && not b then max (here q u r) (there q u r) else here q u r) (skipped_at-append ss (s ∷ []) q u)
    ∙ by_tests (is_between lo hi q) (is_skipped_at ss q u) (is_skipped_at (s ∷ []) q u)
  where
    by_tests : (b x y : Bool) → (if b && not (x || y) then max (here q u r) (there q u r) else here q u r) ≡ (if y then here q u r else (if b && not x then max (here q u r) (there q u r) else here q u r))
    by_tests true true true = refl
    by_tests true true false = refl
    by_tests true false true = refl
    by_tests true false false = refl
    by_tests false x true = refl
    by_tests false x false = refl

-- a unit is listed alone where it is that very one
skipped_alone : (s : ItemId × ℕ) (q : Cut) (u : ℕ) → is_skipped_at (s ∷ []) q u ≡ true → (q ≡ At s.0) × (u ≡ s.1)
skipped_alone s Start u is = absurd (true≢false (sym is))
skipped_alone s (At i) u is =
    let is_cell = cells_same s.0 s.1 i u (alone_or (same_cell s.0 s.1 i u) is) in
    (ap At (sym is_cell.0), sym is_cell.1)
  where
    alone_or : (b : Bool) → (b || false) ≡ true → b ≡ true
    alone_or true is = refl
    alone_or false is = is
skipped_alone s (After i) u is = absurd (true≢false (sym is))
skipped_alone s End u is = absurd (true≢false (sym is))

alone_skipped : (s : ItemId × ℕ) (u : ℕ) → u ≡ s.1 → is_skipped_at (s ∷ []) (At s.0) u ≡ true
alone_skipped s u is = rw (eq-eqb s.0.tick s.0.tick refl, eq-eqb s.0.replica s.0.replica refl, eq-eqb s.1 u (sym is)) refl

pub learned_restored : (units : ℕ) (before after here : Known) (there : Ticks) (lo hi : Cut) (ss : List (ItemId × ℕ)) (s : ItemId × ℕ) → HasTicks units before (learned_ticks lo hi ss (tick_at here) there) → Restores units before after here s.0 s.1 → HasTicks units after (learned_ticks lo hi (ss ++ s ∷ []) (tick_at here) there)
learned_restored units before after here there lo hi ss s ticks restores q u r place within =
    by_test (tested (is_skipped_at (s ∷ []) q u)) ∙ sym (learned-push lo hi ss s (tick_at here) there q u r)
  where
    by_test : Tested (is_skipped_at (s ∷ []) q u) → tick_at after q u r ≡ (if is_skipped_at (s ∷ []) q u then tick_at here q u r else learned_ticks lo hi ss (tick_at here) there q u r)
    by_test (yes_it is) =
        let at = skipped_alone s q u is in
        ap (λ (c : Cut). tick_at after c u r) at.0 ∙ ap (λ n. tick_at after (At s.0) n r) at.1
        ∙ ap (λ c. tick_of c r) restores.there
        ∙ sym (ap (λ (c : Cut). tick_at here c u r) at.0 ∙ ap (λ n. tick_at here (At s.0) n r) at.1)
        ∙ sym (ap (λ (b : Bool). if b then tick_at here q u r else learned_ticks lo hi ss (tick_at here) there q u r) is)
    by_test (not_it is) =
        restores.others q u r place within (λ at unit. true≢false (sym (alone_skipped s u unit) ∙ ap (λ (c : Cut). is_skipped_at (s ∷ []) c u) (sym at) ∙ is))
        ∙ ticks q u r place within
        ∙ sym (ap (λ (b : Bool). if b then tick_at here q u r else learned_ticks lo hi ss (tick_at here) there q u r) is)

pub learned_outside : (units : ℕ) (known here : Known) (there : Ticks) (lo hi : Cut) (ss : List (ItemId × ℕ)) (s : ItemId × ℕ) → is_between lo hi (At s.0) ≡ false → HasTicks units known (learned_ticks lo hi ss (tick_at here) there) → HasTicks units known (learned_ticks lo hi (ss ++ s ∷ []) (tick_at here) there)
learned_outside units known here there lo hi ss s outside ticks q u r place within =
    ticks q u r place within ∙ by_test (tested (is_skipped_at (s ∷ []) q u)) ∙ sym (learned-push lo hi ss s (tick_at here) there q u r)
  where
    by_test : Tested (is_skipped_at (s ∷ []) q u) → learned_ticks lo hi ss (tick_at here) there q u r ≡ (if is_skipped_at (s ∷ []) q u then tick_at here q u r else learned_ticks lo hi ss (tick_at here) there q u r)
    by_test (yes_it is) =
        let at = skipped_alone s q u is in
        ap (λ (b : Bool). if b && not (is_skipped_at ss q u) then max (tick_at here q u r) (there q u r) else tick_at here q u r) (ap (is_between lo hi) at.0 ∙ outside)
        ∙ sym (ap (λ (b : Bool). if b then tick_at here q u r else learned_ticks lo hi ss (tick_at here) there q u r) is)
    by_test (not_it is) = sym (ap (λ (b : Bool). if b then tick_at here q u r else learned_ticks lo hi ss (tick_at here) there q u r) is)
