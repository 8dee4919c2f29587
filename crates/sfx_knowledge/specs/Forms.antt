-- Knowledge in its one form, made of the ticks that it is to have: they are looked up at each cut that
-- occurs, ascending, and equal neighbours are dropped.
use Rattle.std.specs.Prelude.{◌≡◌, ℕ, zero, suc, ◌+◌, ◌-◌, ◌<◌, ◌≤◌, ◌^◌, Bool, true, false, ◌&&◌, ◌||◌, if◌then◌else◌, nat_eq, nat_lt, List, [], ◌∷◌, ◌++◌, map}
use Rattle.sfx_ids.specs.Tick.{max_tick}
use Rattle.std.specs.List.{flat_map}
use Rattle.sfx_ids.specs.declared.cut.Cut.{Cut}
use Rattle.sfx_ids.specs.declared.cut.Cut.TheVariants.{Start}
use Rattle.sfx_ids.specs.Cut.{cut_lt, cut_le}
use Rattle.sfx_vector.specs.Clocks.{Clocks}
use Rattle.sfx_segments.specs.Segments.{IsPlace}
use Rattle.sfx_knowledge.specs.Row.{UnitRowData}
use Rattle.sfx_knowledge.specs.Knowledge.{Known, Ticks, tick_at, laid_over}

-- The vector with this tick for the replica, where the tick is not 0, in its place by replica.
abbrev pub with_tick : ℕ → ℕ → Clocks → Clocks
with_tick r tick [] = if nat_eq tick 0 then [] else (r, tick) ∷ []
with_tick r tick (c ∷ cs) =
    if nat_lt c.0 r then c ∷ with_tick r tick cs
    else (if nat_eq c.0 r then c ∷ cs else (if nat_eq tick 0 then c ∷ cs else (r, tick) ∷ c ∷ cs))

-- The vector with these ticks, for the listed replicas.
abbrev pub clocks_of : List ℕ → (ℕ → ℕ) → Clocks
clocks_of [] ticks = []
clocks_of (r ∷ rs) ticks = with_tick r (ticks r) (clocks_of rs ticks)

-- Whether both vectors are the same.
abbrev pub same_clocks : Clocks → Clocks → Bool
same_clocks [] [] = true
same_clocks [] (c ∷ cs) = false
same_clocks (c ∷ cs) [] = false
same_clocks (c ∷ cs) (d ∷ ds) = nat_eq c.0 d.0 && nat_eq c.1 d.1 && same_clocks cs ds

-- The units from `unit` on, as many as are counted, whose vector differs from the base.
abbrev pub exceptions_of : Clocks → (ℕ → Clocks) → ℕ → ℕ → List (ℕ × Clocks)
exceptions_of base vector unit zero = []
exceptions_of base vector unit (suc count) =
    if same_clocks (vector unit) base then exceptions_of base vector (unit + 1) count
    else (unit, vector unit) ∷ exceptions_of base vector (unit + 1) count

-- The row with these vectors, one for each unit.
abbrev pub row_of : ℕ → (ℕ → Clocks) → UnitRowData
row_of units vector = record {
  base = vector 0;
  others = exceptions_of (vector 0) vector 1 (units - 1);
}

-- Whether both lists of exceptions are the same.
abbrev pub same_exceptions : List (ℕ × Clocks) → List (ℕ × Clocks) → Bool
same_exceptions [] [] = true
same_exceptions [] (o ∷ os) = false
same_exceptions (o ∷ os) [] = false
same_exceptions (o ∷ os) (p ∷ ps) = nat_eq o.0 p.0 && same_clocks o.1 p.1 && same_exceptions os ps

-- Whether both rows are the same.
abbrev pub same_row : UnitRowData → UnitRowData → Bool
same_row a b = same_clocks a.base b.base && same_exceptions a.others b.others

-- The cuts with one more, ascending and each once.
abbrev pub with_cut : Cut → List Cut → List Cut
with_cut cut [] = cut ∷ []
with_cut cut (c ∷ cs) =
    if cut_lt c cut then c ∷ with_cut cut cs else (if cut_lt cut c then cut ∷ c ∷ cs else c ∷ cs)

-- The cuts ascending, each once.
abbrev pub in_order : List Cut → List Cut
in_order [] = []
in_order (c ∷ cs) = with_cut c (in_order cs)

-- The segments that follow one with this row: one at each of the cuts where the row changes.
abbrev pub changes_at : (Cut → UnitRowData) → UnitRowData → List Cut → Known
changes_at row before [] = []
changes_at row before (c ∷ cs) =
    if same_row (row c) before then changes_at row before cs else (c, row c) ∷ changes_at row (row c) cs

-- The segments with these rows, which change at these cuts alone.
abbrev pub segments_of : List Cut → (Cut → UnitRowData) → Known
segments_of cuts row = (Start, row Start) ∷ changes_at row (row Start) (in_order cuts)

-- The knowledge with these ticks, which change at the listed cuts alone, and which are 0 but for the
-- listed replicas.
abbrev pub knowledge_of : ℕ → List Cut → List ℕ → Ticks → Known
knowledge_of units cuts replicas ticks =
    segments_of cuts (λ place. row_of units (λ u. clocks_of replicas (ticks place u)))

-- The cuts where the segments begin.
abbrev pub starts_of : Known → List Cut
starts_of known = map (λ p. p.0) known

-- The replicas that a vector lists.
abbrev pub listed_in : Clocks → List ℕ
listed_in clocks = map (λ c. c.0) clocks

-- The replicas that a row lists.
abbrev pub listed_in_row : UnitRowData → List ℕ
listed_in_row row = listed_in row.base ++ flat_map (λ o. listed_in o.1) row.others

-- The replicas that the knowledge lists.
abbrev pub replicas_of : Known → List ℕ
replicas_of known = flat_map (λ p. listed_in_row p.1) known

-- The knowledge with the replica's own tick everywhere.
abbrev pub with_own : ℕ → ℕ → ℕ → Known → Known
with_own units own tick known =
    knowledge_of units (starts_of known) (own ∷ replicas_of known) (laid_over own tick (tick_at known))

-- Whether the replica is listed.
abbrev pub is_listed : List ℕ → ℕ → Bool
is_listed [] r = false
is_listed (x ∷ xs) r = nat_eq x r || is_listed xs r

-- Each of the numbers is a replica's, of 128 bits.
abbrev pub AreReplicas : List ℕ → Type 0
AreReplicas [] = Unit {0}
AreReplicas (r ∷ rs) = (r < 2 ^ 128) × AreReplicas rs

-- The ticks are a clock vector's at every place and unit: none is greater than the greatest tick, and they
-- are 0 but for the listed replicas.
pub record AreTicks (units : ℕ) (replicas : List ℕ) (ticks : Ticks) : Type 0 where
  pub listed : AreReplicas replicas
  pub most : (place : Cut) (u r : ℕ) → IsPlace place → u < units → ticks place u r ≤ max_tick
  pub others : (place : Cut) (u r : ℕ) → IsPlace place → u < units → is_listed replicas r ≡ false → ticks place u r ≡ 0

-- Each of the cuts is a place.
abbrev pub ArePlaces : List Cut → Type 0
ArePlaces [] = Unit {0}
ArePlaces (c ∷ cs) = IsPlace c × ArePlaces cs

-- Whether one of the cuts stands behind the first place and not behind the second.
abbrev pub is_parted : List Cut → Cut → Cut → Bool
is_parted [] p q = false
is_parted (c ∷ cs) p q = (cut_lt p c && cut_le c q) || is_parted cs p q

-- The ticks change at the listed cuts alone, which are places: they are the same at two places that no
-- listed cut parts.
pub record ChangeAtAlone (units : ℕ) (cuts : List Cut) (ticks : Ticks) : Type 0 where
  pub places : ArePlaces cuts
  pub alike :
      (p q : Cut) (u r : ℕ) → IsPlace p → IsPlace q → u < units → cut_le p q ≡ true →
      is_parted cuts p q ≡ false → ticks p u r ≡ ticks q u r
