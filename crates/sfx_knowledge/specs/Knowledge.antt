use Rattle.std.specs.Prelude.{◌≡◌, ℕ, ◌<◌, ◌≤◌, max, not, ◌&&◌, if◌then◌else◌, nat_eq, List, [], ◌∷◌}
use Rattle.sfx_ids.specs.declared.cut.Cut.{Cut}
use Rattle.sfx_ids.specs.declared.cut.Cut.TheVariants.{Start, At}
use Rattle.sfx_ids.specs.declared.item_id.ItemId.{ItemId}
use Rattle.sfx_ids.specs.declared.version.Version.{Version}
use Rattle.sfx_ids.specs.Cut.{is_between}
use Rattle.sfx_vector.specs.Clocks.{Clocks, tick_of}
use Rattle.sfx_segments.specs.Segments.{IsPlace, segment_at, AreSegments}
use Rattle.sfx_knowledge.specs.Row.{UnitRowData, row_at, IsClockRow}
use Rattle.sfx_knowledge.specs.Skips.{is_skipped_at}

-- What a replica knows, as plain data: segments of the places, each with the place where it begins and
-- a clock vector for each unit.
abbrev pub Known : Type 0
Known = List (Cut × UnitRowData)

-- The row of a replica that knows nothing.
abbrev pub no_row : UnitRowData
no_row = record { base = []; others = [] }

-- Nothing is known at any place.
abbrev pub nothing_known : Known
nothing_known = (Start, no_row) ∷ []

-- The clock vector that the knowledge has at the place, for the unit.
abbrev pub clocks_at : Known → Cut → ℕ → Clocks
clocks_at known place u = row_at (segment_at no_row known place) u

-- Its tick for the replica.
abbrev pub tick_at : Known → Cut → ℕ → ℕ → ℕ
tick_at known place u r = tick_of (clocks_at known place u) r

-- The knowledge of the item's unit contains the version.
abbrev pub KnowsVersion : Known → ItemId → ℕ → Version → Type 0
KnowsVersion known i u v = v.tick ≤ tick_at known (At i) u v.replica

-- Each segment's row is in its one form.
abbrev pub AreRows : ℕ → Known → Type 0
AreRows units [] = Unit {0}
AreRows units (p ∷ ps) = IsClockRow units p.1 × AreRows units ps

-- The list is knowledge in its one form, of items with this many units.
pub record IsKnowledge (units : ℕ) (known : Known) : Type 0 where
  pub segments : AreSegments known
  pub rows : AreRows units known

-- A tick at each place and unit for each replica.
abbrev pub Ticks : Type 0
Ticks = Cut → ℕ → ℕ → ℕ

-- The knowledge has these ticks, at every place and unit.
abbrev pub HasTicks : ℕ → Known → Ticks → Type 0
HasTicks units known ticks =
    (place : Cut) (u r : ℕ) → IsPlace place → u < units → tick_at known place u r ≡ ticks place u r

-- Both pieces of knowledge agree at every place and unit.
abbrev pub KnowAlike : ℕ → Known → Known → Type 0
KnowAlike units a b = HasTicks units a (tick_at b)

-- At every place and unit the first knowledge's vector is within the second's.
abbrev pub IsWithin : ℕ → Known → Known → Type 0
IsWithin units a b =
    (place : Cut) (u r : ℕ) → IsPlace place → u < units → tick_at a place u r ≤ tick_at b place u r

-- The ticks of both joined: the greater one of each.
abbrev pub joined : Ticks → Ticks → Ticks
joined a b place u r = max (a place u r) (b place u r)

-- The ticks at the places of the range, and 0 at all others.
abbrev pub projected : Cut → Cut → Ticks → Ticks
projected lo hi a place u r = if is_between lo hi place then a place u r else 0

-- The ticks joined with the others at the places of the range, but for the units that are skipped there.
abbrev pub learned_ticks : Cut → Cut → List (ItemId × ℕ) → Ticks → Ticks → Ticks
learned_ticks lo hi skipped here there place u r =
    if is_between lo hi place && not (is_skipped_at skipped place u) then max (here place u r) (there place u r)
    else here place u r

-- The ticks with the replica's own one everywhere.
abbrev pub laid_over : ℕ → ℕ → Ticks → Ticks
laid_over own tick a place u r = if nat_eq r own then tick else a place u r

-- The greatest tick of the replica at any place and unit.
pub record IsMost (units : ℕ) (known : Known) (r most : ℕ) : Type 0 where
  pub bound : (place : Cut) (u : ℕ) → IsPlace place → u < units → tick_at known place u r ≤ most
  pub met : (place : Cut) × (u : ℕ) × IsPlace place × (u < units) × (tick_at known place u r ≡ most)
