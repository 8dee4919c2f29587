-- What is compared place by place.
use Rattle.std.specs.Prelude.{◌≡◌, ℕ, ◌<◌, slice_get, Some}
use Rattle.sfx_ids.specs.declared.cut.Cut.{Cut}
use Rattle.sfx_ids.specs.declared.cut.Cut.TheVariants.{At}
use Rattle.sfx_ids.specs.declared.item_id.ItemId.{ItemId}
use Rattle.sfx_segments.specs.Segments.{IsPlace, segment_at}
use Rattle.sfx_knowledge.specs.Row.{UnitRowData, RowWithin}
use Rattle.sfx_knowledge.specs.Knowledge.{Known, no_row, clocks_at, tick_at}

-- The fact holds of the row at every place.
abbrev pub EveryRow : Known → (UnitRowData → Type 0) → Type 0
EveryRow known P = (place : Cut) → IsPlace place → P (segment_at no_row known place)

-- The fact holds of each cut where a segment begins.
abbrev pub AtEachStart : Known → (Cut → Type 0) → Type 0
AtEachStart known P = (k : ℕ) (p : Cut × UnitRowData) → slice_get known k ≡ Some p → P p.0

-- At the place the first knowledge's row is within the second's.
abbrev pub WithinAt : ℕ → Known → Known → Cut → Type 0
WithinAt units a b place = RowWithin units (segment_at no_row a place) (segment_at no_row b place)

-- The unit of the item has the vector that the other knowledge has for it, and all else is as before.
pub record Restores (units : ℕ) (old new other : Known) (i : ItemId) (unit : ℕ) : Type 0 where
  pub there : clocks_at new (At i) unit ≡ clocks_at other (At i) unit
  pub others :
      (place : Cut) (u r : ℕ) → IsPlace place → u < units → (place ≡ At i → u ≡ unit → ⊥) →
      tick_at new place u r ≡ tick_at old place u r
