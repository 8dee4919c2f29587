use Rattle.std.specs.Prelude.{◌≡◌, ◌≢◌, ◌⊎◌, ℕ, ◌+◌, ◌<◌, ◌≤◌, if◌then◌else◌, nat_eq, List, [], ◌∷◌}
use Rattle.sfx_vector.specs.Clocks.{Clocks, AreClocks, tick_of}

-- One clock vector for each unit: `base` at every unit but those of `others`, which are listed with
-- their own.
pub record UnitRowData : Type 0 where
  pub base : Clocks
  pub others : List (ℕ × Clocks)

-- The vector that the list has for the unit, or else the given one.
abbrev pub listed_or : Clocks → List (ℕ × Clocks) → ℕ → Clocks
listed_or base [] u = base
listed_or base (o ∷ os) u = if nat_eq o.0 u then o.1 else listed_or base os u

-- The vector of the row at the unit.
abbrev pub row_at : UnitRowData → ℕ → Clocks
row_at row u = listed_or row.base row.others u

-- The units of the list ascend, none below the given one and each of them below `units`; each has a clock
-- vector other than the base.
abbrev pub AreExceptions : ℕ → Clocks → ℕ → List (ℕ × Clocks) → Type 0
AreExceptions units base low [] = Unit {0}
AreExceptions units base low (o ∷ os) =
    (low ≤ o.0) × (o.0 < units) × AreClocks o.1 × (o.1 ≢ base) × AreExceptions units base (o.0 + 1) os

-- The row is in its one form, for this many units: only units above 0 are listed, and only where their
-- vector differs from that of unit 0.
pub record IsClockRow (units : ℕ) (row : UnitRowData) : Type 0 where
  pub base : AreClocks row.base
  pub others : AreExceptions units row.base 1 row.others

-- The new row has this vector at the unit, and at each other unit the old one's.
pub record ChangesUnit (units : ℕ) (old new : UnitRowData) (unit : ℕ) (vector : Clocks) : Type 0 where
  pub changed : row_at new unit ≡ vector
  pub others : (u : ℕ) → u < units → u ≢ unit → row_at new u ≡ row_at old u

-- At every unit the first row's vector is within the second's.
abbrev pub RowWithin : ℕ → UnitRowData → UnitRowData → Type 0
RowWithin units a b = (u r : ℕ) → u < units → tick_of (row_at a u) r ≤ tick_of (row_at b u) r

-- The vector is within the row's at every unit.
abbrev pub VectorWithin : ℕ → Clocks → UnitRowData → Type 0
VectorWithin units clocks row = (u r : ℕ) → u < units → tick_of clocks r ≤ tick_of (row_at row u) r

-- The number is the greatest of the given one and the replica's ticks at the units.
pub record MostOfRow (units : ℕ) (row : UnitRowData) (r given most : ℕ) : Type 0 where
  pub bound : (u : ℕ) → u < units → tick_of (row_at row u) r ≤ most
  pub low : given ≤ most
  pub met : (most ≡ given) ⊎ ((u : ℕ) × (u < units) × (tick_of (row_at row u) r ≡ most))
