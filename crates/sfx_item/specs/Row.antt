use Rattle.std.specs.Prelude.{◌≡◌, ℕ, Option, Some, List, length, option_map, slice_get}
use Rattle.sfx_item.specs.declared.cell.Cell.{Cell}
use Rattle.sfx_item.specs.Name.{IsName}

-- The value of the first cell.
abbrev pub first_value : List Cell → Option (List ℕ)
first_value cells = option_map (λ c. c.value) (slice_get cells 0)

-- The first of the cells holds a name.
pub record HasName (cells : List Cell) : Type 0 where
  pub name : List ℕ
  pub valid : IsName name
  pub first : first_value cells ≡ Some name

-- The cells are those of a row: one for each of the `units`, and that of unit 0 holds a name.
pub record IsCellRow (units : ℕ) (cells : List Cell) : Type 0 where
  pub whole : length cells ≡ units
  pub named : HasName cells

-- The cells are those of a row with this name.
pub record IsNamedRow (units : ℕ) (name : List ℕ) (cells : List Cell) : Type 0 where
  pub whole : length cells ≡ units
  pub valid : IsName name
  pub first : first_value cells ≡ Some name
