-- What is made of clock vectors, as plain data in its one form.
use Rattle.std.specs.Prelude.{ℕ, max, if◌then◌else◌, nat_eq, ◌∷◌, ◌++◌, Option, Some, None}
use Rattle.sfx_vector.specs.Clocks.{Clocks, tick_of}
use Rattle.sfx_knowledge.specs.Row.{UnitRowData, row_at}
use Rattle.sfx_knowledge.specs.Forms.{clocks_of, listed_in, row_of}

-- The vector with the greater tick of both for each replica.
abbrev pub joined_clocks : Clocks → Clocks → Clocks
joined_clocks a b = clocks_of (listed_in a ++ listed_in b) (λ r. max (tick_of a r) (tick_of b r))

-- The vector with this tick for the one replica.
abbrev pub own_clocks : ℕ → ℕ → Clocks → Clocks
own_clocks own tick a = clocks_of (own ∷ listed_in a) (λ r. if nat_eq r own then tick else tick_of a r)

-- The row with the greater tick of both, for each unit and replica.
abbrev pub joined_row : ℕ → UnitRowData → UnitRowData → UnitRowData
joined_row units a b = row_of units (λ u. joined_clocks (row_at a u) (row_at b u))

-- The row with this tick for the one replica, at each unit.
abbrev pub own_row : ℕ → ℕ → ℕ → UnitRowData → UnitRowData
own_row units own tick a = row_of units (λ u. own_clocks own tick (row_at a u))

-- The clock's number, where there is one; a clock of 0 has no tick.
abbrev pub clock_of : Option ℕ → ℕ
clock_of (Some tick) = tick
clock_of None = 0
