use Rattle.std.specs.Prelude.{ℕ, suc, nat_lt, if◌then◌else◌, [], ◌∷◌}
use Rattle.sfx_vector.specs.Clocks.{Clocks}

-- How many pairs stand before the place of the replica: those at the front with a lesser replica.
abbrev pub entry_place : Clocks → ℕ → ℕ
entry_place [] r = 0
entry_place (c ∷ cs) r = if nat_lt c.0 r then suc (entry_place cs r) else 0
