use Rattle.std.specs.Prelude.{ℕ, ◌≤◌}

-- the greatest tick
abbrev pub max_tick : ℕ
max_tick = 9223372036854775807

-- a number that a tick can have
pub record IsTick (n : ℕ) : Type 0 where
  pub least : 1 ≤ n
  pub most : n ≤ max_tick
