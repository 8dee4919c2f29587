use Rattle.std.specs.Prelude.{◌≡◌, ◌≢◌, ℕ, ◌<◌, ◌≤◌, ◌^◌, nat_eq, ◌+◌, if◌then◌else◌, List, [], ◌∷◌}
use Rattle.sfx_ids.specs.Tick.{IsTick}

-- A clock vector: pairs of a replica and a tick, ascending by replica; a replica that is not listed has
-- the tick 0.
abbrev pub Clocks : Type 0
Clocks = List (ℕ × ℕ)

-- The vector's tick for the replica.
abbrev pub tick_of : Clocks → ℕ → ℕ
tick_of [] r = 0
tick_of (c ∷ cs) r = if nat_eq c.0 r then c.1 else tick_of cs r

-- The pairs ascend by replica, none of them below the given one, and none twice. Each is a replica of
-- 128 bits with a tick of its clock.
abbrev pub AreFrom : ℕ → Clocks → Type 0
AreFrom low [] = Unit {0}
AreFrom low (c ∷ cs) = (low ≤ c.0) × (c.0 < 2 ^ 128) × IsTick c.1 × AreFrom (c.0 + 1) cs

-- The pairs are a clock vector's: they ascend by replica, from the least on.
abbrev pub AreClocks : Clocks → Type 0
AreClocks cs = AreFrom 0 cs

-- The new vector has this tick for the replica, and for each other replica the old one's.
pub record ChangesOnly (old new : Clocks) (replica tick : ℕ) : Type 0 where
  pub changed : tick_of new replica ≡ tick
  pub others : (r : ℕ) → r ≢ replica → tick_of new r ≡ tick_of old r
