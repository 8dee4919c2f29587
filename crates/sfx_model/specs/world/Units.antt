-- How many units items can have, and what is said of each unit of an item, unit by unit.
use Rattle.std.specs.Prelude.{◌≡◌, ◌⊎◌, ℕ, zero, suc, Bool, true, ◌&&◌, List, map, slice_get}
use Rattle.std.specs.List.{range_with_len}
use Rattle.std.specs.Option.{unwrap_or}

-- Items have 1, 2, 4 or 8 units.
abbrev pub IsUnitCount : ℕ → Type 0
IsUnitCount u = (u ≡ 1) ⊎ ((u ≡ 2) ⊎ ((u ≡ 4) ⊎ (u ≡ 8)))

-- What the function gives for each of the units, in order.
abbrev pub each_unit : {A : Type 0} → ℕ → (ℕ → A) → List A
each_unit units f = map f (range_with_len 0 units)

-- The test passes at each of the units.
abbrev pub every_unit : (ℕ → Bool) → ℕ → Bool
every_unit test zero = true
every_unit test (suc n) = test n && every_unit test n

-- What the list has for the unit, and else the given one.
abbrev pub at_unit : {A : Type 0} → List A → ℕ → A → A
at_unit list u default = unwrap_or (slice_get list u) default
