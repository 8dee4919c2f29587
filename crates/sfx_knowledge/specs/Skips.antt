use Rattle.std.specs.Prelude.{◌≡◌, ℕ, ◌<◌, ◌&&◌, ◌||◌, Bool, true, false, if◌then◌else◌, suc, nat_eq, List, [], ◌∷◌}
use Rattle.std.specs.declared.cmp.Ordering.{Ordering}
use Rattle.std.specs.Ordering.{nat_cmp, on, then_cmp, is_lt}
use Rattle.sfx_ids.specs.declared.cut.Cut.{Cut}
use Rattle.sfx_ids.specs.declared.cut.Cut.TheVariants.{Start, At, After, End}
use Rattle.sfx_ids.specs.declared.item_id.ItemId.{ItemId}

-- Whether both are the same unit of the same item.
abbrev pub same_cell : ItemId → ℕ → ItemId → ℕ → Bool
same_cell i u j x = nat_eq i.tick j.tick && nat_eq i.replica j.replica && nat_eq u x

-- Whether the unit of the item is listed.
abbrev pub is_skipped : List (ItemId × ℕ) → ItemId → ℕ → Bool
is_skipped [] i u = false
is_skipped (s ∷ ss) i u = same_cell s.0 s.1 i u || is_skipped ss i u

-- Whether the unit is listed at the place; only a unit of an item can be.
abbrev pub is_skipped_at : List (ItemId × ℕ) → Cut → ℕ → Bool
is_skipped_at skipped (At i) u = is_skipped skipped i u
is_skipped_at skipped Start u = false
is_skipped_at skipped (After i) u = false
is_skipped_at skipped End u = false

-- The new list has this unit of the item, and else what the old one has.
abbrev pub AddsSkip : List (ItemId × ℕ) → List (ItemId × ℕ) → ItemId → ℕ → Type 0
AddsSkip old new i u = (j : ItemId) (x : ℕ) → is_skipped new j x ≡ same_cell i u j x || is_skipped old j x

-- The order of units of items: by the item's tick and replica, then by the unit.
abbrev pub cell_cmp : ItemId × ℕ → ItemId × ℕ → Ordering
cell_cmp =
    then_cmp (on (λ s. s.0.tick) nat_cmp)
    (then_cmp (on (λ s. s.0.replica) nat_cmp) (on (λ s. s.1) nat_cmp))

-- Whether the first unit of an item stands before the second.
abbrev pub cell_lt : ItemId × ℕ → ItemId × ℕ → Bool
cell_lt s t = is_lt (cell_cmp s t)

-- What follows this unit of an item: the units stand behind it, ascending.
abbrev pub GoOnBehind : ℕ → ItemId × ℕ → List (ItemId × ℕ) → Type 0
GoOnBehind units s [] = Unit {0}
GoOnBehind units s (t ∷ ts) = (cell_lt s t ≡ true) × (t.1 < units) × GoOnBehind units t ts

-- The list is in its one form: units of items, ascending by item and then by unit, each once.
abbrev pub AreSkips : ℕ → List (ItemId × ℕ) → Type 0
AreSkips units [] = Unit {0}
AreSkips units (s ∷ ss) = (s.1 < units) × GoOnBehind units s ss

-- How many of the listed units stand before this one: those at the front.
abbrev pub cell_place : List (ItemId × ℕ) → ItemId × ℕ → ℕ
cell_place [] s = 0
cell_place (t ∷ ts) s = if cell_lt t s then suc (cell_place ts s) else 0
