use Rattle.std.specs.Prelude.{ℕ, Bool, ◌&&◌}
use Rattle.std.specs.declared.cmp.Ordering.{Ordering}
use Rattle.std.specs.Ordering.{nat_cmp, on, then_cmp, is_lt, is_le}
use Rattle.sfx_ids.specs.ItemId.{IsItemId}
use Rattle.sfx_ids.specs.declared.cut.Cut.{Cut}
use Rattle.sfx_ids.specs.declared.cut.Cut.TheVariants.{Start, At, After, End}

-- where a cut stands in the order: before all items, at an item, behind all; then by the item's
-- tick and replica; then before or behind the item
pub record Rank : Type 0 where
  pub part : ℕ
  pub tick : ℕ
  pub replica : ℕ
  pub side : ℕ

abbrev pub rank_of : Cut → Rank
rank_of Start = record { part = 0; tick = 0; replica = 0; side = 0 }
rank_of (At x) = record { part = 1; tick = x.tick; replica = x.replica; side = 0 }
rank_of (After x) = record { part = 1; tick = x.tick; replica = x.replica; side = 1 }
rank_of End = record { part = 2; tick = 0; replica = 0; side = 0 }

-- a cut as the program has it: its item, where it has one, is in range
abbrev pub IsCut : Cut → Type 0
IsCut Start = Unit {0}
IsCut (At x) = IsItemId x
IsCut (After x) = IsItemId x
IsCut End = Unit {0}

-- the order of cuts
abbrev pub cut_cmp : Cut → Cut → Ordering
cut_cmp =
    on rank_of
    (then_cmp (on (λ r. r.part) nat_cmp)
    (then_cmp (on (λ r. r.tick) nat_cmp)
    (then_cmp (on (λ r. r.replica) nat_cmp) (on (λ r. r.side) nat_cmp))))

-- the first cut is before the second
abbrev pub cut_lt : Cut → Cut → Bool
cut_lt a b = is_lt (cut_cmp a b)

-- the first cut is not behind the second
abbrev pub cut_le : Cut → Cut → Bool
cut_le a b = is_le (cut_cmp a b)

-- the place is in the range from one cut up to the other
abbrev pub is_between : Cut → Cut → Cut → Bool
is_between lo hi place = cut_le lo place && cut_lt place hi
