-- New names for items whose names clash.
use Rattle.std.specs.Prelude.{ℕ, zero, suc, ◌+◌, Bool, if◌then◌else◌, nat_eq, List, length, Some}
use Rattle.sfx_ids.specs.declared.item_id.ItemId.{ItemId}
use Rattle.sfx_item.specs.Renamed.{renamed}
use Rattle.sfx_model.specs.members.Headline.{live_items}
use Rattle.sfx_item.specs.Item.{ItemData}
use Rattle.sfx_model.specs.members.Readings.{clashing_with}

-- No other live item's name clashes with this one.
abbrev pub is_free : List ItemData → ItemId → List ℕ → Bool
is_free items i name = nat_eq (length (clashing_with name (Some i) items)) 0

-- The first of so many numbers from this one on whose mark makes a name that is free.
unfoldable pub first_free : List ItemData → ItemId → List ℕ → ℕ → ℕ → ℕ
first_free items i name n zero = n
first_free items i name n (suc more) =
    if is_free items i (renamed name n) then n else first_free items i name (n + 1) more

-- The new name of the item: that of the least number from 1 on that clashes with no other live item's.
-- Each of these rules one number out at most, so one of the first numbers is free.
abbrev pub new_name : List ItemData → ItemId → List ℕ → List ℕ
new_name items i name = renamed name (first_free items i name 1 (length (live_items items) + 1))
