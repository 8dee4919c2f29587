-- Where items stand in a list in order of their ids, and how many of them a search looks at.
use Rattle.std.specs.Prelude.{◌≡◌, ℕ, zero, suc, ◌*◌, ◌^◌, ◌≤◌, if◌then◌else◌, ◌⊎◌, List, [], ◌∷◌, Bool}
use Rattle.sfx_ids.specs.declared.cut.Cut.{Cut}
use Rattle.sfx_ids.specs.declared.cut.Cut.TheVariants.{At}
use Rattle.sfx_ids.specs.declared.item_id.ItemId.{ItemId}
use Rattle.sfx_ids.specs.Cut.{cut_lt}
use Rattle.sfx_model.specs.world.Events.{same_item}
use Rattle.sfx_item.specs.Item.{ItemData}

-- How many items stand before the cut: those at the front whose places are before it.
abbrev pub count_before : Cut → List ItemData → ℕ
count_before cut [] = zero
count_before cut (x ∷ xs) = if cut_lt (At x.id) cut then suc (count_before cut xs) else zero

-- The item has this id.
abbrev pub has_id : ItemId → ItemData → Bool
has_id i x = same_item x.id i

-- So many comparisons are at most the logarithm of the number of items to the base 2, and one more.
abbrev pub AreFew : ℕ → ℕ → Type 0
AreFew items compared = (compared ≡ 0) ⊎ (2 ^ compared ≤ 2 * items)
