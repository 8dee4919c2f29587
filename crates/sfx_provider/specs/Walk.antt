-- Walks over a replica's items by the first one from a place.
use Rattle.std.specs.Prelude.{◌≡◌, List, [], ◌∷◌, Some, None}
use Rattle.sfx_ids.specs.declared.cut.Cut.{Cut}
use Rattle.sfx_ids.specs.declared.cut.Cut.TheVariants.{After}
use Rattle.sfx_item.specs.Item.{ItemData}
use Rattle.sfx_model.specs.members.Readings.{first_from}

-- The first item from this place, then the first one from behind it, and so on, are these, until there is
-- none.
abbrev pub IsWalk : List ItemData → Cut → List ItemData → Type 0
IsWalk items from [] = first_from from items ≡ None
IsWalk items from (x ∷ xs) = (first_from from items ≡ Some x) × IsWalk items (After x.id) xs
