-- The merge of two lists of items, item by item.
use Rattle.std.specs.Prelude.{◌≡◌, List, [], ◌∷◌, Option, MatchOption}
use Rattle.sfx_item.specs.Item.{ItemData}

-- The item is the first of the whole list, with this rest; where there is none, the whole is empty.
abbrev pub IsNextOfTwo : Option ItemData → List ItemData → List ItemData → Type 0
IsNextOfTwo next whole rest = MatchOption next (whole ≡ []) (λ x. whole ≡ x ∷ rest)
