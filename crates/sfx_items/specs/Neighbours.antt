-- What stands next to a place.
use Rattle.std.specs.Prelude.{if◌then◌else◌, List, [], ◌∷◌, Option, Some, None}
use Rattle.std.specs.Option.{option_or}
use Rattle.sfx_ids.specs.declared.cut.Cut.{Cut}
use Rattle.sfx_ids.specs.declared.cut.Cut.TheVariants.{At}
use Rattle.sfx_ids.specs.Cut.{cut_lt}
use Rattle.sfx_item.specs.Item.{ItemData}

-- The last item whose place is before this one.
abbrev pub last_before : Cut → List ItemData → Option ItemData
last_before place [] = None
last_before place (x ∷ xs) = option_or (last_before place xs) (if cut_lt (At x.id) place then Some x else None)
