-- What is looked up among a replica's items.
use Rattle.std.specs.Prelude.{ℕ, Bool, false, not, ◌&&◌, if◌then◌else◌, nat_le, List, [], ◌∷◌, Option, Some, None}
use Rattle.std.specs.Option.{option_map_or}
use Rattle.std.specs.List.{filter}
use Rattle.sfx_ids.specs.declared.cut.Cut.{Cut}
use Rattle.sfx_ids.specs.declared.cut.Cut.TheVariants.{At}
use Rattle.sfx_ids.specs.declared.item_id.ItemId.{ItemId}
use Rattle.sfx_ids.specs.declared.version.Version.{Version}
use Rattle.sfx_ids.specs.Cut.{cut_le}
use Rattle.sfx_knowledge.specs.Knowledge.{Known, tick_at}
use Rattle.sfx_item.specs.Decided.{is_clash}
use Rattle.sfx_model.specs.members.Consistent.{live_name}
use Rattle.sfx_model.specs.world.Events.{same_item, some_unit}
use Rattle.sfx_item.specs.Item.{version_at, ItemState, ItemData}

-- The first item whose place is not before this one.
abbrev pub first_from : Cut → List ItemData → Option ItemData
first_from place [] = None
first_from place (x ∷ xs) = if cut_le place (At x.id) then Some x else first_from place xs

-- The items whose place is not before this one.
abbrev pub items_from : Cut → List ItemData → List ItemData
items_from place items = filter (λ x. cut_le place (At x.id)) items

-- The knowledge of the item's unit contains the version.
abbrev pub knows_version : Known → ItemId → ℕ → Version → Bool
knows_version known i u v = nat_le v.tick (tick_at known (At i) u v.replica)

-- The state's version of the unit is one that the knowledge does not contain.
abbrev pub is_unseen_at : Known → ItemId → ItemState → ℕ → Bool
is_unseen_at known i state u = option_map_or (λ v. not (knows_version known i u v)) (version_at state u) false

-- The item has a unit whose version the knowledge does not contain.
abbrev pub is_unseen : ℕ → Known → ItemData → Bool
is_unseen units known x = some_unit (is_unseen_at known x.id x.state) units

-- The items from this place on that have such a unit.
abbrev pub unseen : ℕ → Known → Cut → List ItemData → List ItemData
unseen units known place items = filter (is_unseen units known) (items_from place items)

-- The state is live, and its name clashes with this one.
abbrev pub is_clashing : List ℕ → ItemState → Bool
is_clashing name state = option_map_or (λ own. is_clash name own) (live_name state) false

-- The item is the excepted one.
abbrev pub is_excepted : Option ItemId → ItemId → Bool
is_excepted except id = option_map_or (λ i. same_item i id) except false

-- The item is live and not excepted, and its name clashes with this one.
abbrev pub is_in_the_way : List ℕ → Option ItemId → ItemData → Bool
is_in_the_way name except x = not (is_excepted except x.id) && is_clashing name x.state

-- The ids of these items, in order.
abbrev pub clashing_with : List ℕ → Option ItemId → List ItemData → List ItemId
clashing_with name except [] = []
clashing_with name except (x ∷ xs) =
    if is_in_the_way name except x then x.id ∷ clashing_with name except xs else clashing_with name except xs

-- The first of them.
abbrev pub first_clash : List ℕ → Option ItemId → List ItemData → Option ItemId
first_clash name except [] = None
first_clash name except (x ∷ xs) = if is_in_the_way name except x then Some x.id else first_clash name except xs
