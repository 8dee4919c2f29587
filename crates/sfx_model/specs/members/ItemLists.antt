-- Items that are put into a replica's list and dropped from it.
use Rattle.std.specs.Prelude.{if◌then◌else◌, List, [], ◌∷◌, Option, Some, None}
use Rattle.sfx_ids.specs.declared.item_id.ItemId.{ItemId}
use Rattle.sfx_model.specs.world.Events.{same_item}
use Rattle.sfx_item.specs.Item.{ItemState, ItemData}
use Rattle.sfx_model.specs.members.Members.{state_of}
use Rattle.sfx_model.specs.members.States.{with_item, with_state}

-- The items with this one, by the state of that with its id: in its place, or else, where there is none, as
-- one more in its place by id.
abbrev pub put_for : Option ItemState → ItemData → List ItemData → List ItemData
put_for (Some old) item items = with_state item.id item.state items
put_for None item items = with_item item items

-- The items with this one.
abbrev pub put_item : ItemData → List ItemData → List ItemData
put_item item items = put_for (state_of items item.id) item items

-- The items with each of these, one after another.
abbrev pub put_all : List ItemData → List ItemData → List ItemData
put_all [] items = items
put_all (p ∷ ps) items = put_all ps (put_item p items)

-- The items without that with this id.
abbrev pub drop_item : ItemId → List ItemData → List ItemData
drop_item i [] = []
drop_item i (x ∷ xs) = if same_item x.id i then xs else x ∷ drop_item i xs

-- The items without those with these ids.
abbrev pub drop_all : List ItemId → List ItemData → List ItemData
drop_all [] items = items
drop_all (i ∷ is) items = drop_all is (drop_item i items)

-- The items with this state of one of them, where there is a state, and else without it.
abbrev pub with_state_of : ItemId → Option ItemState → List ItemData → List ItemData
with_state_of i None items = drop_item i items
with_state_of i (Some state) items = put_item (record { id = i; state = state }) items
