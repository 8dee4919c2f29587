-- What the edits of a replica make of its state.
use Rattle.std.specs.Prelude.{ℕ, ◌+◌, List, [], Option, Some, None}
use Rattle.sfx_ids.specs.declared.item_id.ItemId.{ItemId}
use Rattle.sfx_knowledge.specs.Knowledge.{nothing_known}
use Rattle.sfx_knowledge.specs.Forgotten.{nothing_forgotten}
use Rattle.sfx_item.specs.Item.{ItemState, Live, Dead, ItemData}
use Rattle.sfx_model.specs.members.Members.{Member, state_of}
use Rattle.sfx_model.specs.members.States.{cells_with, next_created, next_version, with_item, with_state}

-- A replica that has made, learned and forgotten nothing.
abbrev pub new_member : ℕ → Member
new_member id = record {
  id = id;
  clock = 0;
  knowledge = nothing_known;
  forgotten = nothing_forgotten;
  items = [];
}

-- The replica after its clock rose by one and its items changed to these.
abbrev pub risen : Member → List ItemData → Member
risen m items = record m { clock = m.clock + 1; items = items }

-- The replica after it created an item with these values.
abbrev pub created : Member → List (List ℕ) → Member
created m values = risen m (with_item (next_created m values) m.items)

-- The replica after it wrote a value to one unit of an item in this state. Only a live one is written to.
abbrev pub edited_from : Member → ItemId → ℕ → List ℕ → Option ItemState → Member
edited_from m i unit value None = m
edited_from m i unit value (Some (Dead version)) = m
edited_from m i unit value (Some (Live cells)) = risen m (with_state i (Live (cells_with m cells unit value)) m.items)

-- The replica after it wrote a value to one unit of the item.
abbrev pub edited : Member → ItemId → ℕ → List ℕ → Member
edited m i unit value = edited_from m i unit value (state_of m.items i)

-- The replica after it deleted an item in this state. A live one becomes a tombstone, and only such a one.
abbrev pub deleted_from : Member → ItemId → Option ItemState → Member
deleted_from m i None = m
deleted_from m i (Some (Dead version)) = m
deleted_from m i (Some (Live cells)) = risen m (with_state i (Dead (next_version m)) m.items)

-- The replica after it deleted the item.
abbrev pub deleted : Member → ItemId → Member
deleted m i = deleted_from m i (state_of m.items i)
