-- When an edit of a replica is refused, and why: the first cause in the stated order.
use Rattle.std.specs.Prelude.{ℕ, Bool, true, false, if◌then◌else◌, nat_eq, nat_lt, List, Option, Some, None, slice_get}
use Rattle.std.specs.Option.{option_map, option_or}
use Rattle.sfx_ids.specs.declared.item_id.ItemId.{ItemId}
use Rattle.sfx_ids.specs.Tick.{max_tick}
use Rattle.sfx_item.specs.Decided.{name_fault}
use Rattle.sfx_item.specs.Item.{ItemState, Live, Dead}
use Rattle.sfx_model.specs.members.Members.{Member, state_of}
use Rattle.sfx_replica.specs.declared.edit_fault.EditFault.{EditFault}
use Rattle.sfx_replica.specs.declared.edit_fault.EditFault.TheVariants.{NoItem, Deleted, BadUnit, BadName, Clash, ClockFull, NotDeleted, Memory}
use Rattle.sfx_model.specs.members.Readings.{first_clash}

-- The edit was refused: any fault but running out of memory is a refusal.
abbrev pub refuses_edit : EditFault → Bool
refuses_edit NoItem = true
refuses_edit Deleted = true
refuses_edit (BadUnit k u) = true
refuses_edit (BadName at) = true
refuses_edit (Clash item) = true
refuses_edit (ClockFull clock) = true
refuses_edit NotDeleted = true
refuses_edit Memory = false

-- The bytes are no name.
abbrev pub bad_name : List ℕ → Option EditFault
bad_name name = option_map (λ at. BadName at) (name_fault name)

-- Another live item's name clashes with this one.
abbrev pub clash : Member → Option ItemId → List ℕ → Option EditFault
clash m except name = option_map (λ i. Clash i) (first_clash name except m.items)

-- The clock cannot rise.
abbrev pub full_clock : Member → Option EditFault
full_clock m = if nat_lt m.clock max_tick then None else Some (ClockFull m.clock)

-- The value may not name an item, which is the excepted one where there is one.
abbrev pub name_refusal : Member → Option ItemId → List ℕ → Option EditFault
name_refusal m except name = option_or (bad_name name) (clash m except name)

-- The same of the value for unit 0, where there is one.
abbrev pub first_name_refusal : Member → Option (List ℕ) → Option EditFault
first_name_refusal m None = None
first_name_refusal m (Some name) = name_refusal m None name

-- An item with these values may not be created.
abbrev pub create_refusal : Member → List (List ℕ) → Option EditFault
create_refusal m values = option_or (first_name_refusal m (slice_get values 0)) (full_clock m)

-- The value may not be written to the unit of a live item.
abbrev pub write_refusal : ℕ → Member → ItemId → ℕ → List ℕ → Option EditFault
write_refusal units m i unit value =
    if nat_lt unit units then
    option_or (if nat_eq unit 0 then name_refusal m (Some i) value else None) (full_clock m)
    else Some (BadUnit unit units)

-- The value may not be written to the unit of an item in this state.
abbrev pub state_refusal : ℕ → Member → ItemId → ℕ → List ℕ → Option ItemState → Option EditFault
state_refusal units m i unit value None = Some NoItem
state_refusal units m i unit value (Some (Dead version)) = Some Deleted
state_refusal units m i unit value (Some (Live cells)) = write_refusal units m i unit value

-- The value may not be written to the unit of the item.
abbrev pub set_refusal : ℕ → Member → ItemId → ℕ → List ℕ → Option EditFault
set_refusal units m i unit value = state_refusal units m i unit value (state_of m.items i)

-- An item in this state may not be deleted.
abbrev pub deletion_refusal : Member → Option ItemState → Option EditFault
deletion_refusal m None = Some NoItem
deletion_refusal m (Some (Dead version)) = Some Deleted
deletion_refusal m (Some (Live cells)) = full_clock m

-- The item may not be deleted.
abbrev pub delete_refusal : Member → ItemId → Option EditFault
delete_refusal m i = deletion_refusal m (state_of m.items i)
