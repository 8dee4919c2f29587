-- Which of a replica's items are looked for, and which are written to.
use Rattle.std.specs.Prelude.{◌≡◌, ℕ, ◌<◌, Bool, ◌&&◌, Option, Some, None, List}
use Rattle.std.specs.List.{position_from}
use Rattle.sfx_ids.specs.declared.cut.Cut.{Cut}
use Rattle.sfx_ids.specs.declared.cut.Cut.TheVariants.{At}
use Rattle.sfx_ids.specs.Cut.{cut_le}
use Rattle.sfx_ids.specs.declared.item_id.ItemId.{ItemId}
use Rattle.sfx_item.specs.declared.cell.Cell.{Cell}
use Rattle.sfx_knowledge.specs.Knowledge.{Known}
use Rattle.sfx_items.specs.Places.{has_id}
use Rattle.sfx_item.specs.Item.{ItemState, Live, Dead, ItemData}
use Rattle.sfx_model.specs.members.Members.{state_of}
use Rattle.sfx_model.specs.members.Readings.{is_unseen}
use Rattle.sfx_replica.specs.declared.edit_fault.EditFault.{EditFault}
use Rattle.sfx_replica.specs.declared.edit_fault.EditFault.TheVariants.{NoItem, Deleted}

-- The item's place is not before this one, and it has a unit whose version the knowledge does not contain.
abbrev pub is_next_unseen : ℕ → Known → Cut → ItemData → Bool
is_next_unseen units known from x = cut_le from (At x.id) && is_unseen units known x

-- The item with this id is a live one at this place.
pub record IsLiveAt (items : List ItemData) (i : ItemId) (place : ℕ) : Type 0 where
  pub found : position_from (has_id i) 0 items ≡ Some place
  pub live : (cells : List Cell) × (state_of items i ≡ Some (Live cells))

-- The item with this id is a live one at this place, and `unit` is its unit with this number.
pub record IsTarget (units : ℕ) (items : List ItemData) (i : ItemId) (k place unit : ℕ) : Type 0 where
  pub found : position_from (has_id i) 0 items ≡ Some place
  pub live : (cells : List Cell) × (state_of items i ≡ Some (Live cells))
  pub same : unit ≡ k
  pub inside : k < units

-- An item in this state is not live, and so nothing of it can be changed.
abbrev pub not_live : Option ItemState → Option EditFault
not_live None = Some NoItem
not_live (Some (Dead version)) = Some Deleted
not_live (Some (Live cells)) = None
