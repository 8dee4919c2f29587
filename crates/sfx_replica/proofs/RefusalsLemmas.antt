-- What refuses a write to a unit of an item, by the item's state.
use Rattle.std.proofs.Common.{◌≡◌, ℕ, ◌<◌, ◌≤◌, true, false, if◌then◌else◌, nat_eq, List, Option, Some, None, inl, inr, refl}
use Rattle.std.proofs.lemmas.Bool.{cases_lt, lt-ltb, le-ltb}
use Rattle.std.specs.Option.{option_or}
use Rattle.sfx_ids.specs.declared.item_id.ItemId.{ItemId}
use Rattle.sfx_ids.specs.declared.version.Version.{Version}
use Rattle.sfx_item.specs.declared.cell.Cell.{Cell}
use Rattle.sfx_item.specs.Item.{ItemState, Live, Dead, ItemData}
use Rattle.sfx_model.specs.members.Members.{Member, state_of}
use Rattle.sfx_replica.specs.declared.edit_fault.EditFault.TheVariants.{NoItem, Deleted, BadUnit}
use Rattle.sfx_replica.specs.declared.edit_fault.EditFault.{EditFault}
use Rattle.sfx_replica.specs.Items.{not_live}
use Rattle.sfx_replica.specs.Refusals.{deletion_refusal, full_clock, name_refusal, state_refusal}

module _ (units : ℕ) (m : Member) (items : List ItemData) (i : ItemId) (unit : ℕ) (value : List ℕ) where
  pub refused_absent : state_of items i ≡ None → state_refusal units m i unit value (state_of items i) ≡ Some NoItem
  refused_absent none = rw none refl

  pub refused_dead : (version : Version) → state_of items i ≡ Some (Dead version) → state_refusal units m i unit value (state_of items i) ≡ Some Deleted
  refused_dead version dead = rw dead refl

  pub refused_unit : (cells : List Cell) → state_of items i ≡ Some (Live cells) → units ≤ unit → state_refusal units m i unit value (state_of items i) ≡ Some (BadUnit unit units)
  refused_unit cells live past = rw (live, le-ltb unit units past) refl

  pub refused_write :
      (cells : List Cell) → state_of items i ≡ Some (Live cells) → unit < units
      → state_refusal units m i unit value (state_of items i) ≡ option_or (if nat_eq unit 0 then name_refusal m (Some i) value else None) (full_clock m)
  refused_write cells live small = rw (live, lt-ltb unit units small) refl

  -- what is not live refuses any value
  pub refused_state : (o : Option ItemState) (fault : EditFault) → not_live o ≡ Some fault → state_refusal units m i unit value o ≡ Some fault
  refused_state None fault is = is
  refused_state (Some (Dead version)) fault is = is
  refused_state (Some (Live cells)) fault is = let bad : None ≡ Some fault = is in absurd (cc)

-- what is not live may not be deleted
pub refused_deletion : (m : Member) (o : Option ItemState) (fault : EditFault) → not_live o ≡ Some fault → deletion_refusal m o ≡ Some fault
refused_deletion m None fault is = is
refused_deletion m (Some (Dead version)) fault is = is
refused_deletion m (Some (Live cells)) fault is = let bad : None ≡ Some fault = is in absurd (cc)

-- a live item may be deleted where the clock can rise
pub live_deletion : (m : Member) (o : Option ItemState) (cells : List Cell) → o ≡ Some (Live cells) → deletion_refusal m o ≡ full_clock m
live_deletion m o cells live = rw live refl

-- What is not below is not less
pub past_from : (k u : ℕ) → (k < u → false ≡ true) → u ≤ k
past_from k u never = elim (cases_lt k u) [
  | inl less ↦ let bad = never less in absurd (cc)
  | inr past ↦ past
]
