-- What it means that a session of two members will meet no conflict and no clash, said of both members before
-- it.
use Rattle.std.specs.Prelude.{◌≡◌, ◌≢◌, ◌⊎◌, ℕ, ◌<◌, ◌≤◌, false, List, [], Some, None}
use Rattle.std.specs.Option.{option_and_then}
use Rattle.sfx_ids.specs.declared.cut.Cut.{Cut}
use Rattle.sfx_ids.specs.declared.item_id.ItemId.{ItemId}
use Rattle.sfx_ids.specs.ItemId.{creation_of}
use Rattle.sfx_segments.specs.Segments.{IsPlace}
use Rattle.sfx_knowledge.specs.Forgotten.{IsForgottenWithinAt}
use Rattle.sfx_item.specs.Clash.{Clash}
use Rattle.sfx_item.specs.Item.{ItemState, Live, Dead}
use Rattle.sfx_model.specs.declared.absent.Absent.TheVariants.{Conflict}
use Rattle.sfx_model.specs.sessions.Class.{absent_class_of}
use Rattle.sfx_model.specs.members.Consistent.{live_name}
use Rattle.sfx_model.specs.sessions.Entry.{EntryData}
use Rattle.sfx_model.specs.sessions.MemberKnowledge.{laid_known}
use Rattle.sfx_model.specs.members.Members.{Member, state_of, vector_at}
use Rattle.sfx_model.specs.members.Readings.{is_unseen, is_unseen_at, knows_version}

-- The member knows the version that the unit has in this state of the item.
abbrev pub KnowsUnit : ℕ → Member → ItemId → ItemState → ℕ → Type 0
KnowsUnit units m i state u = is_unseen_at (laid_known units m) i state u ≡ false

-- The member knows the versions that all units have in this state of the item.
abbrev pub KnowsState : ℕ → Member → ItemId → ItemState → Type 0
KnowsState units m i state = is_unseen units (laid_known units m) (record { id = i; state = state }) ≡ false

-- The item was not changed on both sides: of each unit one side knows the other's version, and of an item that
-- is dead on a side, one side knows the other's state.
abbrev pub IsChangedOnce : ℕ → Member → Member → ItemId → ItemState → ItemState → Type 0
IsChangedOnce units source m i (Live cells) (Live own) =
    (u : ℕ) → u < units → KnowsUnit units m i (Live cells) u ⊎ KnowsUnit units source i (Live own) u
IsChangedOnce units source m i (Live cells) (Dead v) =
    KnowsState units m i (Live cells) ⊎ KnowsState units source i (Dead v)
IsChangedOnce units source m i (Dead v) here = KnowsState units m i (Dead v) ⊎ KnowsState units source i here

-- The source knows the deletions of the item that either side has forgotten.
pub record KnowsDeletions (units : ℕ) (source m : Member) (i : ItemId) : Type 0 where
  pub theirs : IsForgottenWithinAt units source.forgotten (laid_known units source) i
  pub ours : IsForgottenWithinAt units m.forgotten (laid_known units source) i

-- The source's item, which the destination has not, was not changed after it was deleted and cleaned away
-- there: the destination knows this state, or never knew the item, or the source knows the deletion.
abbrev pub IsNotDeleted : ℕ → Member → Member → ItemId → ItemState → Type 0
IsNotDeleted units source m i seen =
    KnowsState units m i seen
    ⊎ ((knows_version (laid_known units m) i 0 (creation_of i) ≡ false) ⊎ KnowsDeletions units source m i)

-- The item is live under this name among the source's items, or among the destination's.
abbrev pub IsNameOf : Member → Member → ItemId → List ℕ → Type 0
IsNameOf source m i name =
    (option_and_then live_name (state_of source.items i) ≡ Some name)
    ⊎ (option_and_then live_name (state_of m.items i) ≡ Some name)

-- A session from the source to the destination will meet no conflict and no clash.
pub record IsUndisturbed (units : ℕ) (source m : Member) : Type 0 where
  -- no item that both have was changed on both sides
  pub changes : (i : ItemId) (seen here : ItemState) → state_of source.items i ≡ Some seen →
      state_of m.items i ≡ Some here → IsChangedOnce units source m i seen here
  -- no item that the source alone has was changed there, and deleted and cleaned away here
  pub deletions : (i : ItemId) (seen : ItemState) → state_of source.items i ≡ Some seen →
      state_of m.items i ≡ None → IsNotDeleted units source m i seen
  -- no item that the destination alone has was changed here, and deleted and cleaned away there
  pub drops : (i : ItemId) (here : ItemState) → state_of source.items i ≡ None → state_of m.items i ≡ Some here →
      absent_class_of units (laid_known units m) (laid_known units source) source.forgotten
      (record { id = i; state = here }) ≢ Conflict
  -- names of two different items, on whichever sides, do not clash
  pub names : (i j : ItemId) (a b : List ℕ) → i ≢ j → IsNameOf source m i a → IsNameOf source m j b → ¬ Clash a b

-- The source knows of the destination no version that this has not made.
abbrev pub KnowsMadeAlone : ℕ → Member → Member → Type 0
KnowsMadeAlone units source m =
    (place : Cut) (u : ℕ) → IsPlace place → u < units → vector_at source place u m.id ≤ m.clock

-- The entry drew no tick, for its own item or for others.
pub record DrewNone (e : EntryData) : Type 0 where
  pub tick : e.tick ≡ None
  pub others : e.others ≡ []
