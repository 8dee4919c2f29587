-- What a change is to the destination, by what both sides know of it. `known` is what the destination
-- knows, its own versions included, and `made_with` what the source knows; `forgotten` are deletions that
-- a side has forgotten.
use Rattle.std.specs.Prelude.{ℕ, Bool, if◌then◌else◌, nat_le, List, Option, Some, None}
use Rattle.std.specs.List.{list_all}
use Rattle.sfx_ids.specs.declared.cut.Cut.{Cut}
use Rattle.sfx_ids.specs.declared.cut.Cut.TheVariants.{At}
use Rattle.sfx_ids.specs.declared.item_id.ItemId.{ItemId}
use Rattle.sfx_ids.specs.ItemId.{creation_of}
use Rattle.sfx_vector.specs.Clocks.{Clocks, tick_of}
use Rattle.sfx_knowledge.specs.Knowledge.{Known, tick_at}
use Rattle.sfx_knowledge.specs.Forgotten.{Forgets, fvec}
use Rattle.sfx_knowledge.specs.Forms.{listed_in}
use Rattle.sfx_model.specs.declared.unit_class.UnitClass.{UnitClass}
use Rattle.sfx_model.specs.declared.unit_class.UnitClass.TheVariants as unit_classes
use Rattle.sfx_model.specs.declared.unit_class.UnitClass.TheVariants.{Newer, Concurrent}
use Rattle.sfx_model.specs.declared.absent.Absent.{Absent}
use Rattle.sfx_model.specs.declared.absent.Absent.TheVariants.{Keep, Drop, Conflict}
use Rattle.sfx_item.specs.Item.{ItemState, Live, Dead, ItemData}
use Rattle.sfx_model.specs.members.Readings.{knows_version, is_unseen_at, is_unseen}
use Rattle.sfx_model.specs.world.Units.{each_unit, every_unit}

-- The class of a change of an item.
pub data ClassData : Type 0 where
  -- the destination knows the change at every unit
  AllKnown : ClassData
  -- the change comes as it is
  TakeWhole : ClassData
  -- the item is live on both sides, and each unit has a class of its own
  Units : (classes : List UnitClass) → ClassData
  -- neither side's state of the item knew the other's
  WholeConflict : ClassData

-- The vector is within the knowledge of the unit at the place.
abbrev pub is_within : Clocks → Known → Cut → ℕ → Bool
is_within clocks known place u = list_all (λ r. nat_le (tick_of clocks r) (tick_at known place u r)) (listed_in clocks)

-- The deletions forgotten at the item are within the knowledge of it, at every unit.
abbrev pub is_forgotten_within : ℕ → Forgets → Known → ItemId → Bool
is_forgotten_within units forgotten known i = every_unit (is_within (fvec forgotten (At i)) known (At i)) units

-- The class of a unit that is live on both sides: known here, else newer where the source knew the
-- version here, else concurrent.
abbrev pub unit_class : Known → Known → ItemId → ItemState → ItemState → ℕ → UnitClass
unit_class known made_with i seen here u =
    if is_unseen_at known i seen u then (if is_unseen_at made_with i here u then Concurrent else Newer) else unit_classes.Known

-- The class of a change of an item that the destination does not have: it is taken where it is new here,
-- and where the source knew the deletions that were forgotten here.
abbrev pub absent_change : ℕ → Known → Known → Forgets → ItemId → ClassData
absent_change units known made_with forgotten i =
    if knows_version known i 0 (creation_of i) then
    (if is_forgotten_within units forgotten made_with i then TakeWhole else WholeConflict)
    else TakeWhole

-- The class of a change as a whole: it is taken where the source knew the item's state here.
abbrev pub whole_change : ℕ → Known → ItemData → ClassData
whole_change units made_with local = if is_unseen units made_with local then WholeConflict else TakeWhole

-- The class of a change of an item that the destination has: unit by unit where it is live on both sides,
-- and else as a whole.
abbrev pub present_change : ℕ → Known → Known → ItemId → ItemState → ItemState → ClassData
present_change units known made_with i (Live cells) (Live own) = Units (each_unit units (unit_class known made_with i (Live cells) (Live own)))
present_change units known made_with i (Live cells) (Dead v) = whole_change units made_with (record { id = i; state = Dead v })
present_change units known made_with i (Dead v) here = whole_change units made_with (record { id = i; state = here })

-- The class of a change that the destination does not know, by the state of the item there.
abbrev pub unknown_change : ℕ → Known → Known → Forgets → ItemData → Option ItemState → ClassData
unknown_change units known made_with forgotten change None = absent_change units known made_with forgotten change.id
unknown_change units known made_with forgotten change (Some here) = present_change units known made_with change.id change.state here

-- The class of a change.
unfoldable pub class_of : ℕ → Known → Known → Forgets → ItemData → Option ItemState → ClassData
class_of units known made_with forgotten change here =
    if is_unseen units known change then unknown_change units known made_with forgotten change here else AllKnown

-- What becomes of an item of the destination that the source does not list, with the source's forgotten
-- deletions: it stays where these are known here; it goes where the source knew it; it stays where the
-- source never had it; and else both sides are in conflict.
unfoldable pub absent_class_of : ℕ → Known → Known → Forgets → ItemData → Absent
absent_class_of units known made_with forgotten local =
    if is_forgotten_within units forgotten known local.id then Keep
    else (if is_unseen units made_with local then
    (if knows_version made_with local.id 0 (creation_of local.id) then Conflict else Keep)
    else Drop)
