-- What an entry is to do with its item, before it is known whether a name clashes: `seen` is the state of
-- the item at the source and `here` at the destination, none where it is absent or was cleaned away.
use Rattle.std.specs.Prelude.{ℕ, Bool, true, false, if◌then◌else◌, List, [], map, replicate, Option, Some, None, slice_get}
use Rattle.std.specs.List.{list_all}
use Rattle.std.specs.Option.{option_or, option_map_or}
use Rattle.sfx_item.specs.declared.cell.Cell.{Cell}
use Rattle.sfx_model.specs.declared.keep.Keep.{Keep}
use Rattle.sfx_model.specs.declared.keep.Keep.TheVariants.{Source, Destination, Merge, Skip}
use Rattle.sfx_model.specs.declared.mark.Mark.{Mark}
use Rattle.sfx_model.specs.declared.mark.Mark.TheVariants.{Stays, Taken, Stamped, Left, Gone}
use Rattle.sfx_model.specs.declared.unit_class.UnitClass.{UnitClass}
use Rattle.sfx_model.specs.declared.unit_class.UnitClass.TheVariants.{Known, Newer, Concurrent}
use Rattle.sfx_model.specs.declared.absent.Absent.{Absent}
use Rattle.sfx_model.specs.declared.absent.Absent.TheVariants as absents
use Rattle.sfx_model.specs.declared.absent.Absent.TheVariants.{Conflict}
use Rattle.sfx_item.specs.Item.{ItemState, Live, Dead}
use Rattle.sfx_model.specs.sessions.Class.{ClassData, AllKnown, TakeWhole, Units, WholeConflict}
use Rattle.sfx_model.specs.sessions.Rules.{RulesData}
use Rattle.sfx_model.specs.world.Units.{each_unit, at_unit}

-- A mark for each unit, and the values of a live result; none where the result is no live item, and where
-- the item stays as it is.
pub record DraftData : Type 0 where
  pub marks : List Mark
  pub values : Option (List (List ℕ))

-- The cells of a live item; none of another.
abbrev pub cells_of : Option ItemState → List Cell
cells_of None = []
cells_of (Some (Live cells)) = cells
cells_of (Some (Dead v)) = []

-- The values of a live item.
abbrev pub values_of : Option ItemState → Option (List (List ℕ))
values_of None = None
values_of (Some (Live cells)) = Some (map (λ c. c.value) cells)
values_of (Some (Dead v)) = None

-- The value that the cells have of the unit.
abbrev pub value_in : List Cell → ℕ → List ℕ
value_in cells u = option_map_or (λ c. c.value) (slice_get cells u) []

-- Every unit has this mark, and these are the values.
abbrev pub all_marked : ℕ → Mark → Option (List (List ℕ)) → DraftData
all_marked units mark values = record { marks = replicate units mark; values = values }

-- Every unit is left alone.
abbrev pub all_left : ℕ → DraftData
all_left units = all_marked units Left None

-- A conflict of all units: they get the content of the source or of the destination, where there is none
-- the deletion; the live one where they are merged; or they are left alone.
abbrev pub whole_draft : ℕ → Keep → Option ItemState → Option ItemState → DraftData
whole_draft units Source seen here = all_marked units Stamped (values_of seen)
whole_draft units Destination seen here = all_marked units Stamped (values_of here)
whole_draft units Merge seen here = all_marked units Stamped (option_or (values_of seen) (values_of here))
whole_draft units Skip seen here = all_left units

-- The mark of a unit in conflict.
abbrev pub conflict_mark : Keep → Mark
conflict_mark Source = Stamped
conflict_mark Destination = Stamped
conflict_mark Merge = Stamped
conflict_mark Skip = Left

-- The value of a unit in conflict.
abbrev pub conflict_value : Keep → List ℕ → List ℕ → List ℕ → List ℕ
conflict_value Source merged seen here = seen
conflict_value Destination merged seen here = here
conflict_value Merge merged seen here = merged
conflict_value Skip merged seen here = here

-- The mark of a unit of this class.
abbrev pub unit_mark : Keep → UnitClass → Mark
unit_mark keep Known = Stays
unit_mark keep Newer = Taken
unit_mark keep Concurrent = conflict_mark keep

-- The value of a unit of this class.
abbrev pub unit_value : RulesData → ℕ → UnitClass → List ℕ → List ℕ → List ℕ
unit_value rules u Known seen here = here
unit_value rules u Newer seen here = seen
unit_value rules u Concurrent seen here = conflict_value rules.keep (rules.merge u seen here) seen here

-- The unit is left alone.
abbrev pub is_left : Mark → Bool
is_left Stays = false
is_left Taken = false
is_left Stamped = false
is_left Left = true
is_left Gone = false

-- The marks of units of these classes.
abbrev pub unit_marks : Keep → List UnitClass → List Mark
unit_marks keep classes = map (unit_mark keep) classes

-- The values of units of these classes.
abbrev pub unit_values : ℕ → RulesData → List UnitClass → List Cell → List Cell → List (List ℕ)
unit_values units rules classes seen here =
    each_unit units (λ u. unit_value rules u (at_unit classes u Known) (value_in seen u) (value_in here u))

-- An item that is live on both sides, unit by unit.
abbrev pub units_draft : ℕ → RulesData → List UnitClass → List Cell → List Cell → DraftData
units_draft units rules classes seen here = record {
  marks = unit_marks rules.keep classes;
  values =
      if list_all is_left (unit_marks rules.keep classes) then None
      else Some (unit_values units rules classes seen here);
}

-- The draft of a change of this class.
abbrev pub draft_of : ℕ → RulesData → ClassData → Option ItemState → Option ItemState → DraftData
draft_of units rules AllKnown seen here = all_marked units Stays None
draft_of units rules TakeWhole seen here = all_marked units Taken (values_of seen)
draft_of units rules (Units classes) seen here = units_draft units rules classes (cells_of seen) (cells_of here)
draft_of units rules WholeConflict seen here = whole_draft units rules.keep seen here

-- The draft of an item that the source does not list, which this becomes of.
abbrev pub absent_draft : ℕ → Keep → Absent → Option ItemState → DraftData
absent_draft units keep absents.Keep here = all_marked units Stays None
absent_draft units keep absents.Drop here = all_marked units Gone None
absent_draft units keep Conflict here = whole_draft units keep None here
