-- The class of a change as plain data.
use Rattle.std.specs.Prelude.{ℕ}
use Rattle.sfx_model.specs.sessions.Class.{ClassData, AllKnown, TakeWhole, Units, WholeConflict}
use Rattle.sfx_settle.specs.declared.class.Class.{Class}
use Rattle.sfx_settle.specs.declared.class.Class.TheVariants as change_classes
use Rattle.sfx_settle.specs.declared.class.Class.TheVariants.{Known}

abbrev pub class_view : {U : ℕ} → Class U → ClassData
class_view Known = AllKnown
class_view change_classes.TakeWhole = TakeWhole
class_view (change_classes.Units classes) = Units classes
class_view change_classes.WholeConflict = WholeConflict
