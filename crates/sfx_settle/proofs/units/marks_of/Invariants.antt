use Rattle.std.proofs.Common.{◌≡◌, map, take}
use Rattle.sfx_model.specs.sessions.Draft.{unit_mark}
use Rattle.sfx_settle.proofs.units.marks_of.Given as goal

abbrev pub invariant-loop-class : goal.invariant-loop-class
invariant-loop-class g l = l.marks.items ≡ map (unit_mark l.keep) (take l.class-index l.class-items)
