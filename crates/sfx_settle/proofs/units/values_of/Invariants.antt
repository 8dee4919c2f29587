use Rattle.std.proofs.Common.{◌≡◌, map}
use Rattle.std.specs.List.{range_with_len}
use Rattle.sfx_model.specs.declared.unit_class.UnitClass.TheVariants.{Known}
use Rattle.sfx_model.specs.sessions.Draft.{unit_value, value_in}
use Rattle.sfx_model.specs.world.Units.{at_unit}
use Rattle.sfx_settle.specs.Rules.{rules_view}
use Rattle.sfx_settle.proofs.units.values_of.Given as goal

abbrev pub invariant-loop-index : goal.invariant-loop-index
invariant-loop-index g l =
    l.values.items
    ≡ map (λ u. unit_value (rules_view g.M.Merger.meaning l.rules) u (at_unit l.classes u Known) (value_in l.change u) (value_in l.local u))
    (range_with_len 0 l.index)
