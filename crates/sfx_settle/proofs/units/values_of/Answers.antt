use Rattle.std.proofs.Common.{ℕ, refl}
use Rattle.sfx_model.specs.declared.unit_class.UnitClass.TheVariants.{Known}
use Rattle.sfx_model.specs.sessions.Draft.{unit_value, value_in}
use Rattle.sfx_model.specs.world.Units.{at_unit}
use Rattle.sfx_settle.specs.Rules.{rules_view}
use Rattle.sfx_settle.proofs.UnitTests.{each_more, unit_is}
use Rattle.sfx_settle.proofs.SettledValues.{value_found}
use Rattle.sfx_settle.proofs.units.values_of.Goals as goal

pub loop-index-preserved : goal.loop-index-preserved
loop-index-preserved g c =
    let rules = rules_view g.M.Merger.meaning c.args.rules.now in
    each_more (λ (u : ℕ). unit_value rules u (at_unit c.args.classes.now u Known) (value_in c.args.change.now u) (value_in c.args.local.now u))
    c.loop-index.values.items c.push.new.self.items c.loop-index.index c.loop-index.index c.in_ok-value_of.field-0
    c.loop-index.invariant c.in_ok-push.ensures.items
    (value_found rules c.loop-index.index c.unwrap-unit.result c.get-class.result c.args.classes.now c.args.change.now c.args.local.now
    c.cell.result.now c.cell-in-loop-index.result.now c.in_ok-value_of.field-0
    (unit_is c.new.result c.unwrap-unit.result c.loop-index.index c.new.ensures.value c.unwrap-unit.ensures)
    c.get-class.ensures.value c.cell.ensures.value c.cell-in-loop-index.ensures.value c.in_ok-value_of.ensures)
    refl
