use Rattle.std.proofs.Common.{arith}
use Rattle.sfx_model.specs.sessions.Class.{unit_class}
use Rattle.sfx_settle.proofs.UnitTests.{each_more, each_len, unit_is}
use Rattle.sfx_settle.proofs.change.unit_classes.Goals as goal

pub loop-index-preserved : goal.loop-index-preserved
loop-index-preserved g c =
    let f = unit_class c.args.known.now c.args.made_with.now c.args.change.now.id c.args.change.now.state c.args.local.now.state in
    each_more f c.loop-index.classes.items c.push.new.self.items c.loop-index.index _ c.unit_class.result
    c.loop-index.invariant c.in_ok-push.ensures.items c.unit_class.ensures
    (unit_is c.new.result c.unwrap-unit.result c.loop-index.index c.new.ensures.value c.unwrap-unit.ensures)

pub of-requires : goal.of-requires
of-requires g c =
    let f = unit_class c.args.known.now c.args.made_with.now c.args.change.now.id c.args.change.now.state c.args.local.now.state in
    (omega arith, each_len f c.loop-index.classes.items c.loop-index.index g.row.U c.loop-index.invariant c.loop-index.auto.index-end c.loop-index-test.false)
