use Rattle.std.proofs.Common.{◌∙◌, ap, arith, length}
use Rattle.std.proofs.lemmas.List.{length-map}
use Rattle.std.proofs.lemmas.Result.{err_from_is_err_and}
use Rattle.sfx_model.specs.sessions.Draft.{unit_mark}
use Rattle.sfx_settle.proofs.StandardFacts.{mapped_all, mapped_more}
use Rattle.sfx_settle.proofs.units.marks_of.Goals as goal

pub returns-in_err-marks : goal.returns-in_err-marks
returns-in_err-marks g c =
    let (fault, is, same) = err_from_is_err_and c.from_residual.result c.from_residual.ensures.1 in
    rw is tt

pub loop-class-init : goal.loop-class-init
loop-class-init g c = c.in_ok-marks.ensures.items

pub loop-class-preserved : goal.loop-class-preserved
loop-class-preserved g c =
    mapped_more (unit_mark c.args.keep) c.as_slice-class-items.result.now c.loop-class.class-index _ c.loop-class.marks.items c.push.new.self.items c.mark_of.result
    c.loop-class-test.true c.loop-class.invariant c.in_ok-push.ensures.items c.mark_of.ensures

pub returns-in_err-push : goal.returns-in_err-push
returns-in_err-push g c =
    let (fault, is, same) = err_from_is_err_and c.from_residual-in_err-push.result c.from_residual-in_err-push.ensures.1 in
    rw is tt

pub of-requires : goal.of-requires
of-requires g c =
    let all = mapped_all (unit_mark c.args.keep) c.as_slice-class-items.result.now c.args.classes.now c.loop-class.class-index c.loop-class.marks.items
    c.loop-class-test.false c.loop-class.invariant c.as_slice-class-items.ensures.value in
    (omega arith, ap length all ∙ length-map c.args.classes.now (unit_mark c.args.keep) ∙ c.as_slice-class-items.ensures.whole)

pub returns : goal.returns
returns g c =
    c.of.ensures
    ∙ mapped_all (unit_mark c.args.keep) c.as_slice-class-items.result.now c.args.classes.now c.loop-class.class-index c.loop-class.marks.items
    c.loop-class-test.false c.loop-class.invariant c.as_slice-class-items.ensures.value
