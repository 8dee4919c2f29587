use Rattle.std.proofs.Common.{◌||◌, List, ap, ◌∙◌}
use Rattle.sfx_knowledge.specs.Skips.{is_skipped}
use Rattle.sfx_model.specs.declared.mark.Mark.{Mark}
use Rattle.sfx_model.specs.sessions.Entry.{left_from}
use Rattle.sfx_apply.proofs.LeftUnits.{added_all}
use Rattle.sfx_apply.proofs.marking.add_left.Goals as goal

pub returns : goal.returns
returns g c i u =
    added_all c.args.id.now c.as_slice-mark-items.result.now c.loop-index.index c.loop-index.skips
    (left_from c.args.id.now 0 c.as_slice-mark-items.result.now) c.args.skips.now c.loop-index-test.false c.loop-index.invariant i u
    ∙ ap (λ (marks : List Mark). is_skipped (left_from c.args.id.now 0 marks) i u || is_skipped c.args.skips.now i u) c.as_slice-mark-items.ensures.value
