use Rattle.sfx_ids.specs.declared.cut.Cut.TheVariants.{After, At}
use Rattle.sfx_model.specs.sessions.Entry.{left_from}
use Rattle.sfx_apply.proofs.LearnedForms.{learned_ok}
use Rattle.sfx_apply.proofs.learning.learned_item.Goals as goal

pub returns : goal.returns
returns g c =
    learned_ok c.learn_item.result g.row.U (At c.args.id.now) (After c.args.id.now) c.in_ok-left.left (left_from c.args.id.now 0 c.args.marks.now)
    c.args.known.now c.args.made_with.now c.requires.some c.requires.known c.requires.made_with c.in_ok-left.ensures
    c.learn_item.ensures.ticks c.learn_item.ensures.form
