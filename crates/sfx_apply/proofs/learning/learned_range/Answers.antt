use Rattle.sfx_model.specs.sessions.Session.{lefts}
use Rattle.sfx_apply.proofs.LearnedForms.{learned_ok}
use Rattle.sfx_apply.proofs.learning.learned_range.Goals as goal

pub returns : goal.returns
returns g c =
    learned_ok c.learn.result g.row.U c.args.lo.now c.args.hi.now c.in_ok-left.left (lefts c.args.entries.now)
    c.args.known.now c.args.made_with.now c.requires.some c.requires.known c.requires.made_with c.in_ok-left.ensures
    c.learn.ensures.ticks c.learn.ensures.form
