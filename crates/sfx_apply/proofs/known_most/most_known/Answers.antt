use Rattle.std.proofs.Common.{◌∙◌, ap, max}
use Rattle.sfx_model.proofs.sessions.NoneIsAhead.{most_known_is}
use Rattle.sfx_apply.proofs.known_most.most_known.Goals as goal

pub returns : goal.returns
returns g c =
    let most = c.most.ensures in
    let vector = c.vector.ensures in
    let is = most_known_is g.row.U c.args.id.now c.most.result c.args.known.now c.args.forgotten.now c.vector.result.now c.requires most.form most.value vector.form vector.value in
    c.max.ensures ∙ (ap (max c.most.result) c.get.ensures ∙ is)
