use Rattle.std.proofs.Common.{◌∙◌, ap, max, lit≤}
use Rattle.sfx_model.specs.sessions.MemberKnowledge.{most_known}
use Rattle.sfx_model.specs.members.Members.{Member}
use Rattle.sfx_model.proofs.sessions.NoneIsAhead.{most_known_is}
use Rattle.sfx_replica.proofs.replica.Replica.most_known.Goals as goal

pub most-requires : goal.most-requires
most-requires g c = (lit≤ tt, c.self.invariant.some)

pub returns : goal.returns
returns g c =
    let most = c.most.ensures in
    let vector = c.vector.ensures in
    let is = most_known_is g.row.U c.args.id.now c.most.result c.self.inside.knowledge c.self.inside.forgotten c.vector.result.now
    c.self.invariant.some most.form most.value vector.form vector.value in
    c.max.ensures ∙ (ap (max c.most.result) c.get.ensures ∙ is)
    ∙ ap (λ (m : Member). most_known c.args.id.now m.knowledge m.forgotten) c.self.view_is
