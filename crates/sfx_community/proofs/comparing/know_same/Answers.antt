use Rattle.std.proofs.Common.{◌≡◌, IfOk, subst}
use Rattle.sfx_knowledge.specs.Knowledge.{Known}
use Rattle.sfx_community.specs.Sameness.{same_segments}
use Rattle.sfx_model.specs.sessions.MemberKnowledge.{laid_known}
use Rattle.sfx_community.proofs.comparing.know_same.Goals as goal

pub returns : goal.returns
returns g c =
    subst (λ (x : Known). IfOk c.is_all_known.result (λ same. same ≡ same_segments x (laid_known g.row.U c.args.other.now))) c.in_ok-knowledge.ensures.list c.is_all_known.ensures
