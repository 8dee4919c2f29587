use Rattle.sfx_community.proofs.SamenessLemmas.{compared_knowledge}
use Rattle.sfx_community.proofs.comparing.is_all_known.Goals as goal

pub returns : goal.returns
returns g c =
    compared_knowledge g.row.U c.args.replica.now c.args.knowledge.now c.in_ok-all.all c.same-is_same.result c.in_ok-all.ensures.list c.same-is_same.ensures.list
