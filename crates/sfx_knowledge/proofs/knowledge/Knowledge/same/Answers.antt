use Rattle.std.proofs.Common.{refl, subst}
use Rattle.sfx_knowledge.specs.Knowledge.{KnowAlike}
use Rattle.sfx_knowledge.proofs.KnowledgeLemmas.{one_knowledge}
use Rattle.sfx_knowledge.proofs.knowledge.Knowledge.same.Goals as goal

pub returns-clause-alike : goal.returns-clause-alike
returns-clause-alike g c some =
    let units = g.row.U in
    let a = c.args.self.now in (
      λ yes. subst (KnowAlike units a) (c.same_segments.ensures.list.0 yes) (λ q u r place within. refl),
      λ alike. c.same_segments.ensures.list.1 (one_knowledge units a c.args.other.now some c.same_segments.ensures.form c.same_segments.ensures.other_form alike),
    )
