use Rattle.sfx_knowledge.proofs.FormsLemmas.{form-knowledge_of, ticks-knowledge_of, IsKnowledge-with_own, ticks-with_own}
use Rattle.sfx_knowledge.proofs.laws.knowledge_of_ticks.Goals as goal

pub returns : goal.returns
returns c = record {
  form = form-knowledge_of;
  ticks = ticks-knowledge_of;
  own = λ units own tick known form most fits. (
    IsKnowledge-with_own units own tick known form most fits,
    ticks-with_own units own tick known form most fits,
  );
}
