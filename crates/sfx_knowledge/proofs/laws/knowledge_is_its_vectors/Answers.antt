use Rattle.sfx_knowledge.proofs.RowLemmas.{one_row}
use Rattle.sfx_knowledge.proofs.KnowledgeLemmas.{one_knowledge, IsKnowledge-nothing}
use Rattle.sfx_knowledge.proofs.laws.knowledge_is_its_vectors.Goals as goal

pub returns : goal.returns
returns c = record { one_form = one_knowledge; rows = one_row; nothing = IsKnowledge-nothing }
