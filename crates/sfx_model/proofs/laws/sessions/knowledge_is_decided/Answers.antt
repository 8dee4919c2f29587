use Rattle.sfx_model.proofs.sessions.MemberKnowledgeLemmas.{forgotten_within_decided, learned_known_is}
use Rattle.sfx_model.proofs.laws.sessions.knowledge_is_decided.Goals as goal

pub returns-clause-within : goal.returns-clause-within
returns-clause-within c = forgotten_within_decided

pub returns-clause-learned : goal.returns-clause-learned
returns-clause-learned c = learned_known_is
