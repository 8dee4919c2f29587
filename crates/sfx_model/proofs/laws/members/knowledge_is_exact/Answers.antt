use Rattle.sfx_model.proofs.members.FactsHold.{knowledge_exact, equal_live, deletions_respected, facts_hold}
use Rattle.sfx_model.proofs.laws.members.knowledge_is_exact.Goals as goal

pub returns-clause-exact : goal.returns-clause-exact
returns-clause-exact c = knowledge_exact

pub returns-clause-same : goal.returns-clause-same
returns-clause-same c = equal_live

pub returns-clause-deletions : goal.returns-clause-deletions
returns-clause-deletions c = deletions_respected

pub returns-clause-community : goal.returns-clause-community
returns-clause-community c = facts_hold
