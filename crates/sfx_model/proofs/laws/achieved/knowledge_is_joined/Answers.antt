use Rattle.sfx_model.proofs.sessions.EqualKnowledge.{equal_after}
use Rattle.sfx_model.proofs.sessions.KnowledgeGained.{knows_both, knows_form}
use Rattle.sfx_model.proofs.sessions.StaysStill.{stays_still}
use Rattle.sfx_model.proofs.laws.achieved.knowledge_is_joined.Goals as goal

pub returns-clause-joined : goal.returns-clause-joined
returns-clause-joined c units source m rules size cut theirs ours leaves =
    knows_both units source m rules size cut (knows_form units source theirs) (knows_form units m ours) leaves

pub returns-clause-equal : goal.returns-clause-equal
returns-clause-equal c = equal_after

pub returns-clause-still : goal.returns-clause-still
returns-clause-still c = stays_still
