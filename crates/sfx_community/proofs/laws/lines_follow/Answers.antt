use Rattle.sfx_community.proofs.TurnsLemmas.{replies_follow, states_follow}
use Rattle.sfx_community.proofs.laws.lines_follow.Goals as goal

pub returns-clause-replies : goal.returns-clause-replies
returns-clause-replies c = replies_follow

pub returns-clause-state : goal.returns-clause-state
returns-clause-state c = states_follow
