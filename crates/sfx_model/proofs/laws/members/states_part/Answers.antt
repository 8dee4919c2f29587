use Rattle.sfx_model.proofs.members.StatesPart.{split_state, both_state, known_member, forgotten_member, named_has_member}
use Rattle.sfx_model.proofs.laws.members.states_part.Goals as goal

pub returns-clause-split : goal.returns-clause-split
returns-clause-split c = split_state

pub returns-clause-joined : goal.returns-clause-joined
returns-clause-joined c = both_state

pub returns-clause-known : goal.returns-clause-known
returns-clause-known c = known_member

pub returns-clause-forgotten : goal.returns-clause-forgotten
returns-clause-forgotten c = forgotten_member

pub returns-clause-named : goal.returns-clause-named
returns-clause-named c = named_has_member
