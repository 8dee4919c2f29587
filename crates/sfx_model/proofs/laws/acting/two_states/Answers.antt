use Rattle.sfx_model.specs.members.StandsIn.{together}
use Rattle.sfx_model.specs.sessions.TwoStates.{first_state, second_state, two_world}
use Rattle.sfx_model.proofs.members.FactsHold.{facts_hold}
use Rattle.sfx_model.proofs.sessions.TwoStates.{second_legal, two_well_formed, first_stands, second_stands, both_stand, not_whole}
use Rattle.sfx_model.proofs.laws.acting.two_states.Goals as goal

pub returns-clause-legal : goal.returns-clause-legal
returns-clause-legal c = second_legal

pub returns-clause-first : goal.returns-clause-first
returns-clause-first c = first_stands

pub returns-clause-second : goal.returns-clause-second
returns-clause-second c = second_stands

pub returns-clause-both : goal.returns-clause-both
returns-clause-both c = both_stand

pub returns-clause-facts : goal.returns-clause-facts
returns-clause-facts c = facts_hold two_world (together first_state second_state) two_well_formed both_stand

pub returns-clause-elsewhere : goal.returns-clause-elsewhere
returns-clause-elsewhere c = not_whole
