use Rattle.sfx_community.proofs.TurnsHappen.{turns_alone, turns_fit, turns_happen_lem, turns_not_ahead, turns_orderly, turns_whole}
use Rattle.sfx_community.proofs.laws.turns_happen.Goals as goal

pub returns-clause-happen : goal.returns-clause-happen
returns-clause-happen c = turns_happen_lem

pub returns-clause-orderly : goal.returns-clause-orderly
returns-clause-orderly c = turns_orderly

pub returns-clause-alone : goal.returns-clause-alone
returns-clause-alone c = turns_alone

pub returns-clause-not_ahead : goal.returns-clause-not_ahead
returns-clause-not_ahead c = turns_not_ahead

pub returns-clause-fit : goal.returns-clause-fit
returns-clause-fit c = turns_fit

pub returns-clause-whole : goal.returns-clause-whole
returns-clause-whole c = turns_whole
