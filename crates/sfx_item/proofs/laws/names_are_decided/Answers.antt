use Rattle.sfx_item.proofs.NamesAreDecided.{wrong_decided, fault_decided, name_decided, clash_decided, clash_symmetric}
use Rattle.sfx_item.proofs.laws.names_are_decided.Goals as goal

pub returns-clause-wrong : goal.returns-clause-wrong
returns-clause-wrong c = wrong_decided

pub returns-clause-fault : goal.returns-clause-fault
returns-clause-fault c = fault_decided

pub returns-clause-name : goal.returns-clause-name
returns-clause-name c = name_decided

pub returns-clause-clash : goal.returns-clause-clash
returns-clause-clash c = clash_decided

pub returns-clause-symmetric : goal.returns-clause-symmetric
returns-clause-symmetric c = clash_symmetric
