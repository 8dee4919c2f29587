use Rattle.sfx_model.proofs.members.ReplicasStand.{others_stand, joined_stands, edit_replica, clean_replica, forget_replica, apply_replica, learn_replica}
use Rattle.sfx_model.proofs.laws.members.members_stand.Goals as goal

pub returns-clause-others : goal.returns-clause-others
returns-clause-others c = others_stand

pub returns-clause-joined : goal.returns-clause-joined
returns-clause-joined c = joined_stands

pub returns-clause-edit : goal.returns-clause-edit
returns-clause-edit c = edit_replica

pub returns-clause-cleaned : goal.returns-clause-cleaned
returns-clause-cleaned c = clean_replica

pub returns-clause-forgot : goal.returns-clause-forgot
returns-clause-forgot c = forget_replica

pub returns-clause-entry : goal.returns-clause-entry
returns-clause-entry c = apply_replica

pub returns-clause-range : goal.returns-clause-range
returns-clause-range c = learn_replica
