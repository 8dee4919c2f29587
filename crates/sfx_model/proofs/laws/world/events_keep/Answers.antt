use Rattle.sfx_model.proofs.world.WrongWorldsRefused.{empty_well_formed}
use Rattle.sfx_model.proofs.world.EventsKeepWorld.{event_keeps, events_keep, deeds_keep}
use Rattle.sfx_model.proofs.laws.world.events_keep.Goals as goal

pub returns-clause-empty : goal.returns-clause-empty
returns-clause-empty c = empty_well_formed

pub returns-clause-one : goal.returns-clause-one
returns-clause-one c = event_keeps

pub returns-clause-all : goal.returns-clause-all
returns-clause-all c = events_keep

pub returns-clause-deeds : goal.returns-clause-deeds
returns-clause-deeds c = deeds_keep
