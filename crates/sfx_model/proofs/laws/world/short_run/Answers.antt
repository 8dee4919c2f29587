use Rattle.sfx_model.proofs.members.FactsHold.{facts_hold}
use Rattle.sfx_model.proofs.members.ShortRun.{run_legal, run_records_are, run_stands, run_well_formed}
use Rattle.sfx_model.specs.members.Examples.{run_community, run_world}
use Rattle.sfx_model.proofs.laws.world.short_run.Goals as goal

pub returns-clause-legal : goal.returns-clause-legal
returns-clause-legal c = run_legal

pub returns-clause-records : goal.returns-clause-records
returns-clause-records c = run_records_are

pub returns-clause-state : goal.returns-clause-state
returns-clause-state c = run_stands

pub returns-clause-facts : goal.returns-clause-facts
returns-clause-facts c = facts_hold run_world run_community run_well_formed run_stands
