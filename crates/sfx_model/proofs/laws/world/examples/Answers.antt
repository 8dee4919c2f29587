use Rattle.sfx_model.proofs.world.WrongWorldsRefused.{gap_refused, fork_refused, lost_refused, twice_refused, other_count, three_units}
use Rattle.std.proofs.Common.{inl, inr, refl}
use Rattle.sfx_model.proofs.world.ExampleIsWellFormed.{edit_accepted, cleanup_accepted}
use Rattle.sfx_model.proofs.laws.world.examples.Goals as goal

pub returns-clause-edit : goal.returns-clause-edit
returns-clause-edit c = edit_accepted

pub returns-clause-cleanup : goal.returns-clause-cleanup
returns-clause-cleanup c = cleanup_accepted

pub returns-clause-gap : goal.returns-clause-gap
returns-clause-gap c = gap_refused

pub returns-clause-fork : goal.returns-clause-fork
returns-clause-fork c = fork_refused

pub returns-clause-lost : goal.returns-clause-lost
returns-clause-lost c = lost_refused

pub returns-clause-twice : goal.returns-clause-twice
returns-clause-twice c = twice_refused

pub returns-clause-again : goal.returns-clause-again
returns-clause-again c = record { count = inr (inl refl); said = inr refl }

pub returns-clause-recount : goal.returns-clause-recount
returns-clause-recount c legal = other_count legal

pub returns-clause-three : goal.returns-clause-three
returns-clause-three c legal = three_units legal

pub returns-clause-twins : goal.returns-clause-twins
returns-clause-twins c w stands = stands.apart.0 _ (inl refl) refl
