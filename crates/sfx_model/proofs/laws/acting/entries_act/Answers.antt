use Rattle.sfx_model.proofs.sessions.EntriesAct.{change_acts, unlisted_acts, entry_learns}
use Rattle.sfx_model.proofs.laws.acting.entries_act.Goals as goal

pub returns-clause-change : goal.returns-clause-change
returns-clause-change c = change_acts

pub returns-clause-unlisted : goal.returns-clause-unlisted
returns-clause-unlisted c = unlisted_acts

pub returns-clause-learned : goal.returns-clause-learned
returns-clause-learned c = entry_learns
