use Rattle.sfx_model.proofs.sessions.SessionsAct.{whole_session_acts, session_state}
use Rattle.sfx_model.proofs.laws.acting.sessions_act.Goals as goal

pub returns-clause-session : goal.returns-clause-session
returns-clause-session c = whole_session_acts

pub returns-clause-state : goal.returns-clause-state
returns-clause-state c = session_state
