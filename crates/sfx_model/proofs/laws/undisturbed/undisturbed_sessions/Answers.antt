use Rattle.sfx_model.proofs.sessions.QuietSessions.{known_made, session_clock, session_ends, session_lefts, session_ticks}
use Rattle.sfx_model.proofs.laws.undisturbed.undisturbed_sessions.Goals as goal

pub returns-clause-nothing_left : goal.returns-clause-nothing_left
returns-clause-nothing_left c = session_lefts

pub returns-clause-nothing_drawn : goal.returns-clause-nothing_drawn
returns-clause-nothing_drawn c = session_clock

pub returns-clause-no_ticks : goal.returns-clause-no_ticks
returns-clause-no_ticks c = session_ticks

pub returns-clause-done : goal.returns-clause-done
returns-clause-done c = session_ends

pub returns-clause-made : goal.returns-clause-made
returns-clause-made c = known_made
