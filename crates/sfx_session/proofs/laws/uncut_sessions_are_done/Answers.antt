use Rattle.std.proofs.Common.{None, refl}
use Rattle.sfx_session.proofs.NoTickDrawn.{session_done}
use Rattle.sfx_session.proofs.laws.uncut_sessions_are_done.Goals as goal

pub returns : goal.returns
returns c = λ units source destination rules size skip. session_done rules skip units source destination size None refl
