use Rattle.sfx_vector.proofs.ClocksLemmas.{same_ticks}
use Rattle.sfx_vector.proofs.laws.ticks_tell_apart.Goals as goal

pub returns : goal.returns
returns c = same_ticks 0
