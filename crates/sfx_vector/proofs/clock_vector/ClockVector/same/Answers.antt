use Rattle.std.proofs.lemmas.Slice.Eq.{slice_eq-Decides}
use Rattle.sfx_vector.proofs.ClocksLemmas.{pair-Decides}
use Rattle.sfx_vector.proofs.clock_vector.ClockVector.same.Goals as goal

pub returns : goal.returns
returns c = rw (← c.self.view_is, ← c.other.view_is) (slice_eq-Decides pair-Decides _ _ c.eq.result c.eq.ensures)
