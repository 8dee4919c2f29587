use Rattle.sfx_knowledge.specs.Places.{WithinAt}
use Rattle.sfx_knowledge.proofs.SegmentStarts.{EachUpTo}
use Rattle.sfx_knowledge.proofs.knowledge.Knowledge.within_at_starts.Given as goal

abbrev pub invariant-loop-i : goal.invariant-loop-i
invariant-loop-i g l = EachUpTo l.i l.starts (λ p. WithinAt g.row.U l.self l.other p.0)
