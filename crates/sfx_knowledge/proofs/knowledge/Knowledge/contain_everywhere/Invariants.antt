use Rattle.sfx_knowledge.specs.Row.{VectorWithin}
use Rattle.sfx_knowledge.proofs.SegmentStarts.{EachUpTo}
use Rattle.sfx_knowledge.proofs.knowledge.Knowledge.contain_everywhere.Given as goal

abbrev pub invariant-loop-i : goal.invariant-loop-i
invariant-loop-i g l = EachUpTo l.i l.self (λ p. VectorWithin g.row.U l.vector p.1)
