use Rattle.sfx_knowledge.proofs.SegmentStarts.{MostUpTo}
use Rattle.sfx_knowledge.proofs.knowledge.Knowledge.most.Given as goal

abbrev pub invariant-loop-i : goal.invariant-loop-i
invariant-loop-i g l = MostUpTo g.row.U l.i l.self l.id l.most
