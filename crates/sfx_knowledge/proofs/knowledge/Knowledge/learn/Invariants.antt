use Rattle.std.proofs.Common.{take}
use Rattle.sfx_knowledge.specs.Knowledge.{IsKnowledge, HasTicks, tick_at, learned_ticks}
use Rattle.sfx_knowledge.proofs.knowledge.Knowledge.learn.Given as goal

abbrev pub invariant-loop-cell : goal.invariant-loop-cell
invariant-loop-cell g l = record {
  form : IsKnowledge g.row.U l.learned;
  ticks : HasTicks g.row.U l.learned (learned_ticks l.lo l.hi (take l.cell-index l.cell-items) (tick_at l.self) (tick_at l.from));
}
