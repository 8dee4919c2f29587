use Rattle.std.proofs.Common.{ℕ, ◌<◌}
use Rattle.sfx_knowledge.proofs.KnowledgeLemmas.{RowIsForm}
use Rattle.sfx_knowledge.proofs.knowledge.rows_in_form.Given as goal

abbrev pub invariant-loop-i : goal.invariant-loop-i
invariant-loop-i g l = (k : ℕ) → k < l.i → RowIsForm g.row.U l.segments k
