use Rattle.std.proofs.Common.{◌≡◌, ℕ, ◌-◌, ◌<◌, ◌≤◌, ◌++◌}
use Rattle.sfx_vector.specs.Clocks.{AreClocks}
use Rattle.sfx_knowledge.specs.Forms.{exceptions_of}
use Rattle.sfx_knowledge.proofs.vectors.row_by.Given as goal

abbrev pub invariant-loop-unit : goal.invariant-loop-unit
invariant-loop-unit g l = record {
  left :
      l.others.items ++ exceptions_of (g.V.Vectors.vector l.vectors 0) (g.V.Vectors.vector l.vectors) l.unit (g.row.U - l.unit)
      ≡ exceptions_of (g.V.Vectors.vector l.vectors 0) (g.V.Vectors.vector l.vectors) 1 (g.row.U - 1);
  form : (u : ℕ) → u < l.unit → 1 ≤ u → AreClocks (g.V.Vectors.vector l.vectors u);
}
