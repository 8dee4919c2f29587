use Rattle.std.proofs.Common.{◌≤◌, ◌-◌, subst, arith, below_more}
use Rattle.sfx_vector.specs.Clocks.{AreClocks}
use Rattle.sfx_knowledge.specs.Forms.{exceptions_of}
use Rattle.sfx_knowledge.proofs.RowLemmas.{exceptions_more, exceptions_end, IsRow-parts}
use Rattle.sfx_knowledge.proofs.vectors.row_by.Goals as goal

pub loop-unit-preserved : goal.loop-unit-preserved
loop-unit-preserved g c =
    let vector = g.V.Vectors.vector c.args.vectors.now in
    record {
      left =
          exceptions_more c.in_ok-base.base vector c.loop-unit.unit g.row.U c.in_ok-vector.vector c.loop-unit.others.items c.push_other.new.others.items
          (exceptions_of (g.V.Vectors.vector c.args.vectors.now 0) (g.V.Vectors.vector c.args.vectors.now) 1 (g.row.U - 1))
          c.in_ok-base.ensures.value c.in_ok-vector.ensures.value c.loop-unit-test.true c.in_ok-push_other.ensures
          c.loop-unit.invariant.left;
      form =
          below_more (λ u. 1 ≤ u → AreClocks (vector u)) c.loop-unit.unit c.loop-unit.invariant.form
          (λ _. subst AreClocks c.in_ok-vector.ensures.value c.in_ok-vector.ensures.form);
    }

pub of_parts-requires : goal.of_parts-requires
of_parts-requires g c =
    let vector = g.V.Vectors.vector c.args.vectors.now in (
      omega arith,
      (
        omega arith,
        IsRow-parts g.row.U vector c.in_ok-base.base c.loop-unit.others.items c.in_ok-base.ensures.value
            (exceptions_end vector c.loop-unit.unit g.row.U c.loop-unit.others.items c.loop-unit-test.false c.loop-unit.invariant.left)
            c.in_ok-base.ensures.form
            (λ u low high. c.loop-unit.invariant.form u (omega (arith, high, c.loop-unit-test.false)) low),
      ),
    )
