use Rattle.std.proofs.Common.{sym, arith, subst, below_more}
use Rattle.sfx_knowledge.specs.Row.{IsClockRow}
use Rattle.sfx_knowledge.proofs.KnowledgeLemmas.{RowIsForm, rows_by_index, row_read}
use Rattle.sfx_knowledge.proofs.knowledge.rows_in_form.Goals as goal

pub loop-i-preserved : goal.loop-i-preserved
loop-i-preserved g c =
    below_more (RowIsForm g.row.U c.args.segments.now) c.loop-i.i c.loop-i.invariant
    (record { form = λ p at. subst (IsClockRow g.row.U) (sym (row_read c.args.segments.now c.loop-i.i p c.value.result.now at c.value.ensures)) c.in_form.ensures })

pub returns : goal.returns
returns g c = record {
  segments = c.len-i-end.ensures.form;
  rows =
      rows_by_index g.row.U c.args.segments.now
      (λ k within. c.loop-i.invariant k (omega (arith, within, c.loop-i-test.false, c.len-i-end.ensures.count)));
}
