use Rattle.std.proofs.Common.{ap, arith, refl, sym, ◌∙◌}
use Rattle.std.proofs.lemmas.Result.{err_from_is_err_and}
use Rattle.sfx_script.proofs.VectorTexts.{entries_first, entries_on}
use Rattle.sfx_script.proofs.printed.write_vector.Goals as goal
use Rattle.sfx_script.proofs.printed.write_vector.Goals.{then-i-gt0+in_ok-push-2, else-i-gt0}

pub loop-i-preserved : goal.loop-i-preserved
loop-i-preserved c = elim c.if-i-gt0.branch [
  | then-i-gt0+in_ok-push-2 w ↦
      let before = ap (λ t. t.items) w.text-is ∙ w.in_ok-push-2.ensures.items in
      rw (c.in_ok-write_entry.ensures, before, c.loop-i.invariant) (sym (entries_on c.args.v.now c.loop-i.i c.entry.result (omega (arith, w.if-i-gt0.true)) c.entry.ensures))
  | else-i-gt0 w ↦
      let before = ap (λ t. t.items) w.text-is in
      rw (c.in_ok-write_entry.ensures, before, c.loop-i.invariant) (sym (entries_first c.args.v.now c.loop-i.i c.entry.result (omega (arith, w.if-i-gt0.false)) c.entry.ensures))
]

pub returns-in_err-push : goal.returns-in_err-push
returns-in_err-push c =
    let (fault, is, same) = err_from_is_err_and c.from_residual.result c.from_residual.ensures.1 in
    record { ok = rw is tt; err = rw is c.in_err-push.ensures.items }

pub returns-in_err-push-2 : goal.returns-in_err-push-2
returns-in_err-push-2 c =
    let (fault, is, same) = err_from_is_err_and c.from_residual-in_err-push-2.result c.from_residual-in_err-push-2.ensures.1 in
    record { ok = rw is tt; err = rw is refl }

pub returns-in_err-write_entry : goal.returns-in_err-write_entry
returns-in_err-write_entry c =
    let (fault, is, same) = err_from_is_err_and c.from_residual-in_err-write_entry.result c.from_residual-in_err-write_entry.ensures.1 in
    record { ok = rw is tt; err = rw is refl }

pub returns-in_err-extend_from_slice : goal.returns-in_err-extend_from_slice
returns-in_err-extend_from_slice c =
    let (fault, is, same) = err_from_is_err_and c.from_residual-in_err-extend_from_slice.result c.from_residual-in_err-extend_from_slice.ensures.1 in
    record { ok = rw is tt; err = rw is c.in_err-extend_from_slice.ensures.items }
