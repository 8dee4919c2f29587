use Rattle.std.proofs.Common.{sym}
use Rattle.std.proofs.lemmas.Result.{err_from_is_err_and}
use Rattle.sfx_script.proofs.ReadingFaults.{answers_fault}
use Rattle.sfx_script.proofs.line_words.delete_line.Goals as goal

pub returns-in_err-item : goal.returns-in_err-item
returns-in_err-item c =
    let exit = err_from_is_err_and c.from_residual-in_err-item.result c.from_residual-in_err-item.ensures.1 in
    rw c.in_ok-replica.ensures (answers_fault c.from_residual-in_err-item.result exit.0 c.in_err-item.field-0.0 _ _ exit.1 (sym exit.2) c.in_err-item.ensures)

pub returns-in_err-replica : goal.returns-in_err-replica
returns-in_err-replica c =
    let exit = err_from_is_err_and c.from_residual.result c.from_residual.ensures.1 in
    answers_fault c.from_residual.result exit.0 c.in_err-replica.field-0.0 _ _ exit.1 (sym exit.2) c.in_err-replica.ensures
