use Rattle.std.proofs.Common.{sym}
use Rattle.std.proofs.lemmas.Result.{err_from_is_err_and}
use Rattle.sfx_script.proofs.ReadingFaults.{answers_fault}
use Rattle.sfx_script.proofs.line_words.files_line.Goals as goal

pub returns-in_err-name : goal.returns-in_err-name
returns-in_err-name c =
    let exit = err_from_is_err_and c.from_residual.result c.from_residual.ensures.1 in
    (answers_fault c.from_residual.result exit.0 c.in_err-name.field-0.0 _ _ exit.1 (sym exit.2) c.in_err-name.ensures)

pub returns-in_err-id : goal.returns-in_err-id
returns-in_err-id c =
    let exit = err_from_is_err_and c.from_residual-in_err-id.result c.from_residual-in_err-id.ensures.1 in
    rw c.in_ok-name.ensures (answers_fault c.from_residual-in_err-id.result exit.0 c.in_err-id.field-0.0 _ _ exit.1 (sym exit.2) c.in_err-id.ensures)
