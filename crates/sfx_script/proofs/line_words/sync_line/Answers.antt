use Rattle.std.proofs.Common.{sym}
use Rattle.std.proofs.lemmas.Result.{err_from_is_err_and}
use Rattle.sfx_script.proofs.ReadingFaults.{answers_fault}
use Rattle.sfx_script.proofs.line_words.sync_line.Goals as goal

pub returns-in_err-clash : goal.returns-in_err-clash
returns-in_err-clash c =
    let exit = err_from_is_err_and c.from_residual-in_err-clash.result c.from_residual-in_err-clash.ensures.1 in
    rw (c.in_ok-source.ensures, c.in_ok-destination.ensures, c.in_ok-keep.ensures) (answers_fault c.from_residual-in_err-clash.result exit.0 c.in_err-clash.field-0.0 _ _ exit.1 (sym exit.2) c.in_err-clash.ensures)

pub returns-in_err-source : goal.returns-in_err-source
returns-in_err-source c =
    let exit = err_from_is_err_and c.from_residual.result c.from_residual.ensures.1 in
    answers_fault c.from_residual.result exit.0 c.in_err-source.field-0.0 _ _ exit.1 (sym exit.2) c.in_err-source.ensures

pub returns-in_err-destination : goal.returns-in_err-destination
returns-in_err-destination c =
    let exit = err_from_is_err_and c.from_residual-in_err-destination.result c.from_residual-in_err-destination.ensures.1 in
    rw c.in_ok-source.ensures (answers_fault c.from_residual-in_err-destination.result exit.0 c.in_err-destination.field-0.0 _ _ exit.1 (sym exit.2) c.in_err-destination.ensures)

pub returns-in_err-keep : goal.returns-in_err-keep
returns-in_err-keep c =
    let exit = err_from_is_err_and c.from_residual-in_err-keep.result c.from_residual-in_err-keep.ensures.1 in
    rw (c.in_ok-source.ensures, c.in_ok-destination.ensures) (answers_fault c.from_residual-in_err-keep.result exit.0 c.in_err-keep.field-0.0 _ _ exit.1 (sym exit.2) c.in_err-keep.ensures)
