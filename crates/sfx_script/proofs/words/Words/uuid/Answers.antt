use Rattle.std.proofs.Common.{sym}
use Rattle.std.proofs.lemmas.Result.{err_from_is_err_and}
use Rattle.sfx_script.proofs.ReadingFaults.{gives_fault}
use Rattle.sfx_script.proofs.words.Words.uuid.Goals as goal

pub returns-in_err-word : goal.returns-in_err-word
returns-in_err-word c =
    let exit = err_from_is_err_and c.from_residual.result c.from_residual.ensures.1 in
    gives_fault c.from_residual.result exit.0 c.in_err-word.field-0.0 c.word.new.self _ _ exit.1 (sym exit.2) c.in_err-word.ensures.err
