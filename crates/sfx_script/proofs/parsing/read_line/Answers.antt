use Rattle.std.proofs.Common.{subst, sym}
use Rattle.std.proofs.lemmas.Result.{err_from_is_err_and}
use Rattle.sfx_script.specs.Reading.{Fails, next_word}
use Rattle.sfx_script.proofs.ReadingFaults.{answers_fault}
use Rattle.sfx_script.proofs.parsing.read_line.Goals as goal

pub returns-in_err-first : goal.returns-in_err-first
returns-in_err-first c =
    let exit = err_from_is_err_and c.from_residual.result c.from_residual.ensures.1 in
    let fails = subst (λ ws. Fails c.in_err-first.field-0.0 (next_word ws)) c.new-words.ensures c.in_err-first.ensures.err in
    answers_fault c.from_residual.result exit.0 c.in_err-first.field-0.0 _ _ exit.1 (sym exit.2) fails
