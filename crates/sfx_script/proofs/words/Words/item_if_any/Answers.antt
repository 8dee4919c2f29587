use Rattle.std.proofs.Common.{sym, subst}
use Rattle.std.proofs.lemmas.Result.{err_from_is_err_and}
use Rattle.sfx_script.specs.Reading.{Answers, item_if_any}
use Rattle.sfx_script.proofs.ReadingFaults.{item_behind, item_none, item_off, item_there}
use Rattle.sfx_script.proofs.words.Words.item_if_any.Goals as goal

pub returns-in-None : goal.returns-in-None
returns-in-None c = item_none c.args.self.now.left c.args.self.now.end c.in-None.ensures.word

pub returns-in_err-item-in-Some : goal.returns-in_err-item-in-Some
returns-in_err-item-in-Some c =
    let exit = err_from_is_err_and c.from_residual.result c.from_residual.ensures.1 in
    subst (λ a. Answers a (item_if_any c.args.self.now)) (sym exit.1)
    (item_off c.args.self.now.left c.args.self.now.end exit.0 c.in_err-item-in-Some.field-0.0 _ (sym c.in-Some.ensures.word) (sym exit.2) c.in_err-item-in-Some.ensures)

pub returns-in_err-last-in-Some : goal.returns-in_err-last-in-Some
returns-in_err-last-in-Some c =
    let exit = err_from_is_err_and c.from_residual-in_err-last-in-Some.result c.from_residual-in_err-last-in-Some.ensures.1 in
    subst (λ a. Answers a (item_if_any c.args.self.now)) (sym exit.1)
    (item_behind c.args.self.now.left c.args.self.now.end exit.0 c.in_err-last-in-Some.field-0.0 _ _ _ c.in-Some.ensures.word c.in_ok-item-in-Some.ensures (sym exit.2)
    c.in_err-last-in-Some.ensures)

pub returns-in_ok-last-in-Some : goal.returns-in_ok-last-in-Some
returns-in_ok-last-in-Some c =
    item_there c.args.self.now.left c.args.self.now.end _ _ _ c.in-Some.ensures.word c.in_ok-item-in-Some.ensures c.in_ok-last-in-Some.ensures
