use Rattle.std.proofs.Common.{◌++◌, ◌∷◌, [], take, ap, sym, ◌∙◌}
use Rattle.std.proofs.lemmas.List.{take_all, take_more}
use Rattle.sfx_provider.proofs.AnswerLemmas.{if_ok_never}
use Rattle.sfx_apply.proofs.entry.copied_others.Goals as goal

pub loop-other-preserved : goal.loop-other-preserved
loop-other-preserved c =
    let others = c.args.others.now in
    let i = c.loop-other.other-index in
    let x = c.other-item.result in
    c.in_ok-push_copy.ensures ∙ ap (λ xs. xs ++ x ∷ []) c.loop-other.invariant ∙ ap (λ y. take i others ++ y ∷ []) c.other-item.is
    ∙ sym (take_more others i x c.loop-other-test.true)

pub returns-in_err-copied : goal.returns-in_err-copied
returns-in_err-copied c = if_ok_never _ _ c.from_residual.result c.from_residual.ensures.1

pub returns-in_err-push_copy : goal.returns-in_err-push_copy
returns-in_err-push_copy c = if_ok_never _ _ c.from_residual-in_err-push_copy.result c.from_residual-in_err-push_copy.ensures.1

pub returns : goal.returns
returns c = c.loop-other.invariant ∙ take_all c.loop-other.other-index c.args.others.now c.loop-other-test.false
