use Rattle.std.proofs.Common.{◌++◌, ◌∷◌, [], take, ap, sym, ◌∙◌}
use Rattle.std.proofs.lemmas.List.{take_all, take_more}
use Rattle.sfx_provider.proofs.AnswerLemmas.{if_ok_never}
use Rattle.sfx_session.proofs.report.copied_steps.Goals as goal

pub loop-step-preserved : goal.loop-step-preserved
loop-step-preserved g c =
    let steps = c.args.steps.now in
    let i = c.loop-step.step-index in
    let x = c.step-item.result in
    c.in_ok-push_copy.ensures ∙ ap (λ xs. xs ++ x ∷ []) c.loop-step.invariant ∙ ap (λ y. take i steps ++ y ∷ []) c.step-item.is
    ∙ sym (take_more steps i x c.loop-step-test.true)

pub returns-in_err-copied : goal.returns-in_err-copied
returns-in_err-copied g c = if_ok_never _ _ c.from_residual.result c.from_residual.ensures.1

pub returns-in_err-push_copy : goal.returns-in_err-push_copy
returns-in_err-push_copy g c = if_ok_never _ _ c.from_residual-in_err-push_copy.result c.from_residual-in_err-push_copy.ensures.1

pub returns : goal.returns
returns g c = c.loop-step.invariant ∙ take_all c.loop-step.step-index c.args.steps.now c.loop-step-test.false
