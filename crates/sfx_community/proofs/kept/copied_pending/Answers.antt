use Rattle.std.proofs.Common.{◌++◌, ◌∷◌, [], take, ap, sym, ◌∙◌}
use Rattle.std.proofs.lemmas.List.{take_all, take_more}
use Rattle.sfx_provider.proofs.AnswerLemmas.{if_ok_never}
use Rattle.sfx_community.proofs.kept.copied_pending.Goals as goal

pub loop-file-preserved : goal.loop-file-preserved
loop-file-preserved c =
    let files = c.args.pending.now in
    let i = c.loop-file.file-index in
    let x = c.file-item.result in
    c.in_ok-push_copy.ensures ∙ ap (λ xs. xs ++ x ∷ []) c.loop-file.invariant ∙ ap (λ y. take i files ++ y ∷ []) c.file-item.is
    ∙ sym (take_more files i x c.loop-file-test.true)

pub returns-in_err-copied : goal.returns-in_err-copied
returns-in_err-copied c = if_ok_never _ _ c.from_residual.result c.from_residual.ensures.1

pub returns-in_err-push_copy : goal.returns-in_err-push_copy
returns-in_err-push_copy c = if_ok_never _ _ c.from_residual-in_err-push_copy.result c.from_residual-in_err-push_copy.ensures.1

pub returns : goal.returns
returns c = c.loop-file.invariant ∙ take_all c.loop-file.file-index c.args.pending.now c.loop-file-test.false
