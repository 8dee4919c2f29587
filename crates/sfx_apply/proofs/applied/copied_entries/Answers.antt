use Rattle.std.proofs.Common.{◌++◌, ◌∷◌, [], take, ap, sym, ◌∙◌}
use Rattle.std.proofs.lemmas.List.{take_all, take_more}
use Rattle.sfx_provider.proofs.AnswerLemmas.{if_ok_never}
use Rattle.sfx_apply.proofs.applied.copied_entries.Goals as goal

pub loop-entry-preserved : goal.loop-entry-preserved
loop-entry-preserved g c =
    let entries = c.args.entries.now in
    let i = c.loop-entry.entry-index in
    let x = c.entry-item.result in
    c.in_ok-push_copy.ensures ∙ ap (λ xs. xs ++ x ∷ []) c.loop-entry.invariant ∙ ap (λ y. take i entries ++ y ∷ []) c.entry-item.is
    ∙ sym (take_more entries i x c.loop-entry-test.true)

pub returns-in_err-copied : goal.returns-in_err-copied
returns-in_err-copied g c = if_ok_never _ _ c.from_residual.result c.from_residual.ensures.1

pub returns-in_err-push_copy : goal.returns-in_err-push_copy
returns-in_err-push_copy g c = if_ok_never _ _ c.from_residual-in_err-push_copy.result c.from_residual-in_err-push_copy.ensures.1

pub returns : goal.returns
returns g c = c.loop-entry.invariant ∙ take_all c.loop-entry.entry-index c.args.entries.now c.loop-entry-test.false
