use Rattle.std.proofs.Common.{true≢false, ◌∙◌, sym}
use Rattle.sfx_session.proofs.ModeTests.{mode-normal, mode-recover}
use Rattle.sfx_session.proofs.refusal.mode.Goals as goal

pub returns-then-within : goal.returns-then-within
returns-then-within g c =
    sym (mode-normal g.row.U c.args.forgotten.now c.args.known.now c.within.ensures.form c.segments-in_form.ensures.form (c.within.ensures.value.0 c.if-within.true))

pub returns-else-within : goal.returns-else-within
returns-else-within g c =
    sym (mode-recover g.row.U c.args.forgotten.now c.args.known.now c.within.ensures.form c.segments-in_form.ensures.form
    (λ within. true≢false (sym (c.within.ensures.value.1 within) ∙ c.if-within.false)))
