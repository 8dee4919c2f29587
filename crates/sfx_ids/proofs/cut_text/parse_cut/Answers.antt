use Rattle.std.proofs.Common.{sym, ◌∙◌}
use Rattle.sfx_ids.specs.declared.cut.Cut.TheVariants.{Start, At, After, End}
use Rattle.sfx_ids.proofs.CutTexts.{no_cut, only_cut, start_read, end_read, at_read, after_read}
use Rattle.sfx_ids.proofs.cut_text.parse_cut.Goals as goal

pub returns-then-eq-clause-some : goal.returns-then-eq-clause-some
returns-then-eq-clause-some c = start_read c.args.text.now (sym c.eq.ensures ∙ c.if-eq.true)

pub returns-then-eq-clause-only : goal.returns-then-eq-clause-only
returns-then-eq-clause-only c = only_cut c.args.text.now Start (start_read c.args.text.now (sym c.eq.ensures ∙ c.if-eq.true))

pub returns-then-eq-2-clause-some : goal.returns-then-eq-2-clause-some
returns-then-eq-2-clause-some c = end_read c.args.text.now (sym c.eq-2.ensures ∙ c.if-eq-2.true)

pub returns-then-eq-2-clause-only : goal.returns-then-eq-2-clause-only
returns-then-eq-2-clause-only c = only_cut c.args.text.now End (end_read c.args.text.now (sym c.eq-2.ensures ∙ c.if-eq-2.true))

pub returns-in-Some-clause-some : goal.returns-in-Some-clause-some
returns-in-Some-clause-some c = at_read c.args.text.now c.in-Some.id c.in-Some.ensures.some

pub returns-in-Some-clause-only : goal.returns-in-Some-clause-only
returns-in-Some-clause-only c = only_cut c.args.text.now (At c.in-Some.id) (at_read c.args.text.now c.in-Some.id c.in-Some.ensures.some)

pub returns-in_err-id-clause-only : goal.returns-in_err-id-clause-only
returns-in_err-id-clause-only c cut valid is =
    absurd (no_cut c.args.text.now c.parse_behind.result c.parse_behind-2.result
    (sym c.eq.ensures ∙ c.if-eq.false) (sym c.eq-2.ensures ∙ c.if-eq-2.false)
    c.parse_behind.ensures.only c.in_default.is c.parse_behind-2.ensures.only c.in_err-id.was cut valid is)

pub returns-clause-some : goal.returns-clause-some
returns-clause-some c = after_read c.args.text.now c.in_ok-id.id c.in_ok-id.ensures.some

pub returns-clause-only : goal.returns-clause-only
returns-clause-only c = only_cut c.args.text.now (After c.in_ok-id.id) (after_read c.args.text.now c.in_ok-id.id c.in_ok-id.ensures.some)
