use Rattle.std.proofs.Common.{arith}
use Rattle.std.proofs.lemmas.List.{take_rest}
use Rattle.sfx_item.proofs.NameLemmas.{improper_within, improper_says}
use Rattle.sfx_item.proofs.first_wrong.is_improper_at.Goals as goal

pub returns-then-at-text_len : goal.returns-then-at-text_len
returns-then-at-text_len c = (
  λ no. cc,
  λ is. absurd (omega (arith, improper_within c.args.bytes.now c.args.text_len c.args.at c.requires.text is)),
)

pub returns : goal.returns
returns c =
    let bytes = c.args.bytes.now in
    improper_says bytes c.args.text_len c.args.at c.component_len.result _ c.is_improper.result (take_rest bytes c.args.at)
    c.requires.text (omega arith) (c.begins_component.ensures.0 c.if-not-begins_component.false)
    c.component_len.ensures.within c.component_len.ensures.single c.component_len.ensures.ends c.is_improper.ensures
