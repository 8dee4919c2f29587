use Rattle.std.proofs.Common.{refl}
use Rattle.std.specs.Bool.{IsTrue}
use Rattle.sfx_item.proofs.NameLemmas.{wrong_end, wrong_control, wrong_improper, wrong_kinds}
use Rattle.sfx_item.proofs.first_wrong.is_wrong_at.Goals as goal

pub returns-then-is_text_end : goal.returns-then-is_text_end
returns-then-is_text_end c = (
  λ yes. wrong_end c.args.bytes.now c.args.text_len c.args.at c.requires.text (c.if-is_text_end.ensures.0 yes),
  λ wrong. refl,
)

pub returns-then-is_control_at : goal.returns-then-is_control_at
returns-then-is_control_at c = (
  λ yes. wrong_control c.args.bytes.now c.args.at (c.if-is_control_at.ensures.0 yes),
  λ wrong. refl,
)

pub returns : goal.returns
returns c = (
  λ yes. wrong_improper c.args.bytes.now c.args.at (c.is_improper_at.ensures.0 yes),
  wrong_kinds (IsTrue c.is_improper_at.result) c.args.bytes.now c.args.text_len c.args.at c.requires.text
      (λ size. let no = c.if-is_size_end.ensures.1 size in cc)
      (λ end. let no = c.if-is_text_end.ensures.1 end in cc)
      (λ control. let no = c.if-is_control_at.ensures.1 control in cc)
      (λ improper. c.is_improper_at.ensures.1 improper),
)
