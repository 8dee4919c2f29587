use Rattle.std.proofs.Common.{subst, arith}
use Rattle.std.proofs.lemmas.List.{take_rest}
use Rattle.std.specs.Bool.{IsTrue}
use Rattle.sfx_item.specs.Faults.{HasControlBytes}
use Rattle.sfx_item.proofs.NameLemmas.{control_within, control_found, control_bytes}
use Rattle.sfx_item.proofs.first_wrong.is_control_at.Goals as goal

pub returns-then-at-text_len : goal.returns-then-at-text_len
returns-then-at-text_len c = (
  λ no. cc,
  λ is. absurd (omega (arith, control_within c.args.bytes.now c.args.text_len c.args.at c.requires.text is)),
)

pub returns : goal.returns
returns c =
    let bytes = c.args.bytes.now in
    let says =
    subst (λ rest. (IsTrue c.begins_with_control.result → HasControlBytes rest) × (HasControlBytes rest → IsTrue c.begins_with_control.result))
    (take_rest bytes c.args.at) c.begins_with_control.ensures in (
      λ yes. control_found bytes c.args.text_len c.args.at c.requires.text (omega arith) (says.0 yes),
      λ is. says.1 (control_bytes bytes c.args.at is),
    )
