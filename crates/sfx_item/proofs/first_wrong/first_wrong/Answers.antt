use Rattle.std.proofs.Common.{below_more, arith, sym}
use Rattle.sfx_item.specs.Name.{IsWrongAt}
use Rattle.sfx_item.proofs.NamesAreDecided.{fault_decided, name_decided}
use Rattle.sfx_item.proofs.NameLemmas.{first_place, is_name}
use Rattle.sfx_item.proofs.first_wrong.first_wrong.Goals as goal

pub returns-then-is_wrong_at-clause-wrong : goal.returns-then-is_wrong_at-clause-wrong
returns-then-is_wrong_at-clause-wrong c =
    first_place c.args.bytes.now c.loop-at.at (c.is_wrong_at.ensures.0 c.if-is_wrong_at.true) c.loop-at.invariant

pub loop-at-preserved : goal.loop-at-preserved
loop-at-preserved c =
    below_more (λ k. IsWrongAt c.args.bytes.now k → ⊥) c.loop-at.at c.loop-at.invariant
    (λ wrong. let yes = c.is_wrong_at.ensures.1 wrong in let no = c.if-is_wrong_at.false in cc)

pub returns-clause-name : goal.returns-clause-name
returns-clause-name c =
    is_name c.args.bytes.now c.text_len-text_len.result c.text_len-text_len.ensures (λ k less. c.loop-at.invariant k (omega arith))

pub returns-then-is_wrong_at-clause-decided : goal.returns-then-is_wrong_at-clause-decided
returns-then-is_wrong_at-clause-decided c = sym ((fault_decided c.args.bytes.now c.loop-at.at).1 (returns-then-is_wrong_at-clause-wrong c))

pub returns-clause-decided : goal.returns-clause-decided
returns-clause-decided c = sym ((name_decided c.args.bytes.now).1 (returns-clause-name c))
