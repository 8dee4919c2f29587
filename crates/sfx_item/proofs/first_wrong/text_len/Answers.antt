use Rattle.std.proofs.Common.{subst, sym}
use Rattle.sfx_item.specs.Faults.{IsTextUpTo}
use Rattle.sfx_item.proofs.NameLemmas.{text_ends}
use Rattle.sfx_item.proofs.first_wrong.text_len.Goals as goal

pub returns-in-Err : goal.returns-in-Err
returns-in-Err c =
    subst (IsTextUpTo c.args.bytes.now) (sym c.valid_up_to.ensures) (text_ends c.args.bytes.now _ c.in-Err.ensures.cases.1)
