use Rattle.sfx_item.specs.Name.{IsFirstWrongInName}
use Rattle.sfx_item.proofs.NameLemmas.{nothing_wrong}
use Rattle.sfx_item.proofs.row.name_in.Goals as goal

pub returns-in-Err-BadName-clause-valid : goal.returns-in-Err-BadName-clause-valid
returns-in-Err-BadName-clause-valid c =
    let first : IsFirstWrongInName c.bytes.result.now c.in-Err-BadName.field-0-0 = rw c.in-Err-BadName.field-0-is at c.in-Err-BadName.ensures.err in (
      (λ e. absurd (cc)),
      λ is. absurd (nothing_wrong c.bytes.result.now c.in-Err-BadName.field-0-0 (rw c.bytes.ensures is) first.wrong),
    )
