use Rattle.std.proofs.Common.{rules, Decides}
use Rattle.std.proofs.lemmas.Bool.Decides.{same_from_decides}
use Rattle.sfx_item.specs.Clash.{Clash}
use Rattle.sfx_item.specs.Decided.{is_clash}
use Rattle.sfx_item.proofs.NamesAreDecided.{clash_decided}
use Rattle.sfx_item.proofs.clash.clashes.Goals as goal

pub returns-then-is_below-clause-decided : goal.returns-then-is_below-clause-decided
returns-then-is_below-clause-decided c =
    let a = c.args.a.now in
    let b = c.args.b.now in
    let says : Decides c.if-eq.value (Clash a b) = search rules in
    same_from_decides c.if-eq.value (is_clash a b) says (clash_decided a b)

pub returns-else-is_below-clause-decided : goal.returns-else-is_below-clause-decided
returns-else-is_below-clause-decided c =
    let a = c.args.a.now in
    let b = c.args.b.now in
    let says : Decides c.is_below-else-is_below.result (Clash a b) = search rules in
    same_from_decides c.is_below-else-is_below.result (is_clash a b) says (clash_decided a b)
