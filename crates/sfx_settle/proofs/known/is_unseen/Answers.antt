use Rattle.std.proofs.Common.{◌≡◌, ℕ, true, sym, subst}
use Rattle.sfx_model.specs.members.Readings.{is_unseen_at}
use Rattle.sfx_settle.proofs.UnitTests.{some_found, unit_is}
use Rattle.sfx_settle.proofs.known.is_unseen.Goals as goal

pub returns-then-is_unseen_at : goal.returns-then-is_unseen_at
returns-then-is_unseen_at g c =
    let test = is_unseen_at c.args.known.now c.args.id.now c.args.item.now.state in
    let unit = unit_is c.new.result c.unwrap-unit.result c.loop-index.index c.new.ensures.value c.unwrap-unit.ensures in
    sym (some_found test c.loop-index.index g.row.U (subst (λ (u : ℕ). test u ≡ true) unit (sym c.if-is_unseen_at.ensures)) c.loop-index-test.true)
