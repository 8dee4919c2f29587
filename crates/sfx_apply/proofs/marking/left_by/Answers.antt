use Rattle.std.proofs.Common.{ℕ, List, ap, subst}
use Rattle.sfx_ids.specs.declared.item_id.ItemId.{ItemId}
use Rattle.sfx_model.specs.sessions.Entry.{EntryData, left_from}
use Rattle.sfx_model.specs.sessions.Session.{lefts}
use Rattle.sfx_apply.specs.Work.{AddsSkips}
use Rattle.sfx_apply.proofs.LeftUnits.{all_left, more_left}
use Rattle.sfx_apply.proofs.marking.left_by.Goals as goal

pub loop-entry-preserved : goal.loop-entry-preserved
loop-entry-preserved g c =
    let entry = c.entry-item.result in
    let adds = subst (λ (ss : List (ItemId × ℕ)). AddsSkips c.loop-entry.skips c.add_left.new.skips ss)
    (ap (λ (e : EntryData). left_from e.item 0 e.marks) c.entry.view_is) c.in_ok-add_left.ensures in
    more_left c.args.entries.now c.loop-entry.entry-index entry c.loop-entry.skips c.add_left.new.skips (lefts c.args.entries.now)
    c.entry-item.is c.loop-entry-test.true adds c.loop-entry.invariant

pub returns : goal.returns
returns g c =
    all_left c.args.entries.now c.loop-entry.entry-index c.loop-entry.skips (lefts c.args.entries.now) c.loop-entry-test.false c.loop-entry.invariant
