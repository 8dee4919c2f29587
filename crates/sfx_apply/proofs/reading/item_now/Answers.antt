use Rattle.std.proofs.Common.{◌≡◌, Option, Some, ap, ◌∙◌}
use Rattle.std.proofs.lemmas.Result.{IfOk-weaker}
use Rattle.std.specs.Option.{option_map}
use Rattle.sfx_item.specs.declared.item.Item.{Item}
use Rattle.sfx_model.specs.members.Members.{state_of}
use Rattle.sfx_model.specs.members.ItemLists.{drop_all, put_all}
use Rattle.sfx_apply.proofs.ItemLookups.{none_waits_there, there_waits}
use Rattle.sfx_apply.proofs.reading.item_now.Goals as goal

pub returns-in_ok-copy-in-Some-clause-value : goal.returns-in_ok-copy-in-Some-clause-value
returns-in_ok-copy-in-Some-clause-value g c =
    let pending = c.args.work.now.pending in
    ap (λ (x : Item g.row.U). Some x.state) c.in_ok-copy-in-Some.ensures
    ∙ there_waits pending.drops pending.puts (g.P.Provider.state c.args.provider.now).items c.puts.result.now c.args.id.now
    c.in-Some.put.now.state c.requires.waits.keeps c.requires.waits.fits.puts c.puts.ensures c.in-Some.ensures.state

pub returns-in-None-clause-value : goal.returns-in-None-clause-value
returns-in-None-clause-value g c =
    let pending = c.args.work.now.pending in
    let items = (g.P.Provider.state c.args.provider.now).items in
    let id = c.args.id.now in
    let there = none_waits_there pending.drops pending.puts items c.puts.result.now id
    c.requires.waits.keeps c.requires.waits.fits.puts c.puts.ensures c.in-None.ensures.state in
    IfOk-weaker c.item.result
    (λ (item : Option (Item g.row.U)). option_map (λ x. x.state) item ≡ state_of items id)
    (λ (item : Option (Item g.row.U)). option_map (λ x. x.state) item ≡ state_of (drop_all pending.drops (put_all pending.puts items)) id)
    (λ item is. is ∙ there) c.item.ensures.value
