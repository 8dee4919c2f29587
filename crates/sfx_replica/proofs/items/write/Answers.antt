use Rattle.std.proofs.Common.{◌∙◌, ap, sym}
use Rattle.std.proofs.lemmas.Result.{err_from_is_err_and}
use Rattle.sfx_item.specs.Item.{ItemData, state_view}
use Rattle.sfx_replica.proofs.EditsLemmas.{none_dead, unwritten, written_view}
use Rattle.sfx_replica.proofs.items.write.Goals as goal

pub index_mut-item-requires : goal.index_mut-item-requires
index_mut-item-requires g c = c.requires.there

pub returns-in_err-put-in-Live-clause-err : goal.returns-in_err-put-in-Live-clause-err
returns-in_err-put-in-Live-clause-err g c =
    let (fault, is, same) = err_from_is_err_and c.from_residual.result c.from_residual.ensures.1 in
    rw (is, ap (λ (x : ItemData). x.id) c.item.view_is)
    (unwritten c.args.items.now.items c.args.place c.index_mut-item.result.now c.in-Live.row c.put.new.self
    c.index_mut-item.ensures.value (sym (ap (λ (x : ItemData). x.state) c.item.view_is) ∙ ap (λ s. state_view s) c.in-Live.is) c.in_err-put-in-Live.ensures.err)

pub returns-in_ok-put-in-Live-clause-ok : goal.returns-in_ok-put-in-Live-clause-ok
returns-in_ok-put-in-Live-clause-ok g c i cells found live named =
    rw (ap (λ (x : ItemData). x.id) c.item.view_is)
    (written_view c.args.items.now.items i c.args.place c.args.unit c.index_mut-item.result.now c.in-Live.row c.put.new.self cells c.args.cell
    c.in_ok-put-in-Live.field-0 found c.index_mut-item.ensures.value (sym (ap (λ (x : ItemData). x.state) c.item.view_is) ∙ ap (λ s. state_view s) c.in-Live.is) live c.in_ok-put-in-Live.ensures.after
    (c.in_ok-put-in-Live.ensures.done.1 named))

pub returns-in-Dead-clause-ok : goal.returns-in-Dead-clause-ok
returns-in-Dead-clause-ok g c i cells found live named =
    none_dead c.args.items.now.items i c.args.place c.index_mut-item.result.now c.in-Dead.field-0 cells found c.index_mut-item.ensures.value
    (sym (ap (λ (x : ItemData). x.state) c.item.view_is) ∙ ap (λ s. state_view s) c.in-Dead.is) live
