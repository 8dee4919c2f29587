use Rattle.std.proofs.Common.{ap, sym}
use Rattle.sfx_item.specs.Item.{ItemData}
use Rattle.sfx_batch.proofs.FirstItems.{behind_last}
use Rattle.sfx_batch.proofs.making.place_behind.Goals as goal
use Rattle.sfx_ids.specs.declared.cut.Cut.TheVariants.{End}

pub returns-in-Some : goal.returns-in-Some
returns-in-Some g c =
    rw (ap (λ (x : ItemData). x.id) c.item.view_is)
    (sym (behind_last End c.args.items.now c.in-Some.item.now (sym c.in-Some.ensures.value)))
