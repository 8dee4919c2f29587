use Rattle.std.proofs.Common.{ap}
use Rattle.sfx_item.specs.Item.{ItemData}
use Rattle.sfx_replica.proofs.EditsLemmas.{buried_view}
use Rattle.sfx_replica.proofs.items.bury.Goals as goal

pub index_mut-item-requires : goal.index_mut-item-requires
index_mut-item-requires g c = c.requires.there

pub returns : goal.returns
returns g c i found =
    rw (ap (λ (x : ItemData). x.id) c.item.view_is)
    (buried_view c.args.items.now.items i c.args.place c.index_mut-item.result.now c.args.version.now found c.index_mut-item.ensures.value)
