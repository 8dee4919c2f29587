use Rattle.sfx_model.proofs.members.ItemListsLemmas.{put_ascending}
use Rattle.sfx_replica_tests.proofs.items.add.Goals as goal

pub returns : goal.returns
returns g c =
    let ok = c.put.ensures.ok in
    rw (rw c.expect.ensures at ok) (put_ascending c.dead.result c.args.items.now.items c.requires)
