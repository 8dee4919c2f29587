use Rattle.std.proofs.Common.{drop}
use Rattle.sfx_model.specs.members.Readings.{unseen}
use Rattle.sfx_replica.proofs.UnseenItems.{Gathers}
use Rattle.sfx_replica.proofs.unseen.unseen.Given as goal

-- what was found so far, and what the items that are left give
abbrev pub invariant-loop-item : goal.invariant-loop-item
invariant-loop-item g l =
    Gathers (λ x. x.id) l.limit (unseen g.row.U l.to l.from l.items) l.ids.items (unseen g.row.U l.to l.from (drop l.item-index l.items))
