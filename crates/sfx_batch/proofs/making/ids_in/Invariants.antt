use Rattle.std.proofs.Common.{◌≡◌, ◌≤◌, ◌++◌, length}
use Rattle.sfx_batch.proofs.making.ids_in.Given as goal
use Rattle.sfx_model.specs.sessions.Batch.{ids_in}
use Rattle.sfx_model.specs.members.Readings.{items_from}
use Rattle.sfx_provider.specs.Leaves.{Rests}

-- The ids so far and those that are left are all of the range.
abbrev pub invariant-walk : goal.invariant-walk
invariant-walk g l = let p = g.P.Provider in record {
  listed : l.ids.items ++ ids_in l.place l.to (p.state l.fn.source).items ≡ ids_in l.fn.from l.to (p.state l.fn.source).items;
  rests : Rests p.state p.kept p.settled p.came l.fn.source l.source;
  faults : p.faults l.fn.source ≤ p.faults l.source;
}

abbrev pub decreases-walk : goal.decreases-walk
decreases-walk g l = length (items_from l.place (g.P.Provider.state l.fn.source).items)
