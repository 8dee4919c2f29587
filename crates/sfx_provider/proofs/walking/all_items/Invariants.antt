use Rattle.std.proofs.Common.{◌≡◌, ◌≤◌, ◌++◌, length}
use Rattle.sfx_model.specs.members.Readings.{items_from}
use Rattle.sfx_provider.specs.Leaves.{Rests}
use Rattle.sfx_provider.proofs.walking.all_items.Given as goal

-- The items so far and those that are left are all.
abbrev pub invariant-walk : goal.invariant-walk
invariant-walk g l = let p = g.P.Provider in record {
  walked : l.items.items ++ items_from l.from (p.state l.fn.provider).items ≡ (p.state l.fn.provider).items;
  rests : Rests p.state p.kept p.settled p.came l.fn.provider l.provider;
  faults : p.faults l.fn.provider ≤ p.faults l.provider;
}

abbrev pub decreases-walk : goal.decreases-walk
decreases-walk g l = length (items_from l.from (g.P.Provider.state l.fn.provider).items)
