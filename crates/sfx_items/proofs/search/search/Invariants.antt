use Rattle.std.proofs.Common.{◌-◌, length}
use Rattle.sfx_items.proofs.ItemListLemmas.{AreHalved, IsNarrowed}
use Rattle.sfx_items.proofs.search.search.Given as goal

-- what stands at the front is before the cut, what stands at the end is not, and each comparison halved the rest
abbrev pub invariant-halves : goal.invariant-halves
invariant-halves g l = record {
  narrowed : IsNarrowed l.cut l.items l.low l.high;
  halved : AreHalved (length l.items) (l.high - l.low) l.compared;
}

abbrev pub decreases-halves : goal.decreases-halves
decreases-halves g l = l.high - l.low
