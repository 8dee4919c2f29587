use Rattle.sfx_ids.proofs.CutLemmas.{cut_total, cut_exact, start-le, le-end, at-lt-after, alone}
use Rattle.sfx_ids.proofs.laws.cuts_are_ordered.Goals as goal

pub returns : goal.returns
returns c = record {
  total = cut_total;
  exact = cut_exact;
  first = start-le;
  last = le-end;
  behind = at-lt-after;
  alone = alone;
}
