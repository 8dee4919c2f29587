use Rattle.std.proofs.Common.{◌+◌, ◌-◌, ◌≤◌, vec_len}
use Rattle.sfx_outside.specs.Source.{Takes}
use Rattle.sfx_outside.proofs.reading.read_to_end.Given as goal

abbrev pub invariant-loop-buffer : goal.invariant-loop-buffer
invariant-loop-buffer g l = record {
  fits : vec_len l.bytes ≤ l.limit + 1;
  taken : Takes (g.A.Source.left l.fn.input) (g.A.Source.left l.input) l.bytes.items;
  faults : g.A.Source.faults l.fn.input ≤ g.A.Source.faults l.input;
}

abbrev pub decreases-loop-buffer : goal.decreases-loop-buffer
decreases-loop-buffer g l = l.limit + 1 - vec_len l.bytes
