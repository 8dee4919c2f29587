use Rattle.std.proofs.Common.{◌-◌, ◌≤◌, length, take}
use Rattle.sfx_outside.specs.Sink.{Adds}
use Rattle.sfx_outside.proofs.writing.write_all.Given as goal

abbrev pub invariant-loop-done : goal.invariant-loop-done
invariant-loop-done g l = record {
  within : l.done ≤ length l.piece;
  added : Adds (g.B.Sink.held l.fn.out) (g.B.Sink.held l.out) (take l.done l.piece);
  faults : g.B.Sink.faults l.fn.out ≤ g.B.Sink.faults l.out;
}

abbrev pub decreases-loop-done : goal.decreases-loop-done
decreases-loop-done g l = length l.piece - l.done
