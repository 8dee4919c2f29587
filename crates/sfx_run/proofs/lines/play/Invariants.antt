use Rattle.std.proofs.Common.{◌+◌, ◌≤◌, length}
use Rattle.std.specs.Option.{option_map_or}
use Rattle.sfx_run.proofs.PartlyPlayed.{SoFar}
use Rattle.sfx_run.specs.Run.{lines_left}
use Rattle.sfx_run.proofs.lines.play.Given as goal

abbrev pub invariant-lines : goal.invariant-lines
invariant-lines g l = record {
  so_far : SoFar l.fn.state l.fn.script (g.B.Sink.held l.fn.out) (g.B.Sink.held l.out) l.has_refusal l.state (lines_left l.rest);
  faults : g.B.Sink.faults l.fn.out ≤ g.B.Sink.faults l.out;
}

abbrev pub decreases-lines : goal.decreases-lines
decreases-lines g l = option_map_or (λ s. length s.now + 1) l.rest 0
