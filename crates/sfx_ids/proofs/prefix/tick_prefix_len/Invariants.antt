use Rattle.std.proofs.Common.{◌≡◌, ◌≤◌, Some, take}
use Rattle.sfx_ids.specs.Steps.{next_tick}
use Rattle.sfx_ids.specs.Tick.{max_tick}
use Rattle.sfx_ids.proofs.StepsLemmas.{run}
use Rattle.sfx_ids.proofs.prefix.tick_prefix_len.Given as goal

abbrev pub invariant-loop-i : goal.invariant-loop-i
invariant-loop-i l = record {
  number : l.number ≤ max_tick;
  reached : run next_tick 0 (take l.i l.text) ≡ Some l.number;
}
