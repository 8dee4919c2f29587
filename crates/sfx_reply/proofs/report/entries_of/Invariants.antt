use Rattle.std.proofs.Common.{◌≡◌, ◌≤◌, ◌+◌, ◌*◌, drop}
use Rattle.sfx_reply.specs.Report.{entry_count}
use Rattle.sfx_reply.proofs.report.entries_of.Given as goal

-- the entries that were counted, and those that are left, make the whole, and none has more than a `usize`
abbrev pub invariant-loop-step : goal.invariant-loop-step
invariant-loop-step g l = record {
  whole : l.count + entry_count (drop l.step-index l.steps) ≡ entry_count l.steps;
  bounded : l.count ≤ l.step-index * 18446744073709551615;
}
