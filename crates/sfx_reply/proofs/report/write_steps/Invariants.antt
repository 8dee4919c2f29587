use Rattle.std.proofs.Common.{◌≡◌, ◌++◌, drop}
use Rattle.std.specs.List.{flat_map}
use Rattle.sfx_reply.specs.Report.{step_lines}
use Rattle.sfx_reply.proofs.report.write_steps.Given as goal

-- what is written, and what is left to write, make the whole
abbrev pub invariant-loop-step : goal.invariant-loop-step
invariant-loop-step g l =
    l.out.items ++ flat_map step_lines (drop l.step-index l.steps) ≡ l.fn.out.items ++ flat_map step_lines l.steps
