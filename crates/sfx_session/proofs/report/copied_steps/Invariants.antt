use Rattle.std.proofs.Common.{◌≡◌, take}
use Rattle.sfx_session.proofs.report.copied_steps.Given as goal

abbrev pub invariant-loop-step : goal.invariant-loop-step
invariant-loop-step g l = l.copied.items ≡ take l.step-index l.steps
