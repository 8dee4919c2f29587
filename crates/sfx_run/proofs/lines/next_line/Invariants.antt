use Rattle.std.proofs.Common.{◌≡◌, ◌==◌, false, take, All}
use Rattle.sfx_run.proofs.lines.next_line.Given as goal

-- no line has ended yet
abbrev pub invariant-loop-place : goal.invariant-loop-place
invariant-loop-place l = All (λ b. (b == 10) ≡ false) (take l.place l.script)
