use Rattle.std.proofs.Common.{◌≡◌, take}
use Rattle.sfx_community.proofs.members.Members.copy.Given as goal

abbrev pub invariant-loop-i : goal.invariant-loop-i
invariant-loop-i g l = l.copied ≡ take l.i l.fn.self
