use Rattle.std.proofs.Common.{◌≡◌, take}
use Rattle.sfx_apply.proofs.entry.copied_others.Given as goal

abbrev pub invariant-loop-other : goal.invariant-loop-other
invariant-loop-other l = l.copied.items ≡ take l.other-index l.others
