use Rattle.std.proofs.Common.{◌≡◌, take}
use Rattle.sfx_community.proofs.kept.copied_pending.Given as goal

abbrev pub invariant-loop-file : goal.invariant-loop-file
invariant-loop-file l = l.copied.items ≡ take l.file-index l.pending
