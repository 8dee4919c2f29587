use Rattle.std.proofs.Common.{◌≡◌, take}
use Rattle.sfx_script.specs.Printed.{entries_text}
use Rattle.sfx_script.proofs.printed.write_vector.Given as goal

abbrev pub invariant-loop-i : goal.invariant-loop-i
invariant-loop-i l = l.text.items ≡ entries_text (take l.i l.v)
