use Rattle.std.proofs.Common.{◌≡◌, ◌+◌, drop}
use Rattle.std.specs.List.{prefix_len}
use Rattle.sfx_script.specs.Word.{is_printable}
use Rattle.sfx_script.proofs.word.printable_len.Given as goal

abbrev pub invariant-loop-i : goal.invariant-loop-i
invariant-loop-i l = prefix_len is_printable l.word ≡ l.i + prefix_len is_printable (drop l.i l.word)
