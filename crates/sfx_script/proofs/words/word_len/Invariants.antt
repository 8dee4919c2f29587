use Rattle.std.proofs.Common.{◌≡◌, ◌+◌, drop}
use Rattle.std.specs.List.{position_or_len}
use Rattle.sfx_script.specs.Script.{is_blank}
use Rattle.sfx_script.proofs.words.word_len.Given as goal

abbrev pub invariant-loop-i : goal.invariant-loop-i
invariant-loop-i l = position_or_len is_blank l.bytes ≡ l.i + position_or_len is_blank (drop l.i l.bytes)
