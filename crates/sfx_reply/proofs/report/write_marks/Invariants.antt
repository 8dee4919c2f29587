use Rattle.std.proofs.Common.{◌≡◌, ◌++◌, drop}
use Rattle.std.specs.List.{flat_map}
use Rattle.sfx_reply.specs.Report.{mark_text}
use Rattle.sfx_reply.proofs.report.write_marks.Given as goal

-- what is written, and what is left to write, make the whole
abbrev pub invariant-loop-mark : goal.invariant-loop-mark
invariant-loop-mark l =
    l.out.items ++ flat_map mark_text (drop l.mark-index l.marks) ≡ l.fn.out.items ++ flat_map mark_text l.marks
