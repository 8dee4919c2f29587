use Rattle.std.proofs.Common.{◌≡◌, ◌++◌, drop}
use Rattle.std.specs.List.{flat_map}
use Rattle.sfx_reply.specs.Report.{other_text}
use Rattle.sfx_reply.proofs.report.write_others.Given as goal

-- what is written, and what is left to write, make the whole
abbrev pub invariant-loop-other : goal.invariant-loop-other
invariant-loop-other l =
    l.out.items ++ flat_map other_text (drop l.other-index l.others) ≡ l.fn.out.items ++ flat_map other_text l.others
