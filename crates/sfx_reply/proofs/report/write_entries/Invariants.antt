use Rattle.std.proofs.Common.{◌≡◌, ◌++◌, drop}
use Rattle.std.specs.List.{flat_map}
use Rattle.sfx_reply.specs.Report.{entry_lines}
use Rattle.sfx_reply.proofs.report.write_entries.Given as goal

-- what is written, and what is left to write, make the whole
abbrev pub invariant-loop-entry : goal.invariant-loop-entry
invariant-loop-entry g l =
    l.out.items ++ flat_map entry_lines (drop l.entry-index l.entries) ≡ l.fn.out.items ++ flat_map entry_lines l.entries
