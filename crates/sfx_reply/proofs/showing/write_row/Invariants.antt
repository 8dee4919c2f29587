use Rattle.std.proofs.Common.{◌≡◌, ◌++◌, ◌-◌}
use Rattle.std.specs.List.{flat_map}
use Rattle.sfx_knowledge.specs.Row.{row_at}
use Rattle.sfx_knowledge.specs.Forms.{exceptions_of}
use Rattle.sfx_script.specs.Printed.{vector_text}
use Rattle.sfx_reply.specs.Listing.{exception_text}
use Rattle.sfx_reply.proofs.showing.write_row.Given as goal

-- what is written, and the exceptions that are left, make the whole
abbrev pub invariant-loop-k : goal.invariant-loop-k
invariant-loop-k g l =
    l.out.items ++ flat_map exception_text (exceptions_of (row_at l.row 0) (λ u. row_at l.row u) l.k (g.row.U - l.k))
    ≡ l.fn.out.items ++ vector_text (row_at l.row 0) ++ flat_map exception_text (exceptions_of (row_at l.row 0) (λ u. row_at l.row u) 1 (g.row.U - 1))
