use Rattle.std.proofs.Common.{◌≡◌, ◌++◌, drop}
use Rattle.std.specs.List.{flat_map}
use Rattle.sfx_reply.specs.Listing.{segment_text}
use Rattle.sfx_reply.proofs.showing.write_knowledge.Given as goal

-- what is written, and what is left to write, make the whole
abbrev pub invariant-loop-i : goal.invariant-loop-i
invariant-loop-i g l =
    l.out.items ++ flat_map segment_text (drop l.i l.knowledge) ≡ l.fn.out.items ++ flat_map segment_text l.knowledge
