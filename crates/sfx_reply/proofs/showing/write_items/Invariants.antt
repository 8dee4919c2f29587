use Rattle.std.proofs.Common.{◌≡◌, ◌++◌, drop}
use Rattle.std.specs.List.{flat_map}
use Rattle.sfx_reply.specs.Listing.{item_line}
use Rattle.sfx_reply.proofs.showing.write_items.Given as goal

-- what is written, and what is left to write, make the whole
abbrev pub invariant-loop-item : goal.invariant-loop-item
invariant-loop-item g l =
    l.out.items ++ flat_map item_line (drop l.item-index l.items) ≡ l.fn.out.items ++ flat_map item_line l.items
