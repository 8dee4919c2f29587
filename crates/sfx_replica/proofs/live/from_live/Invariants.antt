use Rattle.std.proofs.Common.{◌≡◌, drop}
use Rattle.sfx_model.specs.members.Headline.{live_items}
use Rattle.sfx_replica.proofs.live.from_live.Given as goal

-- no item before this one is live
abbrev pub invariant-loop-place : goal.invariant-loop-place
invariant-loop-place g l =
    live_items (drop l.place l.items) ≡ live_items l.items
