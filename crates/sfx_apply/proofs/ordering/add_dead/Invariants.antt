use Rattle.std.proofs.Common.{◌≡◌, ◌++◌, not, drop}
use Rattle.std.specs.List.{filter}
use Rattle.sfx_model.specs.sessions.Session.{is_live_state}
use Rattle.sfx_apply.specs.Turns.{seen_views}
use Rattle.sfx_apply.proofs.ordering.add_dead.Given as goal

-- the deletions so far and those that are left are all
abbrev pub invariant-loop-change : goal.invariant-loop-change
invariant-loop-change g l =
    seen_views l.turns.items ++ filter (λ x. not (is_live_state x.state)) (drop l.change-index l.changes)
    ≡ seen_views l.fn.turns.items ++ filter (λ x. not (is_live_state x.state)) l.changes
