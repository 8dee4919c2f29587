use Rattle.std.proofs.Common.{◌≡◌, ℕ, ◌||◌, drop}
use Rattle.sfx_ids.specs.declared.item_id.ItemId.{ItemId}
use Rattle.sfx_knowledge.specs.Skips.{is_skipped}
use Rattle.sfx_model.specs.sessions.Entry.{left_from}
use Rattle.sfx_apply.proofs.marking.add_left.Given as goal

-- the units so far and those that are left are all
abbrev pub invariant-loop-index : goal.invariant-loop-index
invariant-loop-index g l =
    (i : ItemId) (u : ℕ) →
    (is_skipped (left_from l.id l.index (drop l.index l.mark-items)) i u || is_skipped l.skips i u)
    ≡ (is_skipped (left_from l.id 0 l.mark-items) i u || is_skipped l.fn.skips i u)
