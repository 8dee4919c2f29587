use Rattle.std.proofs.Common.{◌≡◌, ℕ, ◌||◌, drop}
use Rattle.sfx_ids.specs.declared.item_id.ItemId.{ItemId}
use Rattle.sfx_knowledge.specs.Skips.{is_skipped}
use Rattle.sfx_model.specs.sessions.Session.{lefts}
use Rattle.sfx_apply.proofs.marking.left_by.Given as goal

-- the units so far and those of the entries that are left are all
abbrev pub invariant-loop-entry : goal.invariant-loop-entry
invariant-loop-entry g l =
    (i : ItemId) (u : ℕ) →
    (is_skipped (lefts (drop l.entry-index l.entries)) i u || is_skipped l.skips i u) ≡ is_skipped (lefts l.entries) i u
