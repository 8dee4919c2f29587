-- The turns of a batch: each change in its turn, and the commits between them.
use Rattle.std.specs.Prelude.{ℕ, Bool, true, not, ◌&&◌, if◌then◌else◌, List, [], ◌∷◌, ◌++◌, map, length, Option, Some, None}
use Rattle.std.specs.Borrow.{Bor}
use Rattle.std.specs.List.{filter}
use Rattle.sfx_ids.specs.declared.item_id.ItemId.{ItemId}
use Rattle.sfx_model.specs.declared.apply_end.ApplyEnd.{ApplyEnd}
use Rattle.sfx_model.specs.sessions.Batch.{BatchData}
use Rattle.sfx_model.specs.sessions.Class.{class_of}
use Rattle.sfx_model.specs.sessions.Clashes.{Plan}
use Rattle.sfx_model.specs.sessions.Draft.{DraftData, draft_of}
use Rattle.sfx_model.specs.sessions.Entry.{Change, EntryData, entry_of, task_plan}
use Rattle.sfx_item.specs.Item.{ItemState, ItemData}
use Rattle.sfx_model.specs.members.Members.{Member, state_of}
use Rattle.sfx_model.specs.sessions.Moments.{divides}
use Rattle.sfx_model.specs.sessions.NewName.{is_free}
use Rattle.sfx_model.specs.sessions.Rules.{RulesData}
use Rattle.sfx_model.specs.sessions.Session.{is_live_state, lefts, reduced, stop_before}
use Rattle.sfx_provider.specs.Commit.{CommitData, commit_of, after_commit}
use Rattle.sfx_provider.specs.Head.{head_of}
use Rattle.sfx_apply.specs.Work.{cleared, with_marks, with_range}

-- How far the applying of a batch has come: what waits to be after_commit, the entries, and how many more of
-- them were asked for.
pub record WorkData : Type 0 where
  pub pending : CommitData
  pub entries : List EntryData
  pub budget : Option ℕ

-- The work before the first entry: nothing waits.
abbrev pub work_begun : ℕ → Option ℕ → Member → WorkData
work_begun units budget m = record { pending = commit_of (head_of units m); entries = []; budget = budget }

-- The changes of a batch in the order in which they are applied: the deletions, and then the live ones.
abbrev pub in_turn : List ItemData → List ItemData
in_turn changes = filter (λ x. not (is_live_state x.state)) changes ++ filter (λ x. is_live_state x.state) changes

-- The items that are referred to.
abbrev pub seen_views : List (Bor ItemData) → List ItemData
seen_views turns = map (λ x. x.now) turns

-- What is to be done with the change at the destination.
abbrev pub plan_at : ℕ → BatchData → RulesData → ItemData → Member → Plan
plan_at units b rules change m = task_plan units rules b m (Change change)

-- The draft of a change at the destination, by what waits to be after_commit.
abbrev pub draft_now : ℕ → BatchData → RulesData → CommitData → ItemData → Option ItemState → DraftData
draft_now units b rules c change here =
    draft_of units rules (class_of units c.knowledge b.made_with c.forgotten change here) (Some change.state) here

-- Whether there is no name, or one that is free among the items for the one with this id.
abbrev pub is_free_or_none : List ItemData → ItemId → Option (List ℕ) → Bool
is_free_or_none items i None = true
is_free_or_none items i (Some name) = is_free items i name

-- The work with the entry of one more change, by its plan at the destination.
abbrev pub with_entry_of : ℕ → BatchData → ItemData → Plan → Member → WorkData → WorkData
with_entry_of units b change p m w = record {
  pending = with_marks units b change p.draft.marks (state_of m.items change.id) w.pending;
  entries = w.entries ++ entry_of units (Change change) p m ∷ [];
  budget = reduced w.budget 1;
}

-- The destination: the state of its provider, and over it what waits to be after_commit.
abbrev pub destination : ℕ → WorkData → Member → Member
destination units w m = after_commit units w.pending m

-- How the batch ends before the change, if it does.
abbrev pub end_before : ℕ → BatchData → RulesData → ItemData → WorkData → Member → Option ApplyEnd
end_before units b rules change w m =
    stop_before w.budget (plan_at units b rules change (destination units w m)) (destination units w m)

-- The work as it was where the batch ends, and else the other.
abbrev pub unless_ended : Option ApplyEnd → WorkData → WorkData → WorkData
unless_ended (Some end) w next = w
unless_ended None w next = next

-- The work with the entry of a change, by what is to be done with it at the destination.
abbrev pub entered : ℕ → BatchData → RulesData → ItemData → WorkData → Member → WorkData
entered units b rules change w m =
    with_entry_of units b change (plan_at units b rules change (destination units w m)) (destination units w m) w

-- The work after the turn of a change.
abbrev pub turned : ℕ → BatchData → RulesData → ItemData → WorkData → Member → WorkData
turned units b rules change w m = unless_ended (end_before units b rules change w m) w (entered units b rules change w m)

-- The work with the batch's range, but for the units that the entries left alone.
abbrev pub with_range_of : ℕ → BatchData → WorkData → WorkData
with_range_of units b w = record { pending = with_range units b (lefts w.entries) w.pending; entries = w.entries; budget = w.budget }

-- Whether a commit is due after a turn: after each group of entries where a further change is left, and
-- where the batch ends, if entries came since.
abbrev pub is_due : ℕ → Bool → Option ApplyEnd → ℕ → Bool
is_due group more None count = more && divides group count
is_due group more (Some end) count = not (divides group count)

-- Whether one is due after the turn of a change; `more` tells whether further ones are left.
abbrev pub due_after : ℕ → ℕ → BatchData → RulesData → ItemData → Bool → WorkData → Member → Bool
due_after units group b rules change more w m =
    is_due group more (end_before units b rules change w m) (length (turned units b rules change w m).entries)

-- The provider's state, the states that it came by and the work after the commit that is made where one
-- is due.
abbrev pub state_if : ℕ → Bool → WorkData → Member → Member
state_if units due w m = if due then destination units w m else m

abbrev pub states_if : ℕ → Bool → WorkData → Member → List Member
states_if units due w m = if due then destination units w m ∷ [] else []

abbrev pub emptied : WorkData → WorkData
emptied w = record { pending = cleared w.pending; entries = w.entries; budget = w.budget }

abbrev pub work_if : Bool → WorkData → WorkData
work_if due w = if due then emptied w else w

-- The work, the provider's state and the states that it came by after the turn of a change and the commit
-- that follows; `more` tells whether further ones are left.
abbrev pub next_work : ℕ → ℕ → BatchData → RulesData → ItemData → Bool → WorkData → Member → WorkData
next_work units group b rules change more w m =
    work_if (due_after units group b rules change more w m) (turned units b rules change w m)

abbrev pub next_state : ℕ → ℕ → BatchData → RulesData → ItemData → Bool → WorkData → Member → Member
next_state units group b rules change more w m =
    state_if units (due_after units group b rules change more w m) (turned units b rules change w m) m

abbrev pub next_states : ℕ → ℕ → BatchData → RulesData → ItemData → Bool → WorkData → Member → List Member
next_states units group b rules change more w m =
    states_if units (due_after units group b rules change more w m) (turned units b rules change w m) m
