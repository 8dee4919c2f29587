-- Applying a batch, and a whole session of two members. Neither knows in what groups the entries are
-- committed.
use Rattle.std.specs.Prelude.{ℕ, zero, suc, ◌+◌, ◌-◌, Bool, true, false, not, ◌&&◌, if◌then◌else◌, nat_eq, List, [], ◌∷◌, ◌++◌, map, length, Option, Some, None}
use Rattle.std.specs.List.{filter, flat_map, list_any}
use Rattle.std.specs.Option.{option_map}
use Rattle.sfx_ids.specs.declared.cut.Cut.{Cut}
use Rattle.sfx_ids.specs.declared.cut.Cut.TheVariants.{Start, At, After, End}
use Rattle.sfx_ids.specs.declared.item_id.ItemId.{ItemId}
use Rattle.sfx_model.specs.declared.absent.Absent.{Absent}
use Rattle.sfx_model.specs.declared.absent.Absent.TheVariants.{Keep, Drop, Conflict}
use Rattle.sfx_model.specs.declared.apply_end.ApplyEnd.{ApplyEnd}
use Rattle.sfx_model.specs.declared.apply_end.ApplyEnd.TheVariants as apply_ends
use Rattle.sfx_model.specs.declared.apply_end.ApplyEnd.TheVariants.{Whole, Full}
use Rattle.sfx_model.specs.declared.session_end.SessionEnd.{SessionEnd}
use Rattle.sfx_model.specs.declared.session_end.SessionEnd.TheVariants as session_ends
use Rattle.sfx_model.specs.declared.session_end.SessionEnd.TheVariants.{Done}
use Rattle.sfx_model.specs.declared.mode.Mode.{Mode}
use Rattle.sfx_model.specs.declared.mode.Mode.TheVariants.{Normal, Recover}
use Rattle.sfx_model.specs.world.Events.{same_item, is_in}
use Rattle.sfx_item.specs.Item.{ItemState, Live, Dead, ItemData}
use Rattle.sfx_model.specs.members.Members.{Member}
use Rattle.sfx_model.specs.sessions.Batch.{BatchData, batch_from, mode_of}
use Rattle.sfx_model.specs.sessions.Class.{absent_class_of}
use Rattle.sfx_model.specs.sessions.Clashes.{Plan}
use Rattle.sfx_model.specs.sessions.Entry.{Task, Unlisted, Change, EntryData, task_plan, lacks, after_task, entry_of, forgets_after, left_from}
use Rattle.sfx_model.specs.sessions.MemberKnowledge.{laid_known, stored_known}
use Rattle.sfx_model.specs.sessions.Moments.{Moment, Applied, Learned, Stopped}
use Rattle.sfx_model.specs.sessions.Rules.{RulesData}

-- The id is one of these.
abbrev pub is_among : List ItemId → ItemId → Bool
is_among ids i = list_any (λ j. same_item j i) ids

-- The item stays without an entry, though the source does not list it.
abbrev pub is_kept : Absent → Bool
is_kept Keep = true
is_kept Drop = false
is_kept Conflict = false

-- The member's item is to be outcome_of as one that the batch does not list: it is in the range and not
-- listed, and does not stay.
abbrev pub is_unlisted : ℕ → BatchData → Member → ItemData → Bool
is_unlisted units b m x =
    is_in b.from b.to x.id
    && (not (is_among b.here x.id)
    && not (is_kept (absent_class_of units (laid_known units m) b.made_with b.forgotten x)))

-- The items of the member that a batch of this mode does not list; none but in recovery.
abbrev pub unlisted : Mode → ℕ → BatchData → Member → List ItemData
unlisted Normal units b m = []
unlisted Recover units b m = filter (is_unlisted units b m) m.items

-- The item is live.
abbrev pub is_live_state : ItemState → Bool
is_live_state (Live cells) = true
is_live_state (Dead v) = false

-- The tasks of a batch, in order, as the member is when the batch begins: the items that are not listed,
-- the changes that are deletions, and the changes that are live.
unfoldable pub tasks_of : ℕ → BatchData → Member → List Task
tasks_of units b m =
    map (λ x. Unlisted x.id) (unlisted b.mode units b m)
    ++ (map Change (filter (λ x. not (is_live_state x.state)) b.changes)
    ++ map Change (filter (λ x. is_live_state x.state) b.changes))

-- How far the applying of a batch has come. The budget is how many more entries were asked for.
pub record Progress : Type 0 where
  pub member : Member
  pub entries : List EntryData
  pub moments : List Moment
  pub budget : Option ℕ

-- What came of a batch.
pub record Outcome : Type 0 where
  pub member : Member
  pub entries : List EntryData
  pub end : ApplyEnd
  pub moments : List Moment

-- No more entries were asked for.
abbrev pub is_spent : Option ℕ → Bool
is_spent None = false
is_spent (Some n) = nat_eq n 0

-- The budget after so many entries.
abbrev pub reduced : Option ℕ → ℕ → Option ℕ
reduced budget n = option_map (λ b. b - n) budget

-- Whether the batch ends before a task with this plan: where the budget is spent, and where ticks lack.
abbrev pub stop_before : Option ℕ → Plan → Member → Option ApplyEnd
stop_before budget p m = if is_spent budget then Some apply_ends.Cut else (if lacks p m.clock then Some (Full m.clock) else None)

-- The progress after one more task, by its plan; `more` tells whether further tasks are left.
abbrev pub with_entry : ℕ → BatchData → Task → Bool → Plan → Progress → Progress
with_entry units b t more plan p = record {
  member = after_task units b t plan p.member;
  entries = p.entries ++ entry_of units t plan p.member ∷ [];
  moments = p.moments ++ Applied (length p.entries + 1) more (after_task units b t plan p.member) ∷ [];
  budget = reduced p.budget 1;
}

-- The units that the entries left alone.
abbrev pub lefts : List EntryData → List (ItemId × ℕ)
lefts entries = flat_map (λ e. left_from e.item 0 e.marks) entries

-- The member after it learned the batch's range, but for these units.
unfoldable pub after_range : ℕ → BatchData → List (ItemId × ℕ) → Member → Member
after_range units b left m = record {
  id = m.id;
  clock = m.clock;
  knowledge = stored_known units m.id b.from b.to left m.knowledge b.made_with;
  forgotten = forgets_after b m;
  items = m.items;
}

-- The batch is done: its range is learned.
abbrev pub finished : ℕ → BatchData → Progress → Outcome
finished units b p = record {
  member = after_range units b (lefts p.entries) p.member;
  entries = p.entries;
  end = Whole;
  moments = p.moments ++ Learned (after_range units b (lefts p.entries) p.member) ∷ [];
}

-- The batch ends before a task.
abbrev pub stopped : ApplyEnd → Progress → Outcome
stopped end p = record {
  member = p.member;
  entries = p.entries;
  end = end;
  moments = p.moments ++ Stopped (length p.entries) p.member ∷ [];
}

-- The batch ends here, or this follows.
abbrev pub stop_or : Option ApplyEnd → Progress → Outcome → Outcome
stop_or (Some end) p next = stopped end p
stop_or None p next = next

-- Whether a task is left.
abbrev pub is_more : List Task → Bool
is_more [] = false
is_more (t ∷ ts) = true

-- The tasks are outcome_of one after another, each unless the batch ends before it; when none is left, the
-- range is learned.
unfoldable pub go : ℕ → BatchData → RulesData → Progress → List Task → Outcome
go units b rules p [] = finished units b p
go units b rules p (t ∷ ts) =
    stop_or (stop_before p.budget (task_plan units rules b p.member t) p.member) p
    (go units b rules (with_entry units b t (is_more ts) (task_plan units rules b p.member t) p) ts)

-- A batch begins at this member.
abbrev pub begin : Option ℕ → Member → Progress
begin budget m = record { member = m; entries = []; moments = []; budget = budget }

-- What comes of a batch at the member: at most as many entries are outcome_of as the budget says.
abbrev pub outcome_of : ℕ → BatchData → RulesData → Option ℕ → Member → Outcome
outcome_of units b rules budget m = go units b rules (begin budget m) (tasks_of units b m)

-- The report of an outcome_of batch.
pub record AppliedData : Type 0 where
  pub entries : List EntryData
  pub end : ApplyEnd

-- A batch of a session, and how it was outcome_of.
pub record StepData : Type 0 where
  pub batch : BatchData
  pub applied : AppliedData

-- How far a session has come: the destination, the batches, the moments, and how many more entries were
-- asked for.
pub record Course : Type 0 where
  pub member : Member
  pub steps : List StepData
  pub moments : List Moment
  pub budget : Option ℕ

-- What came of a session.
pub record SessionResult : Type 0 where
  pub course : Course
  pub end : SessionEnd

-- The report of an outcome.
abbrev pub applied_data : Outcome → AppliedData
applied_data o = record { entries = o.entries; end = o.end }

-- The session with one more batch, of which this came.
abbrev pub with_batch : BatchData → Outcome → Course → Course
with_batch b o c = record {
  member = o.member;
  steps = c.steps ++ record { batch = b; applied = applied_data o } ∷ [];
  moments = c.moments ++ o.moments;
  budget = reduced c.budget (length o.entries);
}

-- The cut is the end.
abbrev pub is_end : Cut → Bool
is_end Start = false
is_end (At i) = false
is_end (After i) = false
is_end End = true

-- Whether the session ends with a batch that ranges up to this cut and ended so: it is cut or full as the
-- batch is; done where the range reaches the end; and cut where the budget is spent.
abbrev pub ending : Cut → ApplyEnd → Option ℕ → Option SessionEnd
ending to apply_ends.Cut budget = Some session_ends.Cut
ending to (Full clock) budget = Some (session_ends.Full clock)
ending to Whole budget = if is_end to then Some Done else (if is_spent budget then Some session_ends.Cut else None)

-- The session ends here, or this follows.
abbrev pub ended : Course → Option SessionEnd → SessionResult → SessionResult
ended c (Some end) next = record { course = c; end = end }
ended c None next = next

-- The session from a place on: the batch that is due is outcome_of, and where the session does not end, the
-- next one begins where its range ends. It takes at most as many batches as the bound says, which is
-- never met.
unfoldable pub session_from : ℕ → ℕ → Member → Mode → RulesData → ℕ → Course → Cut → SessionResult
session_from zero units source mode rules size c from = record { course = c; end = session_ends.Cut }
session_from (suc bound) units source mode rules size c from =
    let b = batch_from units source mode size (laid_known units c.member) from in
    let o = outcome_of units b rules c.budget c.member in
    ended (with_batch b o c) (ending b.to o.end (with_batch b o c).budget)
    (session_from bound units source mode rules size (with_batch b o c) b.to)

-- A session begins at this destination; a cut is how many entries are asked for at most.
abbrev pub set_out : Option ℕ → Member → Course
set_out cut m = record { member = m; steps = []; moments = []; budget = cut }

-- A session from the source to the destination, in batches of at most so many changes.
unfoldable pub session_of : ℕ → Member → Member → RulesData → ℕ → Option ℕ → SessionResult
session_of units source destination rules size cut =
    session_from (length source.items + 1) units source
    (mode_of units source.forgotten (laid_known units destination))
    rules size (set_out cut destination) Start
