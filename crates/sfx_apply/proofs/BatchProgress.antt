-- How far a batch has come stands between the state at which it began and what comes of it.
use Rattle.std.proofs.Common.{◌≡◌, ℕ, ◌+◌, Bool, true, false, not, ◌&&◌, if◌then◌else◌, List, [], ◌∷◌, ◌++◌, append_assoc, length, map, Option, Some, None, inl, inr, refl, sym, ◌∙◌, ap, subst, arith, length-append}
use Rattle.std.proofs.lemmas.List.{append-nil}
use Rattle.sfx_model.specs.declared.apply_end.ApplyEnd.{ApplyEnd}
use Rattle.sfx_model.specs.declared.apply_end.ApplyEnd.TheVariants.{Whole}
use Rattle.sfx_model.specs.sessions.Batch.{BatchData}
use Rattle.sfx_model.specs.sessions.Clashes.{Plan}
use Rattle.sfx_model.specs.members.Consistent.{IsConsistent}
use Rattle.sfx_model.specs.sessions.Entry.{Change, EntryData, after_task, entry_of}
use Rattle.sfx_item.specs.Item.{ItemData}
use Rattle.sfx_model.specs.members.Members.{Member}
use Rattle.sfx_model.specs.sessions.Moments.{Moment, Applied, Learned, Stopped, committed, divides, stops}
use Rattle.sfx_model.specs.sessions.Rules.{RulesData}
use Rattle.sfx_model.specs.sessions.Session.{AppliedData, Outcome, Progress, after_range, applied_data, finished, go, is_more, lefts, stopped, with_entry}
use Rattle.sfx_model.specs.world.Sets.{Has, IsPart}
use Rattle.sfx_model.proofs.world.SetsLemmas.{has_left, has_right}
use Rattle.sfx_provider.specs.Commit.{CommitData, commit_of, after_commit}
use Rattle.sfx_provider.specs.Head.{head_of}
use Rattle.sfx_provider.proofs.HeadLemmas.{unchanged_same}
use Rattle.sfx_provider.specs.Leaves.{Arrives, BreaksOff, Rests}
use Rattle.sfx_provider.proofs.LeavesLemmas.{arrives_later, arrives_on, breaks_later, breaks_on}
use Rattle.sfx_apply.specs.Turns.{WorkData, destination, end_before, entered, is_due, plan_at, state_if, states_if, turned, unless_ended, with_range_of, work_if}
use Rattle.sfx_apply.specs.Work.{KnowsNoMore, Waits}
use Rattle.sfx_apply.proofs.WaitingCommits.{made_waits, none_waits}
use Rattle.sfx_apply.proofs.CommittedMoments.{Begins, among_stops, committed_append, committed_prefix, go_prefix, go_off, go_on, go_out}
use Rattle.sfx_apply.proofs.LaidCommits.{Lays, RangeLays}

-- The progress of the model that the work is, at the provider's state.
abbrev pub progress : ℕ → Member → WorkData → List Moment → Progress
progress units m w moments =
    record { member = destination units w m; entries = w.entries; moments = moments; budget = w.budget }

-- What is left gives what comes of the batch, and the provider came by what is committed so far. The
-- moments so far are nowhere in the program.
pub record Stands (Came : List Member → Type 0) (units : ℕ) (b : BatchData) (rules : RulesData) (group : ℕ) (out : Outcome) (m : Member) (w : WorkData) (rest : List ItemData) : Type 0 where
  pub moments : List Moment
  pub goes : go units b rules (progress units m w moments) (map Change rest) ≡ out
  pub came : Came (committed group moments)
  pub waits : Waits units w.pending m
  pub no_more : KnowsNoMore units m b
  -- after whole groups of entries nothing waits
  pub even : is_more (map Change rest) ≡ true → divides group (length w.entries) ≡ true → destination units w m ≡ m

-- A batch begins.
pub begun :
    (Came : List Member → Type 0) (units : ℕ) (b : BatchData) (rules : RulesData) (group : ℕ) (m : Member) (budget : Option ℕ) (rest : List ItemData)
    → IsConsistent units m → KnowsNoMore units m b → Came []
    → Stands Came units b rules group
    (go units b rules (record { member = m; entries = []; moments = []; budget = budget }) (map Change rest)) m
    (record { pending = commit_of (head_of units m); entries = []; budget = budget }) rest
begun Came units b rules group m budget rest good no_more came = record {
  moments = [];
  goes = ap (λ (n : Member). go units b rules (record { member = n; entries = []; moments = []; budget = budget }) (map Change rest)) (unchanged_same units m good);
  came = came;
  waits = none_waits units m good;
  no_more = no_more;
  even = λ more divided. unchanged_same units m good;
}

-- The same destination, before a commit and after it.
same_destination : (units : ℕ) (due : Bool) (w : WorkData) (m : Member) → destination units (work_if due w) (state_if units due w m) ≡ destination units w m
same_destination units true w m = refl
same_destination units false w m = refl

same_entries : (due : Bool) (w : WorkData) → (work_if due w).entries ≡ w.entries
same_entries true w = refl
same_entries false w = refl

same_budget : (due : Bool) (w : WorkData) → (work_if due w).budget ≡ w.budget
same_budget true w = refl
same_budget false w = refl

abbrev progressed : Member → List EntryData → List Moment → Option ℕ → Progress
progressed m entries moments budget = record { member = m; entries = entries; moments = moments; budget = budget }

-- What waits, after a commit where one is due.
waits_if :
    (units : ℕ) (due : Bool) (w : WorkData) (m : Member)
    → IsConsistent units m → Waits units w.pending m → Waits units (work_if due w).pending (state_if units due w m)
waits_if units true w m good waits = made_waits units w.pending m good waits
waits_if units false w m good waits = waits

no_more_if :
    (units : ℕ) (b : BatchData) (due : Bool) (w : WorkData) (m : Member)
    → Waits units w.pending m → KnowsNoMore units m b → KnowsNoMore units (state_if units due w m) b
no_more_if units b true w m waits no_more = record {
  known = λ place u is inside.
      let low = no_more.known place u is inside in
      let rises = waits.fits.clock in
      omega (arith, low, rises);
}
no_more_if units b false w m waits no_more = no_more

-- What is committed at the moment after an entry.
one_applied :
    (group n k : ℕ) (more : Bool) (st s : Member)
    → n ≡ k → st ≡ s
    → committed group (Applied n more st ∷ []) ≡ (if more && divides group k then s ∷ [] else [])
one_applied group n k more st s same_n same_st = by_test (more && divides group n) refl
  where
    by_test :
        (b : Bool) → (more && divides group n) ≡ b
        → committed group (Applied n more st ∷ []) ≡ (if more && divides group k then s ∷ [] else [])
    by_test true e =
        let f : (more && divides group k) ≡ true = ap (λ (x : ℕ). more && divides group x) (sym same_n) ∙ e in
        rw (e, f, same_st) refl
    by_test false e =
        let f : (more && divides group k) ≡ false = ap (λ (x : ℕ). more && divides group x) (sym same_n) ∙ e in
        rw (e, f) refl

-- The entries are one more.
one_longer : (xs : List EntryData) (x : EntryData) → length xs + 1 ≡ length (xs ++ x ∷ [])
one_longer xs x = omega (arith, length-append xs (x ∷ []))

-- One more entry, and the commit where it is due.
pub one_entered :
    (Came Next : List Member → Type 0) (units : ℕ) (b : BatchData) (rules : RulesData) (group : ℕ) (out : Outcome) (m : Member) (w : WorkData)
    (change : ItemData) (rest : List ItemData)
    → Stands Came units b rules group out m w (change ∷ rest)
    → IsConsistent units m → Lays units b rules change w m
    → end_before units b rules change w m ≡ None
    → (next : WorkData) → next ≡ entered units b rules change w m
    → (due : Bool) → due ≡ (is_more (map Change rest) && divides group (length next.entries))
    → ((made : List Member) → Came made → Next (made ++ states_if units due next m))
    → Stands Next units b rules group out (state_if units due next m) (work_if due next) rest
one_entered Came Next units b rules group out m w change rest stands good lays none next is due due_is on = record {
  moments = moments;
  goes =
      ap (λ (p : Progress). go units b rules p (map Change rest)) progress_is
      ∙ sym (go_on units b rules (progress units m w stands.moments) (Change change) (map Change rest) none)
      ∙ stands.goes;
  came = subst Next (sym came_is) (on (committed group stands.moments) stands.came);
  waits = waits_if units due next m good waits;
  no_more = no_more_if units b due next m waits stands.no_more;
  even = λ more divided.
      let all : due ≡ true = due_is ∙ rw more (ap (λ (es : List EntryData). divides group (length es)) (sym (same_entries due next)) ∙ divided) in
      same_destination units due next m ∙ sym (ap (λ (d : Bool). state_if units d next m) all);
}
  where
    now : Member
    now = destination units w m

    plan : Plan
    plan = plan_at units b rules change now

    moments : List Moment
    moments = stands.moments ++ Applied (length w.entries + 1) (is_more (map Change rest)) (after_task units b (Change change) plan now) ∷ []

    after_commit : destination units next m ≡ after_task units b (Change change) plan now
    after_commit = ap (λ (x : WorkData). destination units x m) is ∙ lays.laid

    waits : Waits units next.pending m
    waits = subst (λ (x : WorkData). Waits units x.pending m) (sym is) lays.waits

    progress_is :
        progress units (state_if units due next m) (work_if due next) moments
        ≡ with_entry units b (Change change) (is_more (map Change rest)) plan (progress units m w stands.moments)
    progress_is =
        ap (λ (x : Member). progressed x (work_if due next).entries moments (work_if due next).budget) (same_destination units due next m ∙ after_commit)
        ∙ ap (λ (es : List EntryData). progressed (after_task units b (Change change) plan now) es moments (work_if due next).budget)
        (same_entries due next ∙ ap (λ (x : WorkData). x.entries) is)
        ∙ ap (progressed (after_task units b (Change change) plan now) (w.entries ++ entry_of units (Change change) plan now ∷ []) moments)
        (same_budget due next ∙ ap (λ (x : WorkData). x.budget) is)

    came_is : committed group moments ≡ committed group stands.moments ++ states_if units due next m
    came_is =
        committed_append group stands.moments (Applied (length w.entries + 1) (is_more (map Change rest)) (after_task units b (Change change) plan now) ∷ [])
        ∙ ap (λ (xs : List Member). committed group stands.moments ++ xs)
        (one_applied group (length w.entries + 1) (length next.entries) (is_more (map Change rest)) (after_task units b (Change change) plan now) (destination units next m)
        (one_longer w.entries (entry_of units (Change change) plan now) ∙ ap (λ (x : WorkData). length x.entries) (sym is)) (sym after_commit)
        ∙ ap (λ (d : Bool). if d then destination units next m ∷ [] else []) (sym due_is))

-- The same by the words of a turn that did not end the batch.
pub step_on :
    (Came Next : List Member → Type 0) (units : ℕ) (b : BatchData) (rules : RulesData) (group : ℕ) (out : Outcome) (m n : Member) (w after : WorkData)
    (change : ItemData) (rest : List ItemData) (end : Option ApplyEnd)
    → Stands Came units b rules group out m w (change ∷ rest)
    → IsConsistent units m → Lays units b rules change w m
    → end ≡ None → end ≡ end_before units b rules change w m
    → n ≡ state_if units (is_due group (is_more (map Change rest)) end (length (turned units b rules change w m).entries)) (turned units b rules change w m) m
    → after ≡ work_if (is_due group (is_more (map Change rest)) end (length (turned units b rules change w m).entries)) (turned units b rules change w m)
    → ((made : List Member) → Came made → Next (made ++ states_if units (is_due group (is_more (map Change rest)) end (length (turned units b rules change w m).entries)) (turned units b rules change w m) m))
    → Stands Next units b rules group out n after rest
step_on Came Next units b rules group out m n w after change rest end stands good lays none is n_is after_is on =
    let next : WorkData = turned units b rules change w m in
    let due : Bool = is_due group (is_more (map Change rest)) end (length (turned units b rules change w m).entries) in
    let next_is : turned units b rules change w m ≡ entered units b rules change w m =
    ap (λ (o : Option ApplyEnd). unless_ended o w (entered units b rules change w m)) (sym is ∙ none) in
    let due_is : is_due group (is_more (map Change rest)) end (length (turned units b rules change w m).entries) ≡ (is_more (map Change rest) && divides group (length (turned units b rules change w m).entries)) =
    ap (λ (o : Option ApplyEnd). is_due group (is_more (map Change rest)) o (length (turned units b rules change w m).entries)) none in
    subst (λ (x : Member). Stands Next units b rules group out x after rest) (sym n_is)
    (subst (λ (x : WorkData). Stands Next units b rules group out (state_if units due next m) x rest) (sym after_is)
    (one_entered Came Next units b rules group out m w change rest stands good lays (sym is ∙ none) (turned units b rules change w m) next_is due due_is on))

abbrev pub applied_of : List EntryData → ApplyEnd → AppliedData
applied_of entries end = record { entries = entries; end = end }

-- What came of the batch.
pub record Ends (Came : List Member → Type 0) (group : ℕ) (out : Outcome) (m : Member) (entries : List EntryData) (end : ApplyEnd) : Type 0 where
  pub state : m ≡ out.member
  pub came : Came (committed group out.moments)
  pub report : applied_of entries end ≡ applied_data out

-- What is committed where a batch ends before a change.
one_stopped :
    (group n : ℕ) (st : Member)
    → committed group (Stopped n st ∷ []) ≡ (if not (divides group n) then st ∷ [] else [])
one_stopped group n st = by_test (divides group n) refl
  where
    by_test : (b : Bool) → divides group n ≡ b → committed group (Stopped n st ∷ []) ≡ (if not (divides group n) then st ∷ [] else [])
    by_test true e = rw e refl
    by_test false e = rw e refl

-- The batch ends before a change.
stopping :
    (Came Next : List Member → Type 0) (units : ℕ) (b : BatchData) (rules : RulesData) (group : ℕ) (out : Outcome) (m : Member) (w : WorkData)
    (change : ItemData) (rest : List ItemData) (end : ApplyEnd)
    → Stands Came units b rules group out m w (change ∷ rest)
    → end_before units b rules change w m ≡ Some end
    → ((made : List Member) → Came made → Next (made ++ states_if units (not (divides group (length w.entries))) w m))
    → Ends Next group out (state_if units (not (divides group (length w.entries))) w m) w.entries end
stopping Came Next units b rules group out m w change rest end stands is on = record {
  state = by_test (divides group (length w.entries)) refl ∙ ap (λ (o : Outcome). o.member) out_is;
  came = subst Next (sym came_is) (on (committed group stands.moments) stands.came);
  report = ap applied_data out_is;
}
  where
    out_is : stopped end (progress units m w stands.moments) ≡ out
    out_is = sym (go_off units b rules (progress units m w stands.moments) (Change change) (map Change rest) end is) ∙ stands.goes

    by_test : (d : Bool) → divides group (length w.entries) ≡ d → state_if units (not d) w m ≡ destination units w m
    by_test true e = sym (stands.even refl e)
    by_test false e = refl

    came_is : committed group out.moments ≡ committed group stands.moments ++ states_if units (not (divides group (length w.entries))) w m
    came_is =
        ap (λ (o : Outcome). committed group o.moments) (sym out_is)
        ∙ committed_append group stands.moments (Stopped (length w.entries) (destination units w m) ∷ [])
        ∙ ap (λ (xs : List Member). committed group stands.moments ++ xs) (one_stopped group (length w.entries) (destination units w m))

pub step_off :
    (Came Next : List Member → Type 0) (units : ℕ) (b : BatchData) (rules : RulesData) (group : ℕ) (out : Outcome) (m n : Member) (w after : WorkData)
    (change : ItemData) (rest : List ItemData) (end : Option ApplyEnd) (how : ApplyEnd)
    → Stands Came units b rules group out m w (change ∷ rest)
    → end ≡ Some how → end ≡ end_before units b rules change w m
    → n ≡ state_if units (is_due group (is_more (map Change rest)) end (length (turned units b rules change w m).entries)) (turned units b rules change w m) m
    → after ≡ work_if (is_due group (is_more (map Change rest)) end (length (turned units b rules change w m).entries)) (turned units b rules change w m)
    → ((made : List Member) → Came made → Next (made ++ states_if units (is_due group (is_more (map Change rest)) end (length (turned units b rules change w m).entries)) (turned units b rules change w m) m))
    → Ends Next group out n after.entries how
step_off Came Next units b rules group out m n w after change rest end how stands some is n_is after_is on =
    let next_is : turned units b rules change w m ≡ w =
    ap (λ (o : Option ApplyEnd). unless_ended o w (entered units b rules change w m)) (sym is ∙ some) in
    let due_is : is_due group (is_more (map Change rest)) end (length (turned units b rules change w m).entries) ≡ not (divides group (length w.entries)) =
    ap (λ (o : Option ApplyEnd). is_due group (is_more (map Change rest)) o (length (turned units b rules change w m).entries)) some
    ∙ ap (λ (x : WorkData). not (divides group (length x.entries))) next_is in
    let ends : Ends Next group out (state_if units (not (divides group (length w.entries))) w m) w.entries how =
    stopping Came Next units b rules group out m w change rest how stands (sym is ∙ some)
    (λ made came. subst (λ (x : WorkData). Next (made ++ states_if units (not (divides group (length w.entries))) x m)) next_is
    (subst (λ (d : Bool). Next (made ++ states_if units d (turned units b rules change w m) m)) due_is (on made came))) in
    let state_is : n ≡ state_if units (not (divides group (length w.entries))) w m =
    n_is ∙ ap (λ (d : Bool). state_if units d (turned units b rules change w m) m) due_is
    ∙ ap (λ (x : WorkData). state_if units (not (divides group (length w.entries))) x m) next_is in
    let entries_is : after.entries ≡ w.entries =
    ap (λ (x : WorkData). x.entries) after_is
    ∙ same_entries (is_due group (is_more (map Change rest)) end (length (turned units b rules change w m).entries)) (turned units b rules change w m)
    ∙ ap (λ (x : WorkData). x.entries) next_is in
    subst (λ (x : Member). Ends Next group out x after.entries how) (sym state_is)
    (subst (λ (es : List EntryData). Ends Next group out (state_if units (not (divides group (length w.entries))) w m) es how) (sym entries_is) ends)

-- Nothing is left: the range is learned.
pub finishing :
    (Came Next : List Member → Type 0) (units : ℕ) (b : BatchData) (rules : RulesData) (group : ℕ) (out : Outcome) (m : Member) (w : WorkData)
    → Stands Came units b rules group out m w []
    → RangeLays units b w m
    → ((made : List Member) → Came made → Next (made ++ destination units (with_range_of units b w) m ∷ []))
    → Ends Next group out (destination units (with_range_of units b w) m) w.entries Whole
finishing Came Next units b rules group out m w stands after_commit on = record {
  state = after_commit ∙ ap (λ (o : Outcome). o.member) out_is;
  came = subst Next (sym came_is) (on (committed group stands.moments) stands.came);
  report = ap applied_data out_is;
}
  where
    out_is : finished units b (progress units m w stands.moments) ≡ out
    out_is = sym (go_out units b rules (progress units m w stands.moments)) ∙ stands.goes

    came_is : committed group out.moments ≡ committed group stands.moments ++ destination units (with_range_of units b w) m ∷ []
    came_is =
        ap (λ (o : Outcome). committed group o.moments) (sym out_is)
        ∙ committed_append group stands.moments (Learned (after_range units b (lefts w.entries) (destination units w m)) ∷ [])
        ∙ ap (λ (x : Member). committed group stands.moments ++ x ∷ []) (sym after_commit)

-- The states of a step, behind those before it, are the first of all.
pub record Part (before step all : List Member) : Type 0 where
  pub rest : List Member
  pub joins : before ++ (step ++ rest) ≡ all

-- The same where the provider came by other lists.
coming :
    (Came Next : List Member → Type 0) (units : ℕ) (b : BatchData) (rules : RulesData) (group : ℕ) (out : Outcome) (m : Member) (w : WorkData) (rest : List ItemData)
    → (stands : Stands Came units b rules group out m w rest) → Next (committed group stands.moments)
    → Stands Next units b rules group out m w rest
coming Came Next units b rules group out m w rest stands came = record {
  moments = stands.moments;
  goes = stands.goes;
  came = came;
  waits = stands.waits;
  no_more = stands.no_more;
  even = stands.even;
}

front_of :
    (before step all : List Member) (group : ℕ) (moments out : List Moment) (b : Begins moments out)
    → committed group moments ≡ before ++ step → committed group out ≡ all → Part before step all
front_of before step all group moments out b so_far whole = record {
  rest = committed group b.rest;
  joins = sym (append_assoc before step (committed group b.rest)) ∙ ap (λ (xs : List Member). xs ++ committed group b.rest) (sym so_far)
      ∙ committed_prefix group moments out b ∙ whole;
}

nothing_behind : (before step all : List Member) → all ≡ before ++ step → Part before step all
nothing_behind before step all is = record {
  rest = [];
  joins = ap (λ (xs : List Member). before ++ xs) (append-nil step) ∙ sym is;
}

-- Those of a turn.
pub turn_part :
    (Came : List Member → Type 0) (units : ℕ) (b : BatchData) (rules : RulesData) (group : ℕ) (out : Outcome) (m : Member) (w : WorkData)
    (change : ItemData) (rest : List ItemData)
    → (stands : Stands Came units b rules group out m w (change ∷ rest))
    → IsConsistent units m → Lays units b rules change w m
    → Part (committed group stands.moments)
    (states_if units (is_due group (is_more (map Change rest)) (end_before units b rules change w m) (length (turned units b rules change w m).entries)) (turned units b rules change w m) m)
    (committed group out.moments)
turn_part Came units b rules group out m w change rest stands good lays = by_end (end_before units b rules change w m) refl
  where
    before : List Member
    before = committed group stands.moments

    step : List Member
    step = states_if units (is_due group (is_more (map Change rest)) (end_before units b rules change w m) (length (turned units b rules change w m).entries)) (turned units b rules change w m) m

    due : Bool
    due = is_due group (is_more (map Change rest)) (end_before units b rules change w m) (length (turned units b rules change w m).entries)

    later_state : Member
    later_state = state_if units due (turned units b rules change w m) m

    later_work : WorkData
    later_work = work_if due (turned units b rules change w m)

    alone : Stands (λ made. made ≡ committed group stands.moments) units b rules group out m w (change ∷ rest)
    alone = coming Came (λ made. made ≡ committed group stands.moments) units b rules group out m w (change ∷ rest) stands refl

    by_end : (o : Option ApplyEnd) → end_before units b rules change w m ≡ o → Part before step (committed group out.moments)
    by_end None e =
        let later = step_on (λ made. made ≡ before) (λ made. made ≡ before ++ step) units b rules group out m later_state w later_work change rest (end_before units b rules change w m)
        alone good lays e refl refl refl (λ made is. ap (λ (xs : List Member). xs ++ step) is) in
        let begins : Begins later.moments out.moments =
        subst (λ (o : Outcome). Begins later.moments o.moments) later.goes (go_prefix units b rules (progress units later_state later_work later.moments) (map Change rest)) in
        front_of before step (committed group out.moments) group later.moments out.moments begins later.came refl
    by_end (Some how) e =
        let ends = step_off (λ made. made ≡ before) (λ made. made ≡ before ++ step) units b rules group out m later_state w later_work change rest (end_before units b rules change w m) how
        alone e refl refl refl (λ made is. ap (λ (xs : List Member). xs ++ step) is) in
        nothing_behind before step (committed group out.moments) ends.came

-- That of the range.
pub range_part :
    (Came : List Member → Type 0) (units : ℕ) (b : BatchData) (rules : RulesData) (group : ℕ) (out : Outcome) (m : Member) (w : WorkData)
    → (stands : Stands Came units b rules group out m w [])
    → RangeLays units b w m
    → Part (committed group stands.moments) (destination units (with_range_of units b w) m ∷ []) (committed group out.moments)
range_part Came units b rules group out m w stands after_commit =
    let before : List Member = committed group stands.moments in
    let last : List Member = destination units (with_range_of units b w) m ∷ [] in
    let ends = finishing (λ made. made ≡ before) (λ made. made ≡ before ++ last) units b rules group out m w
    (coming Came (λ made. made ≡ before) units b rules group out m w [] stands refl) after_commit
    (λ made is. ap (λ (xs : List Member). xs ++ last) is) in
    nothing_behind before last (committed group out.moments) ends.came

-- A provider came by these states to where it is now, and that is one of them or the first.
pub record Arrived
    {P : Type 0} (state : P → Member) (kept : P → Option Member) (settled : P → Type 0)
    (came : P → P → List Member → Type 0) (old new : P) (first : Member) (made : List Member) : Type 0 where
  pub path : Arrives state kept settled came old new made (state new)
  pub among : Has (state new) (first ∷ made)

pub arrived_on :
    {P : Type 0} {state : P → Member} {kept : P → Option Member} {settled : P → Type 0} {came : P → P → List Member → Type 0} {p q r : P}
    (units : ℕ) (due : Bool) (w : WorkData) (first : Member) (made : List Member)
    → ((a b c : P) (xs ys : List Member) → came a b xs → came b c ys → came a c (xs ++ ys))
    → Arrived state kept settled came p q first made
    → Arrives state kept settled came q r (states_if units due w (state q)) (state_if units due w (state q))
    → Arrived state kept settled came p r first (made ++ states_if units due w (state q))
arrived_on {state = state} {kept = kept} {settled = settled} {came = came} {p = p} {q = q} {r = r} units due w first made on arrived step =
    let path : Arrives state kept settled came p r (made ++ states_if units due w (state q)) (state_if units due w (state q)) =
    arrives_on on arrived.path step in record {
      path = record { at = refl; settles = path.settles; by = path.by; tells = path.tells };
      among = subst (λ (x : Member). Has x (first ∷ (made ++ states_if units due w (state q)))) (sym step.at) (by_due due);
    }
  where
    by_due : (d : Bool) → Has (state_if units d w (state q)) (first ∷ (made ++ states_if units d w (state q)))
    by_due true = inr (has_right (destination units w (state q)) made (destination units w (state q) ∷ []) (inl refl))
    by_due false = elim arrived.among [ inl same ↦ inl same | inr has ↦ inr (has_left (state q) made [] has) ]

-- A state of a step, or that before it, is one that a storage may be left at.
part_within :
    (group : ℕ) (first now : Member) (before step : List Member) (moments : List Moment)
    → Has now (first ∷ before) → Part before step (committed group moments) → IsPart (now ∷ step) (stops group first moments)
part_within group first now before step moments among part k is =
    among_stops group k first moments (subst (λ (xs : List Member). Has k (first ∷ xs)) part.joins (by_place is))
  where
    by_place : Has k (now ∷ step) → Has k (first ∷ (before ++ (step ++ part.rest)))
    by_place (inl same) =
        subst (λ (x : Member). Has x (first ∷ (before ++ (step ++ part.rest)))) (sym same)
        (elim among [ inl first_is ↦ inl first_is | inr there ↦ inr (has_left now before (step ++ part.rest) there) ])
    by_place (inr there) = inr (has_right k before (step ++ part.rest) (has_left k step part.rest there))

-- What breaks off in a step breaks off in the batch.
pub breaks_part :
    {P : Type 0} {state : P → Member} {kept : P → Option Member} {settled : P → Type 0} {came : P → P → List Member → Type 0}
    {broke : P → P → Member → Type 0} {p q r : P} (group : ℕ) (first : Member) (before step : List Member) (moments : List Moment)
    → ((a b c : P) (xs ys : List Member) → came a b xs → came b c ys → came a c (xs ++ ys))
    → Arrived state kept settled came p q first before → Part before step (committed group moments)
    → BreaksOff kept came broke q r step (state q ∷ step)
    → BreaksOff kept came broke p r (committed group moments) (stops group first moments)
breaks_part {state = state} {q = q} group first before step moments on arrived part breaks =
    breaks_on before step part.rest (committed group moments) (stops group first moments) on arrived.path breaks part.joins
    (part_within group first (state q) before step moments arrived.among part)

-- What a commit that failed leaves, by the words of the step.
pub commit_breaks :
    {P : Type 0} {kept : P → Option Member} {came : P → P → List Member → Type 0} {broke : P → P → Member → Type 0} {p q : P}
    (units : ℕ) (due : Bool) (w : WorkData) (c : CommitData) (m : Member)
    → due ≡ true → c ≡ w.pending → BreaksOff kept came broke p q (after_commit units c m ∷ []) (m ∷ after_commit units c m ∷ [])
    → BreaksOff kept came broke p q (states_if units due w m) (m ∷ states_if units due w m)
commit_breaks {kept = kept} {came = came} {broke = broke} {p = p} {q = q} units due w c m is same breaks =
    subst (λ (d : Bool). BreaksOff kept came broke p q (states_if units d w m) (m ∷ states_if units d w m)) (sym is)
    (subst (λ (x : CommitData). BreaksOff kept came broke p q (after_commit units x m ∷ []) (m ∷ after_commit units x m ∷ [])) same breaks)

-- A commit in a step, by the words of the step: what it leaves, and what a fault in it does.
pub step_work :
    (due due' : Bool) (w w' after : WorkData) → due ≡ due' → w ≡ w' → after ≡ work_if due w → after ≡ work_if due' w'
step_work due due' w w' after same_due same_work is =
    is ∙ ap (λ (d : Bool). work_if d w) same_due ∙ ap (work_if due') same_work

pub step_arrives :
    {P : Type 0} {state : P → Member} {kept : P → Option Member} {settled : P → Type 0} {came : P → P → List Member → Type 0} {p q r : P}
    (units : ℕ) (due due' : Bool) (w w' : WorkData)
    → ((a b c : P) (xs : List Member) → came a b [] → came b c xs → came a c xs)
    → due ≡ due' → w ≡ w' → Rests state kept settled came p q
    → Arrives state kept settled came q r (states_if units due w (state q)) (state_if units due w (state q))
    → Arrives state kept settled came p r (states_if units due' w' (state p)) (state_if units due' w' (state p))
step_arrives {state = state} {kept = kept} {settled = settled} {came = came} {p = p} {q = q} {r = r} units due due' w w' on same_due same_work rests arrives =
    arrives_later on rests
    (subst (λ (x : Member). Arrives state kept settled came q r (states_if units due' w' x) (state_if units due' w' x)) rests.same
    (subst (λ (x : WorkData). Arrives state kept settled came q r (states_if units due' x (state q)) (state_if units due' x (state q))) same_work
    (subst (λ (d : Bool). Arrives state kept settled came q r (states_if units d w (state q)) (state_if units d w (state q))) same_due arrives)))

pub step_breaks :
    {P : Type 0} {state : P → Member} {kept : P → Option Member} {settled : P → Type 0} {came : P → P → List Member → Type 0}
    {broke : P → P → Member → Type 0} {p q r : P} (units : ℕ) (due due' : Bool) (w w' : WorkData)
    → ((a b c : P) (xs ys : List Member) → came a b xs → came b c ys → came a c (xs ++ ys))
    → due ≡ due' → w ≡ w' → Rests state kept settled came p q
    → BreaksOff kept came broke q r (states_if units due w (state q)) (state q ∷ states_if units due w (state q))
    → BreaksOff kept came broke p r (states_if units due' w' (state p)) (state p ∷ states_if units due' w' (state p))
step_breaks {state = state} {kept = kept} {came = came} {broke = broke} {p = p} {q = q} {r = r} units due due' w w' on same_due same_work rests breaks =
    breaks_later on rests
    (subst (λ (x : Member). BreaksOff kept came broke q r (states_if units due' w' x) (x ∷ states_if units due' w' x)) rests.same
    (subst (λ (x : WorkData). BreaksOff kept came broke q r (states_if units due' x (state q)) (state q ∷ states_if units due' x (state q))) same_work
    (subst (λ (d : Bool). BreaksOff kept came broke q r (states_if units d w (state q)) (state q ∷ states_if units d w (state q))) same_due breaks)))

-- Whether a commit is due, by the words of the step.
pub same_due :
    (group count : ℕ) (more due : Bool) (end end' : Option ApplyEnd) (w w' : WorkData)
    → due ≡ is_due group more end count → count ≡ length w.entries → end ≡ end' → w ≡ w'
    → due ≡ is_due group more end' (length w'.entries)
same_due group count more due end end' w w' is counted ends works =
    is ∙ ap (λ (o : Option ApplyEnd). is_due group more o count) ends ∙ ap (is_due group more end') (counted ∙ ap (λ (x : WorkData). length x.entries) works)
