-- What a member knows of other replicas after it learned_ticks from a source: no less than before, no more than
-- both knew, and at the places that it learned_ticks all that both knew.
use Rattle.std.proofs.Common.{◌≡◌, ◌≢◌, ◌⊎◌, ℕ, zero, suc, ◌+◌, ◌<◌, ◌≤◌, ◌^◌, max, not, ◌&&◌, nat_eq, Bool, true, false, true≢false, if◌then◌else◌, List, [], ◌∷◌, ◌++◌, length, Option, Some, None, inl, inr, refl, sym, ◌∙◌, ap, subst, arith, le_refl}
use Rattle.std.specs.List.{list_any}
use Rattle.std.proofs.lemmas.Bool.{cases_eq, eq-eqb, ne_eqb}
use Rattle.sfx_ids.specs.Tick.{max_tick}
use Rattle.sfx_ids.specs.declared.cut.Cut.{Cut}
use Rattle.sfx_ids.specs.declared.cut.Cut.TheVariants.{Start, At, After, End}
use Rattle.sfx_ids.specs.declared.item_id.ItemId.{ItemId}
use Rattle.sfx_ids.specs.Cut.{cut_le, is_between}
use Rattle.sfx_ids.proofs.CutLemmas.{le_or_lt, start-le}
use Rattle.sfx_segments.specs.Segments.{IsPlace}
use Rattle.sfx_segments.proofs.PlaceValues.{lt-end}
use Rattle.sfx_knowledge.specs.Skips.{is_skipped_at}
use Rattle.sfx_knowledge.specs.Knowledge.{HasTicks, IsKnowledge, Known, Ticks, laid_over, learned_ticks, tick_at}
use Rattle.sfx_knowledge.proofs.FormsLemmas.{ticks-with_own, IsKnowledge-with_own}
use Rattle.sfx_model.specs.declared.clash_rule.ClashRule.{ClashRule}
use Rattle.sfx_model.specs.declared.apply_end.ApplyEnd.{ApplyEnd}
use Rattle.sfx_model.specs.declared.apply_end.ApplyEnd.TheVariants as apply_ends
use Rattle.sfx_model.specs.declared.apply_end.ApplyEnd.TheVariants.{Whole, Full}
use Rattle.sfx_model.specs.declared.session_end.SessionEnd.{SessionEnd}
use Rattle.sfx_model.specs.declared.session_end.SessionEnd.TheVariants as session_ends
use Rattle.sfx_model.specs.declared.session_end.SessionEnd.TheVariants.{Done}
use Rattle.sfx_model.specs.declared.mode.Mode.{Mode}
use Rattle.sfx_model.specs.sessions.Achieved.{KnowsBoth, LeavesNothing, member_after}
use Rattle.sfx_model.specs.sessions.Acts.{IsOrderly}
use Rattle.sfx_model.specs.sessions.Batch.{BatchData, batch_from, mode_of}
use Rattle.sfx_model.specs.sessions.Clashes.{Plan}
use Rattle.sfx_model.specs.sessions.Entry.{Changing, Task, after_task, change_other, change_others, changed_by, clock_after_marks, is_stamped, lacks, left_from, task_item, task_plan}
use Rattle.sfx_model.specs.sessions.MemberKnowledge.{laid_known, stored_known}
use Rattle.sfx_model.specs.members.Members.{Member}
use Rattle.sfx_model.specs.sessions.Rules.{RulesData}
use Rattle.sfx_model.specs.sessions.Session.{Course, Outcome, Progress, SessionResult, StepData, after_range, begin, applied_data, ended, ending, go, is_more, is_spent, lefts, session_from, session_of, set_out, stop_before, stop_or, tasks_of, with_entry}
use Rattle.sfx_model.specs.world.Sets.{Has}
use Rattle.sfx_model.proofs.sessions.SessionsEnd.{next_batch, next_course, next_end, next_outcome}
use Rattle.sfx_model.proofs.sessions.LearnedKnowledge.{laid_other}
use Rattle.sfx_model.proofs.world.SetsLemmas.{has_left, has_right}
use Rattle.sfx_model.proofs.sessions.StoredKnowledge.{stored_form, stored_has}
use Rattle.sfx_model.proofs.sessions.TaskActs.{room_left}

-- The member's id and clock are in range, and what it knows stands in its one form.
pub record KnowsInForm (units : ℕ) (m : Member) : Type 0 where
  pub some : 1 ≤ units
  pub id : m.id < 2 ^ 128
  pub clock : m.clock ≤ max_tick
  pub knowledge : IsKnowledge units m.knowledge

pub knows_form : (units : ℕ) (m : Member) → IsOrderly units m → KnowsInForm units m
knows_form units m orderly =
    record { some = orderly.some; id = orderly.id; clock = orderly.clock; knowledge = orderly.knowledge }

pub laid_ticks : (units : ℕ) (m : Member) → KnowsInForm units m → HasTicks units (laid_known units m) (laid_over m.id m.clock (tick_at m.knowledge))
laid_ticks units m form = ticks-with_own units m.id m.clock m.knowledge form.knowledge form.clock form.id

pub laid_in_form : (units : ℕ) (m : Member) → KnowsInForm units m → IsKnowledge units (laid_known units m)
laid_in_form units m form = IsKnowledge-with_own units m.id m.clock m.knowledge form.knowledge form.clock form.id

-- The member m became n: of other replicas it knows no less than before, no more than m and the ticks do,
-- and at the covered places as much as both.
pub record Gains (units : ℕ) (there : Ticks) (covered : Cut → Bool) (m n : Member) : Type 0 where
  pub form : KnowsInForm units n
  pub id : n.id ≡ m.id
  pub clock : m.clock ≤ n.clock
  pub kept :
      (place : Cut) (u r : ℕ) → IsPlace place → u < units → r ≢ m.id →
      tick_at m.knowledge place u r ≤ tick_at n.knowledge place u r
  pub bounded :
      (place : Cut) (u r : ℕ) → IsPlace place → u < units → r ≢ m.id →
      tick_at n.knowledge place u r ≤ max (tick_at m.knowledge place u r) (there place u r)
  pub joined :
      (place : Cut) (u r : ℕ) → IsPlace place → u < units → r ≢ m.id → covered place ≡ true →
      max (tick_at m.knowledge place u r) (there place u r) ≤ tick_at n.knowledge place u r

-- One gain after another covers what either does.
pub gains_on :
    (units : ℕ) (there : Ticks) (first second covered : Cut → Bool) (m n o : Member)
    → Gains units there first m n → Gains units there second n o
    → ((place : Cut) → IsPlace place → covered place ≡ true → (first place ≡ true) ⊎ (second place ≡ true))
    → Gains units there covered m o
gains_on units there first second covered m n o a b either = record {
  form = b.form;
  id = b.id ∙ a.id;
  clock = let low = a.clock in let high = b.clock in omega arith;
  kept = λ place u r at small other.
      let low = a.kept place u r at small other in
      let high = b.kept place u r at small (still_other r other) in
      omega arith;
  bounded = λ place u r at small other.
      let low = a.bounded place u r at small other in
      let high = b.bounded place u r at small (still_other r other) in
      omega arith;
  joined = λ place u r at small other within.
      let up = a.kept place u r at small other in
      let more = b.kept place u r at small (still_other r other) in
      elim (either place at within) [
        | inl here ↦ (let all = a.joined place u r at small other here in omega arith)
        | inr here ↦ (let all = b.joined place u r at small (still_other r other) here in omega arith)
      ];
}
  where
    still_other : (r : ℕ) → r ≢ m.id → r ≢ n.id
    still_other r other same = other (same ∙ a.id)

-- What covers some places covers fewer.
covers_more :
    (units : ℕ) (there : Ticks) (wide narrow : Cut → Bool) (m n : Member)
    → Gains units there wide m n → ((place : Cut) → IsPlace place → narrow place ≡ true → wide place ≡ true)
    → Gains units there narrow m n
covers_more units there wide narrow m n gains within = record {
  form = gains.form;
  id = gains.id;
  clock = gains.clock;
  kept = gains.kept;
  bounded = gains.bounded;
  joined = λ place u r at small other here. gains.joined place u r at small other (within place at here);
}

-- ---- what is learned_ticks

learned_up : (b : Bool) (here there : ℕ) → here ≤ (if b then max here there else here)
learned_up true here there = omega arith
learned_up false here there = le_refl here

learned_low : (b : Bool) (here there : ℕ) → (if b then max here there else here) ≤ max here there
learned_low true here there = le_refl (max here there)
learned_low false here there = omega arith

learned_all : (b : Bool) (here there : ℕ) → b ≡ true → max here there ≤ (if b then max here there else here)
learned_all true here there is = le_refl (max here there)
learned_all false here there is = absurd (true≢false (sym is))

-- A member that stores what it learned_ticks in a range gains it, at places where no unit is left out.
pub learned_gains :
    (units : ℕ) (lo hi : Cut) (left : List (ItemId × ℕ)) (made : Known) (covered : Cut → Bool) (m n : Member)
    → KnowsInForm units m → IsKnowledge units made → n.id ≡ m.id → m.clock ≤ n.clock → n.clock ≤ max_tick
    → n.knowledge ≡ stored_known units m.id lo hi left m.knowledge made
    → ((place : Cut) (u : ℕ) → covered place ≡ true → (is_between lo hi place && not (is_skipped_at left place u)) ≡ true)
    → Gains units (tick_at made) covered m n
learned_gains units lo hi left made covered m n form made_form id up fits is within = record {
  form = record {
    some = form.some;
    id = subst (λ (i : ℕ). i < 2 ^ 128) (sym id) form.id;
    clock = fits;
    knowledge = subst (λ (k : Known). IsKnowledge units k) (sym is)
        (stored_form units m.id lo hi left m.knowledge made form.some form.id form.knowledge made_form);
  };
  id = id;
  clock = up;
  kept = λ place u r at small other.
      subst (λ (t : ℕ). tick_at m.knowledge place u r ≤ t) (sym (entry place u r at small other))
      (learned_up (is_between lo hi place && not (is_skipped_at left place u)) (tick_at m.knowledge place u r) (tick_at made place u r));
  bounded = λ place u r at small other.
      subst (λ (t : ℕ). t ≤ max (tick_at m.knowledge place u r) (tick_at made place u r)) (sym (entry place u r at small other))
      (learned_low (is_between lo hi place && not (is_skipped_at left place u)) (tick_at m.knowledge place u r) (tick_at made place u r));
  joined = λ place u r at small other here.
      subst (λ (t : ℕ). max (tick_at m.knowledge place u r) (tick_at made place u r) ≤ t) (sym (entry place u r at small other))
      (learned_all (is_between lo hi place && not (is_skipped_at left place u)) (tick_at m.knowledge place u r) (tick_at made place u r)
      (within place u here));
}
  where
    entry :
        (place : Cut) (u r : ℕ) → IsPlace place → u < units → r ≢ m.id
        → tick_at n.knowledge place u r ≡ learned_ticks lo hi left (tick_at m.knowledge) (tick_at made) place u r
    entry place u r at small other =
        ap (λ (k : Known). tick_at k place u r) is
        ∙ stored_has units m.id lo hi left m.knowledge made form.some form.id form.knowledge made_form place u r at small
        ∙ laid_other m.id 0 (learned_ticks lo hi left (tick_at m.knowledge) (tick_at made)) place u r other

-- ---- a task

-- Each other item that an entry changes takes one tick.
changed_clock :
    (own : ℕ) (rule : Option ClashRule) (c : Changing) (is : List ItemId)
    → (change_others own rule c is).clock ≡ c.clock + length is
unfolding change_others
changed_clock own rule c [] = omega arith
changed_clock own rule c (i ∷ is) = let rest = changed_clock own rule (change_other own rule i c) is in omega (arith, rest)

task_clock :
    (units : ℕ) (b : BatchData) (t : Task) (p : Plan) (m : Member)
    → (after_task units b t p m).clock ≡ clock_after_marks p.draft.marks m.clock + length p.others
unfolding after_task changed_by
task_clock units b t p m = changed_clock m.id p.acts _ p.others

stamped_up : (b : Bool) (clock : ℕ) → clock ≤ (if b then clock + 1 else clock)
stamped_up true clock = omega arith
stamped_up false clock = le_refl clock

task_id : (units : ℕ) (b : BatchData) (t : Task) (p : Plan) (m : Member) → (after_task units b t p m).id ≡ m.id
unfolding after_task
task_id units b t p m = refl

task_stores :
    (units : ℕ) (b : BatchData) (t : Task) (p : Plan) (m : Member)
    → (after_task units b t p m).knowledge
    ≡ stored_known units m.id (At (task_item t)) (After (task_item t)) (left_from (task_item t) 0 p.draft.marks) m.knowledge b.made_with
unfolding after_task
task_stores units b t p m = refl

task_gains :
    (units : ℕ) (b : BatchData) (t : Task) (p : Plan) (m : Member)
    → KnowsInForm units m → IsKnowledge units b.made_with → lacks p m.clock ≡ false
    → Gains units (tick_at b.made_with) (λ place. false) m (after_task units b t p m)
task_gains units b t p m form made enough =
    let clock = task_clock units b t p m in
    let up = stamped_up (list_any is_stamped p.draft.marks) m.clock in
    let room = room_left p m.clock form.clock enough in
    learned_gains units (At (task_item t)) (After (task_item t)) (left_from (task_item t) 0 p.draft.marks) b.made_with (λ place. false)
    m (after_task units b t p m) form made (task_id units b t p m) (omega (arith, clock, up)) (omega (arith, clock, room))
    (task_stores units b t p m) (λ place u none. absurd (true≢false (sym none)))

-- ---- a batch

range_gains :
    (units : ℕ) (b : BatchData) (left : List (ItemId × ℕ)) (m : Member)
    → KnowsInForm units m → IsKnowledge units b.made_with → left ≡ []
    → Gains units (tick_at b.made_with) (is_between b.from b.to) m (after_range units b left m)
unfolding after_range
range_gains units b left m form made none =
    learned_gains units b.from b.to left b.made_with (is_between b.from b.to) m (after_range units b left m) form made refl
    (le_refl m.clock) form.clock refl
    (λ place u within. rw (within, none) (unskipped place u))
  where
    unskipped : (place : Cut) (u : ℕ) → not (is_skipped_at [] place u) ≡ true
    unskipped Start u = refl
    unskipped (At i) u = refl
    unskipped (After i) u = refl
    unskipped End u = refl

-- Where a batch stops before a task, it is not outcome_of whole.
stops_short : (budget : Option ℕ) (p : Plan) (m : Member) (end : ApplyEnd) → stop_before budget p m ≡ Some end → end ≢ Whole
stops_short budget p m end = by_tests (is_spent budget) (lacks p m.clock)
  where
    by_tests : (a b : Bool) → (if a then Some apply_ends.Cut else (if b then Some (Full m.clock) else None)) ≡ Some end → end ≢ Whole
    by_tests true b e whole = cc
    by_tests false true e whole = cc
    by_tests false false e whole = cc

goes_enough : (budget : Option ℕ) (p : Plan) (m : Member) → stop_before budget p m ≡ None → lacks p m.clock ≡ false
goes_enough budget p m = by_tests (is_spent budget) (lacks p m.clock)
  where
    by_tests : (a b : Bool) → (if a then Some apply_ends.Cut else (if b then Some (Full m.clock) else None)) ≡ None → b ≡ false
    by_tests true b e = absurd (cc)
    by_tests false true e = absurd (cc)
    by_tests false false e = refl

pub go_gains :
    (units : ℕ) (b : BatchData) (rules : RulesData) (p : Progress) (ts : List Task)
    → KnowsInForm units p.member → IsKnowledge units b.made_with
    → (go units b rules p ts).end ≡ Whole → lefts (go units b rules p ts).entries ≡ []
    → Gains units (tick_at b.made_with) (is_between b.from b.to) p.member (go units b rules p ts).member
unfolding go
go_gains units b rules p [] form made whole none = range_gains units b (lefts p.entries) p.member form made none
go_gains units b rules p (t ∷ ts) form made whole none =
    by_stop (λ fit goes nothing. go_gains units b rules next ts fit made goes nothing)
    (stop_before p.budget plan p.member) refl whole none
  where
    plan : Plan
    plan = task_plan units rules b p.member t

    next : Progress
    next = with_entry units b t (is_more ts) plan p

    by_stop :
        (KnowsInForm units next.member → (go units b rules next ts).end ≡ Whole → lefts (go units b rules next ts).entries ≡ []
        → Gains units (tick_at b.made_with) (is_between b.from b.to) next.member (go units b rules next ts).member)
        → (o : Option ApplyEnd) → stop_before p.budget plan p.member ≡ o
        → (stop_or o p (go units b rules next ts)).end ≡ Whole → lefts (stop_or o p (go units b rules next ts)).entries ≡ []
        → Gains units (tick_at b.made_with) (is_between b.from b.to) p.member (stop_or o p (go units b rules next ts)).member
    by_stop rest (Some end) stops ends nothing = absurd (stops_short p.budget plan p.member end stops ends)
    by_stop rest None goes ends nothing =
        let first = task_gains units b t plan p.member form made (goes_enough p.budget plan p.member goes) in
        gains_on units (tick_at b.made_with) (λ place. false) (is_between b.from b.to) (is_between b.from b.to)
        p.member next.member (go units b rules next ts).member first
        (rest first.form ends nothing) (λ place at within. inr within)

-- ---- a session

-- The steps of a session so far stay.
pub steps_kept :
    (bound units : ℕ) (source : Member) (mode : Mode) (rules : RulesData) (size : ℕ) (c : Course) (from : Cut) (s : StepData)
    → Has s c.steps → Has s (session_from bound units source mode rules size c from).course.steps
unfolding session_from
steps_kept zero units source mode rules size c from s has = has
steps_kept (suc bound) units source mode rules size c from s has =
    by_end (next_end units source mode rules size c from)
    (steps_kept bound units source mode rules size (next_course units source mode rules size c from)
    (next_batch units source mode size c from).to s more)
  where
    more : Has s (next_course units source mode rules size c from).steps
    more = has_left s c.steps _ has

    by_end :
        (e : Option SessionEnd)
        → Has s (session_from bound units source mode rules size (next_course units source mode rules size c from) (next_batch units source mode size c from).to).course.steps
        → Has s (ended (next_course units source mode rules size c from) e (session_from bound units source mode rules size (next_course units source mode rules size c from) (next_batch units source mode size c from).to)).course.steps
    by_end (Some end) rest = more
    by_end None rest = rest

-- A batch that ends a session as done, or does not end it, is outcome_of whole; in the first case it ranges up
-- to the end.
goes_whole : (to : Cut) (end : ApplyEnd) (budget : Option ℕ) → ending to end budget ≡ None → end ≡ Whole
goes_whole to apply_ends.Cut budget e = absurd (cc)
goes_whole to (Full clock) budget e = absurd (cc)
goes_whole to Whole budget e = refl

done_whole : (to : Cut) (end : ApplyEnd) (budget : Option ℕ) → ending to end budget ≡ Some Done → end ≡ Whole
done_whole to apply_ends.Cut budget e = absurd (cc)
done_whole to (Full clock) budget e = absurd (cc)
done_whole to Whole budget e = refl

not_done : (b : Bool) → (if b then Some session_ends.Cut else None) ≡ Some Done → ⊥
not_done true e = cc
not_done false e = cc

done_end : (to : Cut) (end : ApplyEnd) (budget : Option ℕ) → ending to end budget ≡ Some Done → to ≡ End
done_end to apply_ends.Cut budget e = absurd (cc)
done_end to (Full clock) budget e = absurd (cc)
done_end End Whole budget e = refl
done_end Start Whole budget e = absurd (not_done (is_spent budget) e)
done_end (At i) Whole budget e = absurd (not_done (is_spent budget) e)
done_end (After i) Whole budget e = absurd (not_done (is_spent budget) e)

batch_starts :
    (units : ℕ) (source : Member) (mode : Mode) (size : ℕ) (c : Course) (from : Cut)
    → (next_batch units source mode size c from).from ≡ from
unfolding batch_from
batch_starts units source mode size c from = refl

batch_knows :
    (units : ℕ) (source : Member) (mode : Mode) (size : ℕ) (c : Course) (from : Cut)
    → (next_batch units source mode size c from).made_with ≡ laid_known units source
unfolding batch_from
batch_knows units source mode size c from = refl

-- What one batch of a session gains.
batch_gains :
    (units : ℕ) (source : Member) (mode : Mode) (rules : RulesData) (size : ℕ) (c : Course) (from : Cut)
    → KnowsInForm units c.member → KnowsInForm units source
    → (next_outcome units source mode rules size c from).end ≡ Whole
    → lefts (next_outcome units source mode rules size c from).entries ≡ []
    → Gains units (tick_at (laid_known units source)) (is_between from (next_batch units source mode size c from).to)
    c.member (next_outcome units source mode rules size c from).member
batch_gains units source mode rules size c from form theirs whole none =
    subst (λ (lo : Cut). Gains units (tick_at (laid_known units source)) (is_between lo b.to) c.member out.member)
    (batch_starts units source mode size c from)
    (subst (λ (k : Known). Gains units (tick_at k) (is_between b.from b.to) c.member out.member)
    (batch_knows units source mode size c from)
    (go_gains units b rules (begin c.budget c.member) (tasks_of units b c.member) form
    (subst (λ (k : Known). IsKnowledge units k) (sym (batch_knows units source mode size c from)) (laid_in_form units source theirs))
    whole none))
  where
    b : BatchData
    b = next_batch units source mode size c from

    out : Outcome
    out = next_outcome units source mode rules size c from

-- Every place from one on is in the range up to the end, or in the range up to another cut, or behind it.
to_the_end : (from to place : Cut) → to ≡ End → IsPlace place → cut_le from place ≡ true → is_between from to place ≡ true
to_the_end from to place is at le = rw (is, le) (lt-end place at)

before_or_behind :
    (from to place : Cut) → cut_le from place ≡ true → (is_between from to place ≡ true) ⊎ (cut_le to place ≡ true)
before_or_behind from to place le = elim (le_or_lt to place) [
  | inl behind ↦ inr behind
  | inr before ↦ inl (rw (le, before) refl)
]

-- The rest of a session gains all from its place on, where it leaves nothing.
pub session_gains :
    (bound units : ℕ) (source : Member) (mode : Mode) (rules : RulesData) (size : ℕ) (c : Course) (from : Cut)
    → KnowsInForm units c.member → KnowsInForm units source
    → LeavesNothing (session_from bound units source mode rules size c from)
    → Gains units (tick_at (laid_known units source)) (cut_le from) c.member
    (session_from bound units source mode rules size c from).course.member
unfolding session_from
session_gains zero units source mode rules size c from form theirs leaves = absurd (let bad = leaves.end in cc)
session_gains (suc bound) units source mode rules size c from form theirs leaves =
    by_end (λ fit nothing. session_gains bound units source mode rules size course b.to fit theirs nothing)
    (next_end units source mode rules size c from) refl leaves
  where
    b : BatchData
    b = next_batch units source mode size c from

    out : Outcome
    out = next_outcome units source mode rules size c from

    course : Course
    course = next_course units source mode rules size c from

    rest : SessionResult
    rest = session_from bound units source mode rules size course b.to

    here : StepData
    here = record { batch = b; applied = applied_data out }

    has_here : Has here course.steps
    has_here = has_right here c.steps (here ∷ []) (inl refl)

    first : out.end ≡ Whole → lefts out.entries ≡ [] → Gains units (tick_at (laid_known units source)) (is_between from b.to) c.member out.member
    first = batch_gains units source mode rules size c from form theirs

    by_end :
        (KnowsInForm units out.member → LeavesNothing rest
        → Gains units (tick_at (laid_known units source)) (cut_le b.to) out.member rest.course.member)
        → (e : Option SessionEnd) → next_end units source mode rules size c from ≡ e → LeavesNothing (ended course e rest)
        → Gains units (tick_at (laid_known units source)) (cut_le from) c.member (ended course e rest).course.member
    by_end goes (Some end) is nothing =
        let last : ending b.to out.end course.budget ≡ Some Done = is ∙ ap (λ (x : SessionEnd). Some x) nothing.end in
        covers_more units (tick_at (laid_known units source)) (is_between from b.to) (cut_le from) c.member out.member
        (first (done_whole b.to out.end course.budget last) (nothing.lefts here has_here))
        (λ place at le. to_the_end from b.to place (done_end b.to out.end course.budget last) at le)
    by_end goes None is nothing =
        let a = first (goes_whole b.to out.end course.budget is)
        (nothing.lefts here (steps_kept bound units source mode rules size course b.to here has_here)) in
        gains_on units (tick_at (laid_known units source)) (is_between from b.to) (cut_le b.to) (cut_le from) c.member out.member rest.course.member
        a (goes a.form nothing)
        (λ place at le. before_or_behind from b.to place le)

-- A session that leaves nothing gains everything.
pub whole_gains :
    (units : ℕ) (source m : Member) (rules : RulesData) (size : ℕ) (cut : Option ℕ)
    → KnowsInForm units source → KnowsInForm units m → LeavesNothing (session_of units source m rules size cut)
    → Gains units (tick_at (laid_known units source)) (cut_le Start) m (member_after (session_of units source m rules size cut))
unfolding session_of
whole_gains units source m rules size cut theirs ours leaves =
    session_gains (length source.items + 1) units source
    (mode_of units source.forgotten (laid_known units m)) rules size (set_out cut m) Start ours theirs leaves

-- ---- what both knew

pub gained_ticks :
    (units : ℕ) (source m n : Member)
    → KnowsInForm units m → Gains units (tick_at (laid_known units source)) (cut_le Start) m n → KnowsBoth units source m n
gained_ticks units source m n form gains place u r at small =
    laid_ticks units n gains.form place u r at small ∙ elim (cases_eq r m.id) [
      | inl own ↦ rw (eq-eqb r n.id (own ∙ sym gains.id), eq-eqb r m.id own) refl
      | inr other ↦
          let low = gains.bounded place u r at small other in
          let high = gains.joined place u r at small other (start-le place) in
          let before : tick_at (laid_known units m) place u r ≡ tick_at m.knowledge place u r =
          laid_ticks units m form place u r at small ∙ laid_other m.id m.clock (tick_at m.knowledge) place u r other in
          let both : tick_at n.knowledge place u r ≡ max (tick_at (laid_known units m) place u r) (tick_at (laid_known units source) place u r) =
          omega (arith, low, high, before) in
          laid_other n.id n.clock (tick_at n.knowledge) place u r (λ same. other (same ∙ gains.id))
          ∙ both ∙ sym (rw (ne_eqb r m.id other) refl)
    ]

pub knows_both :
    (units : ℕ) (source m : Member) (rules : RulesData) (size : ℕ) (cut : Option ℕ)
    → KnowsInForm units source → KnowsInForm units m → LeavesNothing (session_of units source m rules size cut)
    → KnowsBoth units source m (member_after (session_of units source m rules size cut))
knows_both units source m rules size cut theirs ours leaves =
    gained_ticks units source m (member_after (session_of units source m rules size cut)) ours
    (whole_gains units source m rules size cut theirs ours leaves)
