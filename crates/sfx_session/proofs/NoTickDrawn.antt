-- Sessions that leave each conflict alone draw no tick: so no batch ends for want of ticks, and the
-- destination's clock stays.
use Rattle.std.proofs.Common.{◌≡◌, ℕ, zero, suc, ◌≤◌, Bool, true, false, cond, arith, refl, ap, ◌∙◌, List, [], ◌∷◌, map, replicate, length, add-one, Option, Some, None}
use Rattle.std.proofs.lemmas.Bool.Decides.{nat_tests}
use Rattle.std.specs.List.{list_any}
use Rattle.sfx_ids.specs.declared.cut.Cut.{Cut}
use Rattle.sfx_ids.specs.declared.cut.Cut.TheVariants.{Start}
use Rattle.sfx_ids.specs.declared.item_id.ItemId.{ItemId}
use Rattle.sfx_knowledge.specs.Knowledge.{Known}
use Rattle.sfx_knowledge.specs.Forgotten.{Forgets}
use Rattle.sfx_model.specs.declared.absent.Absent.{Absent}
use Rattle.sfx_model.specs.declared.absent.Absent.TheVariants.{Keep, Drop, Conflict}
use Rattle.sfx_model.specs.declared.apply_end.ApplyEnd.{ApplyEnd}
use Rattle.sfx_model.specs.declared.apply_end.ApplyEnd.TheVariants.{Whole}
use Rattle.sfx_model.specs.declared.clash_rule.ClashRule.TheVariants as clash_rules
use Rattle.sfx_model.specs.declared.keep.Keep.TheVariants.{Skip}
use Rattle.sfx_model.specs.declared.mark.Mark.{Mark}
use Rattle.sfx_model.specs.declared.mark.Mark.TheVariants as entry_marks
use Rattle.sfx_model.specs.declared.mark.Mark.TheVariants.{Taken, Left, Gone}
use Rattle.sfx_model.specs.declared.mode.Mode.{Mode}
use Rattle.sfx_model.specs.declared.session_end.SessionEnd.{SessionEnd}
use Rattle.sfx_model.specs.declared.session_end.SessionEnd.TheVariants.{Done}
use Rattle.sfx_model.specs.declared.unit_class.UnitClass.{UnitClass}
use Rattle.sfx_model.specs.declared.unit_class.UnitClass.TheVariants as unit_classes
use Rattle.sfx_model.specs.declared.unit_class.UnitClass.TheVariants.{Newer, Concurrent}
use Rattle.sfx_model.specs.sessions.Batch.{BatchData, mode_of}
use Rattle.sfx_model.specs.sessions.Clashes.{Plan, plan_named, plan_among, drafted_name}
use Rattle.sfx_model.specs.sessions.Class.{ClassData, AllKnown, TakeWhole, Units, WholeConflict, class_of}
use Rattle.sfx_model.specs.sessions.Draft.{DraftData, absent_draft, draft_of, unit_mark}
use Rattle.sfx_model.specs.sessions.Entry.{Task, Unlisted, Change, task_plan, task_item, task_draft, unlisted_class, forgets_after, lacks, after_task, changed_by, change_others, is_stamped}
use Rattle.sfx_model.specs.sessions.MemberKnowledge.{laid_known, ahead_of}
use Rattle.sfx_item.specs.Item.{ItemState, ItemData}
use Rattle.sfx_model.specs.members.Members.{Member, state_of}
use Rattle.sfx_model.specs.members.Readings.{clashing_with, items_from}
use Rattle.sfx_model.specs.sessions.Rules.{RulesData}
use Rattle.sfx_model.specs.sessions.Session.{Course, Outcome, Progress, SessionResult, after_range, ended, ending, go, is_end, is_more, reduced, session_from, session_of, set_out, stop_before, stop_or, with_entry}
use Rattle.sfx_apply.specs.Rules.{LeavesConflicts}
use Rattle.sfx_session.specs.Travel.{TravelData, due_batch, due_outcome}
use Rattle.sfx_session.proofs.TravelLemmas.{from_start}
use Rattle.sfx_model.proofs.sessions.SessionsEnd.{less, next_batch, next_course, next_end, next_outcome, session_step}

-- ---- no unit is stamped

abbrev pub IsUnstamped : List Mark → Type 0
IsUnstamped marks = list_any is_stamped marks ≡ false

same_marks : (mark : Mark) (n : ℕ) → is_stamped mark ≡ false → IsUnstamped (replicate n mark)
same_marks mark zero not = refl
same_marks mark (suc n) not = rw (not, same_marks mark n not) refl

unit_marks_unstamped : (classes : List UnitClass) → IsUnstamped (map (unit_mark Skip) classes)
unit_marks_unstamped [] = refl
unit_marks_unstamped (unit_classes.Known ∷ classes) = unit_marks_unstamped classes
unit_marks_unstamped (Newer ∷ classes) = unit_marks_unstamped classes
unit_marks_unstamped (Concurrent ∷ classes) = unit_marks_unstamped classes

absent_unstamped : (units : ℕ) (class : Absent) (here : Option ItemState) → IsUnstamped (absent_draft units Skip class here).marks
absent_unstamped units Keep here = same_marks entry_marks.Stays units refl
absent_unstamped units Drop here = same_marks Gone units refl
absent_unstamped units Conflict here = same_marks Left units refl

pub record IsQuiet (p : Plan) : Type 0 where
  pub marks : IsUnstamped p.draft.marks
  pub others : p.others ≡ []

among_quiet : (units : ℕ) (i : ItemId) (items : List ItemData) (name : List ℕ) (clashing : List ItemId) (draft : DraftData)
    → IsUnstamped draft.marks → IsQuiet (plan_among units clash_rules.Skip i items name clashing draft)
among_quiet units i items name [] draft unstamped = record { marks = unstamped; others = refl }
among_quiet units i items name (j ∷ js) draft unstamped = record { marks = same_marks Left units refl; others = refl }

named_quiet : (units : ℕ) (i : ItemId) (items : List ItemData) (name : Option (List ℕ)) (draft : DraftData)
    → IsUnstamped draft.marks → IsQuiet (plan_named units clash_rules.Skip i items name draft)
named_quiet units i items None draft unstamped = record { marks = unstamped; others = refl }
named_quiet units i items (Some name) draft unstamped = among_quiet units i items name (clashing_with name (Some i) items) draft unstamped

none_lacks : (p : Plan) (clock : ℕ) → IsQuiet p → lacks p clock ≡ false
none_lacks p clock quiet = rw (quiet.marks, quiet.others) (grind (arith, nat_tests))

quiet_stop : (p : Plan) (m : Member) → IsQuiet p → stop_before None p m ≡ None
quiet_stop p m quiet = rw (none_lacks p m.clock quiet) refl

ended_done : (next : Course) (to : Cut) (rest : SessionResult) → (ending to Whole None ≡ None → rest.end ≡ Done) → (ended next (ending to Whole None) rest).end ≡ Done
ended_done next to rest goes = by_test (is_end to) goes where
  by_test : (b : Bool) → (cond b (Some Done) (let goes_on : Option SessionEnd = None in goes_on) ≡ None → rest.end ≡ Done) → (ended next (cond b (Some Done) None) rest).end ≡ Done
  by_test true goes = refl
  by_test false goes = goes refl

-- the second member has the id and the clock of the first
pub record Stays (m n : Member) : Type 0 where
  pub id : n.id ≡ m.id
  pub clock : n.clock ≡ m.clock

task_stays : (units : ℕ) (b : BatchData) (t : Task) (p : Plan) (m : Member) → IsQuiet p → Stays m (after_task units b t p m)
unfolding after_task changed_by change_others
task_stays units b t p m quiet = record {
  id = refl;
  clock = rw (quiet.others, quiet.marks) refl;
}

pub stays_on : (m n o : Member) → Stays m n → Stays n o → Stays m o
stays_on m n o first next = record { id = next.id ∙ first.id; clock = next.clock ∙ first.clock }

-- so what is ahead of it stays
pub ahead_stays : (m n : Member) (known : Known) (forgotten : Forgets) → Stays m n → ahead_of n known forgotten ≡ ahead_of m known forgotten
ahead_stays m n known forgotten stays = rw (stays.id, stays.clock) refl

-- ---- under rules that leave conflicts alone

module _ (rules : RulesData) (skip : LeavesConflicts rules) where
  draft_unstamped : (units : ℕ) (class : ClassData) (seen here : Option ItemState) → IsUnstamped (draft_of units rules class seen here).marks
  draft_unstamped units AllKnown seen here = same_marks entry_marks.Stays units refl
  draft_unstamped units TakeWhole seen here = same_marks Taken units refl
  draft_unstamped units (Units classes) seen here = rw skip.keep (unit_marks_unstamped classes)
  draft_unstamped units WholeConflict seen here = rw skip.keep (same_marks Left units refl)

  -- ---- a plan that draws no tick

  task_unstamped : (units : ℕ) (b : BatchData) (m : Member) (here : Option ItemState) (t : Task)
      → IsUnstamped (task_draft units rules b m here t).marks
  task_unstamped units b m here (Unlisted id) = rw skip.keep (absent_unstamped units (unlisted_class units (laid_known units m) b id here) here)
  task_unstamped units b m here (Change item) =
      draft_unstamped units (class_of units (laid_known units m) b.made_with (forgets_after b m) item here) (Some item.state) here

  pub plan_quiet : (units : ℕ) (b : BatchData) (m : Member) (t : Task) → IsQuiet (task_plan units rules b m t)
  unfolding task_plan
  plan_quiet units b m t =
      let draft = task_draft units rules b m (state_of m.items (task_item t)) t in
      rw skip.clash (named_quiet units (task_item t) m.items (drafted_name draft) draft (task_unstamped units b m (state_of m.items (task_item t)) t))

  -- ---- the batch is applied whole

  pub goes_whole : (units : ℕ) (b : BatchData) (p : Progress) (ts : List Task) → p.budget ≡ None → (go units b rules p ts).end ≡ Whole
  unfolding go
  goes_whole units b p [] none = refl
  goes_whole units b p (t ∷ ts) none =
      let plan = task_plan units rules b p.member t in
      ap (λ (stop : Option ApplyEnd). (stop_or stop p (go units b rules (with_entry units b t (is_more ts) plan p) ts)).end)
      (ap (λ (budget : Option ℕ). stop_before budget plan p.member) none ∙ quiet_stop plan p.member (plan_quiet units b p.member t))
      ∙ goes_whole units b (with_entry units b t (is_more ts) plan p) ts (ap (λ (budget : Option ℕ). reduced budget 1) none)

  -- ---- a session that is not cut is done

  next_ends_done : (units : ℕ) (source : Member) (mode : Mode) (size : ℕ) (c : Course) (from : Cut) (rest : SessionResult) → c.budget ≡ None
      → (next_end units source mode rules size c from ≡ None → rest.end ≡ Done)
      → (ended (next_course units source mode rules size c from) (next_end units source mode rules size c from) rest).end ≡ Done
  next_ends_done units source mode size c from rest none goes =
      let to = (next_batch units source mode size c from).to in
      let is : next_end units source mode rules size c from ≡ ending to Whole None =
      ap (λ (e : ApplyEnd). ending to e (next_course units source mode rules size c from).budget) (goes_whole units _ _ _ none)
      ∙ ap (λ (budget : Option ℕ). ending to Whole (reduced budget (length (next_outcome units source mode rules size c from).entries))) none in
      ap (λ (e : Option SessionEnd). (ended (next_course units source mode rules size c from) e rest).end) is
      ∙ ended_done (next_course units source mode rules size c from) to rest (λ on. goes (is ∙ on))

  pub ends_done : (bound units : ℕ) (source : Member) (mode : Mode) (size : ℕ) (c : Course) (from : Cut) → c.budget ≡ None
      → length (items_from from source.items) ≤ bound
      → (session_from (suc bound) units source mode rules size c from).end ≡ Done
  ends_done zero units source mode size c from none enough =
      ap (λ (r : SessionResult). r.end) (session_step zero units source mode rules size c from)
      ∙ next_ends_done units source mode size c from _ none
      (λ on. absurd (omega (arith, enough, less units source mode size _ from _ _ on)))
  ends_done (suc bound) units source mode size c from none enough =
      ap (λ (r : SessionResult). r.end) (session_step (suc bound) units source mode rules size c from)
      ∙ next_ends_done units source mode size c from _ none
      (λ on. ends_done bound units source mode size (next_course units source mode rules size c from) (next_batch units source mode size c from).to
      (ap (λ (budget : Option ℕ). reduced budget (length (next_outcome units source mode rules size c from).entries)) none)
      (let fewer = less units source mode size _ from _ _ on in omega (arith, enough, fewer)))

  -- ---- the clock stays

  pub go_stays : (units : ℕ) (b : BatchData) (p : Progress) (ts : List Task) → Stays p.member (go units b rules p ts).member
  unfolding go after_range
  go_stays units b p [] = record { id = refl; clock = refl }
  go_stays units b p (t ∷ ts) =
      let plan = task_plan units rules b p.member t in
      by_stop (stop_before p.budget plan p.member) (go units b rules (with_entry units b t (is_more ts) plan p) ts)
      (stays_on p.member (after_task units b t plan p.member) _ (task_stays units b t plan p.member (plan_quiet units b p.member t))
      (go_stays units b (with_entry units b t (is_more ts) plan p) ts)) where
        by_stop : (stop : Option ApplyEnd) (next : Outcome) → Stays p.member next.member → Stays p.member (stop_or stop p next).member
        by_stop (Some end) next rest = record { id = refl; clock = refl }
        by_stop None next rest = rest

  pub session_done : (units : ℕ) (source destination : Member) (size : ℕ) (cut : Option ℕ) → cut ≡ None
      → (session_of units source destination rules size cut).end ≡ Done
  unfolding session_of
  session_done units source destination size cut none =
      rw (add-one)
      (ends_done (length source.items) units source (mode_of units source.forgotten (laid_known units destination)) size (set_out cut destination) Start none
      (from_start source.items))

  -- the next batch's destination stays as it is in id and clock
  pub outcome_stays : (units : ℕ) (source : Member) (mode : Mode) (size : ℕ) (now : Member) (t : TravelData)
      → Stays now (due_outcome units source mode rules size now t).member
  outcome_stays units source mode size now t = go_stays units (due_batch units source mode size now t) _ _
