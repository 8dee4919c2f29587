-- Batches and whole sessions that meet no conflict and no clash.
use Rattle.std.proofs.Common.{◌≡◌, ◌⊎◌, ℕ, zero, suc, ◌+◌, ◌-◌, ◌≤◌, nat_lt, add-one, Bool, true, false, true≢false, if◌then◌else◌, List, [], ◌∷◌, ◌++◌, length, Option, Some, None, arith, inl, inr, refl, sym, ◌∙◌, ap, subst}
use Rattle.std.specs.List.{filter, list_any}
use Rattle.std.proofs.lemmas.Bool.Decides.{nat_tests}
use Rattle.sfx_ids.specs.declared.cut.Cut.{Cut}
use Rattle.sfx_ids.specs.declared.cut.Cut.TheVariants.{Start, At}
use Rattle.sfx_ids.specs.declared.item_id.ItemId.{ItemId}
use Rattle.sfx_ids.specs.Cut.{cut_le}
use Rattle.sfx_ids.specs.Tick.{max_tick}
use Rattle.sfx_item.specs.Item.{ItemState, Live, ItemData}
use Rattle.sfx_model.specs.declared.apply_end.ApplyEnd.{ApplyEnd}
use Rattle.sfx_model.specs.declared.apply_end.ApplyEnd.TheVariants as apply_ends
use Rattle.sfx_model.specs.declared.apply_end.ApplyEnd.TheVariants.{Whole}
use Rattle.sfx_model.specs.declared.mode.Mode.{Mode}
use Rattle.sfx_model.specs.declared.session_end.SessionEnd.{SessionEnd}
use Rattle.sfx_model.specs.declared.session_end.SessionEnd.TheVariants.{Done}
use Rattle.sfx_model.specs.sessions.Achieved.{LeavesNoUnit}
use Rattle.sfx_model.specs.sessions.Batch.{BatchData, mode_of}
use Rattle.sfx_model.specs.sessions.Clashes.{Plan, plain_plan}
use Rattle.sfx_model.specs.members.Consistent.{IsConsistent}
use Rattle.sfx_model.specs.sessions.Draft.{DraftData}
use Rattle.sfx_model.specs.sessions.Entry.{Task, Unlisted, Change, EntryData, task_item, task_seen, task_draft, is_stamped, change_others, changed_by, after_task, entry_of, left_from, lacks}
use Rattle.sfx_model.specs.sessions.MemberKnowledge.{laid_known}
use Rattle.sfx_model.specs.members.Members.{Member, clock_among, shown, state_of, vector_at}
use Rattle.sfx_model.specs.members.Readings.{items_from}
use Rattle.sfx_model.specs.members.Replica.{RepresentsReplica}
use Rattle.sfx_model.specs.sessions.Rules.{RulesData}
use Rattle.sfx_model.specs.sessions.Session.{Progress, Outcome, Course, StepData, SessionResult, is_spent, reduced, stop_before, stop_or, with_entry, is_more, lefts, after_range, go, begin, tasks_of, outcome_of, with_batch, is_end, ending, ended, set_out, session_from, session_of}
use Rattle.sfx_model.specs.world.Sets.{Has}
use Rattle.sfx_model.specs.world.World.{World}
use Rattle.sfx_model.specs.sessions.Undisturbed.{IsUndisturbed, KnowsMadeAlone, DrewNone}
use Rattle.sfx_model.proofs.sessions.BatchActs.{AllFit}
use Rattle.sfx_model.proofs.sessions.SessionsEnd.{less, next_batch, next_outcome, next_course, next_end, session_step}
use Rattle.sfx_model.proofs.sessions.ClassTests.{in_form}
use Rattle.sfx_model.proofs.sessions.DueBatch.{due_batch, due_from, due_fit}
use Rattle.sfx_model.proofs.sessions.ConsistentIsOrderly.{orderly}
use Rattle.sfx_model.proofs.sessions.QuietDrafts.{HasCell, IsQuietDraft, left_none}
use Rattle.sfx_model.proofs.sessions.QuietRuns.{task_plain, task_passes, range_passes}
use Rattle.sfx_model.proofs.sessions.QuietTasks.{IsSourced, task_quiet}
use Rattle.sfx_model.proofs.world.SetsLemmas.{has_either}
use Rattle.sfx_model.proofs.world.SiteLemmas.{clock_found}
use Rattle.sfx_model.proofs.sessions.SourceBacks.{IsFrom}
use Rattle.sfx_model.proofs.sessions.UndisturbedLemmas.{IsCalm, calm_on}

-- ---- entries

-- The entry leaves nothing alone and draws no tick.
pub record IsQuietEntry (e : EntryData) : Type 0 where
  pub left : left_from e.item 0 e.marks ≡ []
  pub drew : DrewNone e

abbrev pub AreQuiet : List EntryData → Type 0
AreQuiet es = (e : EntryData) → Has e es → IsQuietEntry e

pub lefts_none : (es : List EntryData) → AreQuiet es → lefts es ≡ []
lefts_none [] quiet = refl
lefts_none (e ∷ es) quiet = rw (quiet e (inl refl)).left (lefts_none es (λ f has. quiet f (inr has)))

entry_quiet :
    (units : ℕ) (t : Task) (d : DraftData) (m : Member) (seen here : Option ItemState)
    → IsQuietDraft units seen here d → IsQuietEntry (entry_of units t (plain_plan d) m)
unfolding entry_of changed_by change_others
entry_quiet units t d m seen here quiet = record {
  left = left_none (task_item t) 0 d.marks quiet.leaves;
  drew = record { tick = rw quiet.stamps refl; others = refl };
}

quiet_more : (es : List EntryData) (e : EntryData) → AreQuiet es → IsQuietEntry e → AreQuiet (es ++ e ∷ [])
quiet_more es e quiet one f has = elim (has_either f es (e ∷ []) has) [
  | inl there ↦ quiet f there
  | inr last ↦ elim last [ inl is ↦ subst IsQuietEntry (sym is) one | inr none ↦ absurd none ]
]

-- ---- a batch

-- What comes of a batch, from some progress on.
pub record Ends (units : ℕ) (source : Member) (p : Progress) (o : Outcome) : Type 0 where
  pub calm : IsCalm units source o.member
  pub clock : o.member.clock ≡ p.member.clock
  pub quiet : AreQuiet o.entries
  pub end : p.budget ≡ None → o.end ≡ Whole

never_less : (x : ℕ) → nat_lt x 0 ≡ false
never_less x = grind (arith, nat_tests)

room : (d : DraftData) (clock : ℕ) → list_any is_stamped d.marks ≡ false → lacks (plain_plan d) clock ≡ false
room d clock stamps = rw stamps (never_less (max_tick - clock))

one_task :
    (units : ℕ) (source : Member) (b : BatchData) (p next : Progress) (d : DraftData) (o : Outcome)
    → IsCalm units source p.member → AreQuiet p.entries → list_any is_stamped d.marks ≡ false
    → next.member.clock ≡ p.member.clock → next.budget ≡ reduced p.budget 1 → Ends units source next o
    → Ends units source p (stop_or (stop_before p.budget (plain_plan d) p.member) p o)
one_task units source b p next d o calm quiet stamps clock budget rest = by_spent (is_spent p.budget) refl
  where
    cut : is_spent p.budget ≡ true → Ends units source p (stop_or (Some apply_ends.Cut) p o)
    cut e = record {
      calm = calm;
      clock = refl;
      quiet = quiet;
      end = λ none. absurd (true≢false (sym e ∙ ap is_spent none));
    }

    on : Ends units source p (stop_or None p o)
    on = record {
      calm = rest.calm;
      clock = rest.clock ∙ clock;
      quiet = rest.quiet;
      end = λ none. rest.end (budget ∙ ap (λ (n : Option ℕ). reduced n 1) none);
    }

    by_spent : (c : Bool) → is_spent p.budget ≡ c → Ends units source p (stop_or (stop_before p.budget (plain_plan d) p.member) p o)
    by_spent true e =
        let is : stop_before p.budget (plain_plan d) p.member ≡ Some apply_ends.Cut = rw e refl in
        subst (λ (s : Option ApplyEnd). Ends units source p (stop_or s p o)) (sym is) (cut e)
    by_spent false e =
        let is : stop_before p.budget (plain_plan d) p.member ≡ None = rw (e, room d p.member.clock stamps) refl in
        subst (λ (s : Option ApplyEnd). Ends units source p (stop_or s p o)) (sym is) on

range_clock : (units : ℕ) (b : BatchData) (left : List (ItemId × ℕ)) (m : Member) → (after_range units b left m).clock ≡ m.clock
unfolding after_range
range_clock units b left m = refl

go_ends :
    (units : ℕ) (source : Member) (b : BatchData) (rules : RulesData) (p : Progress) (ts : List Task)
    → IsConsistent units source → ((i : ItemId) → HasCell (state_of source.items i)) → IsCalm units source p.member → IsFrom units source b
    → ((t : Task) → Has t ts → IsSourced source t) → AreQuiet p.entries
    → Ends units source p (go units b rules p ts)
unfolding go
go_ends units source b rules p [] ok cells calm from sourced quiet = record {
  calm = subst (λ (left : List (ItemId × ℕ)). IsCalm units source (after_range units b left p.member)) (sym (lefts_none p.entries quiet))
      (calm_on units source p.member (after_range units b [] p.member) ok calm (range_passes units source p.member b (orderly units source ok) calm from));
  clock = range_clock units b (lefts p.entries) p.member;
  quiet = quiet;
  end = λ none. refl;
}
go_ends units source b rules p (t ∷ ts) ok cells calm from sourced quiet =
    let theirs = orderly units source ok in
    let is : IsSourced source t = sourced t (inl refl) in
    let drafted = task_quiet units rules source p.member b t theirs cells calm from is in
    let passes = task_passes units source p.member b t (task_draft units rules b p.member (state_of p.member.items (task_item t)) t) theirs calm from is drafted in
    let rest = go_ends units source b rules (with_entry units b t (is_more ts) (plain_plan (task_draft units rules b p.member (state_of p.member.items (task_item t)) t)) p) ts ok cells
    (calm_on units source p.member (after_task units b t (plain_plan (task_draft units rules b p.member (state_of p.member.items (task_item t)) t)) p.member) ok calm passes)
    from (λ s has. sourced s (inr has))
    (quiet_more p.entries (entry_of units t (plain_plan (task_draft units rules b p.member (state_of p.member.items (task_item t)) t)) p.member) quiet
    (entry_quiet units t (task_draft units rules b p.member (state_of p.member.items (task_item t)) t) p.member (task_seen t) (state_of p.member.items (task_item t)) drafted)) in
    subst (λ (q : Plan). Ends units source p (stop_or (stop_before p.budget q p.member) p (go units b rules (with_entry units b t (is_more ts) q p) ts)))
    (sym (task_plain units rules source p.member b t calm is drafted))
    (one_task units source b p (with_entry units b t (is_more ts) (plain_plan (task_draft units rules b p.member (state_of p.member.items (task_item t)) t)) p)
    (task_draft units rules b p.member (state_of p.member.items (task_item t)) t)
    (go units b rules (with_entry units b t (is_more ts) (plain_plan (task_draft units rules b p.member (state_of p.member.items (task_item t)) t)) p) ts)
    calm quiet drafted.stamps passes.clock refl rest)

sourced_of : (source : Member) (b : BatchData) (m : Member) (ts : List Task) → AllFit source b m ts → (t : Task) → Has t ts → IsSourced source t
sourced_of source b m [] fit t has = absurd has
sourced_of source b m (Change x ∷ ts) fit t has = elim has [
  | inl is ↦ subst (IsSourced source) (sym is) fit.0
  | inr there ↦ sourced_of source b m ts fit.2 t there
]
sourced_of source b m (Unlisted i ∷ ts) fit t has = elim has [
  | inl is ↦ subst (IsSourced source) (sym is) fit.0.there
  | inr there ↦ sourced_of source b m ts fit.2 t there
]

batch_ends :
    (units : ℕ) (source : Member) (mode : Mode) (rules : RulesData) (size : ℕ) (budget : Option ℕ) (m : Member) (from : Cut)
    → IsConsistent units source → ((i : ItemId) → HasCell (state_of source.items i)) → IsCalm units source m
    → Ends units source (begin budget m) (outcome_of units (due_batch units source mode size m from) rules budget m)
batch_ends units source mode rules size budget m from ok cells calm =
    go_ends units source (due_batch units source mode size m from) rules (begin budget m) (tasks_of units (due_batch units source mode size m from) m)
    ok cells calm (due_from units source mode size m from)
    (sourced_of source (due_batch units source mode size m from) m (tasks_of units (due_batch units source mode size m from) m)
    (due_fit units source mode size m from (in_form units source (orderly units source ok)) calm.orderly))
    (λ e has. absurd has)

-- ---- a session

abbrev pub AreQuietSteps : List StepData → Type 0
AreQuietSteps steps = (s : StepData) → Has s steps → AreQuiet s.applied.entries

pub record Finishes (c : Course) (r : SessionResult) : Type 0 where
  pub clock : r.course.member.clock ≡ c.member.clock
  pub quiet : AreQuietSteps r.course.steps

steps_more : (b : BatchData) (o : Outcome) (c : Course) → AreQuietSteps c.steps → AreQuiet o.entries → AreQuietSteps (with_batch b o c).steps
steps_more b o c quiet last s has = elim (has_either s c.steps (record { batch = b; applied = record { entries = o.entries; end = o.end } } ∷ []) has) [
  | inl there ↦ quiet s there
  | inr one ↦ elim one [ inl is ↦ subst (λ (x : StepData). AreQuiet x.applied.entries) (sym is) last | inr none ↦ absurd none ]
]

pub session_quiet :
    (bound units : ℕ) (source : Member) (mode : Mode) (rules : RulesData) (size : ℕ) (c : Course) (from : Cut)
    → IsConsistent units source → ((i : ItemId) → HasCell (state_of source.items i)) → IsCalm units source c.member → AreQuietSteps c.steps
    → Finishes c (session_from bound units source mode rules size c from)
unfolding session_from
session_quiet zero units source mode rules size c from ok cells calm quiet = record { clock = refl; quiet = quiet }
session_quiet (suc bound) units source mode rules size c from ok cells calm quiet =
    let first = batch_ends units source mode rules size c.budget c.member from ok cells calm in
    let steps = steps_more (next_batch units source mode size c from) (next_outcome units source mode rules size c from) c quiet first.quiet in
    subst (Finishes c) (sym (session_step bound units source mode rules size c from))
    (by_end (next_end units source mode rules size c from) first.clock steps
    (session_quiet bound units source mode rules size (next_course units source mode rules size c from) (next_batch units source mode size c from).to ok cells first.calm steps))
  where
    by_end :
        (e : Option SessionEnd)
        → (next_course units source mode rules size c from).member.clock ≡ c.member.clock
        → AreQuietSteps (next_course units source mode rules size c from).steps
        → Finishes (next_course units source mode rules size c from)
        (session_from bound units source mode rules size (next_course units source mode rules size c from) (next_batch units source mode size c from).to)
        → Finishes c (ended (next_course units source mode rules size c from) e
        (session_from bound units source mode rules size (next_course units source mode rules size c from) (next_batch units source mode size c from).to))
    by_end (Some end) clock steps rest = record { clock = clock; quiet = steps }
    by_end None clock steps rest = record { clock = rest.clock ∙ clock; quiet = rest.quiet }

-- ---- where no cut is asked for

end_cases : (to : Cut) → (ending to Whole None ≡ Some Done) ⊎ (ending to Whole None ≡ None)
end_cases to = by_test (is_end to) refl
  where
    by_test : (b : Bool) → is_end to ≡ b → (ending to Whole None ≡ Some Done) ⊎ (ending to Whole None ≡ None)
    by_test true e = inl (rw e refl)
    by_test false e = inr (rw e refl)

ended_done : (c : Course) (e : Option SessionEnd) (next : SessionResult) → (e ≡ Some Done) ⊎ ((e ≡ None) × (next.end ≡ Done)) → (ended c e next).end ≡ Done
ended_done c e next (inl is) = ap (λ (o : Option SessionEnd). (ended c o next).end) is
ended_done c e next (inr rest) = ap (λ (o : Option SessionEnd). (ended c o next).end) rest.0 ∙ rest.1

-- A batch ends whole, and the session goes on or is done.
done_cases :
    (units : ℕ) (source : Member) (mode : Mode) (rules : RulesData) (size : ℕ) (c : Course) (from : Cut)
    → IsConsistent units source → ((i : ItemId) → HasCell (state_of source.items i)) → IsCalm units source c.member → c.budget ≡ None
    → (next_end units source mode rules size c from ≡ Some Done) ⊎ (next_end units source mode rules size c from ≡ None)
done_cases units source mode rules size c from ok cells calm none =
    let first = batch_ends units source mode rules size c.budget c.member from ok cells calm in
    let whole : (next_outcome units source mode rules size c from).end ≡ Whole = first.end none in
    let is : next_end units source mode rules size c from ≡ ending (next_batch units source mode size c from).to Whole None =
    ap (λ (e : ApplyEnd). ending (next_batch units source mode size c from).to e (next_course units source mode rules size c from).budget) whole
    ∙ ap (λ (b : Option ℕ). ending (next_batch units source mode size c from).to Whole (reduced b (length (next_outcome units source mode rules size c from).entries))) none in
    elim (end_cases (next_batch units source mode size c from).to) [
      | inl done ↦ inl (is ∙ done)
      | inr goes ↦ inr (is ∙ goes)
    ]

pub session_done :
    (bound units : ℕ) (source : Member) (mode : Mode) (rules : RulesData) (size : ℕ) (c : Course) (from : Cut)
    → IsConsistent units source → ((i : ItemId) → HasCell (state_of source.items i)) → IsCalm units source c.member → c.budget ≡ None
    → length (items_from from source.items) ≤ bound
    → (session_from (suc bound) units source mode rules size c from).end ≡ Done
session_done zero units source mode rules size c from ok cells calm none most =
    ap (λ (r : SessionResult). r.end) (session_step zero units source mode rules size c from)
    ∙ ended_done (next_course units source mode rules size c from) (next_end units source mode rules size c from)
    (session_from zero units source mode rules size (next_course units source mode rules size c from) (next_batch units source mode size c from).to)
    (elim (done_cases units source mode rules size c from ok cells calm none) [
      | inl done ↦ inl done
      | inr goes ↦
          (let fewer = less units source mode size (laid_known units c.member) from (next_outcome units source mode rules size c from).end (next_course units source mode rules size c from).budget goes in
          absurd (omega (arith, fewer, most)))
    ])
session_done (suc bound) units source mode rules size c from ok cells calm none most =
    ap (λ (r : SessionResult). r.end) (session_step (suc bound) units source mode rules size c from)
    ∙ ended_done (next_course units source mode rules size c from) (next_end units source mode rules size c from)
    (session_from (suc bound) units source mode rules size (next_course units source mode rules size c from) (next_batch units source mode size c from).to)
    (elim (done_cases units source mode rules size c from ok cells calm none) [
      | inl done ↦ inl done
      | inr goes ↦
          (let fewer = less units source mode size (laid_known units c.member) from (next_outcome units source mode rules size c from).end (next_course units source mode rules size c from).budget goes in
          inr (
            goes,
            session_done bound units source mode rules size (next_course units source mode rules size c from) (next_batch units source mode size c from).to ok cells
                (batch_ends units source mode rules size c.budget c.member from ok cells calm).calm
                (ap (λ (b : Option ℕ). reduced b (length (next_outcome units source mode rules size c from).entries)) none)
                (omega (arith, fewer, most)),
          ))
    ])

-- ---- from both members

cells_there : (units : ℕ) (m : Member) → IsConsistent units m → (i : ItemId) → HasCell (state_of m.items i)
cells_there units m ok i cells is =
    let row = (ok.items i (Live cells) is).whole in
    let some = ok.some in
    omega (arith, row.whole, some)

calm_there : (units : ℕ) (source m : Member) → IsConsistent units m → KnowsMadeAlone units source m → IsUndisturbed units source m → IsCalm units source m
calm_there units source m ok made undisturbed =
    record { orderly = orderly units m ok; undisturbed = undisturbed; cells = cells_there units m ok; made = made }

whole_quiet :
    (units : ℕ) (source m : Member) (rules : RulesData) (size : ℕ) (cut : Option ℕ)
    → IsConsistent units source → IsConsistent units m → KnowsMadeAlone units source m → IsUndisturbed units source m
    → Finishes (set_out cut m) (session_of units source m rules size cut)
unfolding session_of
whole_quiet units source m rules size cut theirs ours made undisturbed =
    session_quiet (length source.items + 1) units source (mode_of units source.forgotten (laid_known units m)) rules size (set_out cut m) Start
    theirs (cells_there units source theirs) (calm_there units source m ours made undisturbed) (λ s has. absurd has)

pub session_lefts :
    (units : ℕ) (source m : Member) (rules : RulesData) (size : ℕ) (cut : Option ℕ)
    → IsConsistent units source → IsConsistent units m → KnowsMadeAlone units source m → IsUndisturbed units source m
    → LeavesNoUnit (session_of units source m rules size cut)
session_lefts units source m rules size cut theirs ours made undisturbed s has =
    lefts_none s.applied.entries ((whole_quiet units source m rules size cut theirs ours made undisturbed).quiet s has)

pub session_ticks :
    (units : ℕ) (source m : Member) (rules : RulesData) (size : ℕ) (cut : Option ℕ) (s : StepData) (e : EntryData)
    → IsConsistent units source → IsConsistent units m → KnowsMadeAlone units source m → IsUndisturbed units source m
    → Has s (session_of units source m rules size cut).course.steps → Has e s.applied.entries → DrewNone e
session_ticks units source m rules size cut s e theirs ours made undisturbed there has =
    ((whole_quiet units source m rules size cut theirs ours made undisturbed).quiet s there e has).drew

pub session_clock :
    (units : ℕ) (source m : Member) (rules : RulesData) (size : ℕ) (cut : Option ℕ)
    → IsConsistent units source → IsConsistent units m → KnowsMadeAlone units source m → IsUndisturbed units source m
    → (session_of units source m rules size cut).course.member.clock ≡ m.clock
session_clock units source m rules size cut theirs ours made undisturbed =
    (whole_quiet units source m rules size cut theirs ours made undisturbed).clock

filter_most : (test : ItemData → Bool) (xs : List ItemData) → length (filter test xs) ≤ length xs
filter_most test [] = omega arith
filter_most test (x ∷ xs) = by_test (filter_most test xs) (test x)
  where
    by_test : length (filter test xs) ≤ length xs → (b : Bool) → length (let r : List ItemData = if b then x ∷ filter test xs else filter test xs in r) ≤ length (x ∷ xs)
    by_test rest true = omega (arith, rest)
    by_test rest false = omega (arith, rest)

pub session_ends :
    (units : ℕ) (source m : Member) (rules : RulesData) (size : ℕ)
    → IsConsistent units source → IsConsistent units m → KnowsMadeAlone units source m → IsUndisturbed units source m
    → (session_of units source m rules size None).end ≡ Done
unfolding session_of
session_ends units source m rules size theirs ours made undisturbed =
    rw add-one
    (session_done (length source.items) units source (mode_of units source.forgotten (laid_known units m)) rules size (set_out None m) Start
    theirs (cells_there units source theirs) (calm_there units source m ours made undisturbed) refl
    (filter_most (λ x. cut_le Start (At x.id)) source.items))

-- ---- members of one world

pub known_made :
    (w : World) (source m : Member)
    → RepresentsReplica w source.id (shown source) → RepresentsReplica w m.id (shown m) → KnowsMadeAlone w.units source m
known_made w source m (site, at, there) (s, is, here) place u inside small =
    let clock : clock_among w.sites m.id ≡ m.clock = clock_found w.sites m.id s is ∙ sym here.header.clock in
    subst (λ (c : ℕ). vector_at source place u m.id ≤ c) clock (there.bounded.vectors place u m.id inside small)
