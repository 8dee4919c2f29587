-- The tasks of a batch one after another, and its range at the end.
use Rattle.std.proofs.Common.{◌≡◌, ◌≢◌, ◌⊎◌, ℕ, ◌+◌, ◌<◌, ◌≤◌, max, ◌&&◌, ◌||◌, not, Bool, true, false, true≢false, if◌then◌else◌, List, [], ◌∷◌, ◌++◌, Option, Some, None, IsSomeAnd, arith, inl, inr, refl, sym, ◌∙◌, ap, subst, le_refl, le_trans}
use Rattle.std.specs.Prelude.{slice_get}
use Rattle.std.specs.List.{list_any}
use Rattle.std.specs.Option.{option_and_then}
use Rattle.std.proofs.lemmas.Bool.{cases_eq, eq-eqb, ne_eqb}
use Rattle.std.proofs.lemmas.Grind.{flat_map-append}
use Rattle.std.proofs.lemmas.List.{map-append}
use Rattle.std.proofs.lemmas.Option.{slice_get-map}
use Rattle.sfx_ids.specs.declared.cut.Cut.{Cut}
use Rattle.sfx_ids.specs.declared.cut.Cut.TheVariants.{At, After}
use Rattle.sfx_ids.specs.declared.item_id.ItemId.{ItemId}
use Rattle.sfx_ids.specs.Cut.{is_between}
use Rattle.sfx_segments.specs.Segments.{IsPlace}
use Rattle.sfx_item.specs.declared.cell.Cell.{Cell}
use Rattle.sfx_knowledge.specs.Knowledge.{Known, HasTicks, IsKnowledge, tick_at, laid_over, learned_ticks}
use Rattle.sfx_knowledge.specs.Skips.{same_cell, is_skipped, is_skipped_at}
use Rattle.sfx_knowledge.proofs.SkipsLemmas.{cells_same}
use Rattle.sfx_knowledge.proofs.PlacesLemmas.{is_skipped-append}
use Rattle.sfx_model.specs.declared.absent.Absent.{Absent}
use Rattle.sfx_model.specs.declared.absent.Absent.TheVariants as absents
use Rattle.sfx_model.specs.declared.absent.Absent.TheVariants.{Conflict}
use Rattle.sfx_model.specs.declared.apply_end.ApplyEnd.{ApplyEnd}
use Rattle.sfx_model.specs.declared.apply_end.ApplyEnd.TheVariants as apply_ends
use Rattle.sfx_model.specs.declared.apply_end.ApplyEnd.TheVariants.{Full}
use Rattle.sfx_model.specs.declared.clash_rule.ClashRule.{ClashRule}
use Rattle.sfx_model.specs.declared.keep.Keep.{Keep}
use Rattle.sfx_model.specs.declared.keep.Keep.TheVariants.{Source, Destination, Merge, Skip}
use Rattle.sfx_model.specs.declared.mark.Mark.{Mark}
use Rattle.sfx_model.specs.declared.mark.Mark.TheVariants.{Stays}
use Rattle.sfx_model.specs.declared.mode.Mode.TheVariants.{Recover}
use Rattle.sfx_model.specs.world.Sets.{Has, IsPart}
use Rattle.sfx_model.specs.world.World.{World, Site, Snapshot, holding}
use Rattle.sfx_model.specs.world.Events.{Event, after_all, site_of, is_in, IsKnownHere, seen_by}
use Rattle.sfx_model.specs.sessions.Acts.{IsInForm, IsOrderly, RangeFits, LearnsItem}
use Rattle.sfx_model.specs.sessions.Batch.{BatchData}
use Rattle.sfx_model.specs.sessions.Clashes.{Plan, drafted_name}
use Rattle.sfx_model.specs.members.Consistent.{live_name}
use Rattle.sfx_model.specs.sessions.Deeds.{version_behind, name_given, changed_first, task_deeds, range_deeds, go_deeds, deeds_or, events_with}
use Rattle.sfx_model.specs.sessions.Draft.{values_of, absent_draft, is_left}
use Rattle.sfx_model.specs.sessions.Entry.{Task, Unlisted, Change, EntryData, Changing, task_item, task_seen, task_draft, task_plan, unlisted_class, is_stamped, clock_after_marks, lacks, state_after, left_from, other_state, change_other, change_others, changed_by, after_task, entry_of}
use Rattle.sfx_model.specs.sessions.MemberKnowledge.{laid_known}
use Rattle.sfx_item.specs.Item.{ItemState, Live, Dead}
use Rattle.sfx_model.specs.members.Members.{Member, Represents, ItemRepresents, shown, state_of, vector_at}
use Rattle.sfx_model.specs.members.Replica.{RepresentsReplica}
use Rattle.sfx_model.specs.sessions.Rules.{RulesData}
use Rattle.sfx_model.specs.sessions.Session.{Progress, is_spent, stop_before, with_entry, lefts, after_range, stop_or, is_more, go}
use Rattle.sfx_model.specs.members.Snapshots.{Carried}
use Rattle.sfx_model.specs.members.States.{next_version}
use Rattle.sfx_model.specs.world.Units.{at_unit}
use Rattle.sfx_model.proofs.sessions.ShapedDraftsApply.{marks_left}
use Rattle.sfx_model.proofs.sessions.EntriesAct.{task_learns}
use Rattle.sfx_model.proofs.sessions.LearnedKnowledge.{laid_other}
use Rattle.sfx_model.proofs.sessions.ClashesLemmas.{apart_tests}
use Rattle.sfx_model.proofs.sessions.PlansKeepNamesApart.{plan_others}
use Rattle.sfx_model.proofs.members.ItemListsLemmas.{state_kept}
use Rattle.sfx_model.proofs.sessions.RangeActs.{range_acts}
use Rattle.sfx_model.proofs.sessions.SourceBacks.{IsFrom, Ready, ready_on, source_sound, source_carried, source_range, source_supplies}
use Rattle.sfx_model.proofs.members.OwnEvents.{AllOf, LeavesOthers, of_append, after_append, legal_append, all_leave}
use Rattle.sfx_model.proofs.sessions.StoredKnowledge.{stored_has}
use Rattle.sfx_model.proofs.sessions.TaskActs.{TaskActs, TaskFits, task_acts}

-- ---- what a task leaves of the other items

others_kept :
    (own : ℕ) (rule : Option ClashRule) (c : Changing) (js : List ItemId) (k : ItemId)
    → (Has k js → ⊥) → state_of (change_others own rule c js).items k ≡ state_of c.items k
unfolding change_others
others_kept own rule c [] k out = refl
others_kept own rule c (j ∷ js) k out =
    others_kept own rule (change_other own rule j c) js k (λ has. out (inr has))
    ∙ state_kept j (other_state (version_behind own c.clock) (name_given rule c.items j) (state_of c.items j)) c.items k
    (λ same. out (inl (sym same)))

pub task_kept :
    (units : ℕ) (b : BatchData) (t : Task) (p : Plan) (m : Member) (k : ItemId)
    → k ≢ task_item t → (Has k p.others → ⊥) → state_of (after_task units b t p m).items k ≡ state_of m.items k
unfolding after_task changed_by
task_kept units b t p m k other out =
    others_kept m.id p.acts (changed_first units t p m) p.others k out
    ∙ state_kept (task_item t) (state_after units (next_version m) p.draft (task_seen t) (state_of m.items (task_item t))) m.items k
    (λ same. other (sym same))

task_id : (units : ℕ) (b : BatchData) (t : Task) (p : Plan) (m : Member) → (after_task units b t p m).id ≡ m.id
unfolding after_task
task_id units b t p m = refl

range_id : (units : ℕ) (b : BatchData) (left : List (ItemId × ℕ)) (m : Member) → (after_range units b left m).id ≡ m.id
unfolding after_range
range_id units b left m = refl

-- ---- what the destination knows only grows

abbrev pub KnowsMore : ℕ → Member → Member → Type 0
KnowsMore units m n = (place : Cut) (u r : ℕ) → IsPlace place → u < units → vector_at m place u r ≤ vector_at n place u r

pub more_self : (units : ℕ) (m : Member) → KnowsMore units m m
more_self units m place u r at small = le_refl (vector_at m place u r)

pub more_on : (units : ℕ) (m n o : Member) → KnowsMore units m n → KnowsMore units n o → KnowsMore units m o
more_on units m n o first second place u r at small = le_trans (first place u r at small) (second place u r at small)

others_clock : (own : ℕ) (rule : Option ClashRule) (c : Changing) (js : List ItemId) → c.clock ≤ (change_others own rule c js).clock
unfolding change_others
others_clock own rule c [] = le_refl c.clock
others_clock own rule c (j ∷ js) = let rest = others_clock own rule (change_other own rule j c) js in omega arith

clock_grows : (marks : List Mark) (clock : ℕ) → clock ≤ clock_after_marks marks clock
clock_grows marks clock = by_test (list_any is_stamped marks)
  where
    by_test : (b : Bool) → clock ≤ (if b then clock + 1 else clock)
    by_test true = omega arith
    by_test false = le_refl clock

-- Learning, with the own clock no lower, is knowing more.
learned_more :
    (units : ℕ) (m n : Member) (lo hi : Cut) (skipped : List (ItemId × ℕ)) (there : Known)
    → n.id ≡ m.id → m.clock ≤ n.clock
    → HasTicks units n.knowledge (laid_over m.id 0 (learned_ticks lo hi skipped (tick_at m.knowledge) (tick_at there)))
    → KnowsMore units m n
learned_more units m n lo hi skipped there same clock has place u r at small =
    elim (cases_eq r m.id) [
      | inl own ↦ rw (eq-eqb r m.id own, eq-eqb r n.id (own ∙ sym same)) clock
      | inr other ↦
          rw (ne_eqb r m.id other, ne_eqb r n.id (λ e. other (e ∙ same)))
          (subst (λ (t : ℕ). tick_at m.knowledge place u r ≤ t)
          (sym (has place u r at small ∙ laid_other m.id 0 (learned_ticks lo hi skipped (tick_at m.knowledge) (tick_at there)) place u r other))
          (by_test (is_between lo hi place && not (is_skipped_at skipped place u)) (tick_at m.knowledge place u r) (tick_at there place u r)))
    ]
  where
    by_test : (b : Bool) (x y : ℕ) → x ≤ (if b then max x y else x)
    by_test true x y = omega arith
    by_test false x y = le_refl x

task_more :
    (units : ℕ) (b : BatchData) (t : Task) (p : Plan) (m : Member)
    → IsOrderly units m → IsKnowledge units b.made_with → KnowsMore units m (after_task units b t p m)
unfolding after_task changed_by
task_more units b t p m orderly form =
    learned_more units m (after_task units b t p m) (At (task_item t)) (After (task_item t)) (left_from (task_item t) 0 p.draft.marks) b.made_with refl
    (le_trans (clock_grows p.draft.marks m.clock) (others_clock m.id p.acts (changed_first units t p m) p.others))
    (stored_has units m.id (At (task_item t)) (After (task_item t)) (left_from (task_item t) 0 p.draft.marks) m.knowledge b.made_with orderly.some orderly.id orderly.knowledge form)

range_more :
    (units : ℕ) (b : BatchData) (left : List (ItemId × ℕ)) (m : Member)
    → IsOrderly units m → IsKnowledge units b.made_with → KnowsMore units m (after_range units b left m)
unfolding after_range
range_more units b left m orderly form =
    learned_more units m (after_range units b left m) b.from b.to left b.made_with refl (le_refl m.clock)
    (stored_has units m.id b.from b.to left m.knowledge b.made_with orderly.some orderly.id orderly.knowledge form)

made_form :
    (w : World) (units : ℕ) (source m : Member) (snapshot : Site) (b : BatchData)
    → Ready w units source m snapshot → IsInForm units source → IsFrom units source b → IsKnowledge units b.made_with
made_form w units source m snapshot b ready theirs from =
    subst (λ (n : ℕ). IsKnowledge n b.made_with) ready.count (source_supplies w units source m snapshot b ready theirs from).made_with

-- Others are held here.
others_held :
    (units : ℕ) (b : BatchData) (rules : RulesData) (m : Member) (t : Task) (k : ItemId)
    → IsOrderly units m → Has k (task_plan units rules b m t).others → (state : ItemState) × (state_of m.items k ≡ Some state)
unfolding task_plan
others_held units b rules m t k orderly has =
    let (name, named, clashing) =
    plan_others units rules.clash (task_item t) m.items (task_draft units rules b m (state_of m.items (task_item t)) t) k orderly.ascending has in
    (clashing.named.state, clashing.named.there)

-- The drafted name of an item that the source does not list is its own.
own_values : (o : Option ItemState) (name : List ℕ) → option_and_then (λ vs. slice_get vs 0) (values_of o) ≡ Some name → (state : ItemState) × (o ≡ Some state) × (live_name state ≡ Some name)
own_values None name e = absurd (cc)
own_values (Some (Dead v)) name e = absurd (cc)
own_values (Some (Live cells)) name e =
    (Live cells, refl, sym (slice_get-map (λ (c : Cell). c.value) cells 0) ∙ e)

absent_named :
    (units : ℕ) (keep : Keep) (class : Absent) (here : Option ItemState) (name : List ℕ)
    → drafted_name (absent_draft units keep class here) ≡ Some name → (state : ItemState) × (here ≡ Some state) × (live_name state ≡ Some name)
absent_named units keep absents.Keep here name e = absurd (cc)
absent_named units keep absents.Drop here name e = absurd (cc)
absent_named units Source Conflict here name e = absurd (cc)
absent_named units Destination Conflict here name e = own_values here name e
absent_named units Merge Conflict here name e = own_values here name e
absent_named units Skip Conflict here name e = absurd (cc)

-- So it changes no others.
unlisted_alone :
    (units : ℕ) (b : BatchData) (rules : RulesData) (m : Member) (i k : ItemId)
    → IsOrderly units m → Has k (task_plan units rules b m (Unlisted i)).others → ⊥
unfolding task_plan
unlisted_alone units b rules m i k orderly has =
    let (name, named, clashing) =
    plan_others units rules.clash i m.items (task_draft units rules b m (state_of m.items i) (Unlisted i)) k orderly.ascending has in
    let (state, there, live) =
    absent_named units rules.keep (unlisted_class units (laid_known units m) b i (state_of m.items i)) (state_of m.items i) name named in
    let apart = apart_tests m.items orderly.names i k name clashing.own (λ same. clashing.other (sym same))
    (record { state = state; there = there; live = live }) clashing.named in
    true≢false (sym clashing.clash ∙ apart)

-- ---- the units that are left

append_nothing : {A : Type 0} (xs : List A) → xs ++ [] ≡ xs
append_nothing [] = refl
append_nothing {A} (x ∷ xs) = ap (λ (ys : List A). x ∷ ys) (append_nothing xs)

entry_lefts : (units : ℕ) (t : Task) (p : Plan) (m : Member) (entries : List EntryData) → lefts (entries ++ entry_of units t p m ∷ []) ≡ lefts entries ++ left_from (task_item t) 0 p.draft.marks
unfolding entry_of
entry_lefts units t p m entries =
    flat_map-append (λ (e : EntryData). left_from e.item 0 e.marks) entries (entry_of units t p m ∷ [])
    ∙ ap (λ (xs : List (ItemId × ℕ)). lefts entries ++ xs) (append_nothing (left_from (task_item t) 0 p.draft.marks))

left_other : (j : ItemId) (from : ℕ) (ks : List Mark) (i : ItemId) (u : ℕ) → j ≢ i → is_skipped (left_from j from ks) i u ≡ false
left_other j from [] i u other = refl
left_other j from (k ∷ ks) i u other = by_test (is_left k) (left_other j (from + 1) ks i u other)
  where
    not_cell : same_cell j from i u ≡ false
    not_cell = by_answer (same_cell j from i u) refl
      where
        by_answer : (b : Bool) → same_cell j from i u ≡ b → b ≡ false
        by_answer true e = absurd (other (cells_same j from i u e).0)
        by_answer false e = refl

    by_test :
        (b : Bool)
        → is_skipped (left_from j (from + 1) ks) i u ≡ false
        → is_skipped (let r : List (ItemId × ℕ) = if b then (j, from) ∷ left_from j (from + 1) ks else left_from j (from + 1) ks in r) i u ≡ false
    by_test true rest = rw not_cell rest
    by_test false rest = rest

or_none : (a b : Bool) → (a || b) ≡ false → (a ≡ false) × (b ≡ false)
or_none true b e = absurd (true≢false e)
or_none false b e = (refl, e)

-- ---- how far the range has come

-- An item of the range is still to be applied,
abbrev pub IsPending : ItemId → List Task → Type 0
IsPending i ts = (t : Task) × Has t ts × (task_item t ≡ i)

-- or known, but for the units that were left alone,
pub record IsKnownNow (w : World) (r : ℕ) (snapshot : Snapshot) (left : List (ItemId × ℕ)) (i : ItemId) : Type 0 where
  pub known : (s : Site) → site_of w.sites r ≡ Some s → IsKnownHere s snapshot (is_skipped left) i

-- or gone from both sides.
pub record IsGoneNow (b : BatchData) (m : Member) (snapshot : Snapshot) (left : List (ItemId × ℕ)) (i : ItemId) : Type 0 where
  pub mode : b.mode ≡ Recover
  pub there : snapshot.present i ≡ false
  pub here : state_of m.items i ≡ None
  pub whole : (u : ℕ) → is_skipped left i u ≡ false

abbrev pub RangeSoFar : World → BatchData → Member → Snapshot → List (ItemId × ℕ) → List Task → Type 0
RangeSoFar w b m snapshot left ts =
    (i : ItemId) → is_in b.from b.to i ≡ true → IsPending i ts ⊎ (IsKnownNow w m.id snapshot left i ⊎ IsGoneNow b m snapshot left i)

-- No item that is not listed is left, or not this one.
abbrev pub NoneUnlisted : List Task → Type 0
NoneUnlisted [] = Unit {0}
NoneUnlisted (Change item ∷ ts) = NoneUnlisted ts
NoneUnlisted (Unlisted i ∷ ts) = ⊥

abbrev pub NotUnlisted : ItemId → List Task → Type 0
NotUnlisted i [] = Unit {0}
NotUnlisted i (Change item ∷ ts) = NotUnlisted i ts
NotUnlisted i (Unlisted j ∷ ts) = (i ≢ j) × NotUnlisted i ts

-- An item that is not listed is absent at the source and held here, in recovery.
pub record IsUnlistedHere (source : Member) (b : BatchData) (m : Member) (i : ItemId) : Type 0 where
  pub there : state_of source.items i ≡ None
  pub mode : b.mode ≡ Recover
  pub held : (local : ItemState) × (state_of m.items i ≡ Some local)

-- Each task is what it should be; those that are not listed come first, each once.
abbrev pub AllFit : Member → BatchData → Member → List Task → Type 0
AllFit source b m [] = Unit {0}
AllFit source b m (Change item ∷ ts) = (state_of source.items item.id ≡ Some item.state) × NoneUnlisted ts × AllFit source b m ts
AllFit source b m (Unlisted i ∷ ts) = IsUnlistedHere source b m i × NotUnlisted i ts × AllFit source b m ts

-- The tasks that are left fit as long as the items that are not listed stay.
fit_changes : (source : Member) (b : BatchData) (m n : Member) (ts : List Task) → NoneUnlisted ts → AllFit source b m ts → AllFit source b n ts
fit_changes source b m n [] none fit = tt
fit_changes source b m n (Change item ∷ ts) none fit = (fit.0, fit.1, fit_changes source b m n ts none fit.2)
fit_changes source b m n (Unlisted i ∷ ts) none fit = absurd none

fit_others :
    (source : Member) (b : BatchData) (m n : Member) (i : ItemId) (ts : List Task)
    → ((k : ItemId) → k ≢ i → state_of n.items k ≡ state_of m.items k) → NotUnlisted i ts → AllFit source b m ts → AllFit source b n ts
fit_others source b m n i [] keeps not fit = tt
fit_others source b m n i (Change item ∷ ts) keeps not fit = (fit.0, fit.1, fit_others source b m n i ts keeps not fit.2)
fit_others source b m n i (Unlisted j ∷ ts) keeps not fit =
    let (local, is) = fit.0.held in (
      record { there = fit.0.there; mode = fit.0.mode; held = (local, keeps j (λ same. not.0 (sym same)) ∙ is) },
      fit.1,
      fit_others source b m n i ts keeps not.1 fit.2,
    )

fit_rest :
    (units : ℕ) (source : Member) (b : BatchData) (rules : RulesData) (m : Member) (t : Task) (ts : List Task)
    → IsOrderly units m → AllFit source b m (t ∷ ts) → AllFit source b (after_task units b t (task_plan units rules b m t) m) ts
fit_rest units source b rules m (Change item) ts orderly fit =
    fit_changes source b m (after_task units b (Change item) (task_plan units rules b m (Change item)) m) ts fit.1 fit.2
fit_rest units source b rules m (Unlisted i) ts orderly fit =
    fit_others source b m (after_task units b (Unlisted i) (task_plan units rules b m (Unlisted i)) m) i ts
    (λ k other. task_kept units b (Unlisted i) (task_plan units rules b m (Unlisted i)) m k other (unlisted_alone units b rules m i k orderly))
    fit.1 fit.2

-- What is asked of the first task.
first_fits :
    (w : World) (units : ℕ) (source m : Member) (snapshot : Site) (b : BatchData) (t : Task) (ts : List Task)
    → Ready w units source m snapshot → IsInForm units source → IsFrom units source b → AllFit source b m (t ∷ ts)
    → TaskFits w snapshot b m t
first_fits w units source m snapshot b (Change item) ts ready theirs from fit =
    subst (λ (o : Option ItemState). Carried w snapshot item.id (tick_at b.made_with) o) fit.0
    (source_carried w units source m snapshot b item.id ready theirs from)
first_fits w units source m snapshot b (Unlisted i) ts ready theirs from fit =
    let (local, is) = fit.0.held in (
      subst (λ (o : Option ItemState). Carried w snapshot i (tick_at b.made_with) o) fit.0.there
          (source_carried w units source m snapshot b i ready theirs from),
      fit.0.mode,
      local,
      is,
    )

-- An item that is gone from both sides is not the task's.
gone_other :
    (w : World) (source : Member) (snapshot : Site) (b : BatchData) (m : Member) (t : Task) (ts : List Task) (left : List (ItemId × ℕ)) (i : ItemId)
    → Represents w snapshot (shown source) → AllFit source b m (t ∷ ts) → IsGoneNow b m snapshot left i → task_item t ≢ i
gone_other w source snapshot b m (Change item) ts left i theirs fit gone same =
    let held : ItemRepresents w.units w.records item.id (holding snapshot item.id) (Some item.state) =
    subst (λ (o : Option ItemState). ItemRepresents w.units w.records item.id (holding snapshot item.id) o) fit.0 (theirs.items item.id) in
    true≢false (sym held.is_present ∙ ap snapshot.present same ∙ gone.there)
gone_other w source snapshot b m (Unlisted j) ts left i theirs fit gone same =
    let (local, is) = fit.0.held in
    let bad : Some local ≡ None = sym is ∙ ap (state_of m.items) same ∙ gone.here in
    cc

-- ---- one task

-- What is so far, after one task more.
so_far_on :
    (w : World) (units : ℕ) (source : Member) (snapshot : Site) (b : BatchData) (rules : RulesData) (p : Progress) (t : Task) (ts : List Task)
    → Ready w units source p.member snapshot → AllFit source b p.member (t ∷ ts)
    → TaskActs w (events_with snapshot (task_deeds units b t (task_plan units rules b p.member t) p.member)) p.member
    (after_task units b t (task_plan units rules b p.member t) p.member)
    → RangeSoFar w b p.member snapshot (lefts p.entries) (t ∷ ts)
    → RangeSoFar (after_all w (events_with snapshot (task_deeds units b t (task_plan units rules b p.member t) p.member))) b
    (after_task units b t (task_plan units rules b p.member t) p.member) snapshot
    (lefts (p.entries ++ entry_of units t (task_plan units rules b p.member t) p.member ∷ [])) ts
so_far_on w units source snapshot b rules p t ts ready fit acts so_far i within =
    elim (so_far i within) [
      | inl (q, has, is) ↦ elim has [
        | inl this ↦ inr (inl (learned_ticks (ap task_item (sym this) ∙ is)))
        | inr there ↦ inl (q, there, is)
      ]
      | inr done ↦ elim done [
        | inl known ↦ inr (inl (still_known known))
        | inr gone ↦ inr (inr (still_gone gone))
      ]
    ]
  where
    m : Member
    m = p.member

    plan : Plan
    plan = task_plan units rules b p.member t

    es : List Event
    es = events_with snapshot (task_deeds units b t (task_plan units rules b p.member t) p.member)

    x : World
    x = after_all w es

    n : Member
    n = after_task units b t (task_plan units rules b p.member t) p.member

    left : List (ItemId × ℕ)
    left = lefts (p.entries ++ entry_of units t (task_plan units rules b p.member t) p.member ∷ [])

    leaves : LeavesOthers w x m.id
    leaves = all_leave w es m.id ready.ok acts.legal acts.of

    left_is : (j : ItemId) (u : ℕ) → is_skipped left j u ≡ (is_skipped (lefts p.entries) j u || is_skipped (left_from (task_item t) 0 plan.draft.marks) j u)
    left_is j u =
        ap (λ (ss : List (ItemId × ℕ)). is_skipped ss j u) (entry_lefts units t plan m p.entries)
        ∙ is_skipped-append (lefts p.entries) (left_from (task_item t) 0 plan.draft.marks) j u

    -- a unit that is not left by now was not left before, nor by this task
    both_free : (j : ItemId) (u : ℕ) → is_skipped left j u ≡ false → (is_skipped (lefts p.entries) j u ≡ false) × (is_skipped (left_from (task_item t) 0 plan.draft.marks) j u ≡ false)
    both_free j u e =
        or_none (is_skipped (lefts p.entries) j u) (is_skipped (left_from (task_item t) 0 plan.draft.marks) j u) (sym (left_is j u) ∙ e)

    learned_ticks : task_item t ≡ i → IsKnownNow x n.id snapshot left i
    learned_ticks same = record {
      known = λ s at u e y has.
          let (first, at_first, rep) = ready.stands in
          let learns : LearnsItem x m.id snapshot (task_item t) plan.draft =
          task_learns w snapshot units b t plan m first ready.ok acts.legal at_first in
          let here : site_of x.sites m.id ≡ Some s = subst (λ (r : ℕ). site_of x.sites r ≡ Some s) (task_id units b t plan m) at in
          let at_site : (v : ℕ) → is_left (at_unit plan.draft.marks v Stays) ≡ false → IsPart (snapshot.known (task_item t) v) (s.known (task_item t) v) =
          subst (λ (o : Option Site). IsSomeAnd o (λ z. (v : ℕ) → is_left (at_unit plan.draft.marks v Stays) ≡ false → IsPart (snapshot.known (task_item t) v) (z.known (task_item t) v)))
          here learns in
          let not_left : is_skipped (left_from (task_item t) 0 plan.draft.marks) (task_item t) u ≡ false =
          subst (λ (j : ItemId). is_skipped (left_from (task_item t) 0 plan.draft.marks) j u ≡ false) (sym same) (both_free i u e).1 in
          subst (λ (j : ItemId). Has y (s.known j u)) same
          (at_site u (sym (marks_left (task_item t) plan.draft.marks u) ∙ not_left) y
          (subst (λ (j : ItemId). Has y (snapshot.known j u)) (sym same) has));
    }

    still_known : IsKnownNow w m.id snapshot (lefts p.entries) i → IsKnownNow x n.id snapshot left i
    still_known known = record {
      known = λ s at u e y has.
          let (first, at_first, rep) = ready.stands in
          let (later, at_later, more) = leaves.knows.grows first at_first in
          let here : site_of x.sites m.id ≡ Some s = subst (λ (r : ℕ). site_of x.sites r ≡ Some s) (task_id units b t plan m) at in
          let same : later ≡ s = let both : Some later ≡ Some s = sym at_later ∙ here in cc in
          subst (λ (z : Site). Has y (z.known i u)) same (more i u y (known.known first at_first u (both_free i u e).0 y has));
    }

    still_gone : IsGoneNow b m snapshot (lefts p.entries) i → IsGoneNow b n snapshot left i
    still_gone gone =
        let other : task_item t ≢ i = gone_other w source snapshot b m t ts (lefts p.entries) i ready.theirs fit gone in
        record {
          mode = gone.mode;
          there = gone.there;
          here =
              task_kept units b t plan m i (λ same. other (sym same)) (λ has.
              let (state, is) = others_held units b rules m t i ready.orderly has in
              let bad : Some state ≡ None = sym is ∙ gone.here in cc)
              ∙ gone.here;
          whole = λ u.
              left_is i u
              ∙ ap (λ (c : Bool). c || is_skipped (left_from (task_item t) 0 plan.draft.marks) i u) (gone.whole u)
              ∙ left_other (task_item t) 0 plan.draft.marks i u other;
        }

-- ---- all tasks, and the range

-- The events that follow others.
pub acts_on :
    (w : World) (es fs : List Event) (m n o : Member)
    → TaskActs w es m n → TaskActs (after_all w es) fs n o → n.id ≡ m.id → (after_all w es).units ≡ w.units → TaskActs w (es ++ fs) m o
acts_on w es fs m n o first second same count = record {
  legal = legal_append w es fs first.legal second.legal;
  of = of_append es fs m.id first.of (subst (λ (r : ℕ). AllOf fs r) same second.of);
  stands = subst (λ (x : World). RepresentsReplica x m.id (shown o)) (sym (after_append w es fs))
      (subst (λ (r : ℕ). RepresentsReplica (after_all (after_all w es) fs) r (shown o)) same second.stands);
  orderly = subst (λ (u : ℕ). IsOrderly u o) count second.orderly;
}

-- A batch that goes on has the ticks that its next task needs.
not_stopped : (budget : Option ℕ) (p : Plan) (m : Member) → stop_before budget p m ≡ None → lacks p m.clock ≡ false
not_stopped budget p m none = by_spent (is_spent budget) none
  where
    by_lack : (b : Bool) → lacks p m.clock ≡ b → (let r : Option ApplyEnd = if b then Some (Full m.clock) else None in r) ≡ None → b ≡ false
    by_lack true e f = absurd (cc)
    by_lack false e f = refl

    by_spent : (b : Bool) → (let r : Option ApplyEnd = if b then Some apply_ends.Cut else (if lacks p m.clock then Some (Full m.clock) else None) in r) ≡ None → lacks p m.clock ≡ false
    by_spent true e = absurd (cc)
    by_spent false e = by_lack (lacks p m.clock) refl e

-- Nothing happens.
pub acts_none : (w : World) (units : ℕ) (source m : Member) (snapshot : Site) → Ready w units source m snapshot → TaskActs w [] m m
acts_none w units source m snapshot ready = record {
  legal = tt;
  of = tt;
  stands = ready.stands;
  orderly = subst (λ (n : ℕ). IsOrderly n m) (sym ready.count) ready.orderly;
}

-- What the batch does from here on.
pub record GoesOn (w : World) (units : ℕ) (es : List Event) (m n : Member) : Type 0 where
  pub acts : TaskActs w es m n
  pub id : n.id ≡ m.id
  pub more : KnowsMore units m n

first_acts :
    (w : World) (units : ℕ) (source : Member) (snapshot : Site) (b : BatchData) (rules : RulesData) (p : Progress) (t : Task) (ts : List Task)
    → Ready w units source p.member snapshot → IsInForm units source → IsFrom units source b → AllFit source b p.member (t ∷ ts)
    → lacks (task_plan units rules b p.member t) p.member.clock ≡ false
    → TaskActs w (events_with snapshot (task_deeds units b t (task_plan units rules b p.member t) p.member)) p.member
    (after_task units b t (task_plan units rules b p.member t) p.member)
first_acts w units source snapshot b rules p t ts ready theirs from fit enough =
    let acts : (n : ℕ) → Type 0 = λ n. TaskActs w (events_with snapshot (task_deeds n b t (task_plan n rules b p.member t) p.member)) p.member
    (after_task n b t (task_plan n rules b p.member t) p.member) in
    subst acts ready.count
    (task_acts w snapshot b rules p.member t ready.ok ready.stands
    (subst (λ (n : ℕ). IsOrderly n p.member) (sym ready.count) ready.orderly)
    (source_supplies w units source p.member snapshot b ready theirs from)
    (first_fits w units source p.member snapshot b t ts ready theirs from fit)
    (subst (λ (n : ℕ). lacks (task_plan n rules b p.member t) p.member.clock ≡ false) (sym ready.count) enough))

last_acts :
    (w : World) (units : ℕ) (source : Member) (snapshot : Site) (b : BatchData) (p : Progress)
    → Ready w units source p.member snapshot → IsInForm units source → IsFrom units source b
    → RangeSoFar w b p.member snapshot (lefts p.entries) []
    → TaskActs w (events_with snapshot (range_deeds b (lefts p.entries) p.member)) p.member (after_range units b (lefts p.entries) p.member)
last_acts w units source snapshot b p ready theirs from so_far =
    let (s, at, rep) = ready.stands in
    let fits : RangeFits s snapshot b (lefts p.entries) =
    λ i within. elim (so_far i within) [
      | inl (t, has, is) ↦ absurd has
      | inr done ↦ elim done [
        | inl known ↦ inl (known.known s at)
        | inr gone ↦ inr (record {
          here = subst (λ (o : Option ItemState). ItemRepresents w.units w.records i (holding s i) o) gone.here (rep.items i);
          there = gone.there;
          whole = gone.whole;
          forgotten = inl gone.mode;
        })
      ]
    ] in
    let acts : (n : ℕ) → Type 0 = λ n. TaskActs w (events_with snapshot (range_deeds b (lefts p.entries) p.member)) p.member (after_range n b (lefts p.entries) p.member) in
    subst acts ready.count
    (range_acts w s snapshot b (lefts p.entries) p.member ready.ok at rep (subst (λ (n : ℕ). IsOrderly n p.member) (sym ready.count) ready.orderly)
    (source_supplies w units source p.member snapshot b ready theirs from) (source_sound w units source p.member snapshot ready)
    (source_range w units source p.member snapshot b b.from b.to ready theirs from) fits)

pub go_acts :
    (w : World) (units : ℕ) (source : Member) (snapshot : Site) (b : BatchData) (rules : RulesData) (p : Progress) (ts : List Task)
    → source.id ≢ p.member.id → Ready w units source p.member snapshot → IsInForm units source → IsFrom units source b
    → AllFit source b p.member ts → RangeSoFar w b p.member snapshot (lefts p.entries) ts
    → GoesOn w units (events_with snapshot (go_deeds units b rules p ts)) p.member (go units b rules p ts).member
unfolding go go_deeds
go_acts w units source snapshot b rules p [] apart ready theirs from fit so_far = record {
  acts = last_acts w units source snapshot b p ready theirs from so_far;
  id = range_id units b (lefts p.entries) p.member;
  more = range_more units b (lefts p.entries) p.member ready.orderly (made_form w units source p.member snapshot b ready theirs from);
}
go_acts w units source snapshot b rules p (t ∷ ts) apart ready theirs from fit so_far =
    by_stop
    (λ enough.
    let acts = first_acts w units source snapshot b rules p t ts ready theirs from fit enough in
    let same = task_id units b t (task_plan units rules b p.member t) p.member in
    go_acts (after_all w (events_with snapshot (task_deeds units b t (task_plan units rules b p.member t) p.member))) units source snapshot b rules
    (with_entry units b t (is_more ts) (task_plan units rules b p.member t) p) ts
    (λ e. apart (e ∙ same))
    (ready_on w units source p.member (after_task units b t (task_plan units rules b p.member t) p.member) snapshot
    (events_with snapshot (task_deeds units b t (task_plan units rules b p.member t) p.member)) apart ready acts same)
    theirs from (fit_rest units source b rules p.member t ts ready.orderly fit)
    (so_far_on w units source snapshot b rules p t ts ready fit acts so_far))
    (stop_before p.budget (task_plan units rules b p.member t) p.member) refl
  where
    plan : Plan
    plan = task_plan units rules b p.member t

    n : Member
    n = after_task units b t (task_plan units rules b p.member t) p.member

    es : List Event
    es = events_with snapshot (task_deeds units b t (task_plan units rules b p.member t) p.member)

    q : Progress
    q = with_entry units b t (is_more ts) (task_plan units rules b p.member t) p

    by_stop :
        (lacks plan p.member.clock ≡ false → GoesOn (after_all w es) units (events_with snapshot (go_deeds units b rules q ts)) n (go units b rules q ts).member)
        → (o : Option ApplyEnd) → stop_before p.budget plan p.member ≡ o
        → GoesOn w units (events_with snapshot (deeds_or o (task_deeds units b t plan p.member ++ go_deeds units b rules q ts))) p.member
        (stop_or o p (go units b rules q ts)).member
    by_stop rest (Some end) e = record { acts = acts_none w units source p.member snapshot ready; id = refl; more = more_self units p.member }
    by_stop rest None e =
        let enough = not_stopped p.budget plan p.member e in
        let acts = first_acts w units source snapshot b rules p t ts ready theirs from fit enough in
        let same = task_id units b t plan p.member in
        let next = rest enough in
        let leaves = all_leave w es p.member.id ready.ok acts.legal acts.of in
        let whole : events_with snapshot (task_deeds units b t plan p.member ++ go_deeds units b rules q ts)
        ≡ es ++ events_with snapshot (go_deeds units b rules q ts) =
        map-append (seen_by snapshot) (task_deeds units b t plan p.member) (go_deeds units b rules q ts) in
        record {
          acts = subst (λ (xs : List Event). TaskActs w xs p.member (go units b rules q ts).member) (sym whole)
              (acts_on w es (events_with snapshot (go_deeds units b rules q ts)) p.member n (go units b rules q ts).member acts next.acts same leaves.count);
          id = next.id ∙ same;
          more = more_on units p.member n (go units b rules q ts).member
              (task_more units b t plan p.member ready.orderly (made_form w units source p.member snapshot b ready theirs from)) next.more;
        }
