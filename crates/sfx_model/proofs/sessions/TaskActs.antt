-- One task of a batch: its events may happen one after another, and the destination afterwards represents
-- its site.
use Rattle.std.proofs.Common.{◌≡◌, ℕ, ◌+◌, ◌-◌, ◌<◌, ◌≤◌, nat_lt, Bool, true, false, if◌then◌else◌, List, ◌∷◌, ◌++◌, length, Option, Some, None, arith, inl, inr, refl, sym, ◌∙◌, subst, le_trans}
use Rattle.std.specs.List.{list_any}
use Rattle.std.proofs.lemmas.Bool.Decides.{nat_tests}
use Rattle.std.proofs.lemmas.List.{map-append}
use Rattle.sfx_ids.specs.Tick.{max_tick}
use Rattle.sfx_ids.specs.declared.cut.Cut.TheVariants.{At, After}
use Rattle.sfx_ids.specs.declared.item_id.ItemId.{ItemId}
use Rattle.sfx_ids.specs.ItemId.{IsItemId}
use Rattle.sfx_vector.specs.Clocks.{tick_of}
use Rattle.sfx_knowledge.specs.Knowledge.{IsKnowledge, tick_at}
use Rattle.sfx_knowledge.specs.Forgotten.{fvec}
use Rattle.sfx_model.specs.declared.mode.Mode.{Mode}
use Rattle.sfx_model.specs.declared.mode.Mode.TheVariants.{Normal, Recover}
use Rattle.sfx_model.specs.world.Sets.{Has}
use Rattle.sfx_model.specs.world.World.{World, Site, Snapshot, WellFormed}
use Rattle.sfx_model.specs.world.Events.{Event, Deed, Apply, ApplyFrom, AllLegal, after, after_all, seen_by}
use Rattle.sfx_model.specs.sessions.Acts.{IsOrderly, Supplies}
use Rattle.sfx_model.specs.sessions.Batch.{BatchData}
use Rattle.sfx_model.specs.sessions.Clashes.{Plan, plan_of}
use Rattle.sfx_model.specs.sessions.Deeds.{marks_in, others_deeds, forget_deeds, changed_first, task_deeds, events_with}
use Rattle.sfx_model.specs.sessions.Draft.{DraftData, absent_draft}
use Rattle.sfx_model.specs.sessions.Entry.{Task, Unlisted, Change, is_stamped, task_item, task_seen, task_draft, task_plan, unlisted_class, lacks, clock_after_marks, state_after, left_from, changed_by, change_others, after_task}
use Rattle.sfx_model.specs.sessions.MemberKnowledge.{laid_known}
use Rattle.sfx_item.specs.Item.{ItemState}
use Rattle.sfx_model.specs.members.Members.{Member, Represents, AreAscending, shown, state_of}
use Rattle.sfx_model.specs.members.Replica.{RepresentsReplica}
use Rattle.sfx_model.specs.sessions.Rules.{RulesData}
use Rattle.sfx_model.specs.members.Snapshots.{Carried}
use Rattle.sfx_model.specs.members.States.{next_version}
use Rattle.sfx_model.proofs.sessions.EntryActs.{forgotten_too, forget_acts, forgotten_form, entered, IsKnownItem, Enters, entry_acts, changing, AreWaiting, OthersAct, others_act}
use Rattle.sfx_model.proofs.sessions.PlansHaveShapes.{plan_fits}
use Rattle.sfx_model.proofs.sessions.ClassTests.{in_form, laid_has}
use Rattle.sfx_model.proofs.members.ItemIdsInRange.{AreIds, ids_given, seen_fits, held_fits, member_ids}
use Rattle.sfx_model.proofs.sessions.ClassesGiveShapes.{Fits, change_fits, unlisted_fits}
use Rattle.sfx_model.proofs.sessions.JoinedForgets.{forgot_all}
use Rattle.sfx_model.proofs.sessions.ClashesLemmas.{AreApartBut, named_cells}
use Rattle.sfx_model.proofs.sessions.PlansKeepNamesApart.{plan_apart, plan_others, plan_once, others_apart}
use Rattle.sfx_model.proofs.members.ItemListsLemmas.{state_kept, ascending_given}
use Rattle.sfx_model.proofs.world.SiteLemmas.{found}
use Rattle.sfx_model.proofs.members.OwnEvents.{AllOf, LeavesOthers, of_append, after_append, legal_append, all_leave, event_leaves}
use Rattle.sfx_model.proofs.sessions.StoredKnowledge.{stored_form}
use Rattle.sfx_model.proofs.sessions.LearnedKnowledge.{everywhere}

-- What is asked of a task: a change is what the snapshot has; an item that is not listed is absent there
-- and held here, in recovery.
abbrev pub TaskFits : World → Snapshot → BatchData → Member → Task → Type 0
TaskFits w snapshot b m (Change item) = Carried w snapshot item.id (tick_at b.made_with) (Some item.state)
TaskFits w snapshot b m (Unlisted i) =
    Carried w snapshot i (tick_at b.made_with) None × (b.mode ≡ Recover) × (local : ItemState) × (state_of m.items i ≡ Some local)

-- What comes with the task's item.
abbrev carried_of : (w : World) (snapshot : Snapshot) (b : BatchData) (m : Member) (t : Task) → TaskFits w snapshot b m t → Carried w snapshot (task_item t) (tick_at b.made_with) (task_seen t)
carried_of w snapshot b m (Change item) fits = fits
carried_of w snapshot b m (Unlisted i) fits = fits.0

known_of : (w : World) (snapshot : Snapshot) (b : BatchData) (m : Member) (t : Task) → TaskFits w snapshot b m t → IsKnownItem (task_seen t) (state_of m.items (task_item t))
known_of w snapshot b m (Change item) fits = inl (item.state, refl)
known_of w snapshot b m (Unlisted i) fits = let (carried, mode, local, is) = fits in inr (local, is)

-- In recovery all that the snapshot has forgotten is forgotten here.
pub forgotten_here :
    (w : World) (s : Site) (snapshot : Snapshot) (b : BatchData) (m : Member) (mode : Mode) (i : ItemId) (r : ℕ)
    → mode ≡ Recover → IsOrderly w.units m → Supplies w snapshot b
    → snapshot.forgotten (At i) r ≤ tick_of (fvec (forgotten_too mode b.forgotten m).forgotten (At i)) r
forgotten_here w s snapshot b m Normal i r is orderly supplies = absurd (cc)
forgotten_here w s snapshot b m Recover i r is orderly supplies =
    let joined = forgot_all m.forgotten b.forgotten orderly.forgotten supplies.forgotten (At i) r tt in
    let same = supplies.same.same (At i) r tt (everywhere (At i) tt) in
    omega (arith, joined, same)

-- Its id is in range.
task_id :
    (w : World) (s : Site) (snapshot : Snapshot) (b : BatchData) (m : Member) (t : Task)
    → WellFormed w → Has s w.sites → Represents w s (shown m) → IsOrderly w.units m → Supplies w snapshot b
    → TaskFits w snapshot b m t → IsItemId (task_item t)
task_id w s snapshot b m (Change item) ok has rep orderly supplies fits =
    seen_fits w snapshot item.id b.made_with item.state ok orderly.some supplies.made_with fits
task_id w s snapshot b m (Unlisted i) ok has rep orderly supplies (carried, mode, local, is) =
    held_fits w s m i local ok has rep orderly is

-- The draft of the task, where its forgotten deletions are joined by now, is of one of the shapes.
draft_fits :
    (w : World) (s : Site) (snapshot : Snapshot) (b : BatchData) (rules : RulesData) (m : Member) (t : Task)
    → WellFormed w → Has s w.sites → Represents w s (shown (forgotten_too b.mode b.forgotten m)) → IsOrderly w.units m
    → Supplies w snapshot b → TaskFits w snapshot b m t
    → Fits w s snapshot (task_item t) (task_seen t) (state_of m.items (task_item t))
    (task_draft w.units rules b m (state_of m.items (task_item t)) t)
draft_fits w s snapshot b rules m (Change item) ok has rep orderly supplies fits =
    change_fits w s (forgotten_too b.mode b.forgotten m) snapshot rules item (laid_known w.units m) b.made_with
    (state_of m.items item.id)
    (record { ok = ok; meets = record { here = has; represents = rep; carried = fits }; knows = laid_has w.units m (in_form w.units m orderly) }) refl
draft_fits w s snapshot b rules m (Unlisted i) ok has rep orderly supplies (carried, mode, local, is) =
    subst (λ (o : Option ItemState). Fits w s snapshot i None o (absent_draft w.units rules.keep (unlisted_class w.units (laid_known w.units m) b i o) o))
    (sym is)
    (unlisted_fits w s (forgotten_too b.mode b.forgotten m) snapshot rules.keep i (laid_known w.units m) b.made_with b.forgotten local
    (record { ok = ok; meets = record { here = has; represents = rep; carried = carried }; knows = laid_has w.units m (in_form w.units m orderly) }) is
    (λ r. supplies.same.same (At i) r tt (everywhere (At i) tt))
    (λ r. forgotten_here w s snapshot b m b.mode i r mode orderly supplies))

not_less : (x y : ℕ) → nat_lt x y ≡ false → y ≤ x
not_less x y e = grind (arith, nat_tests)

-- The ticks that a plan needs are left.
pub room_left : (p : Plan) (clock : ℕ) → clock ≤ max_tick → lacks p clock ≡ false → clock_after_marks p.draft.marks clock + length p.others ≤ max_tick
room_left p clock fits enough = by_stamp (list_any is_stamped p.draft.marks) enough
  where
    by_stamp :
        (b : Bool)
        → nat_lt (max_tick - clock) ((if b then 1 else 0) + length p.others) ≡ false
        → (if b then clock + 1 else clock) + length p.others ≤ max_tick
    by_stamp true e = let le : 1 + length p.others ≤ max_tick - clock = not_less (max_tick - clock) (1 + length p.others) e in omega arith
    by_stamp false e = let le : 0 + length p.others ≤ max_tick - clock = not_less (max_tick - clock) (0 + length p.others) e in omega arith

-- What a task's events do.
pub record TaskActs (w : World) (es : List Event) (m n : Member) : Type 0 where
  pub legal : AllLegal w es
  pub of : AllOf es m.id
  pub stands : RepresentsReplica (after_all w es) m.id (shown n)
  pub orderly : IsOrderly w.units n

-- The entry and the other items, in a world in which the forgotten deletions are joined by now.
abbrev entry_deeds : ℕ → BatchData → Task → Plan → Member → List Deed
entry_deeds units b t p m =
    ApplyFrom m.id b.source (task_item t) (next_version m) (marks_in p.draft)
    ∷ others_deeds units m.id p.acts (changed_first units t p m) p.others

entry_and_others :
    (w : World) (snapshot : Snapshot) (b : BatchData) (rules : RulesData) (m : Member) (t : Task)
    → WellFormed w → RepresentsReplica w m.id (shown (forgotten_too b.mode b.forgotten m)) → IsOrderly w.units m
    → Supplies w snapshot b → TaskFits w snapshot b m t → lacks (task_plan w.units rules b m t) m.clock ≡ false
    → TaskActs w (events_with snapshot (entry_deeds w.units b t (task_plan w.units rules b m t) m)) m
    (after_task w.units b t (task_plan w.units rules b m t) m)
unfolding task_plan after_task changed_by
entry_and_others w snapshot b rules m t ok (s, at, rep) orderly supplies fits enough = record {
  legal = (enters.legal, others.legal);
  of = (refl, others.of);
  stands = others.stands;
  orderly = record {
    some = orderly.some;
    id = orderly.id;
    clock = others.clock;
    knowledge = stored_form w.units m.id (At i) (After i) (left_from i 0 p.draft.marks) m.knowledge b.made_with orderly.some orderly.id orderly.knowledge supplies.made_with;
    forgotten = forgotten_form b m b.mode orderly.forgotten supplies.forgotten;
    ascending = others.ascending;
    names = others_apart m.id p.acts i (changed_first w.units t p m) p.others first_ids other_ids ascending but;
  };
}
  where
    i : ItemId
    i = task_item t

    d : DraftData
    d = task_draft w.units rules b m (state_of m.items (task_item t)) t

    p : Plan
    p = plan_of w.units rules.clash (task_item t) m.items d

    m1 : Member
    m1 = forgotten_too b.mode b.forgotten m

    orderly1 : IsOrderly w.units m1
    orderly1 = record {
      some = orderly.some;
      id = orderly.id;
      clock = orderly.clock;
      knowledge = orderly.knowledge;
      forgotten = forgotten_form b m b.mode orderly.forgotten supplies.forgotten;
      ascending = orderly.ascending;
      names = orderly.names;
    }

    ids : AreIds m.items
    ids = member_ids w s m1 ok (found w.sites m.id s at).0 rep orderly1

    item_id : IsItemId i
    item_id = task_id w s snapshot b m1 t ok (found w.sites m.id s at).0 rep orderly1 supplies fits

    first_ids : AreIds (changed_first w.units t p m).items
    first_ids = ids_given i (state_after w.units (next_version m) p.draft (task_seen t) (state_of m.items i)) m.items item_id ids

    other_ids : (k : ItemId) → Has k p.others → IsItemId k
    other_ids k has =
        let (name, named, clashing) = plan_others w.units rules.clash i m.items d k orderly.ascending has in
        let (x, there, is) = clashing.item in
        subst (λ (j : ItemId). IsItemId j) is (ids x there)

    drafted : Fits w s snapshot i (task_seen t) (state_of m.items i) d
    drafted = draft_fits w s snapshot b rules m t ok (found w.sites m.id s at).0 rep orderly supplies fits

    planned : Fits w s snapshot i (task_seen t) (state_of m.items i) p.draft
    planned = plan_fits w s snapshot i (task_seen t) (state_of m.items i) d rules.clash m.items orderly.some drafted

    room : clock_after_marks p.draft.marks m.clock + length p.others ≤ max_tick
    room = room_left p m.clock orderly.clock enough

    a_tick : list_any is_stamped p.draft.marks ≡ true → m.clock < max_tick
    a_tick e =
        let less : m.clock + 1 + length p.others ≤ max_tick =
        subst (λ (x : Bool). (if x then m.clock + 1 else m.clock) + length p.others ≤ max_tick) e room in
        omega arith

    enters : Enters w snapshot b i (task_seen t) p.draft m1
    enters =
        entry_acts w s snapshot b i (task_seen t) p.draft m1 ok at rep orderly1 supplies.made_with
        (carried_of w snapshot b m t fits) planned a_tick (known_of w snapshot b m t fits)

    e : Event
    e = Apply m.id snapshot i (next_version m) (marks_in p.draft)

    leaves : LeavesOthers w (after w e) m.id
    leaves = event_leaves w e m.id ok enters.legal refl

    ascending : AreAscending (changed_first w.units t p m).items
    ascending = ascending_given i (state_after w.units (next_version m) p.draft (task_seen t) (state_of m.items i)) m.items orderly.ascending

    but : AreApartBut i p.others (changed_first w.units t p m).items
    but = plan_apart w.units (next_version m) i (task_seen t) d rules.clash m.items ids orderly.some orderly.ascending orderly.names drafted.0 planned.0

    waiting : AreWaiting (changing (entered w.units b i (task_seen t) p.draft m1) (changed_first w.units t p m)) p.others
    waiting = record {
      live = λ k has.
          let (name, named, clashing) = plan_others w.units rules.clash i m.items d k orderly.ascending has in
          let (cells, is) = named_cells m.items k clashing.own clashing.named in (
            cells,
            state_kept i (state_after w.units (next_version m) p.draft (task_seen t) (state_of m.items i)) m.items k (λ same. clashing.other (sym same))
                ∙ is,
          );
    }

    others :
        OthersAct (after w e) (events_with snapshot (others_deeds w.units m.id p.acts (changed_first w.units t p m) p.others))
        (entered w.units b i (task_seen t) p.draft m1)
        (changing (entered w.units b i (task_seen t) p.draft m1) (change_others m.id p.acts (changed_first w.units t p m) p.others))
    others =
        others_act (after w e) snapshot w.units (entered w.units b i (task_seen t) p.draft m1) p.acts (changed_first w.units t p m) p.others
        leaves.ok leaves.count orderly.some enters.stands ascending room waiting
        (plan_once w.units rules.clash i m.items d orderly.ascending)

-- ---- the whole task

-- What comes with a batch stays so.
pub supplies_on :
    (w x : World) (r : ℕ) (snapshot : Snapshot) (b : BatchData)
    → LeavesOthers w x r → Supplies w snapshot b → Supplies x snapshot b
supplies_on w x r snapshot b leaves supplies = record {
  made_with = subst (λ (n : ℕ). IsKnowledge n b.made_with) (sym leaves.count) supplies.made_with;
  forgotten = supplies.forgotten;
  same = record {
    same = supplies.same.same;
    bounded = λ place q at between. le_trans (supplies.same.bounded place q at between) (leaves.clocks q);
  };
}

-- So does what is asked of a task, while the destination's items stay.
pub fits_on :
    (w x : World) (r : ℕ) (snapshot : Snapshot) (b : BatchData) (m : Member) (t : Task)
    → LeavesOthers w x r → TaskFits w snapshot b m t → TaskFits x snapshot b m t
fits_on w x r snapshot b m (Change item) leaves fits = leaves.carried snapshot item.id (tick_at b.made_with) (Some item.state) fits
fits_on w x r snapshot b m (Unlisted i) leaves (carried, mode, local, is) =
    (leaves.carried snapshot i (tick_at b.made_with) None carried, mode, local, is)

pub task_acts :
    (w : World) (snapshot : Snapshot) (b : BatchData) (rules : RulesData) (m : Member) (t : Task)
    → WellFormed w → RepresentsReplica w m.id (shown m) → IsOrderly w.units m → Supplies w snapshot b
    → TaskFits w snapshot b m t → lacks (task_plan w.units rules b m t) m.clock ≡ false
    → TaskActs w (events_with snapshot (task_deeds w.units b t (task_plan w.units rules b m t) m)) m
    (after_task w.units b t (task_plan w.units rules b m t) m)
task_acts w snapshot b rules m t ok stands orderly supplies fits enough =
    let es : List Event = events_with snapshot (forget_deeds b.mode m.id b.source) in
    let first = forget_acts w snapshot b m b.mode ok stands orderly supplies (carried_of w snapshot b m t fits).sound in
    let x : World = after_all w (events_with snapshot (forget_deeds b.mode m.id b.source)) in
    let leaves = all_leave w (events_with snapshot (forget_deeds b.mode m.id b.source)) m.id ok first.legal first.of in
    let acts : (n : ℕ) → Type 0 =
    λ n. TaskActs (after_all w (events_with snapshot (forget_deeds b.mode m.id b.source)))
    (events_with snapshot (entry_deeds n b t (task_plan n rules b m t) m)) m (after_task n b t (task_plan n rules b m t) m) in
    let next : TaskActs (after_all w (events_with snapshot (forget_deeds b.mode m.id b.source)))
    (events_with snapshot (entry_deeds w.units b t (task_plan w.units rules b m t) m)) m (after_task w.units b t (task_plan w.units rules b m t) m) =
    subst acts leaves.count
    (entry_and_others (after_all w (events_with snapshot (forget_deeds b.mode m.id b.source))) snapshot b rules m t leaves.ok first.stands
    (subst (λ (n : ℕ). IsOrderly n m) (sym leaves.count) orderly)
    (supplies_on w (after_all w (events_with snapshot (forget_deeds b.mode m.id b.source))) m.id snapshot b leaves supplies)
    (fits_on w (after_all w (events_with snapshot (forget_deeds b.mode m.id b.source))) m.id snapshot b m t leaves fits)
    (subst (λ (n : ℕ). lacks (task_plan n rules b m t) m.clock ≡ false) (sym leaves.count) enough)) in
    let whole : events_with snapshot (task_deeds w.units b t (task_plan w.units rules b m t) m)
    ≡ events_with snapshot (forget_deeds b.mode m.id b.source) ++ events_with snapshot (entry_deeds w.units b t (task_plan w.units rules b m t) m) =
    map-append (seen_by snapshot) (forget_deeds b.mode m.id b.source) (entry_deeds w.units b t (task_plan w.units rules b m t) m) in
    rw whole (record {
      legal = legal_append w (events_with snapshot (forget_deeds b.mode m.id b.source))
          (events_with snapshot (entry_deeds w.units b t (task_plan w.units rules b m t) m)) first.legal next.legal;
      of = of_append (events_with snapshot (forget_deeds b.mode m.id b.source))
          (events_with snapshot (entry_deeds w.units b t (task_plan w.units rules b m t) m)) m.id first.of next.of;
      stands = subst (λ (y : World). RepresentsReplica y m.id (shown (after_task w.units b t (task_plan w.units rules b m t) m)))
          (sym (after_append w (events_with snapshot (forget_deeds b.mode m.id b.source))
          (events_with snapshot (entry_deeds w.units b t (task_plan w.units rules b m t) m)))) next.stands;
      orderly = subst (λ (n : ℕ). IsOrderly n (after_task w.units b t (task_plan w.units rules b m t) m)) leaves.count next.orderly;
    })
