-- Entries, batches and sessions that meet no conflict and no clash.
use Rattle.std.proofs.Common.{◌≡◌, ◌≢◌, ◌⊎◌, ℕ, ◌<◌, ◌≤◌, max, ◌&&◌, Bool, true, false, true≢false, if◌then◌else◌, List, [], ◌∷◌, Option, Some, None, arith, inl, inr, refl, sym, ◌∙◌, ap, subst}
use Rattle.std.specs.Option.{option_and_then}
use Rattle.std.proofs.lemmas.Bool.{cases_eq, eq-eqb}
use Rattle.sfx_ids.specs.declared.cut.Cut.{Cut}
use Rattle.sfx_ids.specs.declared.cut.Cut.TheVariants.{At, After}
use Rattle.sfx_ids.specs.declared.item_id.ItemId.{ItemId}
use Rattle.sfx_ids.specs.Cut.{is_between}
use Rattle.sfx_ids.proofs.CutLemmas.{le-self, at-lt-after}
use Rattle.sfx_vector.specs.Clocks.{tick_of}
use Rattle.sfx_knowledge.specs.Knowledge.{Known, HasTicks, IsKnowledge, tick_at, learned_ticks, laid_over}
use Rattle.sfx_knowledge.specs.Forgotten.{Forgets, AreForgets, fvec}
use Rattle.sfx_item.proofs.NamesAreDecided.{clash_decided}
use Rattle.sfx_item.specs.Item.{ItemState, ItemData}
use Rattle.sfx_model.specs.declared.clash_rule.ClashRule.{ClashRule}
use Rattle.sfx_model.specs.declared.mode.Mode.{Mode}
use Rattle.sfx_model.specs.declared.mode.Mode.TheVariants.{Normal, Recover}
use Rattle.sfx_model.specs.sessions.Acts.{IsOrderly}
use Rattle.sfx_model.specs.sessions.Batch.{BatchData}
use Rattle.sfx_model.specs.sessions.Clashes.{plain_plan, plan_named, plan_of, drafted_name}
use Rattle.sfx_model.specs.members.Consistent.{live_name}
use Rattle.sfx_model.specs.sessions.Draft.{DraftData}
use Rattle.sfx_model.specs.sessions.Entry.{Task, task_item, task_seen, task_draft, task_plan, forgets_by, state_after, change_others, changed_by, after_task, left_from}
use Rattle.sfx_model.specs.world.Events.{same_item}
use Rattle.sfx_model.specs.sessions.MemberKnowledge.{laid_known, stored_known}
use Rattle.sfx_model.specs.members.Members.{Member, AreAscending, state_of, vector_at}
use Rattle.sfx_model.specs.members.ItemLists.{with_state_of}
use Rattle.sfx_model.specs.members.Readings.{clashing_with}
use Rattle.sfx_model.specs.sessions.Rules.{RulesData}
use Rattle.sfx_model.specs.sessions.Session.{after_range}
use Rattle.sfx_model.specs.world.Sets.{Has}
use Rattle.sfx_model.specs.members.States.{next_version}
use Rattle.sfx_model.specs.sessions.Undisturbed.{IsNameOf, KnowsMadeAlone}
use Rattle.sfx_model.proofs.sessions.ClassTests.{in_form, laid_form, laid_has}
use Rattle.sfx_model.proofs.sessions.JoinedForgets.{forgot_all, forgets_form}
use Rattle.sfx_model.proofs.sessions.LearnedKnowledge.{laid_other, vector_other}
use Rattle.sfx_model.proofs.sessions.ClashesLemmas.{clash_listed}
use Rattle.sfx_model.proofs.members.ItemListsLemmas.{state_given, state_kept, ascending_given}
use Rattle.sfx_model.proofs.sessions.QuietDrafts.{IsCalled, ComesOf, IsQuietDraft, left_none}
use Rattle.sfx_model.proofs.sessions.QuietTasks.{IsSourced, task_source}
use Rattle.sfx_model.proofs.sessions.SourceBacks.{IsFrom}
use Rattle.sfx_model.proofs.world.StepKeepsWorld.{same_item_is, same_item_self}
use Rattle.sfx_model.proofs.sessions.StoredKnowledge.{stored_form, stored_has}
use Rattle.sfx_model.proofs.sessions.UndisturbedLemmas.{GrowsAt, Passes, IsCalm}

-- ---- the plan

none_has : {A : Type 0} (xs : List A) → ((x : A) → Has x xs → ⊥) → xs ≡ []
none_has [] none = refl
none_has (x ∷ xs) none = absurd (none x (inl refl))

clash_free :
    (units : ℕ) (source m : Member) (i : ItemId) (a : List ℕ)
    → IsCalm units source m → IsNameOf source m i a → clashing_with a (Some i) m.items ≡ []
clash_free units source m i a calm of = none_has (clashing_with a (Some i) m.items) (λ j has.
    let found = clash_listed m.items i a j calm.orderly.ascending has in
    let called : IsCalled (state_of m.items j) found.own = ap (λ (o : Option ItemState). option_and_then live_name o) found.named.there ∙ found.named.live in
    calm.undisturbed.names i j a found.own (λ e. found.other (sym e)) of (inr called) ((clash_decided a found.own).0 found.clash))

plain :
    (units : ℕ) (rule : ClashRule) (i : ItemId) (items : List ItemData) (d : DraftData)
    → ((a : List ℕ) → drafted_name d ≡ Some a → clashing_with a (Some i) items ≡ []) → plan_of units rule i items d ≡ plain_plan d
plain units rule i items d free = by_name (drafted_name d) refl
  where
    by_name : (o : Option (List ℕ)) → drafted_name d ≡ o → plan_named units rule i items o d ≡ plain_plan d
    by_name None e = refl
    by_name (Some a) e = rw (free a e) refl

pub task_plain :
    (units : ℕ) (rules : RulesData) (source m : Member) (b : BatchData) (t : Task)
    → IsCalm units source m → IsSourced source t
    → IsQuietDraft units (task_seen t) (state_of m.items (task_item t)) (task_draft units rules b m (state_of m.items (task_item t)) t)
    → task_plan units rules b m t ≡ plain_plan (task_draft units rules b m (state_of m.items (task_item t)) t)
unfolding task_plan
task_plain units rules source m b t calm is quiet =
    plain units rules.clash (task_item t) m.items (task_draft units rules b m (state_of m.items (task_item t)) t)
    (λ a e. clash_free units source m (task_item t) a calm (elim (quiet.name a e) [
      | inl theirs ↦ inl (subst (λ (o : Option ItemState). IsCalled o a) (sym (task_source source t is)) theirs)
      | inr ours ↦ inr ours
    ]))

-- ---- learning

-- The destination after it learned_ticks a range, all of it.
pub record Learns (units : ℕ) (source m n : Member) (lo hi : Cut) : Type 0 where
  pub theirs : IsOrderly units source
  pub made : KnowsMadeAlone units source m
  pub id : n.id ≡ m.id
  pub clock : n.clock ≡ m.clock
  pub has : HasTicks units n.knowledge (laid_over m.id 0 (learned_ticks lo hi [] (tick_at m.knowledge) (tick_at (laid_known units source))))

own_clock : (m : Member) (place : Cut) (u r : ℕ) → r ≡ m.id → vector_at m place u r ≡ m.clock
own_clock m place u r own = rw (eq-eqb r m.id own) refl

other_tick :
    (units : ℕ) (source m n : Member) (lo hi : Cut) (i : ItemId) (u r : ℕ) (b : Bool)
    → Learns units source m n lo hi → u < units → r ≢ m.id → is_between lo hi (At i) ≡ b
    → vector_at n (At i) u r ≡ (let t : ℕ = if b then max (vector_at m (At i) u r) (vector_at source (At i) u r) else vector_at m (At i) u r in t)
other_tick units source m n lo hi i u r b learns small other e =
    let a = vector_other n (At i) u r (λ own. other (own ∙ learns.id)) in
    let h = learns.has (At i) u r tt small in
    let o = laid_other m.id 0 (learned_ticks lo hi [] (tick_at m.knowledge) (tick_at (laid_known units source))) (At i) u r other in
    let x = vector_other m (At i) u r other in
    let y = laid_has units source (in_form units source learns.theirs) (At i) u r tt small in
    a ∙ h ∙ o ∙ by_test b e (tick_at m.knowledge (At i) u r) (vector_at m (At i) u r) (tick_at (laid_known units source) (At i) u r) (vector_at source (At i) u r) (sym x) y
  where
    by_test :
        (c : Bool) → is_between lo hi (At i) ≡ c → (p q s t : ℕ) → p ≡ q → s ≡ t
        → (let k : ℕ = if is_between lo hi (At i) && true then max p s else p in k) ≡ (let k : ℕ = if c then max q t else q in k)
    by_test true f p q s t same alike = rw f (rw (same, alike) refl)
    by_test false f p q s t same alike = rw f same

covers :
    (units : ℕ) (source m n : Member) (lo hi : Cut) (i : ItemId)
    → Learns units source m n lo hi → is_between lo hi (At i) ≡ true → GrowsAt units i source n
covers units source m n lo hi i learns e u r small = elim (cases_eq r m.id) [
  | inl own ↦
      let le : vector_at source (At i) u r ≤ m.clock = subst (λ (q : ℕ). vector_at source (At i) u q ≤ m.clock) (sym own) (learns.made (At i) u tt small) in
      let is = own_clock n (At i) u r (own ∙ sym learns.id) in
      let same = learns.clock in
      omega (arith, le, is, same)
  | inr other ↦
      let is = other_tick units source m n lo hi i u r true learns small other e in
      omega (arith, is)
]

misses :
    (units : ℕ) (source m n : Member) (lo hi : Cut) (i : ItemId)
    → Learns units source m n lo hi → is_between lo hi (At i) ≡ false → GrowsAt units i n m
misses units source m n lo hi i learns e u r small = elim (cases_eq r m.id) [
  | inl own ↦
      let is = own_clock n (At i) u r (own ∙ sym learns.id) in
      let was = own_clock m (At i) u r own in
      let same = learns.clock in
      omega (arith, is, was, same)
  | inr other ↦
      let is = other_tick units source m n lo hi i u r false learns small other e in
      omega (arith, is)
]

learns_more :
    (units : ℕ) (source m n : Member) (lo hi : Cut) (i : ItemId)
    → Learns units source m n lo hi → GrowsAt units i m n
learns_more units source m n lo hi i learns u r small = elim (cases_eq r m.id) [
  | inl own ↦
      let is = own_clock n (At i) u r (own ∙ sym learns.id) in
      let was = own_clock m (At i) u r own in
      let same = learns.clock in
      omega (arith, is, was, same)
  | inr other ↦ by_test (is_between lo hi (At i)) refl other
]
  where
    by_test : (b : Bool) → is_between lo hi (At i) ≡ b → r ≢ m.id → vector_at m (At i) u r ≤ vector_at n (At i) u r
    by_test true e other = let is = other_tick units source m n lo hi i u r true learns small other e in omega (arith, is)
    by_test false e other = let is = other_tick units source m n lo hi i u r false learns small other e in omega (arith, is)

either_way :
    (units : ℕ) (source m n : Member) (lo hi : Cut) (i : ItemId)
    → Learns units source m n lo hi → GrowsAt units i n m ⊎ GrowsAt units i source n
either_way units source m n lo hi i learns = by_test (is_between lo hi (At i)) refl
  where
    by_test : (b : Bool) → is_between lo hi (At i) ≡ b → GrowsAt units i n m ⊎ GrowsAt units i source n
    by_test true e = inr (covers units source m n lo hi i learns e)
    by_test false e = inl (misses units source m n lo hi i learns e)

-- ---- deletions that are forgotten

forgets_most :
    (mode : Mode) (theirs ours : Forgets) (i : ItemId) (r : ℕ)
    → AreForgets theirs → AreForgets ours
    → tick_of (fvec (forgets_by mode theirs ours) (At i)) r ≤ max (tick_of (fvec ours (At i)) r) (tick_of (fvec theirs (At i)) r)
forgets_most Normal theirs ours i r first second = omega arith
forgets_most Recover theirs ours i r first second =
    let joined = forgot_all ours theirs second first (At i) r tt in omega (arith, joined)

forgets_formed : (mode : Mode) (theirs ours : Forgets) → AreForgets theirs → AreForgets ours → AreForgets (forgets_by mode theirs ours)
forgets_formed Normal theirs ours first second = second
forgets_formed Recover theirs ours first second = forgets_form ours theirs second first

-- ---- an entry

task_learns :
    (units : ℕ) (source m : Member) (b : BatchData) (t : Task) (d : DraftData)
    → IsOrderly units source → IsCalm units source m → IsFrom units source b
    → IsQuietDraft units (task_seen t) (state_of m.items (task_item t)) d
    → Learns units source m (after_task units b t (plain_plan d) m) (At (task_item t)) (After (task_item t))
unfolding after_task changed_by change_others
task_learns units source m b t d theirs calm from quiet = record {
  theirs = theirs;
  made = calm.made;
  id = refl;
  clock = clock;
  has = subst (λ (k : Known). HasTicks units k (laid_over m.id 0 (learned_ticks (At (task_item t)) (After (task_item t)) [] (tick_at m.knowledge) (tick_at (laid_known units source)))))
      (sym known)
      (stored_has units m.id (At (task_item t)) (After (task_item t)) [] m.knowledge (laid_known units source) was.some was.id was.knowledge (laid_form units source (in_form units source theirs)));
}
  where
    was : IsOrderly units m
    was = calm.orderly

    clock : (after_task units b t (plain_plan d) m).clock ≡ m.clock
    clock = rw quiet.stamps refl

    known : (after_task units b t (plain_plan d) m).knowledge ≡ stored_known units m.id (At (task_item t)) (After (task_item t)) [] m.knowledge (laid_known units source)
    known =
        ap (λ (left : List (ItemId × ℕ)). stored_known units m.id (At (task_item t)) (After (task_item t)) left m.knowledge b.made_with)
        (left_none (task_item t) 0 d.marks quiet.leaves)
        ∙ ap (λ (k : Known). stored_known units m.id (At (task_item t)) (After (task_item t)) [] m.knowledge k) from.made_with

task_items :
    (units : ℕ) (b : BatchData) (t : Task) (d : DraftData) (m : Member)
    → (after_task units b t (plain_plan d) m).items
    ≡ with_state_of (task_item t) (state_after units (next_version m) d (task_seen t) (state_of m.items (task_item t))) m.items
unfolding after_task changed_by change_others
task_items units b t d m = refl

task_forgets :
    (units : ℕ) (b : BatchData) (t : Task) (d : DraftData) (m : Member)
    → (after_task units b t (plain_plan d) m).forgotten ≡ forgets_by b.mode b.forgotten m.forgotten
unfolding after_task
task_forgets units b t d m = refl

task_formed :
    (units : ℕ) (b : BatchData) (t : Task) (d : DraftData) (m : Member)
    → IsOrderly units m → IsKnowledge units b.made_with → IsKnowledge units (after_task units b t (plain_plan d) m).knowledge
unfolding after_task
task_formed units b t d m ok form =
    stored_form units m.id (At (task_item t)) (After (task_item t)) (left_from (task_item t) 0 d.marks) m.knowledge b.made_with ok.some ok.id ok.knowledge form

made_form : (units : ℕ) (source : Member) (b : BatchData) → IsOrderly units source → IsFrom units source b → IsKnowledge units b.made_with
made_form units source b theirs from = subst (λ (k : Known). IsKnowledge units k) (sym from.made_with) (laid_form units source (in_form units source theirs))

same_forgets_form :
    (source : Member) (b : BatchData) (units : ℕ)
    → IsOrderly units source → IsFrom units source b → AreForgets b.forgotten
same_forgets_form source b units theirs from = subst AreForgets (sym from.forgotten) theirs.forgotten

pub task_passes :
    (units : ℕ) (source m : Member) (b : BatchData) (t : Task) (d : DraftData)
    → IsOrderly units source → IsCalm units source m → IsFrom units source b → IsSourced source t
    → IsQuietDraft units (task_seen t) (state_of m.items (task_item t)) d
    → Passes units source m (after_task units b t (plain_plan d) m)
task_passes units source m b t d theirs calm from is quiet = record {
  id = learns.id;
  clock = learns.clock;
  knowledge = task_formed units b t d m calm.orderly (made_form units source b theirs from);
  forms = subst AreForgets (sym (task_forgets units b t d m))
      (forgets_formed b.mode b.forgotten m.forgotten (same_forgets_form source b units theirs from) calm.orderly.forgotten);
  ascending = subst AreAscending (sym (task_items units b t d m)) (ascending_given i after m.items calm.orderly.ascending);
  grows = λ j. learns_more units source m n (At i) (After i) j learns;
  either = λ j. either_way units source m n (At i) (After i) j learns;
  forgotten = λ j r.
      subst (λ (f : Forgets). tick_of (fvec f (At j)) r ≤ max (tick_of (fvec m.forgotten (At j)) r) (tick_of (fvec source.forgotten (At j)) r)) (sym (task_forgets units b t d m))
      (subst (λ (f : Forgets). tick_of (fvec (forgets_by b.mode f m.forgotten) (At j)) r ≤ max (tick_of (fvec m.forgotten (At j)) r) (tick_of (fvec source.forgotten (At j)) r)) (sym from.forgotten)
      (forgets_most b.mode source.forgotten m.forgotten j r theirs.forgotten calm.orderly.forgotten));
  states = λ j. by_item j (same_item i j) refl;
}
  where
    i : ItemId
    i = task_item t

    n : Member
    n = after_task units b t (plain_plan d) m

    after : Option ItemState
    after = state_after units (next_version m) d (task_seen t) (state_of m.items (task_item t))

    learns : Learns units source m (after_task units b t (plain_plan d) m) (At (task_item t)) (After (task_item t))
    learns = task_learns units source m b t d theirs calm from quiet

    given : state_of (after_task units b t (plain_plan d) m).items (task_item t) ≡ state_after units (next_version m) d (task_seen t) (state_of m.items (task_item t))
    given =
        ap (λ (items : List ItemData). state_of items (task_item t)) (task_items units b t d m)
        ∙ state_given (task_item t) (state_after units (next_version m) d (task_seen t) (state_of m.items (task_item t))) m.items calm.orderly.ascending

    here : ComesOf (state_of source.items (task_item t)) (state_of m.items (task_item t)) (state_of (after_task units b t (plain_plan d) m).items (task_item t))
    here =
        subst (λ (o : Option ItemState). ComesOf o (state_of m.items (task_item t)) (state_of (after_task units b t (plain_plan d) m).items (task_item t))) (sym (task_source source t is))
        (subst (ComesOf (task_seen t) (state_of m.items (task_item t))) (sym given) (quiet.state (next_version m)))

    alone : is_between (At (task_item t)) (After (task_item t)) (At (task_item t)) ≡ true
    alone = rw (le-self (At (task_item t)), at-lt-after (task_item t)) refl

    by_item :
        (j : ItemId) (c : Bool) → same_item (task_item t) j ≡ c
        → (state_of (after_task units b t (plain_plan d) m).items j ≡ state_of m.items j)
        ⊎ (GrowsAt units j source (after_task units b t (plain_plan d) m) × ComesOf (state_of source.items j) (state_of m.items j) (state_of (after_task units b t (plain_plan d) m).items j))
    by_item j true e =
        let same : task_item t ≡ j = same_item_is (task_item t) j e in
        inr (subst (λ (k : ItemId). GrowsAt units k source (after_task units b t (plain_plan d) m) × ComesOf (state_of source.items k) (state_of m.items k) (state_of (after_task units b t (plain_plan d) m).items k)) same
        (covers units source m (after_task units b t (plain_plan d) m) (At (task_item t)) (After (task_item t)) (task_item t) learns alone, here))
    by_item j false e =
        inl (ap (λ (items : List ItemData). state_of items j) (task_items units b t d m)
        ∙ state_kept (task_item t) (state_after units (next_version m) d (task_seen t) (state_of m.items (task_item t))) m.items j
        (λ same. true≢false (sym (subst (λ (k : ItemId). same_item (task_item t) k ≡ true) same (same_item_self (task_item t))) ∙ e)))

-- ---- a range

pub range_passes :
    (units : ℕ) (source m : Member) (b : BatchData)
    → IsOrderly units source → IsCalm units source m → IsFrom units source b → Passes units source m (after_range units b [] m)
unfolding after_range
range_passes units source m b theirs calm from = record {
  id = refl;
  clock = refl;
  knowledge = stored_form units m.id b.from b.to [] m.knowledge b.made_with was.some was.id was.knowledge (made_form units source b theirs from);
  forms = forgets_formed b.mode b.forgotten m.forgotten (same_forgets_form source b units theirs from) was.forgotten;
  ascending = was.ascending;
  grows = λ j. learns_more units source m (after_range units b [] m) b.from b.to j learns;
  either = λ j. either_way units source m (after_range units b [] m) b.from b.to j learns;
  forgotten = λ j r.
      subst (λ (f : Forgets). tick_of (fvec (forgets_by b.mode f m.forgotten) (At j)) r ≤ max (tick_of (fvec m.forgotten (At j)) r) (tick_of (fvec source.forgotten (At j)) r)) (sym from.forgotten)
      (forgets_most b.mode source.forgotten m.forgotten j r theirs.forgotten was.forgotten);
  states = λ j. inl refl;
}
  where
    was : IsOrderly units m
    was = calm.orderly

    learns : Learns units source m (after_range units b [] m) b.from b.to
    learns = record {
      theirs = theirs;
      made = calm.made;
      id = refl;
      clock = refl;
      has = subst (λ (k : Known). HasTicks units (stored_known units m.id b.from b.to [] m.knowledge k) (laid_over m.id 0 (learned_ticks b.from b.to [] (tick_at m.knowledge) (tick_at (laid_known units source)))))
          (sym from.made_with)
          (stored_has units m.id b.from b.to [] m.knowledge (laid_known units source) was.some was.id was.knowledge (laid_form units source (in_form units source theirs)));
    }
