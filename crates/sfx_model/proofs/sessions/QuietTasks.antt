-- One task of a session that meets no conflict and no clash, and its range at the end.
use Rattle.std.proofs.Common.{◌≡◌, ◌≢◌, ◌⊎◌, ℕ, ◌≤◌, max, Bool, true, false, true≢false, if◌then◌else◌, Option, Some, None, arith, inl, inr, refl, sym, ◌∙◌, subst}
use Rattle.sfx_ids.specs.declared.cut.Cut.TheVariants.{At}
use Rattle.sfx_ids.specs.declared.item_id.ItemId.{ItemId}
use Rattle.sfx_ids.specs.ItemId.{creation_of}
use Rattle.sfx_vector.specs.Clocks.{tick_of}
use Rattle.sfx_knowledge.specs.Knowledge.{tick_at}
use Rattle.sfx_knowledge.specs.Forgotten.{Forgets, IsForgottenWithinAt, fvec}
use Rattle.sfx_item.specs.Item.{ItemState, Live, Dead, ItemData}
use Rattle.sfx_model.specs.declared.absent.Absent.{Absent}
use Rattle.sfx_model.specs.declared.absent.Absent.TheVariants as absents
use Rattle.sfx_model.specs.declared.absent.Absent.TheVariants.{Conflict}
use Rattle.sfx_model.specs.declared.mode.Mode.{Mode}
use Rattle.sfx_model.specs.declared.mode.Mode.TheVariants.{Normal, Recover}
use Rattle.sfx_model.specs.declared.unit_class.UnitClass.{UnitClass}
use Rattle.sfx_model.specs.declared.unit_class.UnitClass.TheVariants as unit_classes
use Rattle.sfx_model.specs.declared.unit_class.UnitClass.TheVariants.{Newer, Concurrent}
use Rattle.sfx_model.specs.sessions.Acts.{IsOrderly}
use Rattle.sfx_model.specs.sessions.Batch.{BatchData}
use Rattle.sfx_model.specs.sessions.Class.{ClassData, TakeWhole, WholeConflict, is_forgotten_within, unit_class, absent_change, whole_change, present_change, class_of, absent_class_of}
use Rattle.sfx_model.specs.sessions.Draft.{draft_of, absent_draft}
use Rattle.sfx_model.specs.sessions.Entry.{Task, Unlisted, Change, task_item, task_seen, task_draft, unlisted_class, forgets_by, forgets_after}
use Rattle.sfx_model.specs.sessions.MemberKnowledge.{laid_known, joined_forgets}
use Rattle.sfx_model.specs.members.Members.{Member, state_of}
use Rattle.sfx_model.specs.members.Readings.{knows_version, is_unseen_at, is_unseen}
use Rattle.sfx_model.specs.sessions.Rules.{RulesData}
use Rattle.sfx_model.specs.sessions.Undisturbed.{KnowsUnit, KnowsState, IsChangedOnce, KnowsDeletions, IsNotDeleted}
use Rattle.sfx_model.proofs.sessions.JoinedForgets.{forgot_all}
use Rattle.sfx_model.proofs.sessions.MemberKnowledgeLemmas.{forgotten_within_decided}
use Rattle.sfx_model.proofs.sessions.QuietDrafts.{HasCell, IsQuietDraft, stays_quiet, gone_quiet, taken_quiet, units_quiet}
use Rattle.sfx_model.proofs.members.AscendingItems.{item_with}
use Rattle.sfx_model.proofs.sessions.SourceBacks.{IsFrom}
use Rattle.sfx_model.proofs.sessions.UndisturbedLemmas.{IsCalm}

-- ---- the classes

-- A unit changed on one side is in no conflict.
unit_calm :
    (units : ℕ) (source m : Member) (i : ItemId) (seen here : ItemState) (u : ℕ)
    → KnowsUnit units m i seen u ⊎ KnowsUnit units source i here u
    → unit_class (laid_known units m) (laid_known units source) i seen here u ≢ Concurrent
unit_calm units source m i seen here u once =
    by_tests (is_unseen_at (laid_known units m) i seen u) (is_unseen_at (laid_known units source) i here u) once
  where
    by_tests :
        (a b : Bool) → (a ≡ false) ⊎ (b ≡ false)
        → (let c : UnitClass = if a then (let d : UnitClass = if b then Concurrent else Newer in d) else unit_classes.Known in c) ≢ Concurrent
    by_tests false b once = λ is. absurd (cc)
    by_tests true false once = λ is. absurd (cc)
    by_tests true true once = λ is. elim once [ inl bad ↦ true≢false bad | inr bad ↦ true≢false bad ]

whole_quiet :
    (units : ℕ) (rules : RulesData) (source m : Member) (i : ItemId) (seen here : ItemState)
    → 1 ≤ units → HasCell (Some seen) → is_unseen units (laid_known units m) (item_with i seen) ≡ true
    → KnowsState units m i seen ⊎ KnowsState units source i here
    → IsQuietDraft units (Some seen) (Some here) (draft_of units rules (whole_change units (laid_known units source) (item_with i here)) (Some seen) (Some here))
whole_quiet units rules source m i seen here some cell news once = elim once [
  | inl knows ↦ absurd (true≢false (sym news ∙ knows))
  | inr theirs ↦
      subst (λ (c : ClassData). IsQuietDraft units (Some seen) (Some here) (draft_of units rules c (Some seen) (Some here)))
      (sym (taken theirs)) (taken_quiet units seen (Some here) some cell)
]
  where
    taken : KnowsState units source i here → whole_change units (laid_known units source) (item_with i here) ≡ TakeWhole
    taken theirs = rw theirs refl

present_quiet :
    (units : ℕ) (rules : RulesData) (source m : Member) (i : ItemId) (seen here : ItemState)
    → 1 ≤ units → HasCell (Some seen) → HasCell (Some here) → is_unseen units (laid_known units m) (item_with i seen) ≡ true
    → IsChangedOnce units source m i seen here
    → IsQuietDraft units (Some seen) (Some here) (draft_of units rules (present_change units (laid_known units m) (laid_known units source) i seen here) (Some seen) (Some here))
present_quiet units rules source m i (Live cells) (Live own) some theirs ours news once =
    units_quiet units rules (unit_class (laid_known units m) (laid_known units source) i (Live cells) (Live own)) cells own some
    (λ u small. unit_calm units source m i (Live cells) (Live own) u (once u small)) (theirs cells refl) (ours own refl)
present_quiet units rules source m i (Live cells) (Dead v) some theirs ours news once =
    whole_quiet units rules source m i (Live cells) (Dead v) some theirs news once
present_quiet units rules source m i (Dead v) here some theirs ours news once =
    whole_quiet units rules source m i (Dead v) here some theirs news once

new_quiet :
    (units : ℕ) (rules : RulesData) (source m : Member) (forgotten : Forgets) (i : ItemId) (seen : ItemState)
    → 1 ≤ units → HasCell (Some seen) → is_unseen units (laid_known units m) (item_with i seen) ≡ true
    → (KnowsDeletions units source m i → IsForgottenWithinAt units forgotten (laid_known units source) i)
    → IsNotDeleted units source m i seen
    → IsQuietDraft units (Some seen) None (draft_of units rules (absent_change units (laid_known units m) (laid_known units source) forgotten i) (Some seen) None)
new_quiet units rules source m forgotten i seen some cell news within once =
    subst (λ (c : ClassData). IsQuietDraft units (Some seen) None (draft_of units rules c (Some seen) None))
    (sym (taken once)) (taken_quiet units seen None some cell)
  where
    by_test :
        (b : Bool) → is_forgotten_within units forgotten (laid_known units source) i ≡ true
        → (let c : ClassData = if b then (let d : ClassData = if is_forgotten_within units forgotten (laid_known units source) i then TakeWhole else WholeConflict in d) else TakeWhole in c) ≡ TakeWhole
    by_test true e = rw e refl
    by_test false e = refl

    taken : IsNotDeleted units source m i seen → absent_change units (laid_known units m) (laid_known units source) forgotten i ≡ TakeWhole
    taken (inl knows) = absurd (true≢false (sym news ∙ knows))
    taken (inr (inl never)) = rw never refl
    taken (inr (inr deletions)) =
        by_test (knows_version (laid_known units m) i 0 (creation_of i))
        ((forgotten_within_decided units forgotten (laid_known units source) i).1 (within deletions))

-- The draft of a change.
change_quiet :
    (units : ℕ) (rules : RulesData) (source m : Member) (forgotten : Forgets) (x : ItemData)
    → IsCalm units source m → state_of source.items x.id ≡ Some x.state → HasCell (Some x.state)
    → (KnowsDeletions units source m x.id → IsForgottenWithinAt units forgotten (laid_known units source) x.id)
    → IsQuietDraft units (Some x.state) (state_of m.items x.id)
    (draft_of units rules (class_of units (laid_known units m) (laid_known units source) forgotten x (state_of m.items x.id)) (Some x.state) (state_of m.items x.id))
unfolding class_of
change_quiet units rules source m forgotten x calm at cell within =
    by_test (is_unseen units (laid_known units m) x) refl (state_of m.items x.id) refl
  where
    by_test :
        (b : Bool) → is_unseen units (laid_known units m) x ≡ b → (o : Option ItemState) → state_of m.items x.id ≡ o
        → IsQuietDraft units (Some x.state) o
        (draft_of units rules (class_of units (laid_known units m) (laid_known units source) forgotten x o) (Some x.state) o)
    by_test false e o is = rw e (stays_quiet units (Some x.state) o (subst HasCell is (calm.cells x.id)))
    by_test true e None is =
        rw e (new_quiet units rules source m forgotten x.id x.state calm.orderly.some cell e within (calm.undisturbed.deletions x.id x.state at is))
    by_test true e (Some here) is =
        rw e (present_quiet units rules source m x.id x.state here calm.orderly.some cell (subst HasCell is (calm.cells x.id)) e
        (calm.undisturbed.changes x.id x.state here at is))

-- The draft of an item that the source does not list.
unlisted_quiet :
    (units : ℕ) (rules : RulesData) (source m : Member) (i : ItemId)
    → IsCalm units source m → state_of source.items i ≡ None → (b : BatchData) → IsFrom units source b
    → IsQuietDraft units None (state_of m.items i) (absent_draft units rules.keep (unlisted_class units (laid_known units m) b i (state_of m.items i)) (state_of m.items i))
unlisted_quiet units rules source m i calm at b from = by_state (state_of m.items i) refl
  where
    by_class :
        (c : Absent) (here : ItemState) → state_of m.items i ≡ Some here → c ≢ Conflict
        → IsQuietDraft units None (Some here) (absent_draft units rules.keep c (Some here))
    by_class absents.Keep here is none = stays_quiet units None (Some here) (subst HasCell is (calm.cells i))
    by_class absents.Drop here is none = gone_quiet units None (Some here) calm.orderly.some
    by_class Conflict here is none = absurd (none refl)

    by_state :
        (o : Option ItemState) → state_of m.items i ≡ o
        → IsQuietDraft units None o (absent_draft units rules.keep (unlisted_class units (laid_known units m) b i o) o)
    by_state None is = stays_quiet units None None (subst HasCell is (calm.cells i))
    by_state (Some here) is =
        by_class (absent_class_of units (laid_known units m) b.made_with b.forgotten (item_with i here)) here is
        (rw (from.made_with, from.forgotten) (calm.undisturbed.drops i here at is))

-- What is asked of a task: a change is of an item of the source, and an item that is not listed is none.
abbrev pub IsSourced : Member → Task → Type 0
IsSourced source (Change x) = state_of source.items x.id ≡ Some x.state
IsSourced source (Unlisted i) = state_of source.items i ≡ None

pub task_source : (source : Member) (t : Task) → IsSourced source t → state_of source.items (task_item t) ≡ task_seen t
task_source source (Change x) is = is
task_source source (Unlisted i) is = is

-- What is forgotten with the batch is what either side has forgotten.
forgets_within :
    (units : ℕ) (source m : Member) (b : BatchData) (i : ItemId)
    → IsOrderly units source → IsOrderly units m → IsFrom units source b → KnowsDeletions units source m i
    → IsForgottenWithinAt units (forgets_after b m) (laid_known units source) i
forgets_within units source m b i theirs ours from deletions =
    subst (λ (f : Forgets). IsForgottenWithinAt units (forgets_by b.mode f m.forgotten) (laid_known units source) i) (sym from.forgotten) (by_mode b.mode)
  where
    by_mode : (k : Mode) → IsForgottenWithinAt units (forgets_by k source.forgotten m.forgotten) (laid_known units source) i
    by_mode Normal = deletions.ours
    by_mode Recover = λ u r small.
        both (tick_of (fvec (joined_forgets m.forgotten source.forgotten) (At i)) r) (tick_of (fvec m.forgotten (At i)) r)
        (tick_of (fvec source.forgotten (At i)) r) (tick_at (laid_known units source) (At i) u r)
        (forgot_all m.forgotten source.forgotten ours.forgotten theirs.forgotten (At i) r tt) (deletions.ours u r small) (deletions.theirs u r small)
      where
        both : (j a b t : ℕ) → j ≡ max a b → a ≤ t → b ≤ t → j ≤ t
        both j a b t is first second = omega arith

pub task_quiet :
    (units : ℕ) (rules : RulesData) (source m : Member) (b : BatchData) (t : Task)
    → IsOrderly units source → ((i : ItemId) → HasCell (state_of source.items i)) → IsCalm units source m → IsFrom units source b → IsSourced source t
    → IsQuietDraft units (task_seen t) (state_of m.items (task_item t)) (task_draft units rules b m (state_of m.items (task_item t)) t)
task_quiet units rules source m b (Change x) theirs cells calm from is =
    rw from.made_with (change_quiet units rules source m (forgets_after b m) x calm is (subst HasCell is (cells x.id))
    (λ deletions. forgets_within units source m b x.id theirs calm.orderly from deletions))
task_quiet units rules source m b (Unlisted i) theirs cells calm from is =
    unlisted_quiet units rules source m i calm is b from
