-- A session between members that know the same: nothing of the source is new to the destination, so that one
-- batch without changes ends it.
use Rattle.std.proofs.Common.{◌≡◌, ℕ, zero, suc, ◌+◌, ◌<◌, ◌≤◌, ◌||◌, not, nat_le, nat_lt, Bool, true, false, true≢false, cond, if◌then◌else◌, List, [], ◌∷◌, length, take, Option, Some, None, inl, inr, refl, sym, ◌∙◌, ap, subst, arith}
use Rattle.std.specs.List.{filter}
use Rattle.std.specs.Option.{option_map_or}
use Rattle.std.proofs.lemmas.Bool.Decides.{nat_tests}
use Rattle.sfx_ids.specs.declared.cut.Cut.{Cut}
use Rattle.sfx_ids.specs.declared.cut.Cut.TheVariants.{Start, At, End}
use Rattle.sfx_ids.specs.Cut.{cut_le}
use Rattle.sfx_ids.specs.declared.version.Version.{Version}
use Rattle.sfx_knowledge.specs.Knowledge.{Known, tick_at}
use Rattle.sfx_item.specs.Item.{ItemData, version_at}
use Rattle.sfx_model.specs.declared.apply_end.ApplyEnd.{ApplyEnd}
use Rattle.sfx_model.specs.declared.apply_end.ApplyEnd.TheVariants as apply_ends
use Rattle.sfx_model.specs.declared.apply_end.ApplyEnd.TheVariants.{Whole, Full}
use Rattle.sfx_model.specs.declared.session_end.SessionEnd.{SessionEnd}
use Rattle.sfx_model.specs.declared.session_end.SessionEnd.TheVariants as session_ends
use Rattle.sfx_model.specs.declared.session_end.SessionEnd.TheVariants.{Done}
use Rattle.sfx_model.specs.declared.mode.Mode.{Mode}
use Rattle.sfx_model.specs.sessions.Achieved.{IsStill}
use Rattle.sfx_model.specs.sessions.Batch.{BatchData, batch_from, due, due_end, mode_of, place_behind}
use Rattle.sfx_model.specs.members.Consistent.{IsConsistent}
use Rattle.sfx_model.specs.world.Events.{some_unit}
use Rattle.sfx_model.specs.sessions.MemberKnowledge.{laid_known}
use Rattle.sfx_model.specs.members.Members.{Member}
use Rattle.sfx_model.specs.members.Readings.{is_unseen, is_unseen_at, items_from, knows_version, unseen}
use Rattle.sfx_model.specs.sessions.Rules.{RulesData}
use Rattle.sfx_model.specs.sessions.Session.{Course, SessionResult, StepData, applied_data, ended, ending, session_from, session_of, set_out}
use Rattle.sfx_model.specs.world.Sets.{Has}
use Rattle.sfx_model.proofs.sessions.SessionsEnd.{has_filtered, next_batch, next_course, next_end, next_outcome, session_step, to_is}
use Rattle.sfx_model.proofs.sessions.ClassTests.{in_form, laid_has}
use Rattle.sfx_model.proofs.members.ItemIdsInRange.{state_there}
use Rattle.sfx_model.proofs.sessions.ConsistentIsOrderly.{orderly}

-- ---- nothing is unseen

no_unit : (test : ℕ → Bool) (units : ℕ) → ((u : ℕ) → u < units → test u ≡ false) → some_unit test units ≡ false
no_unit test zero none = refl
no_unit test (suc n) none = rw (none n (omega arith)) (no_unit test n (λ u small. none u (omega arith)))

no_item : {A : Type 0} (test : A → Bool) (xs : List A) → ((x : A) → Has x xs → test x ≡ false) → filter test xs ≡ []
no_item test [] none = refl
no_item test (x ∷ xs) none = rw (none x (inl refl)) (no_item test xs (λ y has. none y (inr has)))

contained_known : (known : Known) (x : ItemData) (u : ℕ) (v : Version) → v.tick ≤ tick_at known (At x.id) u v.replica → not (knows_version known x.id u v) ≡ false
contained_known known x u v low = ap not (is_le v.tick (tick_at known (At x.id) u v.replica) low)
  where
    is_le : (a b : ℕ) → a ≤ b → nat_le a b ≡ true
    is_le a b le = grind (arith, nat_tests)

-- A consistent member has seen each of its items.
own_seen :
    (units : ℕ) (m : Member) (x : ItemData)
    → IsConsistent units m → Has x m.items → is_unseen units (laid_known units m) x ≡ false
own_seen units m x consistent has =
    no_unit (is_unseen_at (laid_known units m) x.id x.state) units (λ u small. by_version u small (version_at x.state u) refl)
  where
    by_version :
        (u : ℕ) → u < units → (o : Option Version) → version_at x.state u ≡ o
        → option_map_or (λ v. not (knows_version (laid_known units m) x.id u v)) o false ≡ false
    by_version u small None is = refl
    by_version u small (Some v) is =
        let owned = consistent.items x.id x.state (state_there m.items x consistent.ascending has) in
        contained_known (laid_known units m) x u v
        (subst (λ (t : ℕ). v.tick ≤ t) (sym (laid_has units m (in_form units m (orderly units m consistent)) (At x.id) u v.replica tt small))
        (owned.versions u v small is))

none_unseen : (units : ℕ) (m : Member) (from : Cut) → IsConsistent units m → unseen units (laid_known units m) from m.items ≡ []
none_unseen units m from consistent =
    no_item (is_unseen units (laid_known units m)) (items_from from m.items)
    (λ x has. own_seen units m x consistent (has_filtered (λ y. cut_le from (At y.id)) x m.items has).1)

-- ---- the batch

taken_none : {A : Type 0} (n : ℕ) (xs : List A) → xs ≡ [] → take n xs ≡ []
taken_none zero xs is = refl
taken_none (suc n) xs is = rw is refl

none_due : (units size : ℕ) (known : Known) (from : Cut) (items : List ItemData) → unseen units known from items ≡ [] → due units size known from items ≡ []
none_due units size known from items none = taken_none size (unseen units known from items) none

not_below : (n : ℕ) → nat_lt n 0 ≡ false
not_below n = grind (arith, nat_tests)

ends_at_end : (units size : ℕ) (known : Known) (from : Cut) (items : List ItemData) → unseen units known from items ≡ [] → due_end units size known from items ≡ End
ends_at_end units size known from items none =
    by_length (unseen units known from items) none
  where
    by_length : (xs : List ItemData) → xs ≡ [] → (if nat_lt size (length xs) then place_behind End (take size xs) else End) ≡ End
    by_length [] is = rw (not_below size) refl
    by_length (x ∷ xs) is = absurd (cc)

batch_changes :
    (units : ℕ) (source : Member) (mode : Mode) (size : ℕ) (known : Known) (from : Cut)
    → (batch_from units source mode size known from).changes ≡ due units size known from source.items
unfolding batch_from
batch_changes units source mode size known from = refl

batch_begins :
    (units : ℕ) (source : Member) (mode : Mode) (size : ℕ) (known : Known) (from : Cut)
    → (batch_from units source mode size known from).from ≡ from
unfolding batch_from
batch_begins units source mode size known from = refl

-- ---- the session

last_ends : (to : Cut) (end : ApplyEnd) (budget : Option ℕ) → to ≡ End → (e : SessionEnd) × (ending to end budget ≡ Some e)
last_ends to apply_ends.Cut budget is = (session_ends.Cut, refl)
last_ends to (Full clock) budget is = (session_ends.Full clock, refl)
last_ends to Whole budget is = (Done, rw is refl)

ended_still :
    (c : Course) (o : Option SessionEnd) (e : SessionEnd) (next : SessionResult) (s : StepData)
    → o ≡ Some e → c.steps ≡ s ∷ [] → s.batch.from ≡ Start → s.batch.to ≡ End → s.batch.changes ≡ [] → IsStill (ended c o next)
ended_still c None e next s is alone from to changes = absurd (cc)
ended_still c (Some end) e next s is alone from to changes =
    record { step = s; alone = alone; from = from; to = to; changes = changes }

still_from :
    (bound units : ℕ) (source m : Member) (mode : Mode) (rules : RulesData) (size : ℕ) (cut : Option ℕ)
    → 1 ≤ bound → IsConsistent units source → laid_known units source ≡ laid_known units m
    → IsStill (session_from bound units source mode rules size (set_out cut m) Start)
still_from zero units source m mode rules size cut some consistent same = absurd (omega arith)
still_from (suc bound) units source m mode rules size cut some consistent same =
    subst IsStill (sym (session_step bound units source mode rules size (set_out cut m) Start))
    (ended_still course (next_end units source mode rules size (set_out cut m) Start) last.0
    (session_from bound units source mode rules size course b.to) here last.1 refl
    (batch_begins units source mode size (laid_known units m) Start) to
    (batch_changes units source mode size (laid_known units m) Start
    ∙ none_due units size (laid_known units m) Start source.items none))
  where
    b : BatchData
    b = next_batch units source mode size (set_out cut m) Start

    course : Course
    course = next_course units source mode rules size (set_out cut m) Start

    here : StepData
    here = record { batch = b; applied = applied_data (next_outcome units source mode rules size (set_out cut m) Start) }

    none : unseen units (laid_known units m) Start source.items ≡ []
    none = subst (λ (k : Known). unseen units k Start source.items ≡ []) same (none_unseen units source Start consistent)

    to : b.to ≡ End
    to = to_is units source mode size (laid_known units m) Start ∙ ends_at_end units size (laid_known units m) Start source.items none

    last : (e : SessionEnd) × (next_end units source mode rules size (set_out cut m) Start ≡ Some e)
    last = last_ends b.to (next_outcome units source mode rules size (set_out cut m) Start).end course.budget to

pub stays_still :
    (units : ℕ) (source m : Member) (rules : RulesData) (size : ℕ) (cut : Option ℕ)
    → IsConsistent units source → laid_known units source ≡ laid_known units m
    → IsStill (session_of units source m rules size cut)
unfolding session_of
stays_still units source m rules size cut consistent same =
    still_from (length source.items + 1) units source m (mode_of units source.forgotten (laid_known units m)) rules size cut
    (omega arith) consistent same
