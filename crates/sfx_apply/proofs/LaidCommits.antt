-- What waits to be after_commit, laid over a replica's state.
use Rattle.std.proofs.Common.{◌≡◌, ◌≢◌, ◌⊎◌, ℕ, ◌+◌, ◌<◌, ◌≤◌, ◌^◌, max, not, ◌&&◌, Bool, true, false, if◌then◌else◌, List, [], Option, Some, inl, inr, refl, sym, ◌∙◌, ap, subst, arith}
use Rattle.std.specs.List.{list_any}
use Rattle.std.proofs.lemmas.Bool.{eq-eqb, cases_eq}
use Rattle.sfx_ids.specs.declared.cut.Cut.{Cut}
use Rattle.sfx_ids.specs.declared.cut.Cut.TheVariants.{At, After}
use Rattle.sfx_ids.specs.declared.item_id.ItemId.{ItemId}
use Rattle.sfx_ids.specs.Cut.{is_between}
use Rattle.sfx_segments.specs.Segments.{IsPlace}
use Rattle.sfx_knowledge.specs.Forgotten.{Forgets}
use Rattle.sfx_knowledge.specs.Forms.{with_own}
use Rattle.sfx_knowledge.specs.Knowledge.{Known, IsKnowledge, laid_over, learned_ticks, tick_at}
use Rattle.sfx_knowledge.specs.Skips.{is_skipped_at}
use Rattle.sfx_knowledge.proofs.FormsLemmas.{IsKnowledge-with_own, ticks-with_own}
use Rattle.sfx_model.specs.declared.mark.Mark.{Mark}
use Rattle.sfx_model.specs.declared.mode.Mode.TheVariants.{Normal}
use Rattle.sfx_model.specs.sessions.Batch.{BatchData, IsBatch}
use Rattle.sfx_model.specs.sessions.Clashes.{Plan}
use Rattle.sfx_model.specs.members.Consistent.{IsConsistent}
use Rattle.sfx_model.specs.sessions.Entry.{Change, Changing, after_task, change_others, changed_by, clock_after_marks, forgets_after, is_taken, left_from, state_after}
use Rattle.sfx_model.specs.sessions.MemberKnowledge.{learned_known, stored_known}
use Rattle.sfx_item.specs.Item.{ItemState, ItemData}
use Rattle.sfx_model.specs.members.Members.{Member, AreAscending, state_of}
use Rattle.sfx_model.specs.members.ItemLists.{drop_all, put_all, put_item, with_state_of}
use Rattle.sfx_model.specs.sessions.Rules.{RulesData}
use Rattle.sfx_model.specs.sessions.Session.{after_range, lefts}
use Rattle.sfx_model.specs.members.States.{next_version}
use Rattle.sfx_model.proofs.sessions.LearnedKnowledge.{laid_other}
use Rattle.sfx_model.proofs.sessions.StoredKnowledge.{learned_form, learned_has, stored_is}
use Rattle.sfx_provider.specs.Commit.{CommitData, after_commit}
use Rattle.sfx_apply.specs.Turns.{WorkData, destination, entered, plan_at, with_range_of}
use Rattle.sfx_apply.specs.Work.{Waits, put_taken, taken_state, with_marks, with_range}
use Rattle.sfx_items.proofs.ItemListLemmas.{put_on, puts_ascending, same_state}
use Rattle.sfx_apply.proofs.SkippingPlans.{SkipsAll}

abbrev made : ℕ → ℕ → Known → Forgets → List ItemData → Member
made id clock knowledge forgotten items =
    record { id = id; clock = clock; knowledge = knowledge; forgotten = forgotten; items = items }

-- Members with equal parts are equal.
member_is :
    (m n : Member)
    → m.id ≡ n.id → m.clock ≡ n.clock → m.knowledge ≡ n.knowledge → m.forgotten ≡ n.forgotten → m.items ≡ n.items → m ≡ n
member_is m n id clock knowledge forgotten items =
    let e : made m.id m.clock m.knowledge m.forgotten m.items ≡ made n.id n.clock n.knowledge n.forgotten n.items =
    rw (id, clock, knowledge, forgotten, items) refl in
    e

-- What is learned_ticks, stored: it does not matter whether the own entry was laid over beforehand.
learned_stored :
    (units own : ℕ) (lo hi : Cut) (skipped : List (ItemId × ℕ)) (known there : Known)
    → 1 ≤ units → own < 2 ^ 128 → IsKnowledge units known → IsKnowledge units there
    → with_own units own 0 (learned_known units lo hi skipped known there)
    ≡ stored_known units own lo hi skipped (with_own units own 0 known) there
learned_stored units own lo hi skipped known there some small form form_there =
    let bare : IsKnowledge units (with_own units own 0 known) = IsKnowledge-with_own units own 0 known form (omega arith) small in
    let all : IsKnowledge units (learned_known units lo hi skipped known there) = learned_form units lo hi skipped known there some form form_there in
    stored_is units own lo hi skipped (with_own units own 0 known) there
    (with_own units own 0 (learned_known units lo hi skipped known there)) some small bare form_there
    (IsKnowledge-with_own units own 0 (learned_known units lo hi skipped known there) all (omega arith) small)
    (λ place u r is inside.
    ticks-with_own units own 0 (learned_known units lo hi skipped known there) all (omega arith) small place u r is inside
    ∙ by_own place u r is inside (cases_eq r own))
  where
    by_own :
        (place : Cut) (u r : ℕ) → IsPlace place → u < units
        → (r ≡ own) ⊎ (r ≢ own)
        → laid_over own 0 (tick_at (learned_known units lo hi skipped known there)) place u r
        ≡ laid_over own 0 (learned_ticks lo hi skipped (tick_at (with_own units own 0 known)) (tick_at there)) place u r
    by_own place u r is inside (inl same) = rw (eq-eqb r own same) refl
    by_own place u r is inside (inr other) =
        laid_other own 0 (tick_at (learned_known units lo hi skipped known there)) place u r other
        ∙ learned_has units lo hi skipped known there form form_there place u r is inside
        ∙ ap (λ (t : ℕ). if is_between lo hi place && not (is_skipped_at skipped place u) then max t (tick_at there place u r) else t)
        (sym (ticks-with_own units own 0 known form (omega arith) small place u r is inside ∙ laid_other own 0 (tick_at known) place u r other))
        ∙ sym (laid_other own 0 (learned_ticks lo hi skipped (tick_at (with_own units own 0 known)) (tick_at there)) place u r other)

-- In mode Normal nothing is forgotten with a batch.
forgets_normal : (b : BatchData) (m : Member) → b.mode ≡ Normal → forgets_after b m ≡ m.forgotten
forgets_normal b m normal = rw normal refl

abbrev changing : ℕ → List ItemData → Changing
changing clock items = record { clock = clock; items = items; others = [] }

-- The entry of a change is laid over as it is to be: the destination with it waiting is the destination after
-- its task, and the replica's state takes what waits.
pub record Lays (units : ℕ) (b : BatchData) (rules : RulesData) (change : ItemData) (w : WorkData) (m : Member) : Type 0 where
  pub laid :
      destination units (entered units b rules change w m) m
      ≡ after_task units b (Change change) (plan_at units b rules change (destination units w m)) (destination units w m)
  pub waits : Waits units (entered units b rules change w m).pending m

-- The items after a change that skips conflicts.
state_skipped :
    (units : ℕ) (change : ItemData) (p : Plan) (m : Member)
    → AreAscending m.items → SkipsAll units change.id change.state (state_of m.items change.id) m.items p
    → with_state_of change.id (state_after units (next_version m) p.draft (Some change.state) (state_of m.items change.id)) m.items
    ≡ put_taken units p.draft.marks change (state_of m.items change.id) m.items
state_skipped units change p m ascending skips =
    elim skips.result [
      | inl none ↦
          let kept : state_after units (next_version m) p.draft (Some change.state) (state_of m.items change.id) ≡ state_of m.items change.id =
          rw (skips.quiet.gone, none, skips.quiet.stamped) refl in
          ap (λ (o : Option ItemState). with_state_of change.id o m.items) kept
          ∙ same_state change.id m.items ascending
          ∙ sym (rw none refl)
      | inr (brings, free) ↦
          ap (λ (o : Option ItemState). with_state_of change.id o m.items) (brings.state (next_version m))
          ∙ sym (rw brings.taken refl)
    ]

pub changed_skipped :
    (units : ℕ) (change : ItemData) (p : Plan) (m : Member)
    → AreAscending m.items → SkipsAll units change.id change.state (state_of m.items change.id) m.items p
    → changed_by units (Change change) p m
    ≡ record { clock = m.clock; items = put_taken units p.draft.marks change (state_of m.items change.id) m.items; others = [] }
unfolding changed_by change_others
changed_skipped units change p m ascending skips =
    let own : List ItemData = with_state_of change.id (state_after units (next_version m) p.draft (Some change.state) (state_of m.items change.id)) m.items in
    ap (change_others m.id p.acts (changing (clock_after_marks p.draft.marks m.clock) own)) skips.alone
    ∙ ap (λ (b : Bool). changing (if b then m.clock + 1 else m.clock) own) skips.quiet.stamped
    ∙ ap (changing m.clock) (state_skipped units change p m ascending skips)

-- Nothing is dropped.
dropped_none : (drops : List ItemId) (items : List ItemData) → drops ≡ [] → drop_all drops items ≡ items
dropped_none drops items none = ap (λ (is : List ItemId). drop_all is items) none

committed_ascending : (units : ℕ) (c : CommitData) (m : Member) → IsConsistent units m → c.drops ≡ [] → AreAscending (after_commit units c m).items
committed_ascending units c m good none =
    subst AreAscending (sym (dropped_none c.drops (put_all c.puts m.items) none)) (puts_ascending c.puts m.items good.ascending)

-- The items put, laid over, with one more change.
put_laid :
    (units : ℕ) (marks : List Mark) (change : ItemData) (here : Option ItemState) (puts items : List ItemData)
    → AreAscending puts → AreAscending items
    → put_all (put_taken units marks change here puts) items ≡ put_taken units marks change here (put_all puts items)
put_laid units marks change here puts items ascending_puts ascending = by_test (list_any is_taken marks)
  where
    new : ItemData
    new = record { id = change.id; state = taken_state units marks change.state here }

    by_test : (b : Bool) → put_all (if b then put_item new puts else puts) items ≡ (if b then put_item new (put_all puts items) else put_all puts items)
    by_test true = put_on new puts items ascending_puts ascending
    by_test false = refl

-- The destination with one more change waiting is the destination after that change.
pub change_laid :
    (units : ℕ) (b : BatchData) (change : ItemData) (p : Plan) (c : CommitData) (m : Member)
    → IsConsistent units m → Waits units c m → IsBatch units b → b.mode ≡ Normal
    → SkipsAll units change.id change.state (state_of (after_commit units c m).items change.id) (after_commit units c m).items p
    → after_commit units (with_marks units b change p.draft.marks (state_of (after_commit units c m).items change.id) c) m
    ≡ after_task units b (Change change) p (after_commit units c m)
unfolding after_task
change_laid units b change p c m good waits batch normal skips =
    let now : Member = after_commit units c m in
    let changed = changed_skipped units change p now (committed_ascending units c m good waits.keeps) skips in
    member_is (after_commit units (with_marks units b change p.draft.marks (state_of now.items change.id) c) m)
    (after_task units b (Change change) p now) refl
    (sym (ap (λ (x : Changing). x.clock) changed))
    (learned_stored units m.id (At change.id) (After change.id) (left_from change.id 0 p.draft.marks) c.knowledge b.made_with
    good.some good.id waits.form batch.made_with)
    (sym (forgets_normal b now normal))
    (items_laid ∙ sym (ap (λ (x : Changing). x.items) changed))
  where
    items_laid :
        drop_all c.drops (put_all (put_taken units p.draft.marks change (state_of (after_commit units c m).items change.id) c.puts) m.items)
        ≡ put_taken units p.draft.marks change (state_of (after_commit units c m).items change.id) (after_commit units c m).items
    items_laid =
        dropped_none c.drops (put_all (put_taken units p.draft.marks change (state_of (after_commit units c m).items change.id) c.puts) m.items) waits.keeps
        ∙ put_laid units p.draft.marks change (state_of (after_commit units c m).items change.id) c.puts m.items waits.fits.puts good.ascending
        ∙ ap (put_taken units p.draft.marks change (state_of (after_commit units c m).items change.id))
        (sym (dropped_none c.drops (put_all c.puts m.items) waits.keeps))

-- The destination with the range waiting is the destination after the range.
pub range_laid :
    (units : ℕ) (b : BatchData) (left : List (ItemId × ℕ)) (c : CommitData) (m : Member)
    → IsConsistent units m → Waits units c m → IsBatch units b → b.mode ≡ Normal
    → after_commit units (with_range units b left c) m ≡ after_range units b left (after_commit units c m)
unfolding after_range
range_laid units b left c m good waits batch normal =
    member_is (after_commit units (with_range units b left c) m) (after_range units b left (after_commit units c m)) refl refl
    (learned_stored units m.id b.from b.to left c.knowledge b.made_with good.some good.id waits.form batch.made_with)
    (sym (forgets_normal b (after_commit units c m) normal)) refl

-- The batch's range is laid over as it is to be: the destination with it waiting is the destination after it.
abbrev pub RangeLays : ℕ → BatchData → WorkData → Member → Type 0
RangeLays units b w m = destination units (with_range_of units b w) m ≡ after_range units b (lefts w.entries) (destination units w m)

pub range_lays :
    (units : ℕ) (b : BatchData) (w : WorkData) (m : Member)
    → IsConsistent units m → Waits units w.pending m → IsBatch units b → b.mode ≡ Normal → RangeLays units b w m
range_lays units b w m good waits batch normal = range_laid units b (lefts w.entries) w.pending m good waits batch normal
