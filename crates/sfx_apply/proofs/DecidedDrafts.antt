-- What the code finds out of a change: its class, its draft, and whether a name clashes.
use Rattle.std.proofs.Common.{◌≡◌, ◌≢◌, ◌⊎◌, ℕ, ◌<◌, Bool, true, false, if◌then◌else◌, nat_eq, length, List, [], ◌∷◌, Option, Some, None, inl, inr, refl, sym, ◌∙◌, ap, subst, arith}
use Rattle.std.proofs.lemmas.Bool.{eq-eqb, ne_eqb, cases_eq}
use Rattle.sfx_ids.specs.declared.cut.Cut.{Cut}
use Rattle.sfx_ids.specs.declared.item_id.ItemId.{ItemId}
use Rattle.sfx_ids.specs.ItemId.{creation_of}
use Rattle.sfx_item.specs.Name.{IsName}
use Rattle.sfx_segments.specs.Segments.{IsPlace}
use Rattle.sfx_knowledge.specs.Forgotten.{Forgets}
use Rattle.sfx_knowledge.specs.Forms.{with_own}
use Rattle.sfx_knowledge.specs.Knowledge.{Known, IsKnowledge, tick_at}
use Rattle.sfx_knowledge.proofs.KnowledgeLemmas.{one_knowledge}
use Rattle.sfx_knowledge.proofs.FormsLemmas.{IsKnowledge-with_own, ticks-with_own}
use Rattle.sfx_model.specs.declared.clash_rule.ClashRule.{ClashRule}
use Rattle.sfx_model.specs.declared.clash_rule.ClashRule.TheVariants as clash_rules
use Rattle.sfx_model.specs.declared.keep.Keep.TheVariants as keeps
use Rattle.sfx_model.specs.declared.mode.Mode.TheVariants.{Normal}
use Rattle.sfx_model.specs.sessions.Batch.{BatchData}
use Rattle.sfx_model.specs.sessions.Class.{AllKnown, TakeWhole, WholeConflict, class_of, is_forgotten_within, present_change, unknown_change}
use Rattle.sfx_model.specs.sessions.Clashes.{clash_draft, drafted_name, plan_among, plan_named, plan_of}
use Rattle.sfx_model.specs.members.Consistent.{IsConsistent, IsItemState}
use Rattle.sfx_model.specs.sessions.Draft.{DraftData, all_left, draft_of}
use Rattle.sfx_model.specs.sessions.Entry.{Change, forgets_after, task_draft, task_plan}
use Rattle.sfx_model.specs.sessions.MemberKnowledge.{laid_known}
use Rattle.sfx_item.specs.Item.{ItemState, Live, Dead, ItemData}
use Rattle.sfx_model.specs.members.Members.{Member, state_of}
use Rattle.sfx_model.specs.members.Readings.{clashing_with, is_unseen, knows_version}
use Rattle.sfx_model.specs.sessions.NewName.{is_free}
use Rattle.sfx_model.specs.sessions.Rules.{RulesData}
use Rattle.sfx_model.proofs.sessions.LearnedKnowledge.{laid_other}
use Rattle.sfx_provider.specs.Commit.{CommitData, after_commit}
use Rattle.sfx_provider.proofs.CommitLemmas.{commits_consistent, stored}
use Rattle.sfx_apply.specs.Turns.{WorkData, destination, draft_now, is_free_or_none, plan_at}
use Rattle.sfx_apply.specs.Work.{FitsSides, Waits}
use Rattle.sfx_apply.proofs.SkippingDrafts.{IsWholeHere}
use Rattle.sfx_apply.proofs.SkippingPlans.{change_draft}

-- What the destination knows is what is to be after_commit: the own clock is laid over it already.
pub laid_again :
    (units : ℕ) (c : CommitData) (m : Member)
    → IsConsistent units m → Waits units c m → laid_known units (after_commit units c m) ≡ c.knowledge
laid_again units c m good waits =
    let bare : IsKnowledge units (with_own units m.id 0 c.knowledge) = IsKnowledge-with_own units m.id 0 c.knowledge waits.form (omega arith) good.id in
    one_knowledge units (with_own units m.id c.clock (with_own units m.id 0 c.knowledge)) c.knowledge good.some
    (IsKnowledge-with_own units m.id c.clock (with_own units m.id 0 c.knowledge) bare waits.fits.most good.id) waits.form
    (λ place u r is inside.
    ticks-with_own units m.id c.clock (with_own units m.id 0 c.knowledge) bare waits.fits.most good.id place u r is inside
    ∙ by_own place u r is inside (cases_eq r m.id))
  where
    by_own :
        (place : Cut) (u r : ℕ) → IsPlace place → u < units → (r ≡ m.id) ⊎ (r ≢ m.id)
        → (if nat_eq r m.id then c.clock else tick_at (with_own units m.id 0 c.knowledge) place u r) ≡ tick_at c.knowledge place u r
    by_own place u r is inside (inl same) =
        rw (eq-eqb r m.id same) (sym (waits.fits.own place u is inside) ∙ ap (λ (x : ℕ). tick_at c.knowledge place u x) (sym same))
    by_own place u r is inside (inr other) =
        rw (ne_eqb r m.id other)
        (ticks-with_own units m.id 0 c.knowledge waits.form (omega arith) good.id place u r is inside
        ∙ laid_other m.id 0 (tick_at c.knowledge) place u r other)

-- Unit by unit goes none but an item that is live on both sides.
whole_fits : (seen : ItemState) (here : Option ItemState) (b : Bool) → FitsSides (if b then TakeWhole else WholeConflict) seen here
whole_fits seen here true = tt
whole_fits seen here false = tt

whole_fits_not : (seen : ItemState) (here : Option ItemState) (b : Bool) → FitsSides (if b then WholeConflict else TakeWhole) seen here
whole_fits_not seen here true = tt
whole_fits_not seen here false = tt

unknown_fits :
    (units : ℕ) (known made_with : Known) (forgotten : Forgets) (change : ItemData) (seen : ItemState) (here : Option ItemState)
    → change.state ≡ seen → FitsSides (unknown_change units known made_with forgotten change here) seen here
unknown_fits units known made_with forgotten change seen None is = by_test (knows_version known change.id 0 (creation_of change.id))
  where
    by_test :
        (b : Bool)
        → FitsSides (if b then (if is_forgotten_within units forgotten made_with change.id then TakeWhole else WholeConflict) else TakeWhole) seen None
    by_test true = whole_fits seen None (is_forgotten_within units forgotten made_with change.id)
    by_test false = tt
unknown_fits units known made_with forgotten change seen (Some own) is =
    subst (λ (s : ItemState). FitsSides (present_change units known made_with change.id s own) seen (Some own)) (sym is) (by_states seen own)
  where
    by_states : (s o : ItemState) → FitsSides (present_change units known made_with change.id s o) s (Some o)
    by_states (Live cells) (Live cells') = tt
    by_states (Live cells) (Dead v) = whole_fits_not (Live cells) (Some (Dead v)) (is_unseen units made_with (record { id = change.id; state = Dead v }))
    by_states (Dead v) o = whole_fits_not (Dead v) (Some o) (is_unseen units made_with (record { id = change.id; state = o }))

pub class_fits :
    (units : ℕ) (known made_with : Known) (forgotten : Forgets) (change : ItemData) (here : Option ItemState)
    → FitsSides (class_of units known made_with forgotten change here) change.state here
unfolding class_of
class_fits units known made_with forgotten change here = by_test (is_unseen units known change)
  where
    by_test : (b : Bool) → FitsSides (if b then unknown_change units known made_with forgotten change here else AllKnown) change.state here
    by_test true = unknown_fits units known made_with forgotten change change.state here refl
    by_test false = tt

-- The draft as it is settled by its name: that, and where the name clashes what the rule makes of it, but for a
-- new name.
abbrev pub settled : ℕ → ClashRule → List ItemData → ItemId → Option (List ℕ) → DraftData → DraftData
settled units rule items i None draft = draft
settled units rule items i (Some name) draft = if is_free items i name then draft else clash_draft units rule draft

-- It is so by whether the name is free, where there is one.
settled_free :
    (units : ℕ) (rule : ClashRule) (items : List ItemData) (i : ItemId) (name : Option (List ℕ)) (draft : DraftData)
    → (if is_free_or_none items i name then draft else clash_draft units rule draft) ≡ settled units rule items i name draft
settled_free units rule items i None draft = refl
settled_free units rule items i (Some name) draft = refl

-- Where a clash of names is left alone, the plan has that draft.
left_settled :
    (units : ℕ) (items : List ItemData) (i : ItemId) (name : Option (List ℕ)) (draft : DraftData)
    → (plan_named units clash_rules.Skip i items name draft).draft ≡ settled units clash_rules.Skip items i name draft
left_settled units items i None draft = refl
left_settled units items i (Some name) draft = by_ids (clashing_with name (Some i) items)
  where
    by_ids : (ids : List ItemId) → (plan_among units clash_rules.Skip i items name ids draft).draft ≡ (if nat_eq (length ids) 0 then draft else all_left units)
    by_ids [] = refl
    by_ids (j ∷ js) = let some : length (j ∷ js) ≢ 0 = omega arith in rw (ne_eqb (length (j ∷ js)) 0 some) refl

plan_settled :
    (units : ℕ) (rule : ClashRule) (items : List ItemData) (i : ItemId) (draft : DraftData)
    → rule ≡ clash_rules.Skip → (plan_of units rule i items draft).draft ≡ settled units rule items i (drafted_name draft) draft
plan_settled units rule items i draft skip =
    subst (λ (r : ClashRule). (plan_of units r i items draft).draft ≡ settled units r items i (drafted_name draft) draft) (sym skip)
    (left_settled units items i (drafted_name draft) draft)

pub plan_draft :
    (units : ℕ) (b : BatchData) (rules : RulesData) (change : ItemData) (w : WorkData) (m : Member)
    → IsConsistent units m → Waits units w.pending m → rules.clash ≡ clash_rules.Skip → b.mode ≡ Normal
    → (plan_at units b rules change (destination units w m)).draft
    ≡ settled units rules.clash (destination units w m).items change.id
    (drafted_name (draft_now units b rules w.pending change (state_of (destination units w m).items change.id)))
    (draft_now units b rules w.pending change (state_of (destination units w m).items change.id))
unfolding task_plan
plan_draft units b rules change w m good waits skip normal =
    let now : Member = destination units w m in
    let here : Option ItemState = state_of (destination units w m).items change.id in
    let known : laid_known units (destination units w m) ≡ w.pending.knowledge = laid_again units w.pending m good waits in
    let forgotten : forgets_after b (destination units w m) ≡ w.pending.forgotten = rw normal refl in
    let draft : task_draft units rules b now here (Change change) ≡ draft_now units b rules w.pending change here =
    ap (λ (k : Known). draft_of units rules (class_of units k b.made_with (forgets_after b now) change here) (Some change.state) here) known
    ∙ ap (λ (f : Forgets). draft_of units rules (class_of units w.pending.knowledge b.made_with f change here) (Some change.state) here) forgotten in
    plan_settled units rules.clash now.items change.id (task_draft units rules b now here (Change change)) skip
    ∙ ap (λ (d : DraftData). settled units rules.clash now.items change.id (drafted_name d) d) draft

-- The drafted name is one.
pub drafted_valid :
    (units : ℕ) (b : BatchData) (rules : RulesData) (change : ItemData) (w : WorkData) (m : Member) (name : List ℕ)
    → IsConsistent units m → Waits units w.pending m → rules.keep ≡ keeps.Skip → IsItemState units change.state
    → drafted_name (draft_now units b rules w.pending change (state_of (destination units w m).items change.id)) ≡ Some name → IsName name
drafted_valid units b rules change w m name good waits skip whole is =
    (change_draft units rules w.pending.knowledge b.made_with w.pending.forgotten change (state_of (destination units w m).items change.id)
    skip good.some whole (whole_here (state_of (destination units w m).items change.id) refl)).valid name is
  where
    whole_here : (o : Option ItemState) → state_of (destination units w m).items change.id ≡ o → IsWholeHere units o
    whole_here None e = tt
    whole_here (Some own) e = ((commits_consistent units w.pending m good (stored units w.pending m good waits.form) waits.fits).items change.id own e).whole

-- The draft that was found, as it is settled.
pub found_settled :
    (units : ℕ) (b : BatchData) (rules : RulesData) (change : ItemData) (w : WorkData) (m : Member) (here : Option ItemState) (draft : DraftData)
    → IsConsistent units m → Waits units w.pending m → rules.clash ≡ clash_rules.Skip → b.mode ≡ Normal
    → here ≡ state_of (destination units w m).items change.id → draft ≡ draft_now units b rules w.pending change here
    → (if is_free_or_none (destination units w m).items change.id (drafted_name draft) then draft else clash_draft units rules.clash draft)
    ≡ (plan_at units b rules change (destination units w m)).draft
found_settled units b rules change w m here draft good waits skip normal there found =
    let is : draft ≡ draft_now units b rules w.pending change (state_of (destination units w m).items change.id) =
    found ∙ ap (draft_now units b rules w.pending change) there in
    settled_free units rules.clash (destination units w m).items change.id (drafted_name draft) draft
    ∙ ap (λ (d : DraftData). settled units rules.clash (destination units w m).items change.id (drafted_name d) d) is
    ∙ sym (plan_draft units b rules change w m good waits skip normal)

pub found_valid :
    (units : ℕ) (b : BatchData) (rules : RulesData) (change : ItemData) (w : WorkData) (m : Member) (here : Option ItemState) (draft : DraftData)
    → IsConsistent units m → Waits units w.pending m → rules.keep ≡ keeps.Skip → IsItemState units change.state
    → here ≡ state_of (destination units w m).items change.id → draft ≡ draft_now units b rules w.pending change here
    → (name : List ℕ) → drafted_name draft ≡ Some name → IsName name
found_valid units b rules change w m here draft good waits skip whole there found name named =
    drafted_valid units b rules change w m name good waits skip whole
    (ap drafted_name (sym (found ∙ ap (draft_now units b rules w.pending change) there)) ∙ named)
