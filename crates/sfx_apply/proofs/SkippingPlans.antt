-- What the plans of changes are under rules that leave conflicts alone.
use Rattle.std.proofs.Common.{◌≡◌, ◌⊎◌, ℕ, ◌≤◌, Bool, true, false, if◌then◌else◌, List, [], ◌∷◌, replicate, Option, Some, None, inl, inr, refl, sym, ◌∙◌, subst}
use Rattle.std.specs.List.{list_any}
use Rattle.sfx_ids.specs.declared.item_id.ItemId.{ItemId}
use Rattle.sfx_ids.specs.ItemId.{creation_of}
use Rattle.sfx_knowledge.specs.Forgotten.{Forgets}
use Rattle.sfx_knowledge.specs.Knowledge.{Known}
use Rattle.sfx_model.specs.declared.clash_rule.ClashRule.{ClashRule}
use Rattle.sfx_model.specs.declared.clash_rule.ClashRule.TheVariants as clash_rules
use Rattle.sfx_model.specs.declared.keep.Keep.TheVariants.{Skip}
use Rattle.sfx_model.specs.declared.mark.Mark.TheVariants.{Left, Stays}
use Rattle.sfx_model.specs.sessions.Batch.{BatchData}
use Rattle.sfx_model.specs.sessions.Class.{AllKnown, TakeWhole, WholeConflict, absent_change, class_of, is_forgotten_within, present_change, unit_class, unknown_change}
use Rattle.sfx_model.specs.sessions.Clashes.{Plan, drafted_name, plan_among, plan_named, plan_of}
use Rattle.sfx_model.specs.members.Consistent.{IsItemState, live_name}
use Rattle.sfx_model.specs.sessions.Draft.{DraftData, draft_of}
use Rattle.sfx_model.specs.sessions.Entry.{Change, forgets_after, is_taken, kind_by, kind_of_marks, task_draft, task_plan}
use Rattle.sfx_model.specs.sessions.MemberKnowledge.{laid_known}
use Rattle.sfx_item.specs.Item.{ItemState, Live, Dead, ItemData}
use Rattle.sfx_model.specs.members.Members.{Member, state_of}
use Rattle.sfx_model.specs.members.Readings.{clashing_with, is_unseen, knows_version}
use Rattle.sfx_model.specs.sessions.Rules.{RulesData}
use Rattle.sfx_model.specs.world.Units.{each_unit}
use Rattle.sfx_apply.specs.Rules.{LeavesConflicts}
use Rattle.sfx_apply.specs.Work.{taken_state}
use Rattle.sfx_apply.proofs.UnitLists.{none_same}
use Rattle.sfx_apply.proofs.SkippingDrafts.{Brings, IsOneSided, IsQuiet, IsWholeHere, SkipsConflicts, left_draft, parts_draft, still_draft, whole_is}

-- An item that is not live on both sides is taken as it is, or left alone.
one_sided :
    (units : ℕ) (rules : RulesData) (seen : ItemState) (here : Option ItemState) (b : Bool)
    → rules.keep ≡ Skip → 1 ≤ units → IsItemState units seen → IsOneSided seen here
    → SkipsConflicts units seen here (draft_of units rules (if b then TakeWhole else WholeConflict) (Some seen) here)
one_sided units rules seen here true skip some whole one = whole_is units seen here some whole one
one_sided units rules seen here false skip some whole one = left_draft units rules seen here skip

one_sided_not :
    (units : ℕ) (rules : RulesData) (seen : ItemState) (here : Option ItemState) (b : Bool)
    → rules.keep ≡ Skip → 1 ≤ units → IsItemState units seen → IsOneSided seen here
    → SkipsConflicts units seen here (draft_of units rules (if b then WholeConflict else TakeWhole) (Some seen) here)
one_sided_not units rules seen here true skip some whole one = left_draft units rules seen here skip
one_sided_not units rules seen here false skip some whole one = whole_is units seen here some whole one

absent_one_sided : (seen : ItemState) → IsOneSided seen None
absent_one_sided (Live cells) = tt
absent_one_sided (Dead v) = tt

absent_draft :
    (units : ℕ) (rules : RulesData) (known made_with : Known) (forgotten : Forgets) (i : ItemId) (seen : ItemState)
    → rules.keep ≡ Skip → 1 ≤ units → IsItemState units seen
    → SkipsConflicts units seen None (draft_of units rules (absent_change units known made_with forgotten i) (Some seen) None)
absent_draft units rules known made_with forgotten i seen skip some whole = by_test (knows_version known i 0 (creation_of i))
  where
    by_test :
        (b : Bool)
        → SkipsConflicts units seen None
        (draft_of units rules (if b then (if is_forgotten_within units forgotten made_with i then TakeWhole else WholeConflict) else TakeWhole) (Some seen) None)
    by_test true = one_sided units rules seen None (is_forgotten_within units forgotten made_with i) skip some whole (absent_one_sided seen)
    by_test false = whole_is units seen None some whole (absent_one_sided seen)

present_draft :
    (units : ℕ) (rules : RulesData) (known made_with : Known) (i : ItemId) (seen own : ItemState)
    → rules.keep ≡ Skip → 1 ≤ units → IsItemState units seen → IsItemState units own
    → SkipsConflicts units seen (Some own) (draft_of units rules (present_change units known made_with i seen own) (Some seen) (Some own))
present_draft units rules known made_with i (Live seen) (Live own) skip some whole whole_here =
    parts_draft units rules (each_unit units (unit_class known made_with i (Live seen) (Live own))) seen own skip some whole whole_here
present_draft units rules known made_with i (Live seen) (Dead v) skip some whole whole_here =
    one_sided_not units rules (Live seen) (Some (Dead v)) (is_unseen units made_with (record { id = i; state = Dead v })) skip some whole tt
present_draft units rules known made_with i (Dead d) own skip some whole whole_here =
    one_sided_not units rules (Dead d) (Some own) (is_unseen units made_with (record { id = i; state = own })) skip some whole tt

unknown_draft :
    (units : ℕ) (rules : RulesData) (known made_with : Known) (forgotten : Forgets) (change : ItemData) (here : Option ItemState)
    → rules.keep ≡ Skip → 1 ≤ units → IsItemState units change.state → IsWholeHere units here
    → SkipsConflicts units change.state here (draft_of units rules (unknown_change units known made_with forgotten change here) (Some change.state) here)
unknown_draft units rules known made_with forgotten change None skip some whole whole_here =
    absent_draft units rules known made_with forgotten change.id change.state skip some whole
unknown_draft units rules known made_with forgotten change (Some own) skip some whole whole_here =
    present_draft units rules known made_with change.id change.state own skip some whole whole_here

-- The draft of each change skips conflicts.
pub change_draft :
    (units : ℕ) (rules : RulesData) (known made_with : Known) (forgotten : Forgets) (change : ItemData) (here : Option ItemState)
    → rules.keep ≡ Skip → 1 ≤ units → IsItemState units change.state → IsWholeHere units here
    → SkipsConflicts units change.state here (draft_of units rules (class_of units known made_with forgotten change here) (Some change.state) here)
unfolding class_of
change_draft units rules known made_with forgotten change here skip some whole whole_here = by_test (is_unseen units known change)
  where
    by_test :
        (b : Bool)
        → SkipsConflicts units change.state here
        (draft_of units rules (if b then unknown_change units known made_with forgotten change here else AllKnown) (Some change.state) here)
    by_test true = unknown_draft units rules known made_with forgotten change here skip some whole whole_here
    by_test false = still_draft units change.state here Stays refl refl refl

-- The name of the item as it becomes clashes with that of no other live item.
abbrev pub IsFree : List ItemData → ItemId → ItemState → Type 0
IsFree items i state = (name : List ℕ) → live_name state ≡ Some name → clashing_with name (Some i) items ≡ []

-- The plan skips conflicts: nothing is stamped, no other item changes, and where units of the item are
-- taken its name is free.
pub record SkipsAll (units : ℕ) (i : ItemId) (seen : ItemState) (here : Option ItemState) (items : List ItemData) (p : Plan) : Type 0 where
  pub quiet : IsQuiet p.draft.marks
  pub alone : p.others ≡ []
  pub unnamed : p.name ≡ None
  pub kind : kind_by p.acts p.draft.marks ≡ kind_of_marks p.draft.marks
  pub result :
      (list_any is_taken p.draft.marks ≡ false)
      ⊎ (Brings units seen here p.draft × IsFree items i (taken_state units p.draft.marks seen here))

plain_skips :
    (units : ℕ) (i : ItemId) (seen : ItemState) (here : Option ItemState) (items : List ItemData) (draft : DraftData)
    → SkipsConflicts units seen here draft
    → ((name : List ℕ) → drafted_name draft ≡ Some name → clashing_with name (Some i) items ≡ [])
    → SkipsAll units i seen here items (record { draft = draft; acts = None; name = None; others = [] })
plain_skips units i seen here items draft skips free = record {
  quiet = skips.quiet;
  alone = refl;
  unnamed = refl;
  kind = refl;
  result = elim skips.result [
    | inl none ↦ inl none
    | inr brings ↦ inr (brings, λ name is. free name (brings.named name is))
  ];
}

left_skips :
    (units : ℕ) (i : ItemId) (seen : ItemState) (here : Option ItemState) (items : List ItemData) (name : List ℕ)
    (j : ItemId) (js : List ItemId) (draft : DraftData)
    → SkipsAll units i seen here items (plan_among units clash_rules.Skip i items name (j ∷ js) draft)
left_skips units i seen here items name j js draft =
    let still : SkipsConflicts units seen here (record { marks = replicate units Left; values = None }) = still_draft units seen here Left refl refl refl in record {
      quiet = still.quiet;
      alone = refl;
      unnamed = refl;
      kind = refl;
      result = inl (none_same is_taken Left units refl);
    }

pub draft_plan :
    (units : ℕ) (i : ItemId) (seen : ItemState) (here : Option ItemState) (items : List ItemData) (draft : DraftData)
    → SkipsConflicts units seen here draft
    → SkipsAll units i seen here items (plan_named units clash_rules.Skip i items (drafted_name draft) draft)
draft_plan units i seen here items draft skips = by_name (drafted_name draft) refl
  where
    by_ids :
        (name : List ℕ) (ids : List ItemId)
        → drafted_name draft ≡ Some name → clashing_with name (Some i) items ≡ ids
        → SkipsAll units i seen here items (plan_among units clash_rules.Skip i items name ids draft)
    by_ids name [] named is =
        plain_skips units i seen here items draft skips
        (λ other e.
        let same : name ≡ other = let both : Some name ≡ Some other = sym named ∙ e in cc in
        subst (λ (n : List ℕ). clashing_with n (Some i) items ≡ []) same is)
    by_ids name (j ∷ js) named is = left_skips units i seen here items name j js draft

    by_name : (o : Option (List ℕ)) → drafted_name draft ≡ o → SkipsAll units i seen here items (plan_named units clash_rules.Skip i items o draft)
    by_name None e =
        plain_skips units i seen here items draft skips (λ name is. let bad : None ≡ Some name = sym e ∙ is in absurd (cc))
    by_name (Some name) e = by_ids name (clashing_with name (Some i) items) e refl

-- The plan of each change at a destination whose items are whole.
pub change_plan :
    (units : ℕ) (b : BatchData) (rules : RulesData) (m : Member) (change : ItemData)
    → LeavesConflicts rules → 1 ≤ units → IsItemState units change.state → IsWholeHere units (state_of m.items change.id)
    → SkipsAll units change.id change.state (state_of m.items change.id) m.items (task_plan units rules b m (Change change))
unfolding task_plan
change_plan units b rules m change skip some whole whole_here =
    let here : Option ItemState = state_of m.items change.id in
    let draft : DraftData = task_draft units rules b m here (Change change) in
    subst (λ (r : ClashRule). SkipsAll units change.id change.state here m.items (plan_of units r change.id m.items draft)) (sym skip.clash)
    (draft_plan units change.id change.state here m.items draft
    (change_draft units rules (laid_known units m) b.made_with (forgets_after b m) change here skip.keep some whole whole_here))
