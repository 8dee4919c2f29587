-- The turn of a change, by its plan.
use Rattle.std.proofs.Common.{◌≡◌, Bor, ℕ, ◌+◌, ◌-◌, Bool, true, false, if◌then◌else◌, length, List, [], ◌∷◌, ◌++◌, Option, Some, None, refl, sym, ◌∙◌, ap, subst, arith}
use Rattle.std.specs.List.{list_any}
use Rattle.std.specs.Option.{option_copied, option_map}
use Rattle.std.proofs.lemmas.Bool.{false_from_ne_true, ltb-true}
use Rattle.sfx_ids.specs.Tick.{max_tick}
use Rattle.sfx_ids.specs.declared.item_id.ItemId.{ItemId}
use Rattle.sfx_model.specs.declared.apply_end.ApplyEnd.{ApplyEnd}
use Rattle.sfx_model.specs.declared.apply_end.ApplyEnd.TheVariants.{Cut}
use Rattle.sfx_model.specs.declared.entry_kind.EntryKind.{EntryKind}
use Rattle.sfx_model.specs.declared.mark.Mark.{Mark}
use Rattle.sfx_model.specs.sessions.Batch.{BatchData, IsBatch, IsSent}
use Rattle.sfx_model.specs.sessions.Clashes.{Plan}
use Rattle.sfx_model.specs.members.Consistent.{IsConsistent}
use Rattle.sfx_model.specs.sessions.Draft.{DraftData}
use Rattle.sfx_item.specs.Item.{ItemState, ItemData}
use Rattle.sfx_model.specs.sessions.Entry.{Change, Changing, EntryData, OtherData, changed_by, entry_of, is_stamped, kind_of, kind_of_marks, lacks, ticks_needed}
use Rattle.sfx_model.specs.members.Members.{Member, AreAscending, state_of}
use Rattle.sfx_model.specs.sessions.Rules.{RulesData}
use Rattle.sfx_model.specs.sessions.Session.{is_spent, reduced, stop_before}
use Rattle.sfx_provider.specs.Commit.{CommitData}
use Rattle.sfx_provider.proofs.CommitLemmas.{commits_consistent, stored}
use Rattle.sfx_apply.specs.Rules.{LeavesConflicts}
use Rattle.sfx_apply.specs.Turns.{WorkData, destination, end_before, entered, plan_at, turned, unless_ended, with_entry_of}
use Rattle.sfx_apply.specs.Work.{KnowsNoMore, Waits, quiet_entry, with_marks}
use Rattle.sfx_apply.proofs.WaitingCommits.{change_waits}
use Rattle.sfx_apply.proofs.LaidCommits.{changed_skipped}
use Rattle.sfx_apply.proofs.SkippingPlans.{SkipsAll}
use Rattle.sfx_apply.proofs.SkippedChanges.{plan_skips}

abbrev told : ItemId → EntryKind → List Mark → Option ℕ → Option (List ℕ) → List OtherData → EntryData
told i kind marks tick name others = record { item = i; kind = kind; marks = marks; tick = tick; name = name; others = others }

entry_quiet :
    (units : ℕ) (change : ItemData) (p : Plan) (m : Member)
    → AreAscending m.items → SkipsAll units change.id change.state (state_of m.items change.id) m.items p
    → entry_of units (Change change) p m ≡ quiet_entry change.id p.draft.marks
unfolding entry_of
entry_quiet units change p m ascending skips =
    let kind : kind_of p ≡ kind_of_marks p.draft.marks = rw skips.quiet.gone skips.kind in
    let tick : (if list_any is_stamped p.draft.marks then Some (m.clock + 1) else None) ≡ None = rw skips.quiet.stamped refl in
    let others : (changed_by units (Change change) p m).others ≡ [] = ap (λ (c : Changing). c.others) (changed_skipped units change p m ascending skips) in
    ap (λ (k : EntryKind). told change.id k p.draft.marks (if list_any is_stamped p.draft.marks then Some (m.clock + 1) else None) p.name (changed_by units (Change change) p m).others) kind
    ∙ ap (λ (t : Option ℕ). told change.id (kind_of_marks p.draft.marks) p.draft.marks t p.name (changed_by units (Change change) p m).others) tick
    ∙ ap (λ (n : Option (List ℕ)). told change.id (kind_of_marks p.draft.marks) p.draft.marks None n (changed_by units (Change change) p m).others) skips.unnamed
    ∙ ap (told change.id (kind_of_marks p.draft.marks) p.draft.marks None None) others

-- No tick is drawn, so a batch ends before a change only where no more entries were asked for.
never_full : (p : Plan) (clock : ℕ) → list_any is_stamped p.draft.marks ≡ false → p.others ≡ [] → lacks p clock ≡ false
never_full p clock quiet alone =
    let none : ticks_needed p ≡ 0 =
    ap (λ (b : Bool). (if b then 1 else 0) + length p.others) quiet ∙ ap (λ (is : List ItemId). 0 + length is) alone in
    false_from_ne_true (lacks p clock) (λ less. let bad = ltb-true (max_tick - clock) (ticks_needed p) less in omega (arith, bad, none))

stops_spent :
    (budget : Option ℕ) (p : Plan) (m : Member)
    → list_any is_stamped p.draft.marks ≡ false → p.others ≡ [] → is_spent budget ≡ false
    → stop_before budget p m ≡ None
stops_spent budget p m quiet alone more = rw (more, never_full p m.clock quiet alone) refl

-- Where the budget is spent, the batch ends, and the work stays.
pub spent_turn :
    (units : ℕ) (b : BatchData) (rules : RulesData) (change : ItemData) (w : WorkData) (m : Member)
    → is_spent w.budget ≡ true
    → (Some Cut ≡ end_before units b rules change w m) × (w ≡ turned units b rules change w m)
spent_turn units b rules change w m spent =
    let end : end_before units b rules change w m ≡ Some Cut = rw spent refl in (
      sym end,
      sym (ap (λ (o : Option ApplyEnd). unless_ended o w (entered units b rules change w m)) end),
    )

abbrev working : CommitData → List EntryData → Option ℕ → WorkData
working pending entries budget = record { pending = pending; entries = entries; budget = budget }

-- Else the change is taken, where conflicts are left alone.
pub taken_turn :
    (units : ℕ) (b : BatchData) (rules : RulesData) (change : ItemData) (w after : WorkData) (m : Member) (here : Option ItemState) (marks : List Mark)
    → IsConsistent units m → Waits units w.pending m → IsBatch units b → LeavesConflicts rules → KnowsNoMore units m b
    → IsSent units b change.id change.state
    → is_spent w.budget ≡ false
    → here ≡ state_of (destination units w m).items change.id
    → marks ≡ (plan_at units b rules change (destination units w m)).draft.marks
    → after.pending ≡ with_marks units b change marks here w.pending
    → after.entries ≡ w.entries ++ quiet_entry change.id marks ∷ []
    → after.budget ≡ reduced w.budget 1
    → (None ≡ end_before units b rules change w m) × (after ≡ turned units b rules change w m) × Waits units after.pending m
taken_turn units b rules change w after m here marks good waits batch skip no_more sent more there marked pending entries budget =
    let now : Member = destination units w m in
    let plan : Plan = plan_at units b rules change (destination units w m) in
    let skips : SkipsAll units change.id change.state (state_of (destination units w m).items change.id) (destination units w m).items (plan_at units b rules change (destination units w m)) =
    plan_skips units b rules change w m good waits skip sent in
    let ascending : AreAscending (destination units w m).items = (commits_consistent units w.pending m good (stored units w.pending m good waits.form) waits.fits).ascending in
    let none : end_before units b rules change w m ≡ None = stops_spent w.budget plan now skips.quiet.stamped skips.alone more in
    let next : turned units b rules change w m ≡ with_entry_of units b change plan now w =
    ap (λ (o : Option ApplyEnd). unless_ended o w (entered units b rules change w m)) none in
    let pending_is : after.pending ≡ with_marks units b change plan.draft.marks (state_of now.items change.id) w.pending =
    pending ∙ ap (λ (ms : List Mark). with_marks units b change ms here w.pending) marked
    ∙ ap (λ (o : Option ItemState). with_marks units b change plan.draft.marks o w.pending) there in
    let entries_is : after.entries ≡ w.entries ++ entry_of units (Change change) plan now ∷ [] =
    entries ∙ ap (λ (e : EntryData). w.entries ++ e ∷ []) (ap (quiet_entry change.id) marked ∙ sym (entry_quiet units change plan now ascending skips)) in
    let all : working after.pending after.entries after.budget
    ≡ working (with_marks units b change plan.draft.marks (state_of now.items change.id) w.pending) (w.entries ++ entry_of units (Change change) plan now ∷ []) (reduced w.budget 1) =
    ap (λ (c : CommitData). working c after.entries after.budget) pending_is
    ∙ ap (λ (es : List EntryData). working (with_marks units b change plan.draft.marks (state_of now.items change.id) w.pending) es after.budget) entries_is
    ∙ ap (working (with_marks units b change plan.draft.marks (state_of now.items change.id) w.pending) (w.entries ++ entry_of units (Change change) plan now ∷ [])) budget in (
      sym none,
      all ∙ sym next,
      subst (λ (c : CommitData). Waits units c m) (sym pending_is) (change_waits units b change plan w.pending m good waits batch no_more sent skips),
    )

-- A copied reference to an item shows the same state.
pub copied_state :
    (r : Option (Bor ItemData)) (o : Option ItemData)
    → option_copied r ≡ o → option_map (λ x. x.now.state) r ≡ option_map (λ x. x.state) o
copied_state None None is = refl
copied_state None (Some y) is = absurd (cc)
copied_state (Some x) None is = absurd (cc)
copied_state (Some x) (Some y) is =
    let same : x.now ≡ y = cc in
    ap (λ (z : ItemData). Some z.state) same

-- The turn of a change that was taken, by what was read.
pub read_turn :
    {U : ℕ} (b : BatchData) (rules : RulesData) (change : ItemData) (w after : WorkData) (m n : Member) (item : Option (Bor ItemData)) (local : Option ItemData)
    (draft : DraftData) (marks : List Mark)
    → IsConsistent U m → Waits U w.pending m → IsBatch U b → LeavesConflicts rules → KnowsNoMore U m b → IsSent U b change.id change.state
    → is_spent w.budget ≡ false
    → option_copied item ≡ local → option_map (λ x. x.state) local ≡ state_of (destination U w m).items change.id
    → n ≡ m → marks ≡ draft.marks → draft ≡ (plan_at U b rules change (destination U w n)).draft
    → after.pending ≡ with_marks U b change marks (option_map (λ x. x.now.state) item) w.pending
    → after.entries ≡ w.entries ++ quiet_entry change.id marks ∷ []
    → after.budget ≡ reduced w.budget 1
    → (None ≡ end_before U b rules change w m) × (after ≡ turned U b rules change w m) × Waits U after.pending m
read_turn {U} b rules change w after m n item local draft marks good waits batch skip no_more sent more copied there same opened planned pending entries budget =
    let marked : marks ≡ (plan_at U b rules change (destination U w m)).draft.marks =
    opened ∙ ap (λ (d : DraftData). d.marks) planned ∙ ap (λ (x : Member). (plan_at U b rules change (destination U w x)).draft.marks) same in
    taken_turn U b rules change w after m (option_map (λ x. x.now.state) item) marks good waits batch skip no_more sent more
    (copied_state item local copied ∙ there) marked pending entries budget
