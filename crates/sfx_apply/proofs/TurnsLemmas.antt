-- One turn of a batch, and its range at the end, by what the steps say.
use Rattle.std.proofs.Common.{◌≡◌, Bor, ℕ, zero, suc, ◌+◌, ◌<◌, ◌≤◌, Bool, true, false, not, if◌then◌else◌, nat_lt, List, [], ◌∷◌, ◌++◌, length, map, drop, get_or, Option, Some, None, inl, inr, refl, sym, ◌∙◌, ap, subst, arith}
use Rattle.std.specs.List.{filter}
use Rattle.std.proofs.lemmas.Bool.Decides.{nat_tests}
use Rattle.std.proofs.lemmas.List.{drop_all, length-drop, length-map, map-append}
use Rattle.sfx_model.specs.declared.apply_end.ApplyEnd.{ApplyEnd}
use Rattle.sfx_model.specs.declared.apply_end.ApplyEnd.TheVariants.{Whole}
use Rattle.sfx_model.specs.declared.mode.Mode.TheVariants.{Normal}
use Rattle.sfx_model.specs.sessions.Batch.{BatchData, IsBatch, IsSent}
use Rattle.sfx_model.specs.members.Consistent.{IsConsistent}
use Rattle.sfx_model.specs.sessions.Entry.{Change, EntryData}
use Rattle.sfx_item.specs.Item.{ItemData}
use Rattle.sfx_model.specs.members.Members.{Member}
use Rattle.sfx_model.specs.sessions.Moments.{committed, stops}
use Rattle.sfx_model.specs.sessions.Rules.{RulesData}
use Rattle.sfx_model.specs.sessions.Session.{Outcome, outcome_of, go, is_live_state, is_more, tasks_of}
use Rattle.sfx_model.specs.world.Sets.{Has}
use Rattle.sfx_model.proofs.world.SetsLemmas.{has_either}
use Rattle.sfx_provider.specs.Leaves.{Arrives, BreaksOff, Rests}
use Rattle.sfx_provider.proofs.LeavesLemmas.{arrives_later, arrives_still, breaks_later, rests_self}
use Rattle.sfx_provider.proofs.CourseLemmas.{opened}
use Rattle.sfx_apply.specs.Turns.{WorkData, destination, due_after, end_before, in_turn, next_state, next_states, next_work, seen_views, turned, with_range_of, work_begun}
use Rattle.sfx_apply.specs.Work.{KnowsNoMore}
use Rattle.sfx_apply.proofs.ClashLookups.{state_has}
use Rattle.sfx_apply.proofs.LaidCommits.{Lays, RangeLays}
use Rattle.sfx_apply.proofs.BatchProgress.{Arrived, Ends, Stands, arrived_on, begun, breaks_part, finishing, range_part, step_off, step_on, turn_part}

-- ---- the changes in turn

has_filtered : (test : ItemData → Bool) (xs : List ItemData) (x : ItemData) → Has x (filter test xs) → Has x xs
has_filtered test [] x has = has
has_filtered test (y ∷ ys) x has = by_test (has_filtered test ys x) (test y) has
  where
    by_test : (Has x (filter test ys) → Has x ys) → (b : Bool) → Has x (if b then y ∷ filter test ys else filter test ys) → Has x (y ∷ ys)
    by_test rest true h = elim h [ inl same ↦ inl same | inr there ↦ inr (rest there) ]
    by_test rest false h = inr (rest h)

turn_of : (changes : List ItemData) (x : ItemData) → Has x (in_turn changes) → Has x changes
turn_of changes x has =
    elim (has_either x (filter (λ y. not (is_live_state y.state)) changes) (filter (λ y. is_live_state y.state) changes) has) [
      | inl dead ↦ has_filtered (λ y. not (is_live_state y.state)) changes x dead
      | inr live ↦ has_filtered (λ y. is_live_state y.state) changes x live
    ]

has_first : (xs ys : List ItemData) (i : ℕ) (x : ItemData) → drop i xs ≡ x ∷ ys → Has x xs
has_first xs ys i x is = dropped i xs (subst (λ (zs : List ItemData). Has x zs) (sym is) (inl refl))
  where
    dropped : (k : ℕ) (zs : List ItemData) → Has x (drop k zs) → Has x zs
    dropped zero zs has = has
    dropped (suc k) [] has = has
    dropped (suc k) (z ∷ zs) has = inr (dropped k zs has)

seen_get : (refs : List (Bor ItemData)) (i : ℕ) (x : Bor ItemData) → get_or (seen_views refs) i x.now ≡ (get_or refs i x).now
seen_get [] i x = refl
seen_get (y ∷ ys) zero x = refl
seen_get (y ∷ ys) (suc i) x = seen_get ys i x

-- The turn at an index: its change was sent, and behind it are the others.
pub record TurnAt (units : ℕ) (b : BatchData) (refs : List (Bor ItemData)) (i : ℕ) (x : Bor ItemData) : Type 0 where
  pub sent : IsSent units b x.now.id x.now.state
  pub opened : drop i (seen_views refs) ≡ x.now ∷ drop (i + 1) (seen_views refs)
  pub more : nat_lt (i + 1) (length refs) ≡ is_more (map Change (drop (i + 1) (seen_views refs)))

more_left : (xs : List ItemData) (i : ℕ) → nat_lt i (length xs) ≡ is_more (map Change (drop i xs))
more_left xs i = by_test (nat_lt i (length xs)) refl
  where
    by_list : (ys : List ItemData) → 0 < length ys → true ≡ is_more (map Change ys)
    by_list [] some = absurd (omega arith)
    by_list (y ∷ ys) some = refl

    by_test : (b : Bool) → nat_lt i (length xs) ≡ b → b ≡ is_more (map Change (drop i xs))
    by_test true e =
        let less : i < length xs = grind (arith, nat_tests, e) in
        by_list (drop i xs) (let long = length-drop i xs in omega (arith, less, long))
    by_test false e =
        let past : length xs ≤ i = grind (arith, nat_tests, e) in
        sym (ap (λ (ys : List ItemData). is_more (map Change ys)) (drop_all i xs past))

pub turn_at :
    {U : ℕ} (b : BatchData) (refs : List (Bor ItemData)) (i : ℕ) (x : Bor ItemData)
    → IsBatch U b → seen_views refs ≡ in_turn b.changes → x ≡ get_or refs i x → i < length refs
    → TurnAt U b refs i x
turn_at {U} b refs i x batch order is inside =
    let long : length (seen_views refs) ≡ length refs = length-map refs (λ y. y.now) in
    let at : x.now ≡ get_or (seen_views refs) i x.now = ap (λ (y : Bor ItemData). y.now) is ∙ sym (seen_get refs i x) in
    let open_at : drop i (seen_views refs) ≡ x.now ∷ drop (i + 1) (seen_views refs) =
    opened (seen_views refs) i x.now at (omega (arith, long, inside)) in
    let there : Has x.now b.changes =
    turn_of b.changes x.now
    (subst (λ (xs : List ItemData). Has x.now xs) order (has_first (seen_views refs) (drop (i + 1) (seen_views refs)) i x.now open_at)) in record {
      sent = batch.changes x.now.id x.now.state (state_has b.changes x.now batch.ascending there);
      opened = open_at;
      more = ap (nat_lt (i + 1)) (sym long) ∙ more_left (seen_views refs) (i + 1);
    }

-- The tasks of a batch in mode Normal are its changes in turn.
tasks_normal : (units : ℕ) (b : BatchData) (m : Member) → b.mode ≡ Normal → tasks_of units b m ≡ map Change (in_turn b.changes)
unfolding tasks_of
tasks_normal units b m normal =
    rw (normal, map-append) refl

pub turns_normal :
    (units : ℕ) (b : BatchData) (m : Member) (turns : List ItemData)
    → b.mode ≡ Normal → turns ≡ in_turn b.changes → map Change turns ≡ tasks_of units b m
turns_normal units b m turns normal order = ap (map Change) order ∙ sym (tasks_normal units b m normal)

-- ---- the steps

-- A batch begins.
pub loop_begun :
    {U : ℕ} {P : Type 0} {state : P → Member} {kept : P → Option Member} {settled : P → Type 0} {came : P → P → List Member → Type 0} (p : P)
    (b : BatchData) (rules : RulesData) (group : ℕ) (w : WorkData) (refs : List (Bor ItemData))
    → IsConsistent U (state p) → KnowsNoMore U (state p) b → settled p → ((a : P) → came a a [])
    → w ≡ work_begun U w.budget (state p) → map Change (seen_views refs) ≡ tasks_of U b (state p)
    → Stands (Arrived state kept settled came p p (state p)) U b rules group (outcome_of U b rules w.budget (state p)) (state p) w (seen_views refs)
loop_begun {U} {P} {state} {kept} {settled} {came} p b rules group w refs good no_more so none fresh tasks =
    let m : Member = state p in
    let first : Arrived state kept settled came p p (state p) [] =
    record { path = arrives_still so (rests_self none p); among = inl refl } in
    let start = begun (Arrived state kept settled came p p m) U b rules group m w.budget (seen_views refs) good no_more first in
    let out_is : go U b rules (record { member = m; entries = []; moments = []; budget = w.budget }) (map Change (seen_views refs)) ≡ outcome_of U b rules w.budget m =
    ap (go U b rules (record { member = m; entries = []; moments = []; budget = w.budget })) tasks in
    subst (λ (o : Outcome). Stands (Arrived state kept settled came p p m) U b rules group o m w (seen_views refs)) out_is
    (subst (λ (x : WorkData). Stands (Arrived state kept settled came p p m) U b rules group
    (go U b rules (record { member = m; entries = []; moments = []; budget = w.budget }) (map Change (seen_views refs))) m x (seen_views refs)) (sym fresh) start)

-- The batch has come to a change, whose entry is laid over as it is to be; `more` tells whether further ones
-- are left.
pub record AtTurn
    (Came : List Member → Type 0) (units : ℕ) (b : BatchData) (rules : RulesData) (group : ℕ) (out : Outcome) (m : Member) (w : WorkData)
    (change : ItemData) (rest : List ItemData) (more : Bool) : Type 0 where
  pub stands : Stands Came units b rules group out m w (change ∷ rest)
  pub good : IsConsistent units m
  pub lays : Lays units b rules change w m
  pub left : more ≡ is_more (map Change rest)

-- The change was taken, and the batch goes on.
pub loop_on :
    {P : Type 0} {state : P → Member} {kept : P → Option Member} {settled : P → Type 0} {came : P → P → List Member → Type 0} {p q r : P}
    {units : ℕ} {b : BatchData} {rules : RulesData} {group : ℕ} {out : Outcome} {first : Member} {w : WorkData} {change : ItemData}
    {rest : List ItemData} {more : Bool} (after : WorkData) (end : Option ApplyEnd)
    → ((x y z : P) (xs ys : List Member) → came x y xs → came y z ys → came x z (xs ++ ys))
    → AtTurn (Arrived state kept settled came p q first) units b rules group out (state q) w change rest more
    → end ≡ end_before units b rules change w (state q) → end ≡ None
    → after ≡ next_work units group b rules change more w (state q)
    → Arrives state kept settled came q r (next_states units group b rules change more w (state q)) (next_state units group b rules change more w (state q))
    → Stands (Arrived state kept settled came p r first) units b rules group out (state r) after rest
loop_on {P} {state} {kept} {settled} {came} {p} {q} {r} {units} {b} {rules} {group} {out} {first} {w} {change} {rest} {more} after end on here is none after_is step =
    let m : Member = state q in
    let after_is' = subst (λ (x : Bool). after ≡ next_work units group b rules change x w m) here.left after_is in
    let step' = subst (λ (x : Bool). Arrives state kept settled came q r (next_states units group b rules change x w m) (next_state units group b rules change x w m)) here.left step in
    step_on (Arrived state kept settled came p q first) (Arrived state kept settled came p r first) units b rules group out m (state r) w after change rest (end_before units b rules change w m)
    here.stands here.good here.lays (sym is ∙ none) refl step'.at after_is'
    (λ made arrived. arrived_on units (due_after units group b rules change (is_more (map Change rest)) w m) (turned units b rules change w m) first made on arrived step')

-- The batch ended before the change.
pub loop_off :
    {P : Type 0} {state : P → Member} {kept : P → Option Member} {settled : P → Type 0} {came : P → P → List Member → Type 0} {p q r : P}
    {units : ℕ} {b : BatchData} {rules : RulesData} {group : ℕ} {out : Outcome} {first : Member} {w : WorkData} {change : ItemData}
    {rest : List ItemData} {more : Bool} (after : WorkData) (end : Option ApplyEnd) (how : ApplyEnd)
    → ((x y z : P) (xs ys : List Member) → came x y xs → came y z ys → came x z (xs ++ ys))
    → AtTurn (Arrived state kept settled came p q first) units b rules group out (state q) w change rest more
    → end ≡ end_before units b rules change w (state q) → end ≡ Some how
    → after ≡ next_work units group b rules change more w (state q)
    → Arrives state kept settled came q r (next_states units group b rules change more w (state q)) (next_state units group b rules change more w (state q))
    → Ends (Arrived state kept settled came p r first) group out (state r) after.entries how
loop_off {P} {state} {kept} {settled} {came} {p} {q} {r} {units} {b} {rules} {group} {out} {first} {w} {change} {rest} {more} after end how on here is some after_is step =
    let m : Member = state q in
    let after_is' = subst (λ (x : Bool). after ≡ next_work units group b rules change x w m) here.left after_is in
    let step' = subst (λ (x : Bool). Arrives state kept settled came q r (next_states units group b rules change x w m) (next_state units group b rules change x w m)) here.left step in
    step_off (Arrived state kept settled came p q first) (Arrived state kept settled came p r first) units b rules group out m (state r) w after change rest (end_before units b rules change w m) how
    here.stands (sym is ∙ some) refl step'.at after_is'
    (λ made arrived. arrived_on units (due_after units group b rules change (is_more (map Change rest)) w m) (turned units b rules change w m) first made on arrived step')

-- The step of the change broke off.
pub loop_breaks :
    {P : Type 0} {state : P → Member} {kept : P → Option Member} {settled : P → Type 0} {came : P → P → List Member → Type 0}
    {broke : P → P → Member → Type 0} {p q r : P}
    {units : ℕ} {b : BatchData} {rules : RulesData} {group : ℕ} {out : Outcome} {first : Member} {w : WorkData} {change : ItemData}
    {rest : List ItemData} {more : Bool}
    → ((x y z : P) (xs ys : List Member) → came x y xs → came y z ys → came x z (xs ++ ys))
    → AtTurn (Arrived state kept settled came p q first) units b rules group out (state q) w change rest more
    → BreaksOff kept came broke q r (next_states units group b rules change more w (state q)) (state q ∷ next_states units group b rules change more w (state q))
    → BreaksOff kept came broke p r (committed group out.moments) (stops group first out.moments)
loop_breaks {P} {state} {kept} {settled} {came} {broke} {p} {q} {r} {units} {b} {rules} {group} {out} {first} {w} {change} {rest} {more} on here breaks =
    let m : Member = state q in
    let breaks' = subst (λ (x : Bool). BreaksOff kept came broke q r (next_states units group b rules change x w m) (m ∷ next_states units group b rules change x w m)) here.left breaks in
    breaks_part group first (committed group here.stands.moments) (next_states units group b rules change (is_more (map Change rest)) w m) out.moments
    on here.stands.came (turn_part (Arrived state kept settled came p q first) units b rules group out m w change rest here.stands here.good here.lays) breaks'

-- ---- the range at the end

none_left : (refs : List (Bor ItemData)) (i : ℕ) → length refs ≤ i → drop i (seen_views refs) ≡ []
none_left refs i past = drop_all i (seen_views refs) (let long = length-map refs (λ y. y.now) in omega (arith, long, past))

-- The batch has come to its end, where the range is laid over as it is to be.
pub record AtRange (Came : List Member → Type 0) (units : ℕ) (b : BatchData) (rules : RulesData) (group : ℕ) (out : Outcome) (m : Member) (w : WorkData) : Type 0 where
  pub stands : Stands Came units b rules group out m w []
  pub lays : RangeLays units b w m

pub at_range :
    {U : ℕ} (Came : List Member → Type 0) (b : BatchData) (rules : RulesData) (group : ℕ) (out : Outcome) (m : Member) (w : WorkData) (refs : List (Bor ItemData)) (i : ℕ)
    → Stands Came U b rules group out m w (drop i (seen_views refs)) → length refs ≤ i → RangeLays U b w m
    → AtRange Came U b rules group out m w
at_range {U} Came b rules group out m w refs i stands past lays = record {
  stands = subst (λ (xs : List ItemData). Stands Came U b rules group out m w xs) (none_left refs i past) stands;
  lays = lays;
}

pub range_end :
    {P : Type 0} {state : P → Member} {kept : P → Option Member} {settled : P → Type 0} {came : P → P → List Member → Type 0} {p q r : P}
    {units : ℕ} {b : BatchData} {rules : RulesData} {group : ℕ} {out : Outcome} {first : Member} {w : WorkData} (after : WorkData)
    → ((x y z : P) (xs ys : List Member) → came x y xs → came y z ys → came x z (xs ++ ys))
    → AtRange (Arrived state kept settled came p q first) units b rules group out (state q) w
    → after.entries ≡ w.entries
    → Arrives state kept settled came q r (destination units (with_range_of units b w) (state q) ∷ []) (destination units (with_range_of units b w) (state q))
    → Ends (Arrived state kept settled came p r first) group out (state r) after.entries Whole
range_end {P} {state} {kept} {settled} {came} {p} {q} {r} {units} {b} {rules} {group} {out} {first} {w} after on here entries step =
    let m : Member = state q in
    let ends : Ends (Arrived state kept settled came p r first) group out (destination units (with_range_of units b w) m) w.entries Whole =
    finishing (Arrived state kept settled came p q first) (Arrived state kept settled came p r first) units b rules group out m w here.stands here.lays
    (λ made arrived. arrived_on units true (with_range_of units b w) first made on arrived step) in
    subst (λ (x : Member). Ends (Arrived state kept settled came p r first) group out x after.entries Whole) (sym step.at)
    (subst (λ es. Ends (Arrived state kept settled came p r first) group out (destination units (with_range_of units b w) m) es Whole) (sym entries) ends)

pub range_breaks :
    {P : Type 0} {state : P → Member} {kept : P → Option Member} {settled : P → Type 0} {came : P → P → List Member → Type 0}
    {broke : P → P → Member → Type 0} {p q r : P}
    {units : ℕ} {b : BatchData} {rules : RulesData} {group : ℕ} {out : Outcome} {first : Member} {w : WorkData}
    → ((x y z : P) (xs ys : List Member) → came x y xs → came y z ys → came x z (xs ++ ys))
    → AtRange (Arrived state kept settled came p q first) units b rules group out (state q) w
    → BreaksOff kept came broke q r (destination units (with_range_of units b w) (state q) ∷ []) (state q ∷ destination units (with_range_of units b w) (state q) ∷ [])
    → BreaksOff kept came broke p r (committed group out.moments) (stops group first out.moments)
range_breaks {P} {state} {kept} {settled} {came} {broke} {p} {q} {r} {units} {b} {rules} {group} {out} {first} {w} on here breaks =
    breaks_part group first (committed group here.stands.moments) (destination units (with_range_of units b w) (state q) ∷ []) out.moments
    on here.stands.came (range_part (Arrived state kept settled came p q first) units b rules group out (state q) w here.stands here.lays) breaks

-- A batch that has ended left the provider where its outcome says.
pub ends_arrive :
    {P : Type 0} {state : P → Member} {kept : P → Option Member} {settled : P → Type 0} {came : P → P → List Member → Type 0} {p r : P}
    {group : ℕ} {out : Outcome} {first : Member} {entries : List EntryData} {end : ApplyEnd}
    → Ends (Arrived state kept settled came p r first) group out (state r) entries end
    → Arrives state kept settled came p r (committed group out.moments) out.member
ends_arrive {P} {state} {kept} {settled} {came} {p} {r} {group} {out} ends =
    subst (λ (x : Member). Arrives state kept settled came p r (committed group out.moments) x) ends.state ends.came.path

-- A reading before the batch changes nothing of what comes of it.
pub same_outcome :
    (units : ℕ) (b : BatchData) (rules : RulesData) (had budget : Option ℕ) (n m : Member)
    → n ≡ m → had ≡ budget → outcome_of units b rules had n ≡ outcome_of units b rules budget m
same_outcome units b rules had budget n m same same_budget =
    ap (λ (o : Option ℕ). outcome_of units b rules o n) same_budget ∙ ap (outcome_of units b rules budget) same

pub batch_arrives :
    {P : Type 0} {state : P → Member} {kept : P → Option Member} {settled : P → Type 0} {came : P → P → List Member → Type 0} {p q r : P}
    (units : ℕ) (b : BatchData) (rules : RulesData) (group : ℕ) (had budget : Option ℕ)
    → ((x y z : P) (xs : List Member) → came x y [] → came y z xs → came x z xs)
    → Rests state kept settled came p q → had ≡ budget
    → Arrives state kept settled came q r (committed group (outcome_of units b rules had (state q)).moments) (outcome_of units b rules had (state q)).member
    → Arrives state kept settled came p r (committed group (outcome_of units b rules budget (state p)).moments) (outcome_of units b rules budget (state p)).member
batch_arrives {P} {state} {kept} {settled} {came} {p} {q} {r} units b rules group had budget on rests same_budget arrives =
    arrives_later on rests
    (subst (λ (o : Outcome). Arrives state kept settled came q r (committed group o.moments) o.member)
    (same_outcome units b rules had budget (state q) (state p) rests.same same_budget) arrives)

pub batch_breaks :
    {P : Type 0} {state : P → Member} {kept : P → Option Member} {settled : P → Type 0} {came : P → P → List Member → Type 0}
    {broke : P → P → Member → Type 0} {p q r : P} (units : ℕ) (b : BatchData) (rules : RulesData) (group : ℕ) (had budget : Option ℕ)
    → ((x y z : P) (xs ys : List Member) → came x y xs → came y z ys → came x z (xs ++ ys))
    → Rests state kept settled came p q → had ≡ budget
    → BreaksOff kept came broke q r (committed group (outcome_of units b rules had (state q)).moments) (stops group (state q) (outcome_of units b rules had (state q)).moments)
    → BreaksOff kept came broke p r (committed group (outcome_of units b rules budget (state p)).moments) (stops group (state p) (outcome_of units b rules budget (state p)).moments)
batch_breaks {P} {state} {kept} {settled} {came} {broke} {p} {q} {r} units b rules group had budget on rests same_budget breaks =
    breaks_later on rests
    (subst (λ (x : Member). BreaksOff kept came broke q r (committed group (outcome_of units b rules budget x).moments) (stops group x (outcome_of units b rules budget x).moments)) rests.same
    (subst (λ (o : Option ℕ). BreaksOff kept came broke q r (committed group (outcome_of units b rules o (state q)).moments) (stops group (state q) (outcome_of units b rules o (state q)).moments)) same_budget breaks))
