-- The batch that is due from a source, as it begins: its tasks are what they should be, and each item of its
-- range is one of a task, or known, or gone from both sides.
use Rattle.std.proofs.Common.{◌≡◌, ◌≢◌, ◌⊎◌, ℕ, zero, suc, ◌≤◌, ◌&&◌, ◌||◌, not, nat_lt, Bool, true, false, true≢false, if◌then◌else◌, List, [], ◌∷◌, ◌++◌, length, map, take, Option, Some, None, arith, inl, inr, refl, sym, ◌∙◌, ap, subst}
use Rattle.std.specs.List.{filter}
use Rattle.std.proofs.lemmas.Bool.{and_parts, not-true}
use Rattle.std.proofs.lemmas.Bool.Decides.{nat_tests}
use Rattle.sfx_ids.specs.declared.cut.Cut.{Cut}
use Rattle.sfx_ids.specs.declared.cut.Cut.TheVariants.{At, After, End}
use Rattle.sfx_ids.specs.declared.item_id.ItemId.{ItemId}
use Rattle.sfx_ids.specs.Cut.{cut_le, cut_lt}
use Rattle.sfx_ids.proofs.CutLemmas.{after-le, le-not_lt}
use Rattle.sfx_knowledge.specs.Knowledge.{Known}
use Rattle.sfx_model.specs.declared.mode.Mode.{Mode}
use Rattle.sfx_model.specs.declared.mode.Mode.TheVariants.{Normal, Recover}
use Rattle.sfx_model.specs.world.Sets.{Has}
use Rattle.sfx_model.specs.world.Events.{same_item, is_in}
use Rattle.sfx_model.specs.sessions.Acts.{IsInForm, IsOrderly}
use Rattle.sfx_model.specs.sessions.Batch.{BatchData, due, place_behind, due_end, ids_in, batch_from}
use Rattle.sfx_model.specs.sessions.Class.{absent_class_of}
use Rattle.sfx_model.specs.sessions.Entry.{Task, Unlisted, Change}
use Rattle.sfx_model.specs.sessions.MemberKnowledge.{laid_known}
use Rattle.sfx_item.specs.Item.{ItemData, ItemState}
use Rattle.sfx_model.specs.members.Members.{Member, AreAscending, IsIdBelow, state_of}
use Rattle.sfx_model.specs.members.Readings.{items_from, is_unseen, unseen}
use Rattle.sfx_model.specs.sessions.Session.{is_among, is_kept, is_unlisted, unlisted, is_live_state, tasks_of}
use Rattle.sfx_model.proofs.sessions.BatchActs.{NoneUnlisted, NotUnlisted, IsUnlistedHere, AllFit}
use Rattle.sfx_model.proofs.sessions.SessionsEnd.{has_taken, has_filtered}
use Rattle.sfx_model.proofs.members.ItemIdsInRange.{state_there}
use Rattle.sfx_model.proofs.members.AscendingItems.{before_differs, item_with}
use Rattle.sfx_model.proofs.sessions.SourceBacks.{IsFrom}
use Rattle.sfx_model.proofs.world.StepKeepsWorld.{same_item_is, same_item_self}

-- ---- lists

pub has_filter : {A : Type 0} (test : A → Bool) (x : A) (xs : List A) → Has x xs → test x ≡ true → Has x (filter test xs)
has_filter test x [] has e = absurd has
has_filter {A} test x (y ∷ ys) has e = by_test (λ there. has_filter test x ys there e) (test y) refl
  where
    by_test :
        (Has x ys → Has x (filter test ys))
        → (b : Bool) → test y ≡ b → Has x (let r : List A = if b then y ∷ filter test ys else filter test ys in r)
    by_test rest true f = elim has [ inl is ↦ inl is | inr there ↦ inr (rest there) ]
    by_test rest false f = elim has [
      | inl is ↦ absurd (true≢false (sym e ∙ ap test is ∙ f))
      | inr there ↦ rest there
    ]

pub has_map : {A B : Type 0} (f : A → B) (x : A) (xs : List A) → Has x xs → Has (f x) (map f xs)
has_map f x [] has = absurd has
has_map f x (y ∷ ys) has = elim has [ inl is ↦ inl (ap f is) | inr there ↦ inr (has_map f x ys there) ]

ascending_filter : (test : ItemData → Bool) (xs : List ItemData) → AreAscending xs → AreAscending (filter test xs)
ascending_filter test [] ascending = tt
ascending_filter test (x ∷ xs) ascending = by_test (ascending_filter test xs ascending.1) (test x)
  where
    by_test : AreAscending (filter test xs) → (b : Bool) → AreAscending (let r : List ItemData = if b then x ∷ filter test xs else filter test xs in r)
    by_test rest true = (λ y has. ascending.0 y (has_filtered test y xs has).1, rest)
    by_test rest false = rest

item_is : (x : ItemData) (i : ItemId) (state : ItemState) → x.id ≡ i → x.state ≡ state → item_with i state ≡ x
item_is x i state same is = let e : item_with i state ≡ item_with x.id x.state = rw (same, is) refl in e

-- An item that is found is in the list.
pub state_has : (items : List ItemData) (i : ItemId) (state : ItemState) → state_of items i ≡ Some state → Has (item_with i state) items
state_has [] i state is = absurd (cc)
state_has (x ∷ xs) i state is = by_test (state_has xs i state) (same_item x.id i) refl is
  where
    by_test :
        (state_of xs i ≡ Some state → Has (item_with i state) xs)
        → (b : Bool) → same_item x.id i ≡ b → (if b then Some x.state else state_of xs i) ≡ Some state
        → Has (item_with i state) (x ∷ xs)
    by_test rest true e f = inl (item_is x i state (same_item_is x.id i e) (let both : Some x.state ≡ Some state = f in cc))
    by_test rest false e f = inr (rest f)

-- ---- the changes that are due

-- Of an ascending list an item is among the first so many, or behind each of them.
taken_or_behind :
    (n : ℕ) (xs : List ItemData) (x : ItemData)
    → AreAscending xs → Has x xs → Has x (take n xs) ⊎ ((y : ItemData) → Has y (take n xs) → IsIdBelow y.id x.id)
taken_or_behind zero xs x ascending has = inr (λ y none. absurd none)
taken_or_behind (suc n) [] x ascending has = absurd has
taken_or_behind (suc n) (z ∷ zs) x ascending has = elim has [
  | inl is ↦ inl (inl is)
  | inr there ↦ elim (taken_or_behind n zs x ascending.1 there) [
    | inl taken ↦ inl (inr taken)
    | inr behind ↦ inr (λ y first. elim first [
      | inl is ↦ subst (λ (q : ItemData). IsIdBelow q.id x.id) (sym is) (ascending.0 x there)
      | inr rest ↦ behind y rest
    ])
  ]
]

-- The place behind items is behind one of them.
behind_one : (place : Cut) (z : ItemData) (zs : List ItemData) → (y : ItemData) × Has y (z ∷ zs) × (place_behind place (z ∷ zs) ≡ After y.id)
behind_one place z [] = (z, inl refl, refl)
behind_one place z (y ∷ ys) = let (x, has, is) = behind_one (After z.id) y ys in (x, inr has, is)

at_below : (i j : ItemId) → IsIdBelow j i → cut_lt (At j) (At i) ≡ true
at_below i j below = elim below [
  | inl less ↦ grind (arith, nat_tests)
  | inr (same, less) ↦ grind (arith, nat_tests)
]

not_before : (i j : ItemId) → IsIdBelow j i → cut_lt (At i) (After j) ≡ false
not_before i j below = le-not_lt (After j) (At i) (after-le j (At i) (at_below i j below))

take_all : (n : ℕ) (xs : List ItemData) → length xs ≤ n → take n xs ≡ xs
take_all zero [] le = refl
take_all zero (x ∷ xs) le = absurd (omega arith)
take_all (suc n) [] le = refl
take_all (suc n) (x ∷ xs) le = ap (λ (ys : List ItemData). x ∷ ys) (take_all n xs (omega arith))

not_less : (a b : ℕ) → nat_lt a b ≡ false → b ≤ a
not_less a b e = grind (arith, nat_tests)

-- An item of the range that was not seen is one of the changes.
pub due_has :
    (units size : ℕ) (known : Known) (from : Cut) (items : List ItemData) (x : ItemData)
    → 1 ≤ size → AreAscending items → Has x items → is_unseen units known x ≡ true
    → is_in from (due_end units size known from items) x.id ≡ true → Has x (due units size known from items)
due_has units size known from items x some ascending has news within =
    by_size size some (unseen units known from items)
    (ascending_filter (is_unseen units known) (items_from from items) (ascending_filter (λ y. cut_le from (At y.id)) items ascending))
    (has_filter (is_unseen units known) x (items_from from items) (has_filter (λ y. cut_le from (At y.id)) x items has parts.0) news)
    parts.1
  where
    parts : (cut_le from (At x.id) ≡ true) × (cut_lt (At x.id) (due_end units size known from items) ≡ true)
    parts = and_parts (cut_le from (At x.id)) (cut_lt (At x.id) (due_end units size known from items)) within

    by_size :
        (n : ℕ) → 1 ≤ n → (xs : List ItemData) → AreAscending xs → Has x xs
        → cut_lt (At x.id) (if nat_lt n (length xs) then place_behind End (take n xs) else End) ≡ true → Has x (take n xs)
    by_size zero least xs up there e = absurd (omega arith)
    by_size (suc n) least [] up there e = absurd there
    by_size (suc n) least (z ∷ zs) up there e = by_test (nat_lt (suc n) (length (z ∷ zs))) refl e
      where
        by_test :
            (b : Bool)
            → nat_lt (suc n) (length (z ∷ zs)) ≡ b
            → cut_lt (At x.id) (if b then place_behind End (take (suc n) (z ∷ zs)) else End) ≡ true → Has x (take (suc n) (z ∷ zs))
        by_test false f lt = subst (λ (ys : List ItemData). Has x ys) (sym (take_all (suc n) (z ∷ zs) (not_less (suc n) (length (z ∷ zs)) f))) there
        by_test true f lt = elim (taken_or_behind (suc n) (z ∷ zs) x up there) [
          | inl taken ↦ taken
          | inr behind ↦
              let (y, has_y, is) = behind_one End z (take n zs) in
              let before : cut_lt (At x.id) (After y.id) ≡ true = subst (λ (c : Cut). cut_lt (At x.id) c ≡ true) is lt in
              absurd (true≢false (sym before ∙ not_before x.id y.id (behind y has_y)))
        ]

-- The changes are the source's items.
due_source : (units size : ℕ) (known : Known) (from : Cut) (items : List ItemData) (x : ItemData) → Has x (due units size known from items) → Has x items
due_source units size known from items x has =
    (has_filtered (λ y. cut_le from (At y.id)) x items
    (has_filtered (is_unseen units known) x (items_from from items) (has_taken x size (unseen units known from items) has)).1).1

-- ---- the items that are not listed

among_has : (ids : List ItemId) (i : ItemId) → Has i ids → is_among ids i ≡ true
among_has [] i has = absurd has
among_has (j ∷ ids) i has = elim has [
  | inl is ↦ ap (λ (b : Bool). b || is_among ids i) (ap (λ (k : ItemId). same_item k i) (sym is) ∙ same_item_self i)
  | inr there ↦ rw (among_has ids i there) (or_true (same_item j i))
]
  where
    or_true : (b : Bool) → (b || true) ≡ true
    or_true true = refl
    or_true false = refl

among_none : (ids : List ItemId) (i : ItemId) → ((j : ItemId) → Has j ids → j ≢ i) → is_among ids i ≡ false
among_none [] i other = refl
among_none (j ∷ ids) i other = by_test (among_none ids i (λ k has. other k (inr has))) (same_item j i) refl
  where
    by_test : is_among ids i ≡ false → (b : Bool) → same_item j i ≡ b → (b || is_among ids i) ≡ false
    by_test rest true e = absurd (other j (inl refl) (same_item_is j i e))
    by_test rest false e = rest

mapped_ids : (xs : List ItemData) (j : ItemId) → Has j (map (λ x. x.id) xs) → (x : ItemData) × Has x xs × (x.id ≡ j)
mapped_ids [] j has = absurd has
mapped_ids (x ∷ xs) j has = elim has [
  | inl is ↦ (x, inl refl, sym is)
  | inr there ↦ let (y, has_y, is) = mapped_ids xs j there in (y, inr has_y, is)
]

-- The listed ids are those of the source's items in the range.
listed_there :
    (lo hi : Cut) (items : List ItemData) (i : ItemId) (state : ItemState)
    → state_of items i ≡ Some state → is_in lo hi i ≡ true → is_among (ids_in lo hi items) i ≡ true
listed_there lo hi items i state is within =
    among_has (ids_in lo hi items) i
    (has_map (λ (x : ItemData). x.id) (item_with i state) (filter (λ x. is_in lo hi x.id) items)
    (has_filter (λ (x : ItemData). is_in lo hi x.id) (item_with i state) items (state_has items i state is) within))

pub listed_not :
    (lo hi : Cut) (items : List ItemData) (i : ItemId)
    → AreAscending items → state_of items i ≡ None → is_among (ids_in lo hi items) i ≡ false
listed_not lo hi items i ascending none =
    among_none (ids_in lo hi items) i (λ j has same.
    let (x, has_x, is) = mapped_ids (filter (λ x. is_in lo hi x.id) items) j has in
    let there : state_of items x.id ≡ Some x.state =
    state_there items x ascending (has_filtered (λ (y : ItemData). is_in lo hi y.id) x items has_x).1 in
    let bad : None ≡ Some x.state = sym none ∙ ap (state_of items) (sym (is ∙ same)) ∙ there in
    cc)

-- ---- the tasks

-- Changes that the source has, before others.
fit_more :
    (source : Member) (b : BatchData) (m : Member) (xs : List ItemData) (ts : List Task)
    → ((x : ItemData) → Has x xs → state_of source.items x.id ≡ Some x.state) → NoneUnlisted ts → AllFit source b m ts
    → NoneUnlisted (map Change xs ++ ts) × AllFit source b m (map Change xs ++ ts)
fit_more source b m [] ts each none fit = (none, fit)
fit_more source b m (x ∷ xs) ts each none fit =
    let (rest, fits) = fit_more source b m xs ts (λ y has. each y (inr has)) none fit in (rest, (each x (inl refl), rest, fits))

not_unlisted : (i : ItemId) (ts : List Task) → NoneUnlisted ts → NotUnlisted i ts
not_unlisted i [] none = tt
not_unlisted i (Change item ∷ ts) none = not_unlisted i ts none
not_unlisted i (Unlisted j ∷ ts) none = absurd none

not_before_others :
    (i : ItemId) (xs : List ItemData) (ts : List Task)
    → ((y : ItemData) → Has y xs → i ≢ y.id) → NoneUnlisted ts → NotUnlisted i (map (λ x. Unlisted x.id) xs ++ ts)
not_before_others i [] ts other none = not_unlisted i ts none
not_before_others i (x ∷ xs) ts other none = (other x (inl refl), not_before_others i xs ts (λ y has. other y (inr has)) none)

-- Items that are not listed, before changes.
fit_unlisted :
    (source : Member) (b : BatchData) (m : Member) (xs : List ItemData) (ts : List Task)
    → AreAscending xs → ((x : ItemData) → Has x xs → IsUnlistedHere source b m x.id) → NoneUnlisted ts → AllFit source b m ts
    → AllFit source b m (map (λ x. Unlisted x.id) xs ++ ts)
fit_unlisted source b m [] ts ascending each none fit = fit
fit_unlisted source b m (x ∷ xs) ts ascending each none fit = (
  each x (inl refl),
  not_before_others x.id xs ts (λ y has. before_differs x.id y.id (ascending.0 y has)) none,
  fit_unlisted source b m xs ts ascending.1 (λ y has. each y (inr has)) none fit,
)

-- What a batch is due from.
abbrev pub due_batch : ℕ → Member → Mode → ℕ → Member → Cut → BatchData
due_batch units source mode size m from = batch_from units source mode size (laid_known units m) from

pub due_from : (units : ℕ) (source : Member) (mode : Mode) (size : ℕ) (m : Member) (from : Cut) → IsFrom units source (due_batch units source mode size m from)
unfolding batch_from
due_from units source mode size m from = record { source_is = refl; made_with = refl; forgotten = refl }

unlisted_here :
    (units : ℕ) (source : Member) (size : ℕ) (m : Member) (from : Cut) (x : ItemData)
    → IsOrderly units m → Has x (filter (is_unlisted units (due_batch units source Recover size m from) m) m.items)
    → IsUnlistedHere source (due_batch units source Recover size m from) m x.id
unfolding batch_from
unlisted_here units source size m from x orderly has =
    let (test, there) = has_filtered (is_unlisted units (due_batch units source Recover size m from) m) x m.items has in
    let b : BatchData = due_batch units source Recover size m from in
    let first = and_parts (is_in from (due_end units size (laid_known units m) from source.items) x.id)
    (not (is_among (ids_in from (due_end units size (laid_known units m) from source.items) source.items) x.id)
    && not (is_kept (absent_class_of units (laid_known units m) (laid_known units source) source.forgotten x))) test in
    let second = and_parts (not (is_among (ids_in from (due_end units size (laid_known units m) from source.items) source.items) x.id))
    (not (is_kept (absent_class_of units (laid_known units m) (laid_known units source) source.forgotten x))) first.1 in
    record {
      there = none_there (state_of source.items x.id) refl first.0 (not-true (is_among (ids_in from (due_end units size (laid_known units m) from source.items) source.items) x.id) second.0);
      mode = refl;
      held = (x.state, state_there m.items x orderly.ascending there);
    }
  where
    none_there :
        (o : Option ItemState)
        → state_of source.items x.id ≡ o → is_in from (due_end units size (laid_known units m) from source.items) x.id ≡ true
        → is_among (ids_in from (due_end units size (laid_known units m) from source.items) source.items) x.id ≡ false → o ≡ None
    none_there None e within out = refl
    none_there (Some state) e within out =
        absurd (true≢false (sym (listed_there from (due_end units size (laid_known units m) from source.items) source.items x.id state e within) ∙ out))

pub due_fit :
    (units : ℕ) (source : Member) (mode : Mode) (size : ℕ) (m : Member) (from : Cut)
    → IsInForm units source → IsOrderly units m
    → AllFit source (due_batch units source mode size m from) m (tasks_of units (due_batch units source mode size m from) m)
unfolding batch_from tasks_of
due_fit units source mode size m from theirs ours = by_mode mode
  where
    changes : List ItemData
    changes = due units size (laid_known units m) from source.items

    each : (test : ItemData → Bool) (x : ItemData) → Has x (filter test changes) → state_of source.items x.id ≡ Some x.state
    each test x has = state_there source.items x theirs.ascending
        (due_source units size (laid_known units m) from source.items x (has_filtered test x changes has).1)

    dead : ItemData → Bool
    dead x = not (is_live_state x.state)

    live : ItemData → Bool
    live x = is_live_state x.state

    append_none : (xs : List Task) → xs ++ [] ≡ xs
    append_none [] = refl
    append_none (x ∷ xs) = ap (λ (ys : List Task). x ∷ ys) (append_none xs)

    both :
        (k : Mode)
        → NoneUnlisted (map Change (filter dead changes) ++ map Change (filter live changes))
        × AllFit source (due_batch units source k size m from) m (map Change (filter dead changes) ++ map Change (filter live changes))
    both k =
        let last = fit_more source (due_batch units source k size m from) m (filter live changes) [] (each live) tt tt in
        let plain : map Change (filter live changes) ++ [] ≡ map Change (filter live changes) = append_none (map Change (filter live changes)) in
        fit_more source (due_batch units source k size m from) m (filter dead changes) (map Change (filter live changes)) (each dead)
        (subst NoneUnlisted plain last.0) (subst (λ (ts : List Task). AllFit source (due_batch units source k size m from) m ts) plain last.1)

    by_mode :
        (k : Mode)
        → AllFit source (due_batch units source k size m from) m
        (map (λ x. Unlisted x.id) (unlisted k units (due_batch units source k size m from) m)
        ++ (map Change (filter dead changes) ++ map Change (filter live changes)))
    by_mode Normal = (both Normal).1
    by_mode Recover =
        fit_unlisted source (due_batch units source Recover size m from) m
        (filter (is_unlisted units (due_batch units source Recover size m from) m) m.items)
        (map Change (filter dead changes) ++ map Change (filter live changes))
        (ascending_filter (is_unlisted units (due_batch units source Recover size m from) m) m.items ours.ascending)
        (λ x has. unlisted_here units source size m from x ours has)
        (both Recover).0 (both Recover).1
