-- Each batch of a session leaves fewer items of the source behind it, so a session ends within its bound.
use Rattle.std.proofs.Common.{◌≡◌, ◌⊎◌, ℕ, zero, suc, ◌<◌, ◌≤◌, Bool, true, false, true≢false, cond, if◌then◌else◌, inl, inr, arith, refl, sym, ap, subst, ◌∙◌, List, [], ◌∷◌, length, nat_lt, take, Option, Some, None}
use Rattle.std.specs.List.{filter}
use Rattle.sfx_ids.specs.declared.cut.Cut.{Cut}
use Rattle.sfx_ids.specs.declared.cut.Cut.TheVariants.{At, After, End}
use Rattle.sfx_ids.specs.Cut.{cut_le}
use Rattle.sfx_ids.proofs.CutLemmas.{at-lt-after, lt-not_le, lt-le, le_trans}
use Rattle.sfx_knowledge.specs.Knowledge.{Known}
use Rattle.sfx_model.specs.declared.apply_end.ApplyEnd.{ApplyEnd}
use Rattle.sfx_model.specs.declared.apply_end.ApplyEnd.TheVariants as apply_ends
use Rattle.sfx_model.specs.declared.apply_end.ApplyEnd.TheVariants.{Whole, Full}
use Rattle.sfx_model.specs.declared.session_end.SessionEnd.{SessionEnd}
use Rattle.sfx_model.specs.declared.session_end.SessionEnd.TheVariants as session_ends
use Rattle.sfx_model.specs.declared.session_end.SessionEnd.TheVariants.{Done}
use Rattle.sfx_model.specs.declared.mode.Mode.{Mode}
use Rattle.sfx_model.specs.world.Sets.{Has}
use Rattle.sfx_item.specs.Item.{ItemData}
use Rattle.sfx_model.specs.members.Members.{Member}
use Rattle.sfx_model.specs.members.Readings.{items_from, unseen, is_unseen}
use Rattle.sfx_model.specs.sessions.Batch.{BatchData, batch_from, due, due_end, place_behind}
use Rattle.sfx_model.specs.sessions.MemberKnowledge.{laid_known}
use Rattle.sfx_model.specs.sessions.Rules.{RulesData}
use Rattle.sfx_model.specs.sessions.Session.{Course, Outcome, SessionResult, outcome_of, ending, ended, is_end, is_spent, session_from, with_batch}

-- The place is behind one of the items.
pub record EndsAt (to : Cut) (xs : List ItemData) : Type 0 where
  pub item : ItemData
  pub there : Has item xs
  pub behind : to ≡ After item.id

pub ends_at : (place : Cut) (xs : List ItemData) → (place_behind place xs ≡ place) ⊎ EndsAt (place_behind place xs) xs
ends_at place [] = inl refl
ends_at place (x ∷ xs) = elim (ends_at (After x.id) xs) [
  | inl none ↦ inr (record { item = x; there = inl refl; behind = none })
  | inr at ↦ inr (record { item = at.item; there = inr at.there; behind = at.behind })
]

pub has_taken : {A : Type 0} (x : A) (n : ℕ) (xs : List A) → Has x (take n xs) → Has x xs
has_taken x zero xs h = absurd h
has_taken x (suc n) [] h = absurd h
has_taken x (suc n) (y ∷ ys) h = elim h [ inl e ↦ inl e | inr t ↦ inr (has_taken x n ys t) ]

pub has_filtered : {A : Type 0} (test : A → Bool) (x : A) (xs : List A) → Has x (filter test xs) → (test x ≡ true) × Has x xs
has_filtered test x [] h = absurd h
has_filtered {A} test x (y ∷ ys) h = by_test (has_filtered test x ys) (test y) refl h where
  by_test : (Has x (filter test ys) → (test x ≡ true) × Has x ys) → (b : Bool) → test y ≡ b → Has x (cond b (y ∷ filter test ys) (filter test ys)) → (test x ≡ true) × Has x (y ∷ ys)
  by_test rest true passes h = elim h [
    | inl e ↦ (ap test e ∙ passes, inl e)
    | inr t ↦ let r = rest t in (r.0, inr r.1)
  ]
  by_test rest false fails h = let r = rest h in (r.0, inr r.1)

pub filter_within : {A : Type 0} (s t : A → Bool) (xs : List A) → ((y : A) → s y ≡ true → t y ≡ true) → length (filter s xs) ≤ length (filter t xs)
filter_within s t [] narrows = omega arith
filter_within {A} s t (y ∷ ys) narrows = by_tests (filter_within s t ys narrows) (s y) (t y) refl refl where
  by_tests : length (filter s ys) ≤ length (filter t ys) → (b c : Bool) → s y ≡ b → t y ≡ c
      → length (cond b (y ∷ filter s ys) (filter s ys)) ≤ length (cond c (y ∷ filter t ys) (filter t ys))
  by_tests rest true true p q = omega (arith, rest)
  by_tests rest true false p q = absurd (true≢false (sym (narrows y p) ∙ q))
  by_tests rest false true p q = omega (arith, rest)
  by_tests rest false false p q = rest

pub filter_fewer : {A : Type 0} (s t : A → Bool) (x : A) (xs : List A) → ((y : A) → s y ≡ true → t y ≡ true) → s x ≡ false → t x ≡ true → Has x xs
    → length (filter s xs) < length (filter t xs)
filter_fewer s t x [] narrows off on h = absurd h
filter_fewer {A} s t x (y ∷ ys) narrows off on h = by_tests (filter_within s t ys narrows) (filter_fewer s t x ys narrows off on) (s y) (t y) refl refl h where
  by_tests : length (filter s ys) ≤ length (filter t ys) → (Has x ys → length (filter s ys) < length (filter t ys))
      → (b c : Bool) → s y ≡ b → t y ≡ c → Has x (y ∷ ys)
      → length (cond b (y ∷ filter s ys) (filter s ys)) < length (cond c (y ∷ filter t ys) (filter t ys))
  by_tests within rest true true p q h = elim h [
    | inl e ↦ absurd (true≢false (sym p ∙ (ap s (sym e) ∙ off)))
    | inr t ↦ let r = rest t in omega (arith, r)
  ]
  by_tests within rest true false p q h = absurd (true≢false (sym (narrows y p) ∙ q))
  by_tests within rest false true p q h = omega (arith, within)
  by_tests within rest false false p q h = elim h [
    | inl e ↦ absurd (true≢false (sym on ∙ (ap t e ∙ q)))
    | inr t ↦ rest t
  ]

-- behind an item from a place on there are fewer than from that place on
pub fewer_behind : (from : Cut) (x : ItemData) (items : List ItemData) → Has x (items_from from items)
    → length (items_from (After x.id) items) < length (items_from from items)
fewer_behind from x items h =
    let found = has_filtered (λ y. cut_le from (At y.id)) x items h in
    filter_fewer (λ y. cut_le (After x.id) (At y.id)) (λ y. cut_le from (At y.id)) x items
    (λ y after. le_trans from (At x.id) (At y.id) found.0 (le_trans (At x.id) (After x.id) (At y.id) (lt-le (At x.id) (After x.id) (at-lt-after x.id)) after))
    (lt-not_le (At x.id) (After x.id) (at-lt-after x.id))
    found.0 found.1

pub has_due : (units size : ℕ) (known : Known) (from : Cut) (items : List ItemData) (x : ItemData) → Has x (due units size known from items) → Has x (items_from from items)
has_due units size known from items x h =
    (has_filtered (is_unseen units known) x (items_from from items) (has_taken x size (unseen units known from items) h)).1

pub due_end_fewer : (units size : ℕ) (known : Known) (from : Cut) (items : List ItemData) → is_end (due_end units size known from items) ≡ false
    → length (items_from (due_end units size known from items) items) < length (items_from from items)
due_end_fewer units size known from items =
    by_test (nat_lt size (length (unseen units known from items))) (ends_at End (due units size known from items)) where
      by_test : (b : Bool) → (place_behind End (due units size known from items) ≡ End) ⊎ EndsAt (place_behind End (due units size known from items)) (due units size known from items)
          → is_end (cond b (place_behind End (due units size known from items)) End) ≡ false
          → length (items_from (cond b (place_behind End (due units size known from items)) End) items) < length (items_from from items)
      by_test true ends goes = elim ends [
        | inl none ↦ absurd (true≢false (sym (ap is_end none) ∙ goes))
        | inr at ↦ subst (λ (to : Cut). length (items_from to items) < length (items_from from items)) (sym at.behind)
            (fewer_behind from at.item items (has_due units size known from items at.item at.there))
      ]
      by_test false ends goes = absurd (true≢false goes)

-- a batch that does not end the session ends before the end
pub open_end : (to : Cut) (end : ApplyEnd) (budget : Option ℕ) → ending to end budget ≡ None → is_end to ≡ false
open_end to apply_ends.Cut budget e = absurd (cc)
open_end to (Full clock) budget e = absurd (cc)
open_end to Whole budget e = by_test (is_end to) refl e where
  by_test : (b : Bool) → is_end to ≡ b → cond b (Some Done) (if is_spent budget then Some session_ends.Cut else None) ≡ None → is_end to ≡ false
  by_test true last e = absurd (cc)
  by_test false goes e = goes

pub to_is : (units : ℕ) (source : Member) (mode : Mode) (size : ℕ) (known : Known) (from : Cut) → (batch_from units source mode size known from).to ≡ due_end units size known from source.items
unfolding batch_from
to_is units source mode size known from = refl

pub less : (units : ℕ) (source : Member) (mode : Mode) (size : ℕ) (known : Known) (from : Cut) (end : ApplyEnd) (budget : Option ℕ)
    → ending (batch_from units source mode size known from).to end budget ≡ None
    → length (items_from (batch_from units source mode size known from).to source.items) < length (items_from from source.items)
less units source mode size known from end budget e =
    subst (λ (to : Cut). length (items_from to source.items) < length (items_from from source.items)) (sym (to_is units source mode size known from))
    (due_end_fewer units size known from source.items (ap is_end (sym (to_is units source mode size known from)) ∙ open_end (batch_from units source mode size known from).to end budget e))

-- ---- the bound

ended_same : (c : Course) (end : Option SessionEnd) (x y : SessionResult) → (end ≡ None → x ≡ y) → ended c end x ≡ ended c end y
ended_same c (Some end) x y same = refl
ended_same c None x y same = same refl

abbrev pub next_batch : ℕ → Member → Mode → ℕ → Course → Cut → BatchData
next_batch units source mode size c from = batch_from units source mode size (laid_known units c.member) from

abbrev pub next_outcome : ℕ → Member → Mode → RulesData → ℕ → Course → Cut → Outcome
next_outcome units source mode rules size c from = outcome_of units (next_batch units source mode size c from) rules c.budget c.member

abbrev pub next_course : ℕ → Member → Mode → RulesData → ℕ → Course → Cut → Course
next_course units source mode rules size c from =
    with_batch (next_batch units source mode size c from) (next_outcome units source mode rules size c from) c

abbrev pub next_end : ℕ → Member → Mode → RulesData → ℕ → Course → Cut → Option SessionEnd
next_end units source mode rules size c from =
    ending (next_batch units source mode size c from).to (next_outcome units source mode rules size c from).end (next_course units source mode rules size c from).budget

pub session_step : (bound units : ℕ) (source : Member) (mode : Mode) (rules : RulesData) (size : ℕ) (c : Course) (from : Cut)
    → session_from (suc bound) units source mode rules size c from
    ≡ ended (next_course units source mode rules size c from) (next_end units source mode rules size c from)
    (session_from bound units source mode rules size (next_course units source mode rules size c from) (next_batch units source mode size c from).to)
unfolding session_from
session_step bound units source mode rules size c from = refl

-- both bounds allow for the next batch, and what follows it is the same where it goes on
bound_step : (n k units : ℕ) (source : Member) (mode : Mode) (rules : RulesData) (size : ℕ) (c : Course) (from : Cut)
    → (length (items_from (next_batch units source mode size c from).to source.items) < length (items_from from source.items)
    → session_from n units source mode rules size (next_course units source mode rules size c from) (next_batch units source mode size c from).to
    ≡ session_from k units source mode rules size (next_course units source mode rules size c from) (next_batch units source mode size c from).to)
    → session_from (suc n) units source mode rules size c from ≡ session_from (suc k) units source mode rules size c from
bound_step n k units source mode rules size c from same =
    session_step n units source mode rules size c from
    ∙ (ended_same (next_course units source mode rules size c from) (next_end units source mode rules size c from)
    (session_from n units source mode rules size (next_course units source mode rules size c from) (next_batch units source mode size c from).to)
    (session_from k units source mode rules size (next_course units source mode rules size c from) (next_batch units source mode size c from).to)
    (λ goes. same
    (less units source mode size (laid_known units c.member) from (next_outcome units source mode rules size c from).end (next_course units source mode rules size c from).budget goes))
    ∙ sym (session_step k units source mode rules size c from))

pub same_bound : (n k units : ℕ) (source : Member) (mode : Mode) (rules : RulesData) (size : ℕ) (c : Course) (from : Cut)
    → length (items_from from source.items) ≤ n → length (items_from from source.items) ≤ k
    → session_from (suc n) units source mode rules size c from ≡ session_from (suc k) units source mode rules size c from
same_bound zero k units source mode rules size c from low high =
    bound_step zero k units source mode rules size c from (λ fewer. absurd (omega (arith, low, fewer)))
same_bound (suc n) zero units source mode rules size c from low high =
    bound_step (suc n) zero units source mode rules size c from (λ fewer. absurd (omega (arith, high, fewer)))
same_bound (suc n) (suc k) units source mode rules size c from low high =
    bound_step (suc n) (suc k) units source mode rules size c from
    (λ fewer. same_bound n k units source mode rules size (next_course units source mode rules size c from) (next_batch units source mode size c from).to
    (omega (arith, low, fewer)) (omega (arith, high, fewer)))
