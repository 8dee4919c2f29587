-- Items in order of their ids: one more in its place, and another state for one of them.
use Rattle.std.proofs.Common.{◌≡◌, ◌≢◌, ◌⊎◌, nat_eq, nat_lt, ◌&&◌, Bool, true, false, if◌then◌else◌, List, [], ◌∷◌, Some, None, inl, inr, refl, sym, ◌∙◌, ap, subst}
use Rattle.std.proofs.lemmas.Bool.{and_parts, and_from, or_cases, or_left, or_right, ltb-true, lt-ltb, eqb-true, eq-eqb}
use Rattle.sfx_ids.specs.declared.item_id.ItemId.{ItemId}
use Rattle.sfx_model.specs.world.Sets.{Has}
use Rattle.sfx_model.specs.world.Events.{same_item}
use Rattle.sfx_item.specs.Item.{ItemData, ItemState}
use Rattle.sfx_model.specs.members.Members.{AreAscending, IsIdBelow, state_of}
use Rattle.sfx_model.specs.members.States.{is_id_below, with_item, with_state}
use Rattle.sfx_model.proofs.world.StepKeepsWorld.{same_item_is}
use Rattle.sfx_model.proofs.members.AscendingItems.{ids_compared, before_trans, state_behind, state_head, state_here}

-- What the test of order finds.
pub below_is : (a b : ItemId) → is_id_below a b ≡ true → IsIdBelow a b
below_is a b e =
    elim (or_cases (nat_lt a.tick b.tick) (nat_eq a.tick b.tick && nat_lt a.replica b.replica) e) [
      | inl less ↦ inl (ltb-true a.tick b.tick less)
      | inr both ↦
          let parts = and_parts (nat_eq a.tick b.tick) (nat_lt a.replica b.replica) both in
          inr (eqb-true a.tick b.tick parts.0, ltb-true a.replica b.replica parts.1)
    ]

is_below : (a b : ItemId) → IsIdBelow a b → is_id_below a b ≡ true
is_below a b below =
    elim below [
      | inl less ↦ or_left (nat_lt a.tick b.tick) (nat_eq a.tick b.tick && nat_lt a.replica b.replica)
          (lt-ltb a.tick b.tick less)
      | inr (same, less) ↦ or_right (nat_lt a.tick b.tick) (nat_eq a.tick b.tick && nat_lt a.replica b.replica)
          (and_from (nat_eq a.tick b.tick) (nat_lt a.replica b.replica) (eq-eqb a.tick b.tick same)
          (lt-ltb a.replica b.replica less))
    ]

-- Where it fails on two ids, the other one comes before.
pub above_is : (a b : ItemId) → is_id_below a b ≡ false → a ≢ b → IsIdBelow b a
above_is a b e apart =
    elim (ids_compared a b) [
      | inl same ↦ absurd (apart same)
      | inr less ↦ elim less [
        | inl below ↦ let bad : true ≡ false = sym (is_below a b below) ∙ e in absurd (cc)
        | inr above ↦ above
      ]
    ]

-- An item that is not found is neither the head nor behind it.
not_head : (y : ItemData) (ys : List ItemData) (i : ItemId) → state_of (y ∷ ys) i ≡ None → y.id ≢ i
not_head y ys i none same =
    let here : state_of (y ∷ ys) i ≡ Some y.state =
    subst (λ (j : ItemId). state_of (y ∷ ys) j ≡ Some y.state) same (state_here y ys) in
    let bad : None ≡ Some y.state = sym none ∙ here in
    cc

not_behind : (y : ItemData) (ys : List ItemData) (i : ItemId) → state_of (y ∷ ys) i ≡ None → state_of ys i ≡ None
not_behind y ys i none = sym (state_behind y ys i (not_head y ys i none)) ∙ none

-- With one more item, the items are it and those before.
pub with_has : (x : ItemData) (xs : List ItemData) (y : ItemData) → Has y (with_item x xs) → (y ≡ x) ⊎ Has y xs
with_has x [] y has = has
with_has x (z ∷ zs) y has = by_test (with_has x zs y) (is_id_below z.id x.id) has
  where
    by_test :
        (Has y (with_item x zs) → (y ≡ x) ⊎ Has y zs)
        → (b : Bool) → Has y (if b then z ∷ with_item x zs else x ∷ z ∷ zs) → (y ≡ x) ⊎ Has y (z ∷ zs)
    by_test rest true h =
        elim h [
          | inl is ↦ inr (inl is)
          | inr there ↦
              elim (rest there) [ inl new ↦ inl new | inr old ↦ inr (inr old) ]
        ]
    by_test rest false h = h

-- An item before the head of an ascending list is before all of it.
pub before_all :
    (i : ItemId) (z : ItemData) (zs : List ItemData)
    → IsIdBelow i z.id → AreAscending (z ∷ zs) → (y : ItemData) → Has y (z ∷ zs) → IsIdBelow i y.id
before_all i z zs below ascending y has =
    elim has [
      | inl is ↦ subst (λ (q : ItemData). IsIdBelow i q.id) (sym is) below
      | inr there ↦ before_trans i z.id y.id below (ascending.0 y there)
    ]

-- One more item keeps the order, where its id is new.
pub with_ascending :
    (x : ItemData) (xs : List ItemData)
    → AreAscending xs → state_of xs x.id ≡ None → AreAscending (with_item x xs)
with_ascending x [] ascending new = (λ y has. absurd has, tt)
with_ascending x (z ∷ zs) ascending new =
    by_test (with_ascending x zs ascending.1 (not_behind z zs x.id new)) (is_id_below z.id x.id) refl
  where
    by_test :
        AreAscending (with_item x zs)
        → (b : Bool) → is_id_below z.id x.id ≡ b → AreAscending (if b then z ∷ with_item x zs else x ∷ z ∷ zs)
    by_test rest true e = (
      (λ y has. elim (with_has x zs y has) [
        | inl is ↦ subst (λ (q : ItemData). IsIdBelow z.id q.id) (sym is) (below_is z.id x.id e)
        | inr there ↦ ascending.0 y there
      ]),
      rest,
    )
    by_test rest false e = (before_all x.id z zs (above_is z.id x.id e (not_head z zs x.id new)) ascending, ascending)

-- It is found.
pub with_found :
    (x : ItemData) (xs : List ItemData)
    → state_of xs x.id ≡ None → state_of (with_item x xs) x.id ≡ Some x.state
with_found x [] new = state_here x []
with_found x (z ∷ zs) new = by_test (with_found x zs (not_behind z zs x.id new)) (is_id_below z.id x.id)
  where
    by_test :
        state_of (with_item x zs) x.id ≡ Some x.state
        → (b : Bool) → state_of (if b then z ∷ with_item x zs else x ∷ z ∷ zs) x.id ≡ Some x.state
    by_test rest true = state_behind z (with_item x zs) x.id (not_head z zs x.id new) ∙ rest
    by_test rest false = state_here x (z ∷ zs)

-- The others stay.
pub with_others :
    (x : ItemData) (xs : List ItemData) (j : ItemId)
    → x.id ≢ j → state_of (with_item x xs) j ≡ state_of xs j
with_others x [] j other = state_behind x [] j other
with_others x (z ∷ zs) j other = by_test (with_others x zs j other) (is_id_below z.id x.id)
  where
    by_test :
        state_of (with_item x zs) j ≡ state_of zs j
        → (b : Bool) → state_of (if b then z ∷ with_item x zs else x ∷ z ∷ zs) j ≡ state_of (z ∷ zs) j
    by_test rest true = state_head z (with_item x zs) zs j rest
    by_test rest false = state_behind x (z ∷ zs) j other

-- Another state keeps the ids.
state_ids :
    (i : ItemId) (st : ItemState) (xs : List ItemData) (y : ItemData)
    → Has y (with_state i st xs) → (z : ItemData) × Has z xs × (z.id ≡ y.id)
state_ids i st [] y has = absurd has
state_ids i st (x ∷ xs) y has = by_test (state_ids i st xs y) (same_item x.id i) has
  where
    by_test :
        (Has y (with_state i st xs) → (z : ItemData) × Has z xs × (z.id ≡ y.id))
        → (b : Bool) → Has y (if b then record { id = x.id; state = st } ∷ xs else x ∷ with_state i st xs)
        → (z : ItemData) × Has z (x ∷ xs) × (z.id ≡ y.id)
    by_test rest true h =
        elim h [ inl is ↦ (x, inl refl, ap (λ (q : ItemData). q.id) (sym is)) | inr there ↦ (y, inr there, refl) ]
    by_test rest false h =
        elim h [
          | inl is ↦ (x, inl refl, ap (λ (q : ItemData). q.id) (sym is))
          | inr there ↦ let (z, has_z, same) =
              rest there in (z, inr has_z, same)
        ]

-- Another state keeps the order.
pub state_ascending :
    (i : ItemId) (st : ItemState) (xs : List ItemData)
    → AreAscending xs → AreAscending (with_state i st xs)
state_ascending i st [] ascending = tt
state_ascending i st (x ∷ xs) ascending = by_test (state_ascending i st xs ascending.1) (same_item x.id i)
  where
    by_test :
        AreAscending (with_state i st xs)
        → (b : Bool) → AreAscending (if b then record { id = x.id; state = st } ∷ xs else x ∷ with_state i st xs)
    by_test rest true = ascending
    by_test rest false = (
      λ y has. let (z, has_z, same) = state_ids i st xs y has in
          subst (λ (j : ItemId). IsIdBelow x.id j) same (ascending.0 z has_z),
      rest,
    )

-- It is found, where the item was.
pub state_found :
    (i : ItemId) (st old : ItemState) (xs : List ItemData)
    → state_of xs i ≡ Some old → state_of (with_state i st xs) i ≡ Some st
state_found i st old [] was = absurd (cc)
state_found i st old (x ∷ xs) was = by_test (state_found i st old xs) (same_item x.id i) refl was
  where
    by_test :
        (state_of xs i ≡ Some old → state_of (with_state i st xs) i ≡ Some st)
        → (b : Bool) → same_item x.id i ≡ b → (if b then Some x.state else state_of xs i) ≡ Some old
        → state_of (if b then record { id = x.id; state = st } ∷ xs else x ∷ with_state i st xs) i ≡ Some st
    by_test rest true e w = rw e refl
    by_test rest false e w = rw e (rest w)

-- The others stay.
pub state_others :
    (i : ItemId) (st : ItemState) (xs : List ItemData) (j : ItemId)
    → i ≢ j → state_of (with_state i st xs) j ≡ state_of xs j
state_others i st [] j other = refl
state_others i st (x ∷ xs) j other = by_test (state_others i st xs j other) (same_item x.id i) refl
  where
    by_head :
        state_of (with_state i st xs) j ≡ state_of xs j
        → (b : Bool)
        → (if b then Some x.state else state_of (with_state i st xs) j) ≡ (if b then Some x.state else state_of xs j)
    by_head rest true = refl
    by_head rest false = rest

    by_test :
        state_of (with_state i st xs) j ≡ state_of xs j
        → (b : Bool) → same_item x.id i ≡ b
        → state_of (if b then record { id = x.id; state = st } ∷ xs else x ∷ with_state i st xs) j ≡ state_of (x ∷ xs)
        j
    by_test rest true e =
        let apart : x.id ≢ j = λ same. other (sym (same_item_is x.id i e) ∙ same) in
        state_behind (record { id = x.id; state = st }) xs j apart ∙ sym (state_behind x xs j apart)
    by_test rest false e = by_head rest (same_item x.id j)
