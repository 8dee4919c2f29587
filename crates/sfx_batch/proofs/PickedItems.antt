-- Items that are picked from a list in order: they stay in order, and each is there.
use Rattle.std.proofs.Common.{◌≡◌, ℕ, zero, suc, Bool, true, false, true≢false, cond, List, [], ◌∷◌, map, take, Some, inl, inr, refl, sym, ◌∙◌, ap, subst}
use Rattle.std.specs.List.{filter}
use Rattle.sfx_ids.specs.declared.item_id.ItemId.{ItemId}
use Rattle.sfx_model.proofs.sessions.SessionsEnd.{has_filtered, has_taken}
use Rattle.sfx_model.proofs.members.AscendingItems.{before_differs, state_behind, state_here}
use Rattle.sfx_model.proofs.world.StepKeepsWorld.{same_item_is}
use Rattle.sfx_model.specs.world.Events.{same_item}
use Rattle.sfx_item.specs.Item.{ItemState, ItemData}
use Rattle.sfx_model.specs.members.Members.{AreIdsAscending, AreAscending, IsIdBelow, state_of}
use Rattle.sfx_model.specs.world.Sets.{Has}

-- What passes the test is among what is filtered.
pub has_filter : {A : Type 0} (test : A → Bool) (x : A) (xs : List A) → test x ≡ true → Has x xs → Has x (filter test xs)
has_filter test x [] passes h = absurd h
has_filter {A} test x (y ∷ ys) passes h = by_test (has_filter test x ys passes) (test y) refl h
  where
    by_test :
        (Has x ys → Has x (filter test ys))
        → (b : Bool) → test y ≡ b → Has x (y ∷ ys) → Has x (cond b (y ∷ filter test ys) (filter test ys))
    by_test rest true is h = elim h [ inl e ↦ inl e | inr there ↦ inr (rest there) ]
    by_test rest false is h = elim h [
      | inl e ↦ absurd (true≢false (sym passes ∙ ap test e ∙ is))
      | inr there ↦ rest there
    ]

pub ascending_filter : (test : ItemData → Bool) (xs : List ItemData) → AreAscending xs → AreAscending (filter test xs)
ascending_filter test [] ascending = tt
ascending_filter test (x ∷ xs) ascending = by_test (ascending_filter test xs ascending.1) (test x)
  where
    by_test : AreAscending (filter test xs) → (b : Bool) → AreAscending (cond b (x ∷ filter test xs) (filter test xs))
    by_test rest true = (λ y has. ascending.0 y (has_filtered test y xs has).1, rest)
    by_test rest false = rest

pub ascending_take : (n : ℕ) (xs : List ItemData) → AreAscending xs → AreAscending (take n xs)
ascending_take zero xs ascending = tt
ascending_take (suc n) [] ascending = tt
ascending_take (suc n) (x ∷ xs) ascending = (λ y has. ascending.0 y (has_taken y n xs has), ascending_take n xs ascending.1)

-- The ids of items: each is the id of one of them, and they ascend as the items do.
pub has_id : (i : ItemId) (xs : List ItemData) → Has i (map (λ x. x.id) xs) → (x : ItemData) × Has x xs × (i ≡ x.id)
has_id i [] h = absurd h
has_id i (x ∷ xs) h = elim h [
  | inl same ↦ (x, inl refl, same)
  | inr there ↦ let found = has_id i xs there in (found.0, inr found.1, found.2)
]

pub id_has : (x : ItemData) (xs : List ItemData) → Has x xs → Has x.id (map (λ y. y.id) xs)
id_has x [] h = absurd h
id_has x (y ∷ ys) h = elim h [
  | inl same ↦ inl (ap (λ (z : ItemData). z.id) same)
  | inr there ↦ inr (id_has x ys there)
]

pub ids_ascending : (xs : List ItemData) → AreAscending xs → AreIdsAscending (map (λ x. x.id) xs)
ids_ascending [] ascending = tt
ids_ascending (x ∷ xs) ascending = (
  λ j has.
      let found = has_id j xs has in
      subst (λ (k : ItemId). IsIdBelow x.id k) (sym found.2) (ascending.0 found.0 found.1),
  ids_ascending xs ascending.1,
)

-- The state of an id is that of the item with it.
pub has_state : (x : ItemData) (xs : List ItemData) → AreAscending xs → Has x xs → state_of xs x.id ≡ Some x.state
has_state x [] ascending h = absurd h
has_state x (y ∷ ys) ascending h = elim h [
  | inl same ↦ subst (λ (z : ItemData). state_of (y ∷ ys) z.id ≡ Some z.state) (sym same) (state_here y ys)
  | inr there ↦ state_behind y ys x.id (before_differs y.id x.id (ascending.0 x there)) ∙ has_state x ys ascending.1 there
]

-- An item with this id, in this state, is there.
pub state_has : (i : ItemId) (state : ItemState) (xs : List ItemData) → state_of xs i ≡ Some state → (x : ItemData) × Has x xs × (x.id ≡ i) × (x.state ≡ state)
state_has i state [] is = absurd (cc)
state_has i state (x ∷ xs) is = by_test (state_has i state xs) (same_item x.id i) refl is
  where
    by_test :
        (state_of xs i ≡ Some state → (y : ItemData) × Has y xs × (y.id ≡ i) × (y.state ≡ state))
        → (b : Bool) → same_item x.id i ≡ b → cond b (Some x.state) (state_of xs i) ≡ Some state
        → (y : ItemData) × Has y (x ∷ xs) × (y.id ≡ i) × (y.state ≡ state)
    by_test rest true same e = (x, inl refl, same_item_is x.id i same, cc)
    by_test rest false other e = let found = rest e in (found.0, inr found.1, found.2, found.3)
