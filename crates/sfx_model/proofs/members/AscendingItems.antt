-- Lists of items that ascend by id, with equal look-ups, are equal lists.
use Rattle.std.proofs.Common.{◌≡◌, ◌≢◌, ℕ, ◌⊎◌, Bool, List, [], ◌∷◌, Option, Some, None, true, false, if◌then◌else◌, inl, inr, refl, sym, ◌∙◌, ap, subst, arith}
use Rattle.std.proofs.lemmas.Bool.{cases_order, false_from_ne_true}
use Rattle.sfx_ids.specs.declared.item_id.ItemId.{ItemId}
use Rattle.sfx_model.specs.world.Sets.{Has}
use Rattle.sfx_model.specs.world.Events.{same_item}
use Rattle.sfx_item.specs.Item.{ItemData, ItemState, Live, Dead}
use Rattle.sfx_model.specs.members.Members.{AreAscending, IsIdBelow, state_of}
use Rattle.sfx_item.specs.declared.cell.Cell.{Cell}
use Rattle.sfx_model.proofs.world.StepKeepsWorld.{same_item_is, same_item_self}
use Rattle.sfx_model.specs.members.Headline.{live_item, live_items}

abbrev id_with : ℕ → ℕ → ItemId
id_with tick replica = record { tick = tick; replica = replica }

-- An id is its tick and its replica
pub ids_are : (a b : ItemId) → a.tick ≡ b.tick → a.replica ≡ b.replica → a ≡ b
ids_are a b p q = let e : id_with a.tick a.replica ≡ id_with b.tick b.replica = rw (p, q) refl in e

-- The test of ids fails on different ids.
pub other_item : (a b : ItemId) → a ≢ b → same_item a b ≡ false
other_item a b ne = false_from_ne_true (same_item a b) (λ same. ne (same_item_is a b same))

-- Of two ids, one is less or they are equal
pub ids_compared : (a b : ItemId) → (a ≡ b) ⊎ (IsIdBelow a b ⊎ IsIdBelow b a)
ids_compared a b =
    elim (cases_order a.tick b.tick) [
      | inl same ↦ elim (cases_order a.replica b.replica) [
        | inl equal ↦ inl (ids_are a b same equal)
        | inr less ↦ elim less [
          | inl lt ↦ inr (inl (inr (same, lt)))
          | inr gt ↦ inr (inr (inr (sym same, gt)))
        ]
      ]
      | inr less ↦ elim less [
        | inl lt ↦ inr (inl (inl lt))
        | inr gt ↦ inr (inr (inl gt))
      ]
    ]

pub before_differs : (a b : ItemId) → IsIdBelow a b → a ≢ b
before_differs a b before same =
    let t : a.tick ≡ b.tick = ap (λ (x : ItemId). x.tick) same in
    let r : a.replica ≡ b.replica = ap (λ (x : ItemId). x.replica) same in
    elim before [ inl lt ↦ omega arith | inr (e, lt) ↦ omega arith ]

pub before_trans : (a b c : ItemId) → IsIdBelow a b → IsIdBelow b c → IsIdBelow a c
before_trans a b c ab bc =
    elim ab [
      | inl lt ↦ elim bc [ inl lt' ↦ inl (omega arith) | inr (e, lt') ↦ inl (omega arith) ]
      | inr (e, lt) ↦ elim bc [ inl lt' ↦ inl (omega arith) | inr (e', lt') ↦ inr (e ∙ e', omega arith) ]
    ]

-- An id before all of a list is not in it
pub state_below :
    (xs : List ItemData) (i : ItemId)
    → ((y : ItemData) → Has y xs → IsIdBelow i y.id) → state_of xs i ≡ None
state_below [] i below = refl
state_below (x ∷ xs) i below =
    let off : same_item x.id i ≡ false =
    other_item x.id i (λ same. before_differs i x.id (below x (inl refl)) (sym same)) in
    rw off (state_below xs i (λ y has. below y (inr has)))

-- The look-up at the head, and behind it
pub state_here : (x : ItemData) (xs : List ItemData) → state_of (x ∷ xs) x.id ≡ Some x.state
state_here x xs = rw (same_item_self x.id) refl

pub state_behind :
    (x : ItemData) (xs : List ItemData) (i : ItemId)
    → x.id ≢ i → state_of (x ∷ xs) i ≡ state_of xs i
state_behind x xs i ne = rw (other_item x.id i ne) refl

-- Lists that agree on an item agree on it behind one more
pub state_head : (x : ItemData) (xs ys : List ItemData) (i : ItemId) → state_of xs i ≡ state_of ys i → state_of (x ∷ xs) i ≡ state_of (x ∷ ys) i
state_head x xs ys i same = ap (λ (o : Option ItemState). if same_item x.id i then Some x.state else o) same

-- An item before the head of a list in order is not in it
before_head : (i : ItemId) (y : ItemData) (ys : List ItemData) → AreAscending (y ∷ ys) → IsIdBelow i y.id → state_of (y ∷ ys) i ≡ None
before_head i y ys ascending lt =
    state_below (y ∷ ys) i
    (λ z has. elim has [
      | inl is ↦ subst (λ (q : ItemData). IsIdBelow i q.id) (sym is) lt
      | inr there ↦ before_trans i y.id z.id lt (ascending.0 z there)
    ])

-- Ascending lists behind equal heads look up alike
tails_alike :
    (x : ItemData) (xs ys : List ItemData)
    → AreAscending (x ∷ xs) → AreAscending (x ∷ ys) → ((i : ItemId) → state_of (x ∷ xs) i ≡ state_of (x ∷ ys) i)
    → (i : ItemId) → state_of xs i ≡ state_of ys i
tails_alike x xs ys ascending others alike i = by_test (same_item x.id i) refl
  where
    by_test : (b : Bool) → same_item x.id i ≡ b → state_of xs i ≡ state_of ys i
    by_test true e =
        let is : x.id ≡ i = same_item_is x.id i e in
        subst (λ (j : ItemId). state_of xs j ≡ state_of ys j) is
        (state_below xs x.id ascending.0 ∙ sym (state_below ys x.id others.0))
    by_test false e = let h = alike i in rw e at h

abbrev pub item_with : ItemId → ItemState → ItemData
item_with id state = record { id = id; state = state }

pub items_are : (x y : ItemData) → x.id ≡ y.id → x.state ≡ y.state → x ≡ y
items_are x y p q = let e : item_with x.id x.state ≡ item_with y.id y.state = rw (p, q) refl in e

-- Ascending lists that look up alike are equal
pub ascending_equal :
    (xs ys : List ItemData)
    → AreAscending xs → AreAscending ys → ((i : ItemId) → state_of xs i ≡ state_of ys i) → xs ≡ ys
ascending_equal [] [] ascending others alike = refl
ascending_equal [] (y ∷ ys) ascending others alike = let bad : None ≡ Some y.state = alike y.id ∙ state_here y ys in
    absurd (cc)
ascending_equal (x ∷ xs) [] ascending others alike = let bad : Some x.state ≡ None = sym (state_here x xs) ∙ alike x.id in
    absurd (cc)
ascending_equal (x ∷ xs) (y ∷ ys) ascending others alike =
    elim (ids_compared x.id y.id) [
      | inl same ↦
          let states : Some x.state ≡ Some y.state =
          sym (state_here x xs) ∙ alike x.id ∙ subst (λ (j : ItemId). state_of (y ∷ ys) j ≡ Some y.state)
          (sym same) (state_here y ys) in
          let one : x ≡ y = items_are x y same (cc) in
          let rest : xs ≡ ys = ascending_equal xs ys ascending.1 others.1
          (tails_alike x xs ys ascending (subst (λ (z : ItemData). AreAscending (z ∷ ys)) (sym one) others)
          (λ i. alike i ∙ ap (λ (z : ItemData). state_of (z ∷ ys) i) (sym one))) in
          cc
      | inr apart ↦ elim apart [
        | inl lt ↦
            let bad : Some x.state ≡ None = sym (state_here x xs) ∙ alike x.id ∙ before_head x.id y ys others lt in absurd (cc)
        | inr gt ↦
            let bad : Some y.state ≡ None = sym (state_here y ys) ∙ sym (alike y.id) ∙ before_head y.id x xs ascending gt in absurd (cc)
      ]
    ]

-- An item of a list with a live head, or without it, is the head or behind it
live_within_one :
    (x : ItemData) (st : ItemState) (xs ys : List ItemData) (y : ItemData)
    → x.state ≡ st → (Has y ys → Has y xs) → Has y (live_item x.id st ys) → Has y (x ∷ xs)
live_within_one x (Live cells) xs ys y e rest has =
    elim has [
      | inl is ↦ inl (is ∙ sym (items_are x (item_with x.id (Live cells)) refl e))
      | inr there ↦
          inr (rest there)
    ]
live_within_one x (Dead v) xs ys y e rest has = inr (rest has)

-- The live items are among the items
pub live_within : (xs : List ItemData) (y : ItemData) → Has y (live_items xs) → Has y xs
live_within [] y has = has
live_within (x ∷ xs) y has = live_within_one x x.state xs (live_items xs) y refl (live_within xs y) has

ascending_with :
    (x : ItemData) (st : ItemState) (ys : List ItemData)
    → ((y : ItemData) → Has y ys → IsIdBelow x.id y.id) → AreAscending ys → AreAscending (live_item x.id st ys)
ascending_with x (Live cells) ys before ascending = (before, ascending)
ascending_with x (Dead v) ys before ascending = ascending

-- The live items of an ascending list rise
pub ascending_live : (xs : List ItemData) → AreAscending xs → AreAscending (live_items xs)
ascending_live [] ascending = ascending
ascending_live (x ∷ xs) ascending =
    ascending_with x x.state (live_items xs) (λ y has. ascending.0 y (live_within xs y has)) (ascending_live xs ascending.1)

-- The state, where it is live
abbrev pub live_only : Option ItemState → Option ItemState
live_only None = None
live_only (Some (Live cells)) = Some (Live cells)
live_only (Some (Dead v)) = None

-- The look-up in the live items, by the state of the head
live_step :
    (x : ItemData) (st : ItemState) (xs ys : List ItemData) (i : ItemId)
    → x.state ≡ st → ((y : ItemData) → Has y xs → IsIdBelow x.id y.id) → state_of ys i ≡ live_only (state_of xs i)
    → state_of (live_item x.id st ys) i ≡ live_only (state_of (x ∷ xs) i)
live_step x (Live cells) xs ys i e before rest = by_test (same_item x.id i) refl
  where
    by_test :
        (b : Bool)
        → same_item x.id i ≡ b → state_of (item_with x.id (Live cells) ∷ ys) i ≡ live_only (state_of (x ∷ xs) i)
    by_test true t = rw (t, e) refl
    by_test false t = rw t rest
live_step x (Dead v) xs ys i e before rest = by_test (same_item x.id i) refl
  where
    by_test : (b : Bool) → same_item x.id i ≡ b → state_of ys i ≡ live_only (state_of (x ∷ xs) i)
    by_test true t =
        let below : state_of xs i ≡ None =
        subst (λ (j : ItemId). state_of xs j ≡ None) (same_item_is x.id i t) (state_below xs x.id before) in
        let gone : state_of ys i ≡ None = rest ∙ ap live_only below in
        rw (t, e) gone
    by_test false t = rw t rest

-- The look-up in the live items of an ascending list
pub state_live :
    (xs : List ItemData) (i : ItemId)
    → AreAscending xs → state_of (live_items xs) i ≡ live_only (state_of xs i)
state_live [] i ascending = refl
state_live (x ∷ xs) i ascending = live_step x x.state xs (live_items xs) i refl ascending.0 (state_live xs i ascending.1)

-- Ascending lists that have the same items live, with the same cells, have equal lists of live items
pub live_equal :
    (xs ys : List ItemData)
    → AreAscending xs → AreAscending ys
    → ((i : ItemId) (cells : List Cell) → state_of xs i ≡ Some (Live cells) → state_of ys i ≡ Some (Live cells))
    → ((i : ItemId) (cells : List Cell) → state_of ys i ≡ Some (Live cells) → state_of xs i ≡ Some (Live cells))
    → live_items xs ≡ live_items ys
live_equal xs ys ascending others there back =
    ascending_equal (live_items xs) (live_items ys) (ascending_live xs ascending) (ascending_live ys others)
    (λ i. state_live xs i ascending ∙ by_states i (state_of xs i) (state_of ys i) refl refl ∙ sym
    (state_live ys i others))
  where
    by_states :
        (i : ItemId) (o p : Option ItemState)
        → state_of xs i ≡ o → state_of ys i ≡ p → live_only (state_of xs i) ≡ live_only (state_of ys i)
    by_states i (Some (Live cells)) p e f = ap live_only (e ∙ sym (there i cells e))
    by_states i None (Some (Live cells)) e f = ap live_only (back i cells f ∙ sym f)
    by_states i None None e f = ap live_only (e ∙ sym f)
    by_states i None (Some (Dead v)) e f = rw (e, f) refl
    by_states i (Some (Dead d)) (Some (Live cells)) e f = ap live_only (back i cells f ∙ sym f)
    by_states i (Some (Dead d)) None e f = rw (e, f) refl
    by_states i (Some (Dead d)) (Some (Dead v)) e f = rw (e, f) refl
