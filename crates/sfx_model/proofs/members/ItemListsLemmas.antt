-- Items put into a list in order of its ids, and dropped from it.
use Rattle.std.proofs.Common.{◌≡◌, ◌≢◌, ◌⊎◌, Bool, true, false, if◌then◌else◌, List, [], ◌∷◌, Option, Some, None, inl, inr, refl, sym, ◌∙◌, ap, subst}
use Rattle.sfx_ids.specs.declared.item_id.ItemId.{ItemId}
use Rattle.sfx_model.specs.world.Sets.{Has}
use Rattle.sfx_model.specs.world.Events.{same_item}
use Rattle.sfx_item.specs.Item.{ItemData, ItemState}
use Rattle.sfx_model.specs.members.Members.{AreAscending, IsIdBelow, state_of}
use Rattle.sfx_model.specs.members.States.{with_state}
use Rattle.sfx_model.specs.members.ItemLists.{put_for, put_item, drop_item, with_state_of}
use Rattle.sfx_model.proofs.world.StepKeepsWorld.{same_item_is}
use Rattle.sfx_model.proofs.members.AscendingItems.{state_below, state_behind, state_head, item_with}
use Rattle.sfx_model.proofs.members.StatesLemmas.{with_has, with_ascending, with_found, with_others, state_ascending, state_found, state_others}

-- An item that is put is found, and the others stay.
pub put_found : (x : ItemData) (xs : List ItemData) → state_of (put_item x xs) x.id ≡ Some x.state
put_found x xs = by_state (state_of xs x.id) refl
  where
    by_state : (o : Option ItemState) → state_of xs x.id ≡ o → state_of (put_for o x xs) x.id ≡ Some x.state
    by_state None new = with_found x xs new
    by_state (Some old) was = state_found x.id x.state old xs was

pub put_others : (x : ItemData) (xs : List ItemData) (j : ItemId) → x.id ≢ j → state_of (put_item x xs) j ≡ state_of xs j
put_others x xs j other = by_state (state_of xs x.id)
  where
    by_state : (o : Option ItemState) → state_of (put_for o x xs) j ≡ state_of xs j
    by_state None = with_others x xs j other
    by_state (Some old) = state_others x.id x.state xs j other

-- What an item's new state leaves.
state_has : (x : ItemData) (xs : List ItemData) (y : ItemData) → Has y (with_state x.id x.state xs) → (y ≡ x) ⊎ Has y xs
state_has x [] y has = absurd has
state_has x (z ∷ zs) y has = by_same (state_has x zs y) (same_item z.id x.id) refl has
  where
    by_same :
        (Has y (with_state x.id x.state zs) → (y ≡ x) ⊎ Has y zs)
        → (b : Bool) → same_item z.id x.id ≡ b
        → Has y (if b then item_with z.id x.state ∷ zs else z ∷ with_state x.id x.state zs)
        → (y ≡ x) ⊎ Has y (z ∷ zs)
    by_same rest true e h = elim h [
      | inl is ↦ inl (is ∙ ap (λ (i : ItemId). item_with i x.state) (same_item_is z.id x.id e))
      | inr there ↦ inr (inr there)
    ]
    by_same rest false e h = elim h [
      | inl is ↦ inr (inl is)
      | inr there ↦ elim (rest there) [ inl new ↦ inl new | inr old ↦ inr (inr old) ]
    ]

pub put_has : (x : ItemData) (xs : List ItemData) (y : ItemData) → Has y (put_item x xs) → (y ≡ x) ⊎ Has y xs
put_has x xs y has = by_state (state_of xs x.id) has
  where
    by_state : (o : Option ItemState) → Has y (put_for o x xs) → (y ≡ x) ⊎ Has y xs
    by_state None h = with_has x xs y h
    by_state (Some old) h = state_has x xs y h

pub put_ascending : (x : ItemData) (xs : List ItemData) → AreAscending xs → AreAscending (put_item x xs)
put_ascending x xs ascending = by_state (state_of xs x.id) refl
  where
    by_state : (o : Option ItemState) → state_of xs x.id ≡ o → AreAscending (put_for o x xs)
    by_state None new = with_ascending x xs ascending new
    by_state (Some old) was = state_ascending x.id x.state xs ascending

-- An item that is dropped is gone, and the others stay.
pub drop_gone : (i : ItemId) (xs : List ItemData) → AreAscending xs → state_of (drop_item i xs) i ≡ None
drop_gone i [] ascending = refl
drop_gone i (x ∷ xs) ascending = by_same (drop_gone i xs ascending.1) (same_item x.id i) refl
  where
    by_same :
        state_of (drop_item i xs) i ≡ None
        → (b : Bool) → same_item x.id i ≡ b → state_of (if b then xs else x ∷ drop_item i xs) i ≡ None
    by_same rest true e =
        let is : x.id ≡ i = same_item_is x.id i e in
        state_below xs i (λ y has. subst (λ (j : ItemId). IsIdBelow j y.id) is (ascending.0 y has))
    by_same rest false e = rw e rest

pub drop_others : (i : ItemId) (xs : List ItemData) (j : ItemId) → i ≢ j → state_of (drop_item i xs) j ≡ state_of xs j
drop_others i [] j other = refl
drop_others i (x ∷ xs) j other = by_same (drop_others i xs j other) (same_item x.id i) refl
  where
    by_same :
        state_of (drop_item i xs) j ≡ state_of xs j
        → (b : Bool) → same_item x.id i ≡ b → state_of (if b then xs else x ∷ drop_item i xs) j ≡ state_of (x ∷ xs) j
    by_same rest true e =
        sym (state_behind x xs j (λ same. other (sym (same_item_is x.id i e) ∙ same)))
    by_same rest false e = state_head x (drop_item i xs) xs j rest

pub drop_has : (i : ItemId) (xs : List ItemData) (y : ItemData) → Has y (drop_item i xs) → Has y xs
drop_has i [] y has = has
drop_has i (x ∷ xs) y has = by_same (drop_has i xs y) (same_item x.id i) has
  where
    by_same : (Has y (drop_item i xs) → Has y xs) → (b : Bool) → Has y (if b then xs else x ∷ drop_item i xs) → Has y (x ∷ xs)
    by_same rest true h = inr h
    by_same rest false h = elim h [ inl is ↦ inl is | inr there ↦ inr (rest there) ]

pub drop_ascending : (i : ItemId) (xs : List ItemData) → AreAscending xs → AreAscending (drop_item i xs)
drop_ascending i [] ascending = tt
drop_ascending i (x ∷ xs) ascending = by_same (drop_ascending i xs ascending.1) (same_item x.id i)
  where
    by_same : AreAscending (drop_item i xs) → (b : Bool) → AreAscending (if b then xs else x ∷ drop_item i xs)
    by_same rest true = ascending.1
    by_same rest false = (λ y has. ascending.0 y (drop_has i xs y has), rest)

-- Both together: the item gets a state, or goes.
pub state_given : (i : ItemId) (o : Option ItemState) (xs : List ItemData) → AreAscending xs → state_of (with_state_of i o xs) i ≡ o
state_given i None xs ascending = drop_gone i xs ascending
state_given i (Some state) xs ascending = put_found (item_with i state) xs

pub state_kept : (i : ItemId) (o : Option ItemState) (xs : List ItemData) (j : ItemId) → i ≢ j → state_of (with_state_of i o xs) j ≡ state_of xs j
state_kept i None xs j other = drop_others i xs j other
state_kept i (Some state) xs j other = put_others (item_with i state) xs j other

pub ascending_given : (i : ItemId) (o : Option ItemState) (xs : List ItemData) → AreAscending xs → AreAscending (with_state_of i o xs)
ascending_given i None xs ascending = drop_ascending i xs ascending
ascending_given i (Some state) xs ascending = put_ascending (item_with i state) xs ascending

-- Where the item is there, it is put in its own place.
pub put_there :
    (i : ItemId) (state old : ItemState) (xs : List ItemData)
    → AreAscending xs → state_of xs i ≡ Some old → put_item (item_with i state) xs ≡ with_state i state xs
put_there i state old xs ascending was = rw was refl
