-- Walks over the items by the first one from a place.
use Rattle.std.proofs.Common.{◌≡◌, ◌++◌, append_assoc, Bool, true, false, if◌then◌else◌, List, [], ◌∷◌, Option, Some, None, inl, inr, refl, sym, ◌∙◌, ap, subst, ◌<◌, length, arith}
use Rattle.std.proofs.lemmas.Bool.Decides.{nat_tests}
use Rattle.sfx_ids.specs.declared.cut.Cut.{Cut}
use Rattle.sfx_ids.specs.declared.cut.Cut.TheVariants.{Start, At, After}
use Rattle.sfx_ids.specs.declared.item_id.ItemId.{ItemId}
use Rattle.sfx_ids.specs.Cut.{cut_le}
use Rattle.sfx_ids.proofs.CutLemmas.{at-lt-after, le_trans, lt-le, start-le, lt-not_le}
use Rattle.sfx_item.specs.Item.{ItemData}
use Rattle.sfx_model.specs.members.Members.{AreAscending, IsIdBelow}
use Rattle.sfx_model.specs.members.Readings.{first_from, items_from}
use Rattle.sfx_model.specs.world.Sets.{Has}
use Rattle.sfx_provider.specs.Walk.{IsWalk}

-- The first of a list.
abbrev pub first : List ItemData → Option ItemData
first [] = None
first (x ∷ xs) = Some x

pub first_of : (place : Cut) (items : List ItemData) → first_from place items ≡ first (items_from place items)
first_of place [] = refl
first_of place (x ∷ xs) = by_test (first_of place xs) (cut_le place (At x.id))
  where
    by_test :
        first_from place xs ≡ first (items_from place xs)
        → (b : Bool) → (if b then Some x else first_from place xs) ≡ first (if b then x ∷ items_from place xs else items_from place xs)
    by_test rest true = refl
    by_test rest false = rest

-- The place behind an item is not behind an item of a higher id, and it is behind the item itself.
behind_below : (i j : ItemId) → IsIdBelow i j → cut_le (After i) (At j) ≡ true
behind_below i j below = elim below [ inl less ↦ grind (arith, nat_tests) | inr (same, less) ↦ grind (arith, nat_tests) ]

behind_itself : (i : ItemId) → cut_le (After i) (At i) ≡ false
behind_itself i = lt-not_le (At i) (After i) (at-lt-after i)

not_behind : (i j : ItemId) → IsIdBelow i j → cut_le (After j) (At i) ≡ false
not_behind i j below = elim below [ inl less ↦ grind (arith, nat_tests) | inr (same, less) ↦ grind (arith, nat_tests) ]

-- From a place that is not behind any of them, the items are all.
all_from :
    (place : Cut) (items : List ItemData)
    → ((y : ItemData) → Has y items → cut_le place (At y.id) ≡ true) → items_from place items ≡ items
all_from place [] from = refl
all_from place (x ∷ xs) from =
    rw (from x (inl refl)) (ap (λ (ys : List ItemData). x ∷ ys) (all_from place xs (λ y has. from y (inr has))))

-- The items from a place are among all.
from_has : (place : Cut) (items : List ItemData) (y : ItemData) → Has y (items_from place items) → Has y items
from_has place [] y has = has
from_has place (x ∷ xs) y has = by_test (from_has place xs y) (cut_le place (At x.id)) has
  where
    by_test :
        (Has y (items_from place xs) → Has y xs)
        → (b : Bool) → Has y (if b then x ∷ items_from place xs else items_from place xs) → Has y (x ∷ xs)
    by_test rest true h = elim h [ inl is ↦ inl is | inr there ↦ inr (rest there) ]
    by_test rest false h = inr (rest h)

-- Behind the first of the items from a place there are the others.
pub next_from :
    (place : Cut) (items : List ItemData) (x : ItemData) (xs : List ItemData)
    → AreAscending items → items_from place items ≡ x ∷ xs → items_from (After x.id) items ≡ xs
next_from place [] x xs ascending is = absurd (cc)
next_from place (y ∷ ys) x xs ascending is = by_test (next_from place ys x xs ascending.1) (cut_le place (At y.id)) refl is
  where
    by_test :
        (items_from place ys ≡ x ∷ xs → items_from (After x.id) ys ≡ xs)
        → (b : Bool) → cut_le place (At y.id) ≡ b
        → (if b then y ∷ items_from place ys else items_from place ys) ≡ x ∷ xs
        → items_from (After x.id) (y ∷ ys) ≡ xs
    by_test rest true le e =
        let same : y ≡ x = cc in
        let others : items_from place ys ≡ xs = cc in
        let from : items_from place ys ≡ ys =
        all_from place ys (λ z has. le_trans place (At y.id) (At z.id) le
        (le_trans (At y.id) (After y.id) (At z.id) (lt-le (At y.id) (After y.id) (at-lt-after y.id))
        (behind_below y.id z.id (ascending.0 z has)))) in
        let behind : items_from (After y.id) ys ≡ ys =
        all_from (After y.id) ys (λ z has. behind_below y.id z.id (ascending.0 z has)) in
        let here : items_from (After y.id) (y ∷ ys) ≡ xs = rw (behind_itself y.id) (behind ∙ sym from ∙ others) in
        subst (λ (z : ItemData). items_from (After z.id) (y ∷ ys) ≡ xs) same here
    by_test rest false le e =
        let has : Has x ys = from_has place ys x (rw e (inl refl)) in
        rw (not_behind y.id x.id (ascending.0 x has)) (rest e)

-- A walk from a place gives exactly the items from there.
pub walk_gives :
    (walked : List ItemData) (place : Cut) (items : List ItemData)
    → AreAscending items → IsWalk items place walked → walked ≡ items_from place items
walk_gives [] place items ascending none = by_items (items_from place items) refl
  where
    by_items : (ys : List ItemData) → items_from place items ≡ ys → [] ≡ items_from place items
    by_items [] e = sym e
    by_items (y ∷ ys) e =
        let bad : None ≡ Some y = sym none ∙ first_of place items ∙ ap first e in
        absurd (cc)
walk_gives (x ∷ xs) place items ascending walk =
    by_items (walk_gives xs (After x.id) items ascending walk.1) (items_from place items) refl
  where
    by_items :
        xs ≡ items_from (After x.id) items
        → (ys : List ItemData) → items_from place items ≡ ys → x ∷ xs ≡ items_from place items
    by_items rest [] e =
        let bad : Some x ≡ None = sym walk.0 ∙ first_of place items ∙ ap first e in
        absurd (cc)
    by_items rest (y ∷ ys) e =
        let found : Some x ≡ Some y = sym walk.0 ∙ first_of place items ∙ ap first e in
        let same : x ≡ y = cc in
        let others : items_from (After y.id) items ≡ ys = next_from place items y ys ascending e in
        let left : xs ≡ ys = rest ∙ ap (λ (z : ItemData). items_from (After z.id) items) same ∙ others in
        rw (e, same, left) refl

pub items_walk :
    (walked : List ItemData) (place : Cut) (items : List ItemData)
    → AreAscending items → items_from place items ≡ walked → IsWalk items place walked
items_walk [] place items ascending is = first_of place items ∙ ap first is
items_walk (x ∷ xs) place items ascending is = (
  first_of place items ∙ ap first is,
  items_walk xs (After x.id) items ascending (next_from place items x xs ascending is),
)

-- From the start they are all.
pub from_start : (items : List ItemData) → items_from Start items ≡ items
from_start items = all_from Start items (λ y has. start-le (At y.id))

-- The first item from a place, and what is left behind it.
pub stepped :
    (place : Cut) (items : List ItemData) (x : ItemData)
    → AreAscending items → first_from place items ≡ Some x
    → items_from place items ≡ x ∷ items_from (After x.id) items
stepped place items x ascending found = by_items (items_from place items) refl
  where
    by_items :
        (ys : List ItemData) → items_from place items ≡ ys
        → items_from place items ≡ x ∷ items_from (After x.id) items
    by_items [] e =
        let bad : Some x ≡ None = sym found ∙ first_of place items ∙ ap first e in
        absurd (cc)
    by_items (y ∷ ys) e =
        let is : Some x ≡ Some y = sym found ∙ first_of place items ∙ ap first e in
        let same : x ≡ y = cc in
        let others : items_from (After y.id) items ≡ ys = next_from place items y ys ascending e in
        rw (same, e, others) refl

pub fewer :
    (place : Cut) (items : List ItemData) (x : ItemData)
    → AreAscending items → first_from place items ≡ Some x
    → length (items_from (After x.id) items) < length (items_from place items)
fewer place items x ascending found = rw (stepped place items x ascending found) (omega arith)

-- Where there is no first one, nothing is left.
pub ended : (place : Cut) (items : List ItemData) → first_from place items ≡ None → items_from place items ≡ []
ended place items none = by_items (items_from place items) refl
  where
    by_items : (ys : List ItemData) → items_from place items ≡ ys → items_from place items ≡ []
    by_items [] e = e
    by_items (y ∷ ys) e =
        let bad : None ≡ Some y = sym none ∙ first_of place items ∙ ap first e in
        absurd (cc)

-- The items so far, with one more, and those that are left behind it are all.
pub walked_on :
    (place : Cut) (items : List ItemData) (so_far : List ItemData) (x : ItemData)
    → AreAscending items → first_from place items ≡ Some x
    → so_far ++ items_from place items ≡ items
    → (so_far ++ x ∷ []) ++ items_from (After x.id) items ≡ items
walked_on place items so_far x ascending found walked =
    rw append_assoc (rw (stepped place items x ascending found) at walked)
