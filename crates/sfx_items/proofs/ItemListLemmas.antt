-- Lists of items in order of their ids: where an item stands, what is next to a place, and what they are
-- with items put into them or taken away.
use Rattle.std.proofs.Common.{◌≡◌, ◌≢◌, ℕ, zero, suc, ◌+◌, ◌*◌, ◌^◌, ◌<◌, ◌≤◌, ◌++◌, Bool, true, false, true≢false, not, if◌then◌else◌, Option, Some, None, Result, Ok, Err, List, [], ◌∷◌, length, get_or, set, cond, drop, inl, inr, refl, sym, ◌∙◌, ap, subst, arith}
use Rattle.std.proofs.lemmas.Bool.{cases_lt}
use Rattle.std.proofs.lemmas.Bool.Decides.{nat_tests}
use Rattle.std.proofs.lemmas.Grind.{pow_more}
use Rattle.std.proofs.lemmas.List.{get_or_default}
use Rattle.std.proofs.lemmas.List.Folds.{list_any_at, list_any_none}
use Rattle.std.proofs.Math.Nat.{mul-le-mul_right}
use Rattle.std.specs.List.{HoldsAt, filter, insert, list_any, position_from, remove}
use Rattle.std.specs.Option.{MatchOption, option_and, option_map, option_or, option_to_list}
use Rattle.std.specs.Prelude.{slice_get}
use Rattle.std.specs.Ordering.{nat_cmp, ordering_index, ordering_then}
use Rattle.std.specs.List.Sorted.{IsBinarySearchResult, IsNonDecreasingBy, IsSearchInRange}
use Rattle.std.specs.Result.{is_ok}
use Rattle.std.specs.declared.cmp.Ordering.{Ordering}
use Rattle.std.specs.declared.cmp.Ordering.TheVariants.{Less, Equal, Greater}
use Rattle.sfx_ids.specs.declared.cut.Cut.{Cut}
use Rattle.sfx_ids.specs.declared.cut.Cut.TheVariants.{At}
use Rattle.sfx_ids.specs.declared.item_id.ItemId.{ItemId}
use Rattle.sfx_ids.specs.Cut.{cut_cmp, cut_le, cut_lt}
use Rattle.sfx_ids.proofs.CutLemmas.{cut_exact, le-not_lt, lt-not_le, lt-self, lt_trans, le_lt_trans, lt-le, not_le, not_lt}
use Rattle.sfx_model.specs.world.Events.{same_item}
use Rattle.sfx_item.specs.Item.{ItemState, ItemData}
use Rattle.sfx_model.specs.members.Members.{AreIdsAscending, AreAscending, IsIdBelow, state_of}
use Rattle.sfx_model.specs.members.ItemLists.{drop_all, drop_item, put_all, put_for, put_item, with_state_of}
use Rattle.sfx_model.specs.members.Readings.{first_from}
use Rattle.sfx_model.specs.world.Sets.{Has}
use Rattle.sfx_model.specs.members.States.{is_id_below, with_item, with_state}
use Rattle.sfx_model.proofs.members.StatesLemmas.{before_all, below_is}
use Rattle.sfx_model.proofs.members.ItemListsLemmas.{drop_gone, drop_others, drop_ascending, put_found, put_others, put_ascending}
use Rattle.sfx_model.proofs.members.AscendingItems.{before_differs, before_trans, ids_are, ids_compared, items_are, other_item, ascending_equal, state_behind, state_below}
use Rattle.sfx_model.proofs.world.StepKeepsWorld.{same_item_is, same_item_self}
use Rattle.sfx_items.specs.Merge.{IsNextOfTwo}
use Rattle.sfx_items.specs.Neighbours.{last_before}
use Rattle.sfx_items.specs.Places.{AreFew, count_before, has_id}

-- ---- ids and cuts

-- The cut of an id is before that of another exactly where the id is.
pub test_below : (a b : ItemId) → cut_lt (At a) (At b) ≡ is_id_below a b
test_below a b = grind (arith, nat_tests)

pub cut_below : (a b : ItemId) → IsIdBelow a b → cut_lt (At a) (At b) ≡ true
cut_below a b below = elim below [ inl less ↦ grind (arith, nat_tests) | inr (same, less) ↦ grind (arith, nat_tests) ]

cut_above : (a b : ItemId) → IsIdBelow b a → cut_lt (At a) (At b) ≡ false
cut_above a b above = le-not_lt (At b) (At a) (lt-le (At b) (At a) (cut_below b a above))

below_cut : (a b : ItemId) → cut_lt (At a) (At b) ≡ true → IsIdBelow a b
below_cut a b lt = below_is a b (sym (test_below a b) ∙ lt)

-- ---- where an item stands

at_has : (xs : List ItemData) (k : ℕ) (d : ItemData) → k < length xs → Has (get_or xs k d) xs
at_has [] k d inside = absurd (omega arith)
at_has (x ∷ xs) zero d inside = inl refl
at_has (x ∷ xs) (suc k) d inside = inr (at_has xs k d (omega arith))

-- The items before a cut are at most all.
pub count_within : (cut : Cut) (xs : List ItemData) → count_before cut xs ≤ length xs
count_within cut [] = omega arith
count_within cut (x ∷ xs) = by_test (count_within cut xs) (cut_lt (At x.id) cut)
  where
    by_test :
        count_before cut xs ≤ length xs
        → (b : Bool) → (if b then suc (count_before cut xs) else zero) ≤ suc (length xs)
    by_test rest true = omega (arith, rest)
    by_test rest false = omega arith

-- Each of them is before it, and so is no other.
counted :
    (cut : Cut) (xs : List ItemData) (k : ℕ) (d : ItemData)
    → k < count_before cut xs → cut_lt (At (get_or xs k d).id) cut ≡ true
counted cut [] k d low = absurd (omega arith)
counted cut (x ∷ xs) k d low = by_test k (counted cut xs) (cut_lt (At x.id) cut) refl low
  where
    by_test :
        (n : ℕ)
        → ((j : ℕ) (e : ItemData) → j < count_before cut xs → cut_lt (At (get_or xs j e).id) cut ≡ true)
        → (b : Bool) → cut_lt (At x.id) cut ≡ b → n < (if b then suc (count_before cut xs) else zero)
        → cut_lt (At (get_or (x ∷ xs) n d).id) cut ≡ true
    by_test zero rest true e l = e
    by_test (suc j) rest true e l = rest j d (omega (arith, l))
    by_test n rest false e l = absurd (omega (arith, l))

is_counted :
    (cut : Cut) (xs : List ItemData) (k : ℕ) (d : ItemData)
    → AreAscending xs → k < length xs → cut_lt (At (get_or xs k d).id) cut ≡ true
    → k < count_before cut xs
is_counted cut [] k d ascending inside lt = absurd (omega arith)
is_counted cut (x ∷ xs) zero d ascending inside lt = rw lt (omega arith)
is_counted cut (x ∷ xs) (suc k) d ascending inside lt =
    let rest = is_counted cut xs k d ascending.1 (omega arith) lt in
    let below = ascending.0 (get_or xs k d) (at_has xs k d (omega arith)) in
    let first : cut_lt (At x.id) cut ≡ true = lt_trans (At x.id) (At (get_or xs k d).id) cut (cut_below x.id (get_or xs k d).id below) lt in
    rw first (omega (arith, rest))

-- An item stands behind those that are before its own cut.
pub count_at :
    (xs : List ItemData) (k : ℕ) (d : ItemData)
    → AreAscending xs → k < length xs → count_before (At (get_or xs k d).id) xs ≡ k
count_at [] k d ascending inside = absurd (omega arith)
count_at (x ∷ xs) zero d ascending inside = rw (lt-self (At x.id)) refl
count_at (x ∷ xs) (suc k) d ascending inside =
    let below = ascending.0 (get_or xs k d) (at_has xs k d (omega arith)) in
    rw (cut_below x.id (get_or xs k d).id below) (ap suc (count_at xs k d ascending.1 (omega arith)))

position_at :
    (xs : List ItemData) (n k : ℕ) (d : ItemData)
    → AreAscending xs → k < length xs → position_from (has_id (get_or xs k d).id) n xs ≡ Some (n + k)
position_at [] n k d ascending inside = absurd (omega arith)
position_at (x ∷ xs) n zero d ascending inside =
    let here : n ≡ n + zero = omega arith in rw (same_item_self x.id) (ap (λ (j : ℕ). Some j) here)
position_at (x ∷ xs) n (suc k) d ascending inside =
    let below = ascending.0 (get_or xs k d) (at_has xs k d (omega arith)) in
    let next : n + 1 + k ≡ n + suc k = omega arith in
    rw (other_item x.id (get_or xs k d).id (before_differs x.id (get_or xs k d).id below))
    (position_at xs (n + 1) k d ascending.1 (omega arith) ∙ ap (λ (j : ℕ). Some j) next)

-- No item has an id that is before all of them, nor one that is before the first that is not before it.
none_above :
    (xs : List ItemData) (i : ItemId) (n : ℕ)
    → ((y : ItemData) → Has y xs → IsIdBelow i y.id) → position_from (has_id i) n xs ≡ None
none_above [] i n above = refl
none_above (x ∷ xs) i n above =
    rw (other_item x.id i (λ same. before_differs i x.id (above x (inl refl)) (sym same)))
    (none_above xs i (n + 1) (λ y has. above y (inr has)))

position_none :
    (xs : List ItemData) (i : ItemId) (n : ℕ)
    → AreAscending xs
    → (count_before (At i) xs < length xs
    → (d : ItemData) → cut_lt (At i) (At (get_or xs (count_before (At i) xs) d).id) ≡ true)
    → position_from (has_id i) n xs ≡ None
position_none [] i n ascending next = refl
position_none (x ∷ xs) i n ascending next = by_test (position_none xs i (n + 1) ascending.1) (cut_lt (At x.id) (At i)) refl next
  where
    by_test :
        ((count_before (At i) xs < length xs
        → (d : ItemData) → cut_lt (At i) (At (get_or xs (count_before (At i) xs) d).id) ≡ true)
        → position_from (has_id i) (n + 1) xs ≡ None)
        → (b : Bool) → cut_lt (At x.id) (At i) ≡ b
        → ((if b then suc (count_before (At i) xs) else zero) < suc (length xs)
        → (d : ItemData) → cut_lt (At i) (At (get_or (x ∷ xs) (if b then suc (count_before (At i) xs) else zero) d).id) ≡ true)
        → position_from (has_id i) n (x ∷ xs) ≡ None
    by_test rest true lt h =
        rw (other_item x.id i (before_differs x.id i (below_cut x.id i lt))) (rest (λ low. h (omega (arith, low))))
    by_test rest false lt h =
        let above : IsIdBelow i x.id = below_cut i x.id (h (omega arith) x) in
        none_above (x ∷ xs) i n (before_all i x xs above ascending)

-- ---- the search by halves

-- How far a search has come: so many items at the front are before the cut, and from so many on none is.
pub record IsNarrowed (cut : Cut) (xs : List ItemData) (low high : ℕ) : Type 0 where
  pub low_is : low ≤ count_before cut xs
  pub high_is : count_before cut xs ≤ high
  pub inside : high ≤ length xs
  pub next : high < length xs → (d : ItemData) → cut_lt cut (At (get_or xs high d).id) ≡ true

pub all_open : (cut : Cut) (xs : List ItemData) → IsNarrowed cut xs 0 (length xs)
all_open cut xs = record {
  low_is = omega arith;
  high_is = count_within cut xs;
  inside = omega arith;
  next = λ past d. absurd (omega arith);
}

-- The item looked at is before the cut, or behind it.
pub narrowed_low :
    (cut : Cut) (xs : List ItemData) (low high middle : ℕ) (d : ItemData)
    → AreAscending xs → IsNarrowed cut xs low high → middle < high
    → cut_lt (At (get_or xs middle d).id) cut ≡ true → IsNarrowed cut xs (middle + 1) high
narrowed_low cut xs low high middle d ascending so_far less lt =
    let inside = so_far.inside in
    let more = is_counted cut xs middle d ascending (omega (arith, inside)) lt in record {
      low_is = omega (arith, more);
      high_is = so_far.high_is;
      inside = so_far.inside;
      next = so_far.next;
    }

not_past :
    (cut : Cut) (xs : List ItemData) (middle : ℕ) (d : ItemData)
    → cut_lt (At (get_or xs middle d).id) cut ≡ false → count_before cut xs ≤ middle
not_past cut xs middle d not = elim (cases_lt middle (count_before cut xs)) [
  | inl past ↦ absurd (true≢false (sym (counted cut xs middle d past) ∙ not))
  | inr most ↦ most
]

pub narrowed_high :
    (cut : Cut) (xs : List ItemData) (low high middle : ℕ) (d : ItemData)
    → IsNarrowed cut xs low high → middle < high
    → cut_le (At (get_or xs middle d).id) cut ≡ false → IsNarrowed cut xs low middle
narrowed_high cut xs low high middle d so_far less past =
    let inside = so_far.inside in
    let here : middle < length xs = omega (arith, inside) in
    let lt : cut_lt cut (At (get_or xs middle d).id) ≡ true = not_le (At (get_or xs middle d).id) cut past in record {
      low_is = so_far.low_is;
      high_is = not_past cut xs middle d (le-not_lt cut (At (get_or xs middle d).id) (lt-le cut (At (get_or xs middle d).id) lt));
      inside = omega (arith, here);
      next = λ _ e. rw (get_or_default xs middle e d here) lt;
    }

-- Where the search ends, the item of the cut is found, or there is none.
pub narrowed_found :
    (cut : Cut) (xs : List ItemData) (middle : ℕ) (d : ItemData)
    → AreAscending xs → middle < length xs → cut_cmp (At (get_or xs middle d).id) cut ≡ Equal
    → (middle ≡ count_before cut xs) × ((i : ItemId) → cut ≡ At i → position_from (has_id i) 0 xs ≡ Some middle)
narrowed_found cut xs middle d ascending inside equal =
    let there : At (get_or xs middle d).id ≡ cut = cut_exact (At (get_or xs middle d).id) cut equal in (
      sym (subst (λ (c : Cut). count_before c xs ≡ middle) there (count_at xs middle d ascending inside)),
      λ i at.
          let id : (get_or xs middle d).id ≡ i = let e = there ∙ at in cc in
          let none : 0 + middle ≡ middle = omega arith in
          subst (λ (j : ItemId). position_from (has_id j) 0 xs ≡ Some middle) id
          (position_at xs 0 middle d ascending inside ∙ ap (λ (n : ℕ). Some n) none),
    )

pub narrowed_none :
    (cut : Cut) (xs : List ItemData) (low high : ℕ)
    → AreAscending xs → IsNarrowed cut xs low high → high ≤ low
    → (low ≡ count_before cut xs) × ((i : ItemId) → cut ≡ At i → position_from (has_id i) 0 xs ≡ None)
narrowed_none cut xs low high ascending so_far closed =
    let low_is = so_far.low_is in
    let high_is = so_far.high_is in
    let count : high ≡ count_before cut xs = omega (arith, low_is, high_is) in (
      omega (arith, low_is, high_is),
      λ i at.
          position_none xs i 0 ascending
          (subst (λ (c : Cut). count_before c xs < length xs → (d : ItemData) → cut_lt c (At (get_or xs (count_before c xs) d).id) ≡ true)
          at (subst (λ (n : ℕ). n < length xs → (d : ItemData) → cut_lt cut (At (get_or xs n d).id) ≡ true) count so_far.next)),
    )

-- How many comparisons there were: each halves what is left.
pub record AreHalved (items left compared : ℕ) : Type 0 where
  pub halves : left * 2 ^ compared ≤ items
  pub few : AreFew items compared
  pub steps : compared + left ≤ items

pub not_halved : (items left : ℕ) → left ≤ items → AreHalved items left 0
not_halved items left most = record { halves = omega arith; few = inl refl; steps = omega arith }

pub halved :
    (items left more done : ℕ)
    → AreHalved items left done → 0 < left → 2 * more ≤ left → AreHalved items more (done + 1)
halved items left more done so_far some half =
    let halves = so_far.halves in
    let steps = so_far.steps in
    let power : 2 ^ (done + 1) ≡ 2 * 2 ^ done = omega (arith, pow_more 2 done) in
    let twice : 2 * more * 2 ^ done ≤ left * 2 ^ done = mul-le-mul_right (2 ^ done) half in
    let once : 1 * 2 ^ done ≤ left * 2 ^ done = mul-le-mul_right (2 ^ done) some in record {
      halves = rw power (omega (arith, twice, halves));
      few = inr (omega (arith, power, once, halves));
      steps = omega (arith, steps);
    }

-- ---- an item that stands somewhere

-- The item with this id stands at place k: its state and its id, and what the list is with another in its
-- place, and without it.
pub record IsPlace (xs : List ItemData) (i : ItemId) (k : ℕ) : Type 0 where
  pub inside : k < length xs
  pub state : (d : ItemData) → state_of xs i ≡ Some (get_or xs k d).state
  pub id : (d : ItemData) → (get_or xs k d).id ≡ i
  pub put : (y : ItemData) → y.id ≡ i → (set xs k y) ≡ with_state i y.state xs
  pub removed : (remove xs k) ≡ drop_item i xs

abbrev item_with : ItemId → ItemState → ItemData
item_with id state = record { id = id; state = state }

place_found :
    (xs : List ItemData) (i : ItemId) (n k : ℕ)
    → position_from (has_id i) n xs ≡ Some k → (j : ℕ) × (k ≡ n + j) × IsPlace xs i j
place_found [] i n k e = absurd (cc)
place_found (x ∷ xs) i n k e = by_test (place_found xs i (n + 1) k) (same_item x.id i) refl e
  where
    by_test :
        (position_from (has_id i) (n + 1) xs ≡ Some k → (j : ℕ) × (k ≡ n + 1 + j) × IsPlace xs i j)
        → (b : Bool) → same_item x.id i ≡ b → cond b (Some n) (position_from (has_id i) (n + 1) xs) ≡ Some k
        → (j : ℕ) × (k ≡ n + j) × IsPlace (x ∷ xs) i j
    by_test rest true test e =
        let here : n ≡ k = cc in (
          0,
          omega (arith, here),
          record {
            inside = omega arith;
            state = λ d. rw test refl;
            id = λ d. same_item_is x.id i test;
            put = λ y same.
                rw test
                (let made : item_with y.id y.state ≡ item_with x.id y.state = rw (same, same_item_is x.id i test) refl in
                ap (λ (z : ItemData). z ∷ xs) made);
            removed = rw test refl;
          },
        )
    by_test rest false test e =
        let found = rest e in
        let at = found.1 in
        let is = found.2 in (
          suc found.0,
          omega (arith, at),
          record {
            inside = let low = is.inside in omega (arith, low);
            state = λ d. rw test (is.state d);
            id = is.id;
            put = λ y same. rw test (ap (λ (zs : List ItemData). x ∷ zs) (is.put y same));
            removed = rw test (ap (λ (zs : List ItemData). x ∷ zs) is.removed);
          },
        )

place_none :
    (xs : List ItemData) (i : ItemId) (n : ℕ)
    → position_from (has_id i) n xs ≡ None → state_of xs i ≡ None
place_none [] i n e = refl
place_none (x ∷ xs) i n e = by_test (place_none xs i (n + 1)) (same_item x.id i) refl e
  where
    by_test :
        (position_from (has_id i) (n + 1) xs ≡ None → state_of xs i ≡ None)
        → (b : Bool) → same_item x.id i ≡ b → cond b (Some n) (position_from (has_id i) (n + 1) xs) ≡ None
        → state_of (x ∷ xs) i ≡ None
    by_test rest true test e = absurd (cc)
    by_test rest false test e = rw test (rest e)

-- What a search for an id answers is its place, or says that there is none.
pub at_place :
    (xs ys : List ItemData) (i : ItemId) (k : ℕ) (r : Option ℕ)
    → ys ≡ xs → r ≡ position_from (has_id i) 0 ys → r ≡ Some k → IsPlace xs i k
at_place xs ys i k r same searched found =
    let first : position_from (has_id i) 0 xs ≡ Some k = rw (← same) (sym searched ∙ found) in
    let place = place_found xs i 0 k first in
    let at : place.0 ≡ k = let e = place.1 in omega (arith, e) in
    rw (← at) place.2

pub not_there :
    (xs ys : List ItemData) (i : ItemId) (r : Option ℕ)
    → ys ≡ xs → r ≡ position_from (has_id i) 0 ys → r ≡ None → state_of xs i ≡ None
not_there xs ys i r same searched none = place_none xs i 0 (rw (← same) (sym searched ∙ none))

-- The same of a search that answers a place, and whether the item stands there.
pub at_found :
    (xs ys : List ItemData) (i : ItemId) (k : ℕ) (exact : Bool)
    → ys ≡ xs → position_from (has_id i) 0 ys ≡ (if exact then Some k else None) → exact ≡ true → IsPlace xs i k
at_found xs ys i k exact same searched found =
    at_place xs ys i k (if exact then Some k else None) same (sym searched) (rw found refl)

pub none_found :
    (xs ys : List ItemData) (i : ItemId) (k : ℕ) (exact : Bool)
    → ys ≡ xs → position_from (has_id i) 0 ys ≡ (if exact then Some k else None) → exact ≡ false → state_of xs i ≡ None
none_found xs ys i k exact same searched found =
    not_there xs ys i (if exact then Some k else None) same (sym searched) (rw found refl)

-- The item that stands there: its state and its id.
pub state_there :
    (xs : List ItemData) (i : ItemId) (k : ℕ) (old : ItemData)
    → IsPlace xs i k → old ≡ get_or xs k old → state_of xs i ≡ Some old.state
state_there xs i k old place is = place.state old ∙ ap (λ (x : ItemData). Some x.state) (sym is)

pub id_there :
    (xs : List ItemData) (i : ItemId) (k : ℕ) (old : ItemData)
    → IsPlace xs i k → old ≡ get_or xs k old → old.id ≡ i
id_there xs i k old place is = ap (λ (x : ItemData). x.id) is ∙ place.id old

-- ---- the first item from a place, and the last before it

pub first_at :
    (from : Cut) (xs : List ItemData)
    → slice_get xs (count_before from xs) ≡ first_from from xs
first_at from [] = refl
first_at from (x ∷ xs) = by_test (first_at from xs) (cut_lt (At x.id) from) (cut_le from (At x.id)) (lt-not_le (At x.id) from) (not_lt (At x.id) from)
  where
    by_test :
        slice_get xs (count_before from xs) ≡ first_from from xs
        → (b c : Bool) → (b ≡ true → c ≡ false) → (b ≡ false → c ≡ true)
        → slice_get (x ∷ xs) (if b then suc (count_before from xs) else zero)
        ≡ (if c then Some x else first_from from xs)
    by_test rest true c before from_it = rw (before refl) rest
    by_test rest false c before from_it = rw (from_it refl) refl

-- What is got at a place is the item there.
pub item_got :
    {R : Type 0} (now : R → ItemData) (xs : List ItemData) (k : ℕ) (r : Option R)
    → MatchOption r (length xs ≤ k) (λ x. (k < length xs) × HoldsAt (λ y. now x ≡ y) xs k)
    → option_map (λ x. now x) r ≡ slice_get xs k
item_got now [] k None past = refl
item_got now (x ∷ xs) zero None past = absurd (omega (arith, past))
item_got {R} now (x ∷ xs) (suc k) None past = item_got {R = R} now xs k None (omega (arith, past))
item_got now [] k (Some y) there = let inside = there.0 in absurd (omega (arith, inside))
item_got now (x ∷ xs) zero (Some y) there = ap (λ (z : ItemData). Some z) (there.1 x)
item_got now (x ∷ xs) (suc k) (Some y) there =
    let inside = there.0 in
    item_got now xs k (Some y) (omega (arith, inside), there.1)

-- None of these stands before the cut.
pub none_before :
    (cut : Cut) (xs : List ItemData)
    → ((y : ItemData) → Has y xs → cut_lt (At y.id) cut ≡ false) → last_before cut xs ≡ None
none_before cut [] none = refl
none_before cut (x ∷ xs) none = rw (none_before cut xs (λ y has. none y (inr has)), none x (inl refl)) refl

-- None that is behind one that is not before the cut is before it.
past_first :
    (cut : Cut) (x : ItemData) (xs : List ItemData)
    → AreAscending (x ∷ xs) → cut_lt (At x.id) cut ≡ false → (y : ItemData) → Has y (x ∷ xs) → cut_lt (At y.id) cut ≡ false
past_first cut x xs ascending not y has = elim has [
  | inl is ↦ subst (λ (z : ItemData). cut_lt (At z.id) cut ≡ false) (sym is) not
  | inr there ↦
      le-not_lt cut (At y.id) (lt-le cut (At y.id)
      (le_lt_trans cut (At x.id) (At y.id) (not_lt (At x.id) cut not) (cut_below x.id y.id (ascending.0 y there))))
]

pub last_none :
    (cut : Cut) (xs : List ItemData)
    → AreAscending xs → count_before cut xs ≡ 0 → last_before cut xs ≡ None
last_none cut [] ascending none = refl
last_none cut (x ∷ xs) ascending none = by_test (cut_lt (At x.id) cut) refl none
  where
    by_test :
        (b : Bool) → cut_lt (At x.id) cut ≡ b → (if b then suc (count_before cut xs) else zero) ≡ 0
        → last_before cut (x ∷ xs) ≡ None
    by_test true e n = absurd (omega (arith, n))
    by_test false e n = none_before cut (x ∷ xs) (past_first cut x xs ascending e)

pub last_at :
    (cut : Cut) (xs : List ItemData) (k : ℕ) (d : ItemData)
    → AreAscending xs → count_before cut xs ≡ suc k
    → last_before cut xs ≡ Some (get_or xs k d)
last_at cut [] k d ascending count = absurd (omega (arith, count))
last_at cut (x ∷ xs) k d ascending count = by_test (last_at cut xs) (cut_lt (At x.id) cut) refl count
  where
    by_last :
        ((j : ℕ) (e : ItemData) → AreAscending xs → count_before cut xs ≡ suc j
        → last_before cut xs ≡ Some (get_or xs j e))
        → (n : ℕ) → count_before cut xs ≡ n
        → option_or (last_before cut xs) (Some x) ≡ Some (get_or (x ∷ xs) n d)
    by_last rest zero none = rw (last_none cut xs ascending.1 none) refl
    by_last rest (suc j) some = rw (rest j d ascending.1 some) refl

    by_test :
        ((j : ℕ) (e : ItemData) → AreAscending xs → count_before cut xs ≡ suc j
        → last_before cut xs ≡ Some (get_or xs j e))
        → (b : Bool) → cut_lt (At x.id) cut ≡ b → (if b then suc (count_before cut xs) else zero) ≡ suc k
        → option_or (last_before cut xs) (if b then Some x else None) ≡ Some (get_or (x ∷ xs) k d)
    by_test rest true e n = by_last rest k (omega (arith, n))
    by_test rest false e n = absurd (omega (arith, n))

-- ---- one item put

-- An item that stands there, or one more in its place.
pub put_there :
    (xs : List ItemData) (item : ItemData) (k : ℕ)
    → IsPlace xs item.id k → (set xs k item) ≡ put_item item xs
put_there xs item k place =
    place.put item refl
    ∙ ap (λ (o : Option ItemState). put_for o item xs) (sym (place.state item))

inserted_view :
    (item : ItemData) (xs : List ItemData)
    → (insert xs (count_before (At item.id) xs) item) ≡ with_item item xs
inserted_view item [] = refl
inserted_view item (x ∷ xs) =
    by_test (inserted_view item xs) (cut_lt (At x.id) (At item.id)) (is_id_below x.id item.id) (test_below x.id item.id)
  where
    by_test :
        (insert xs (count_before (At item.id) xs) item) ≡ with_item item xs
        → (b c : Bool) → b ≡ c
        → (insert (x ∷ xs) (if b then suc (count_before (At item.id) xs) else zero) item)
        ≡ (if c then x ∷ with_item item xs else item ∷ x ∷ xs)
    by_test rest true c same = rw (← same) (ap (λ (zs : List ItemData). x ∷ zs) rest)
    by_test rest false c same = rw (← same) refl

pub put_new :
    (xs : List ItemData) (item : ItemData) (k : ℕ)
    → state_of xs item.id ≡ None → k ≡ count_before (At item.id) xs
    → (insert xs k item) ≡ put_item item xs
put_new xs item k none is =
    rw is (inserted_view item xs
    ∙ ap (λ (o : Option ItemState). put_for o item xs) (sym none))

-- ---- one item taken away

-- Nothing is taken away where there is no item.
pub drop_absent : (i : ItemId) (xs : List ItemData) → state_of xs i ≡ None → drop_item i xs ≡ xs
drop_absent i [] none = refl
drop_absent i (x ∷ xs) none = by_test (drop_absent i xs) (same_item x.id i) none
  where
    by_test :
        (state_of xs i ≡ None → drop_item i xs ≡ xs)
        → (b : Bool) → (if b then Some x.state else state_of xs i) ≡ None
        → (if b then xs else x ∷ drop_item i xs) ≡ x ∷ xs
    by_test rest true n = absurd (cc)
    by_test rest false n = ap (λ (ys : List ItemData). x ∷ ys) (rest n)

-- ---- many items put

-- An item that is before all those that are put stays at the front.
put_behind :
    (x p : ItemData) (xs : List ItemData) → IsIdBelow x.id p.id → put_item p (x ∷ xs) ≡ x ∷ put_item p xs
put_behind x p xs below =
    ap (λ (o : Option ItemState). put_for o p (x ∷ xs)) (state_behind x xs p.id (before_differs x.id p.id below))
    ∙ by_state (state_of xs p.id)
  where
    by_state : (o : Option ItemState) → put_for o p (x ∷ xs) ≡ x ∷ put_for o p xs
    by_state None = rw (sym (test_below x.id p.id) ∙ cut_below x.id p.id below) refl
    by_state (Some old) = rw (other_item x.id p.id (before_differs x.id p.id below)) refl

all_behind :
    (x : ItemData) (ps xs : List ItemData)
    → ((y : ItemData) → Has y ps → IsIdBelow x.id y.id) → put_all ps (x ∷ xs) ≡ x ∷ put_all ps xs
all_behind x [] xs below = refl
all_behind x (p ∷ ps) xs below =
    ap (λ (ys : List ItemData). put_all ps ys) (put_behind x p xs (below p (inl refl)))
    ∙ all_behind x ps (put_item p xs) (λ y has. below y (inr has))

-- The next item of both lists: one that is before those that are put, one that is put in the place of the one
-- with its id, or one that is put before it.
pub next_held :
    (x p : ItemData) (ps xs : List ItemData)
    → AreAscending (p ∷ ps) → IsIdBelow x.id p.id → put_all (p ∷ ps) (x ∷ xs) ≡ x ∷ put_all (p ∷ ps) xs
next_held x p ps xs ascending below = all_behind x (p ∷ ps) xs (before_all x.id p ps below ascending)

pub next_both :
    (x p : ItemData) (ps xs : List ItemData)
    → AreAscending (p ∷ ps) → x.id ≡ p.id → put_all (p ∷ ps) (x ∷ xs) ≡ p ∷ put_all ps xs
next_both x p ps xs ascending same =
    let test : same_item x.id p.id ≡ true = rw same (same_item_self p.id) in
    let there : state_of (x ∷ xs) p.id ≡ Some x.state = rw test refl in
    let given : with_state p.id p.state (x ∷ xs) ≡ item_with x.id p.state ∷ xs = rw test refl in
    let here : put_item p (x ∷ xs) ≡ p ∷ xs =
    ap (λ (o : Option ItemState). put_for o p (x ∷ xs)) there ∙ given
    ∙ ap (λ (y : ItemData). y ∷ xs) (items_are (item_with x.id p.state) p same refl) in
    ap (λ (ys : List ItemData). put_all ps ys) here ∙ all_behind p ps xs ascending.0

next_before :
    (p : ItemData) (ps xs : List ItemData)
    → AreAscending (p ∷ ps) → put_item p xs ≡ p ∷ xs → put_all (p ∷ ps) xs ≡ p ∷ put_all ps xs
next_before p ps xs ascending first = ap (λ (ys : List ItemData). put_all ps ys) first ∙ all_behind p ps xs ascending.0

pub next_put :
    (x p : ItemData) (ps xs : List ItemData)
    → AreAscending (p ∷ ps) → AreAscending (x ∷ xs) → IsIdBelow p.id x.id → put_all (p ∷ ps) (x ∷ xs) ≡ p ∷ put_all ps (x ∷ xs)
next_put x p ps xs ascending rises below =
    let none : state_of (x ∷ xs) p.id ≡ None = state_below (x ∷ xs) p.id (before_all p.id x xs below rises) in
    next_before p ps (x ∷ xs) ascending (rw none (rw (sym (test_below x.id p.id) ∙ cut_above x.id p.id below) refl))

pub next_last : (p : ItemData) (ps : List ItemData) → AreAscending (p ∷ ps) → put_all (p ∷ ps) [] ≡ p ∷ put_all ps []
next_last p ps ascending = next_before p ps [] ascending refl

-- What is taken from the front of a list is its first item, and the rest is left.
popped :
    (x : ItemData) (xs rest : List ItemData) (r : Option ItemData)
    → x ∷ xs ≡ option_to_list r ++ rest → rest ≡ drop 1 (x ∷ xs) → (r ≡ Some x) × (rest ≡ xs)
popped x xs rest None whole left =
    let bad : length (x ∷ xs) ≡ length (drop 1 (x ∷ xs)) = ap length (whole ∙ left) in
    absurd (omega (arith, bad))
popped x xs rest (Some y) whole left = (cc, left)

none_left : (xs : List ItemData) → length xs ≤ 0 → xs ≡ []
none_left [] none = refl
none_left (x ∷ xs) none = absurd (omega (arith, none))

nothing_popped : (rest : List ItemData) (r : Option ItemData) → [] ≡ option_to_list r ++ rest → (r ≡ None) × (rest ≡ [])
nothing_popped rest None whole = (refl, sym whole)
nothing_popped rest (Some y) whole = absurd (cc)

is_next :
    (x : ItemData) (r : Option ItemData) (whole rest : List ItemData)
    → r ≡ Some x → whole ≡ x ∷ rest → IsNextOfTwo r whole rest
is_next x r whole rest is first = subst (λ (o : Option ItemData). IsNextOfTwo o whole rest) (sym is) first

-- Where one list is empty, the next item is that of the other.
pub next_of_puts :
    (held puts left : List ItemData) (r : Option ItemData)
    → AreAscending puts → length held ≤ 0 → puts ≡ option_to_list r ++ left → left ≡ drop 1 puts
    → IsNextOfTwo r (put_all puts held) (put_all left held)
next_of_puts held [] left r ascending none whole rest =
    let both = nothing_popped left r whole in
    subst (λ (o : Option ItemData). IsNextOfTwo o held (put_all left held)) (sym both.0)
    ((none_left held none))
next_of_puts held (p ∷ ps) left r ascending none whole rest =
    let both = popped p ps left r whole rest in
    let empty = none_left held none in
    is_next p r (put_all (p ∷ ps) held) (put_all left held) both.0
    (rw (empty, both.1) (next_last p ps ascending))

pub next_of_held :
    (held puts left : List ItemData) (r : Option ItemData)
    → length puts ≤ 0 → held ≡ option_to_list r ++ left → left ≡ drop 1 held
    → IsNextOfTwo r (put_all puts held) (put_all puts left)
next_of_held [] puts left r none whole rest =
    let both = nothing_popped left r whole in
    subst (λ (o : Option ItemData). IsNextOfTwo o (put_all puts []) (put_all puts left)) (sym both.0)
    (rw (none_left puts none) refl)
next_of_held (x ∷ xs) puts left r none whole rest =
    let both = popped x xs left r whole rest in
    is_next x r (put_all puts (x ∷ xs)) (put_all puts left) both.0
    (rw (none_left puts none, both.1) refl)

-- Else it is the lower one, or that which is put, where both have one id.
pub next_is_held :
    (held puts left : List ItemData) (r : Option ItemData) (x p : ItemData)
    → AreAscending puts → 0 < length held → 0 < length puts → x ≡ get_or held 0 x → p ≡ get_or puts 0 p
    → IsIdBelow x.id p.id → held ≡ option_to_list r ++ left → left ≡ drop 1 held
    → IsNextOfTwo r (put_all puts held) (put_all puts left)
next_is_held [] puts left r x p ascending some more x_is p_is below whole rest = absurd (omega arith)
next_is_held (h ∷ hs) [] left r x p ascending some more x_is p_is below whole rest = absurd (omega arith)
next_is_held (h ∷ hs) (q ∷ qs) left r x p ascending some more x_is p_is below whole rest =
    let both = popped h hs left r whole rest in
    let lower : IsIdBelow h.id q.id =
    subst (λ (z : ItemData). IsIdBelow h.id z.id) p_is (subst (λ (z : ItemData). IsIdBelow z.id p.id) x_is below) in
    is_next h r (put_all (q ∷ qs) (h ∷ hs)) (put_all (q ∷ qs) left) both.0
    (rw both.1 (next_held h q qs hs ascending lower))

pub next_is_put :
    (held puts left : List ItemData) (r : Option ItemData) (x p : ItemData)
    → AreAscending held → AreAscending puts → 0 < length held → 0 < length puts
    → x ≡ get_or held 0 x → p ≡ get_or puts 0 p → IsIdBelow p.id x.id → puts ≡ option_to_list r ++ left → left ≡ drop 1 puts
    → IsNextOfTwo r (put_all puts held) (put_all left held)
next_is_put [] puts left r x p rises ascending some more x_is p_is below whole rest = absurd (omega arith)
next_is_put (h ∷ hs) [] left r x p rises ascending some more x_is p_is below whole rest = absurd (omega arith)
next_is_put (h ∷ hs) (q ∷ qs) left r x p rises ascending some more x_is p_is below whole rest =
    let both = popped q qs left r whole rest in
    let lower : IsIdBelow q.id h.id =
    subst (λ (z : ItemData). IsIdBelow q.id z.id) x_is (subst (λ (z : ItemData). IsIdBelow z.id x.id) p_is below) in
    is_next q r (put_all (q ∷ qs) (h ∷ hs)) (put_all left (h ∷ hs)) both.0
    (rw both.1 (next_put h q qs hs ascending rises lower))

pub next_is_both :
    (held puts behind left : List ItemData) (old r next : Option ItemData) (x p : ItemData)
    → AreAscending puts → 0 < length held → 0 < length puts → x ≡ get_or held 0 x → p ≡ get_or puts 0 p
    → x.id ≡ p.id → held ≡ option_to_list old ++ behind → behind ≡ drop 1 held
    → puts ≡ option_to_list r ++ left → left ≡ drop 1 puts → next ≡ option_and old r
    → IsNextOfTwo next (put_all puts held) (put_all left behind)
next_is_both [] puts behind left old r next x p ascending some more x_is p_is same taken passed whole rest gives = absurd (omega arith)
next_is_both (h ∷ hs) [] behind left old r next x p ascending some more x_is p_is same taken passed whole rest gives = absurd (omega arith)
next_is_both (h ∷ hs) (q ∷ qs) behind left old r next x p ascending some more x_is p_is same taken passed whole rest gives =
    let first = popped h hs behind old taken passed in
    let both = popped q qs left r whole rest in
    let one : h.id ≡ q.id = sym (ap (λ (z : ItemData). z.id) x_is) ∙ same ∙ ap (λ (z : ItemData). z.id) p_is in
    let is : next ≡ Some q = gives ∙ ap (λ (o : Option ItemData). option_and o r) first.0 ∙ both.0 in
    is_next q next (put_all (q ∷ qs) (h ∷ hs)) (put_all left behind) is
    (rw (both.1, first.1) (next_both h q qs hs ascending one))

-- ---- the order of ids as the program has it

abbrev pub id_cmp : ItemId → ItemId → Ordering
id_cmp a b = ordering_then (nat_cmp a.tick b.tick) (nat_cmp a.replica b.replica)

pub id_equal : (a b : ItemId) → id_cmp a b ≡ Equal → a ≡ b
id_equal a b equal = ids_are a b (grind (arith, nat_tests)) (grind (arith, nat_tests))

id_cmp_below : (a b : ItemId) → IsIdBelow a b → id_cmp a b ≡ Less
id_cmp_below a b below = elim below [ inl less ↦ grind (arith, nat_tests) | inr (same, less) ↦ grind (arith, nat_tests) ]

id_cmp_above : (a b : ItemId) → IsIdBelow b a → id_cmp a b ≡ Greater
id_cmp_above a b above = elim above [ inl less ↦ grind (arith, nat_tests) | inr (same, less) ↦ grind (arith, nat_tests) ]

id_cmp_self : (a b : ItemId) → a ≡ b → id_cmp a b ≡ Equal
id_cmp_self a b same = rw same (grind (arith, nat_tests))

pub id_less : (a b : ItemId) → id_cmp a b ≡ Less → IsIdBelow a b
id_less a b less = elim (ids_compared a b) [
  | inl same ↦ let bad : Equal ≡ Less = sym (id_cmp_self a b same) ∙ less in absurd (cc)
  | inr apart ↦ elim apart [
    | inl below ↦ below
    | inr above ↦ let bad : Greater ≡ Less = sym (id_cmp_above a b above) ∙ less in absurd (cc)
  ]
]

pub id_greater : (a b : ItemId) → id_cmp a b ≡ Greater → IsIdBelow b a
id_greater a b greater = elim (ids_compared a b) [
  | inl same ↦ let bad : Equal ≡ Greater = sym (id_cmp_self a b same) ∙ greater in absurd (cc)
  | inr apart ↦ elim apart [
    | inl below ↦ let bad : Less ≡ Greater = sym (id_cmp_below a b below) ∙ greater in absurd (cc)
    | inr above ↦ above
  ]
]

-- ---- many items taken away

at_has_id : (is : List ItemId) (k : ℕ) (d : ItemId) → k < length is → Has (get_or is k d) is
at_has_id [] k d inside = absurd (omega arith)
at_has_id (i ∷ is) zero d inside = inl refl
at_has_id (i ∷ is) (suc k) d inside = inr (at_has_id is k d (omega arith))

-- Along ids that ascend the comparison with one does not fall.
ids_ascend : (is : List ItemId) (id : ItemId) → AreIdsAscending is → IsNonDecreasingBy (λ y. ordering_index (id_cmp y id)) is
ids_ascend [] id ascending j k d le inside = absurd (omega arith)
ids_ascend (i ∷ is) id ascending zero zero d le inside = omega arith
ids_ascend (i ∷ is) id ascending zero (suc k) d le inside =
    let below : IsIdBelow i (get_or is k d) = ascending.0 (get_or is k d) (at_has_id is k d (omega arith)) in
    not_fall i (get_or is k d) id below
  where
    not_fall : (a b c : ItemId) → IsIdBelow a b → ordering_index (id_cmp a c) ≤ ordering_index (id_cmp b c)
    not_fall a b c below = elim (ids_compared b c) [
      | inl same ↦ rw (id_cmp_below a c (subst (IsIdBelow a) same below)) (omega arith)
      | inr apart ↦ elim apart [
        | inl less ↦ rw (id_cmp_below a c (before_trans a b c below less)) (omega arith)
        | inr above ↦ rw (id_cmp_above b c above) (by_order (id_cmp a c))
      ]
    ]
      where
        by_order : (o : Ordering) → ordering_index o ≤ ordering_index Greater
        by_order Less = omega arith
        by_order Equal = omega arith
        by_order Greater = omega arith
ids_ascend (i ∷ is) id ascending (suc j) zero d le inside = absurd (omega arith)
ids_ascend (i ∷ is) id ascending (suc j) (suc k) d le inside = ids_ascend is id ascending.1 j k d (omega arith) (omega arith)

-- Whether an id is one of some that ascend, by a search by halves.
pub among :
    (is : List ItemId) (id : ItemId) (r : Result ℕ ℕ)
    → AreIdsAscending is → IsSearchInRange r (length is) → IsBinarySearchResult (λ y. id_cmp y id) is r
    → is_ok r ≡ list_any (same_item id) is
among is id (Ok k) ascending inside found =
    sym (list_any_at (same_item id) is k id inside
    (ap (λ (j : ItemId). same_item id j) (id_equal (get_or is k id) id (found id)) ∙ same_item_self id))
among is id (Err k) ascending inside found =
    let parts = found (ids_ascend is id ascending) in
    sym (list_any_none (same_item id) is (λ j d within. elim (cases_lt j k) [
      | inl low ↦
          let below : IsIdBelow (get_or is j d) id = id_less (get_or is j d) id (parts.0 j d (omega arith) low) in
          other_item id (get_or is j d) (λ same. before_differs (get_or is j d) id below (sym same))
      | inr high ↦
          let above : IsIdBelow id (get_or is j d) = id_greater (get_or is j d) id (parts.1 j d high within) in
          other_item id (get_or is j d) (before_differs id (get_or is j d) above)
    ]))

-- The item's id is none of these.
abbrev pub stays : List ItemId → ItemData → Bool
stays is x = not (list_any (same_item x.id) is)

abbrev stays_but : ItemId → ItemData → Bool
stays_but i x = not (same_item x.id i)

all_stay : (xs : List ItemData) → filter (stays []) xs ≡ xs
all_stay [] = refl
all_stay (x ∷ xs) = ap (λ (ys : List ItemData). x ∷ ys) (all_stay xs)

-- Where no item has the id, all stay, and else all but the one with it.
all_others :
    (i : ItemId) (xs : List ItemData)
    → ((y : ItemData) → Has y xs → IsIdBelow i y.id) → filter (stays_but i) xs ≡ xs
all_others i [] above = refl
all_others i (x ∷ xs) above =
    rw (other_item x.id i (λ same. before_differs i x.id (above x (inl refl)) (sym same)))
    (ap (λ (ys : List ItemData). x ∷ ys) (all_others i xs (λ y has. above y (inr has))))

drop_stays :
    (i : ItemId) (xs : List ItemData)
    → AreAscending xs → (filter (stays_but i) xs) ≡ drop_item i xs
drop_stays i [] ascending = refl
drop_stays i (x ∷ xs) ascending = by_test (drop_stays i xs ascending.1) (same_item x.id i) refl
  where
    by_test :
        (filter (stays_but i) xs) ≡ drop_item i xs
        → (b : Bool) → same_item x.id i ≡ b
        → (filter (stays_but i) (x ∷ xs)) ≡ (if b then xs else x ∷ drop_item i xs)
    by_test rest true e =
        rw e ((all_others i xs (λ y has. subst (λ (j : ItemId). IsIdBelow j y.id) (same_item_is x.id i e) (ascending.0 y has))))
    by_test rest false e = rw e (ap (λ (zs : List ItemData). x ∷ zs) rest)

both_stay :
    (i : ItemId) (is : List ItemId) (xs : List ItemData)
    → filter (stays is) (filter (stays_but i) xs) ≡ filter (stays (i ∷ is)) xs
both_stay i is [] = refl
both_stay i is (x ∷ xs) = by_tests (both_stay i is xs) (same_item x.id i) (list_any (same_item x.id) is) refl refl
  where
    by_tests :
        filter (stays is) (filter (stays_but i) xs) ≡ filter (stays (i ∷ is)) xs
        → (b c : Bool) → same_item x.id i ≡ b → list_any (same_item x.id) is ≡ c
        → filter (stays is) (filter (stays_but i) (x ∷ xs)) ≡ filter (stays (i ∷ is)) (x ∷ xs)
    by_tests rest true c e f = rw e rest
    by_tests rest false true e f = rw (e, f) rest
    by_tests rest false false e f = rw (e, f) (ap (λ (ys : List ItemData). x ∷ ys) rest)

-- The items that stay are those without the ones with these ids.
pub drops_stay :
    (is : List ItemId) (xs : List ItemData)
    → AreAscending xs → (filter (stays is) xs) ≡ drop_all is xs
drops_stay [] xs ascending = (all_stay xs)
drops_stay (i ∷ is) xs ascending =
    let one = drop_stays i xs ascending in
    (sym (both_stay i is xs))
    ∙ drops_stay is (filter (stays_but i) xs) (subst AreAscending (sym one) (drop_ascending i xs ascending))
    ∙ ap (λ (ys : List ItemData). drop_all is ys) one

-- ---- what is found once items are put and taken away

-- Ids of which the test finds that they are not the same.
pub ids_differ : (i j : ItemId) → same_item i j ≡ false → i ≢ j
ids_differ i j test same =
    let bad : true ≡ false = sym (same_item_self j) ∙ subst (λ (k : ItemId). same_item k j ≡ false) same test in
    cc

-- Items that are put: the order stays, they are found, and the others stay.
pub puts_ascending : (ps xs : List ItemData) → AreAscending xs → AreAscending (put_all ps xs)
puts_ascending [] xs ascending = ascending
puts_ascending (p ∷ ps) xs ascending = puts_ascending ps (put_item p xs) (put_ascending p xs ascending)

pub puts_others : (ps xs : List ItemData) (j : ItemId) → state_of ps j ≡ None → state_of (put_all ps xs) j ≡ state_of xs j
puts_others [] xs j none = refl
puts_others (p ∷ ps) xs j none = by_test (puts_others ps (put_item p xs) j) (same_item p.id j) refl none
  where
    by_test :
        (state_of ps j ≡ None → state_of (put_all ps (put_item p xs)) j ≡ state_of (put_item p xs) j)
        → (b : Bool) → same_item p.id j ≡ b → (if b then Some p.state else state_of ps j) ≡ None
        → state_of (put_all ps (put_item p xs)) j ≡ state_of xs j
    by_test rest true e n = absurd (cc)
    by_test rest false e n = rest n ∙ put_others p xs j (ids_differ p.id j e)

pub puts_found :
    (ps xs : List ItemData) (j : ItemId) (state : ItemState)
    → AreAscending ps → state_of ps j ≡ Some state → state_of (put_all ps xs) j ≡ Some state
puts_found [] xs j state ascending is = absurd (cc)
puts_found (p ∷ ps) xs j state ascending is =
    by_test (puts_found ps (put_item p xs) j state ascending.1) (same_item p.id j) refl is
  where
    by_test :
        (state_of ps j ≡ Some state → state_of (put_all ps (put_item p xs)) j ≡ Some state)
        → (b : Bool) → same_item p.id j ≡ b → (if b then Some p.state else state_of ps j) ≡ Some state
        → state_of (put_all ps (put_item p xs)) j ≡ Some state
    by_test rest true e s =
        let id : p.id ≡ j = same_item_is p.id j e in
        let none : state_of ps j ≡ None =
        subst (λ (i : ItemId). state_of ps i ≡ None) id (state_below ps p.id ascending.0) in
        let here : state_of (put_item p xs) j ≡ Some p.state =
        subst (λ (i : ItemId). state_of (put_item p xs) i ≡ Some p.state) id (put_found p xs) in
        puts_others ps (put_item p xs) j none ∙ here ∙ s
    by_test rest false e s = rest s

-- So an item is the one that is put, or else the one that was there.
pub look_up :
    (puts items : List ItemData) (j : ItemId)
    → AreAscending puts → state_of (put_all puts items) j ≡ option_or (state_of puts j) (state_of items j)
look_up puts items j ascending = by_put (state_of puts j) refl
  where
    by_put : (o : Option ItemState) → state_of puts j ≡ o → state_of (put_all puts items) j ≡ option_or o (state_of items j)
    by_put None e = puts_others puts items j e
    by_put (Some s) e = puts_found puts items j s ascending e

one_ascending : (x : ItemData) → AreAscending (x ∷ [])
one_ascending x = (λ y has. absurd has, tt)

pub look_up_one :
    (x : ItemData) (items : List ItemData) (j : ItemId)
    → state_of (put_item x items) j ≡ option_or (state_of (x ∷ []) j) (state_of items j)
look_up_one x items j = look_up (x ∷ []) items j (one_ascending x)

first_some : {A : Type 0} (a b c : Option A) → option_or (option_or a b) c ≡ option_or a (option_or b c)
first_some None b c = refl
first_some (Some x) b c = refl

-- One more item that is put is put on top of the others.
pub put_on :
    (x : ItemData) (puts items : List ItemData)
    → AreAscending puts → AreAscending items → put_all (put_item x puts) items ≡ put_item x (put_all puts items)
put_on x puts items ascending_puts ascending =
    ascending_equal (put_all (put_item x puts) items) (put_item x (put_all puts items))
    (puts_ascending (put_item x puts) items ascending) (put_ascending x (put_all puts items) (puts_ascending puts items ascending))
    (λ j.
    look_up (put_item x puts) items j (put_ascending x puts ascending_puts)
    ∙ ap (λ (o : Option ItemState). option_or o (state_of items j)) (look_up_one x puts j)
    ∙ first_some (state_of (x ∷ []) j) (state_of puts j) (state_of items j)
    ∙ ap (λ (o : Option ItemState). option_or (state_of (x ∷ []) j) o) (sym (look_up puts items j ascending_puts))
    ∙ sym (look_up_one x (put_all puts items) j))

-- An item that is put as it is changes nothing.
put_same :
    (i : ItemId) (state : ItemState) (items : List ItemData)
    → AreAscending items → state_of items i ≡ Some state → put_item (item_with i state) items ≡ items
put_same i state items ascending is =
    ascending_equal (put_item (item_with i state) items) items (put_ascending (item_with i state) items ascending) ascending
    (λ j. look_up_one (item_with i state) items j ∙ by_id j (same_item i j) refl)
  where
    by_id : (j : ItemId) (b : Bool) → same_item i j ≡ b → option_or (if b then Some state else None) (state_of items j) ≡ state_of items j
    by_id j true e = sym is ∙ ap (state_of items) (same_item_is i j e)
    by_id j false e = refl

pub same_state : (i : ItemId) (items : List ItemData) → AreAscending items → with_state_of i (state_of items i) items ≡ items
same_state i items ascending = by_state (state_of items i) refl
  where
    by_state : (o : Option ItemState) → state_of items i ≡ o → with_state_of i o items ≡ items
    by_state None e = drop_absent i items e
    by_state (Some state) e = put_same i state items ascending e

-- Items that are taken away: the order stays, they are gone, and the others stay.
pub drops_ascending : (is : List ItemId) (xs : List ItemData) → AreAscending xs → AreAscending (drop_all is xs)
drops_ascending [] xs ascending = ascending
drops_ascending (i ∷ is) xs ascending = drops_ascending is (drop_item i xs) (drop_ascending i xs ascending)

drop_none :
    (i : ItemId) (xs : List ItemData) (j : ItemId)
    → AreAscending xs → state_of xs j ≡ None → state_of (drop_item i xs) j ≡ None
drop_none i xs j ascending none = by_test (same_item i j) refl
  where
    by_test : (b : Bool) → same_item i j ≡ b → state_of (drop_item i xs) j ≡ None
    by_test true e = subst (λ (k : ItemId). state_of (drop_item i xs) k ≡ None) (same_item_is i j e) (drop_gone i xs ascending)
    by_test false e = drop_others i xs j (ids_differ i j e) ∙ none

drops_none :
    (is : List ItemId) (xs : List ItemData) (j : ItemId)
    → AreAscending xs → state_of xs j ≡ None → state_of (drop_all is xs) j ≡ None
drops_none [] xs j ascending none = none
drops_none (i ∷ is) xs j ascending none =
    drops_none is (drop_item i xs) j (drop_ascending i xs ascending) (drop_none i xs j ascending none)

pub drops_gone :
    (is : List ItemId) (xs : List ItemData) (j : ItemId)
    → AreAscending xs → Has j is → state_of (drop_all is xs) j ≡ None
drops_gone [] xs j ascending has = absurd has
drops_gone (i ∷ is) xs j ascending has =
    elim has [
      | inl same ↦
          let gone : state_of (drop_item i xs) j ≡ None =
          subst (λ (k : ItemId). state_of (drop_item i xs) k ≡ None) (sym same) (drop_gone i xs ascending) in
          drops_none is (drop_item i xs) j (drop_ascending i xs ascending) gone
      | inr there ↦ drops_gone is (drop_item i xs) j (drop_ascending i xs ascending) there
    ]

pub drops_others :
    (is : List ItemId) (xs : List ItemData) (j : ItemId)
    → ¬ Has j is → state_of (drop_all is xs) j ≡ state_of xs j
drops_others [] xs j not = refl
drops_others (i ∷ is) xs j not =
    drops_others is (drop_item i xs) j (λ has. not (inr has)) ∙ drop_others i xs j (λ same. not (inl (sym same)))
