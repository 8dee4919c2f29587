-- The ids of the items in a range, along a walk over the items from its begin.
use Rattle.std.proofs.Common.{◌≡◌, ◌<◌, Bool, true, false, ◌&&◌, cond, List, [], ◌∷◌, length, map, Option, Some, None, inl, inr, refl, sym, ◌∙◌, ap, subst}
use Rattle.std.specs.List.{filter}
use Rattle.std.specs.Option.{option_map}
use Rattle.sfx_ids.specs.declared.cut.Cut.{Cut}
use Rattle.sfx_ids.specs.declared.cut.Cut.TheVariants.{At, After}
use Rattle.sfx_ids.specs.declared.item_id.ItemId.{ItemId}
use Rattle.sfx_ids.specs.Cut.{cut_le, cut_lt}
use Rattle.sfx_ids.proofs.CutLemmas.{at-lt-after, le-not_lt, le_trans, lt-le, not_lt}
use Rattle.sfx_model.proofs.sessions.SessionsEnd.{has_filtered}
use Rattle.sfx_model.specs.sessions.Batch.{ids_in}
use Rattle.sfx_model.specs.world.Events.{is_in}
use Rattle.sfx_item.specs.Item.{ItemData}
use Rattle.sfx_model.specs.members.Members.{AreAscending}
use Rattle.sfx_model.specs.members.Readings.{first_from, items_from}
use Rattle.sfx_model.specs.world.Sets.{Has}
use Rattle.sfx_provider.proofs.WalkLemmas.{ended, fewer, stepped}

-- The item's place is before the cut.
abbrev is_before : Cut → ItemData → Bool
is_before hi x = cut_lt (At x.id) hi

-- The ids of the items before the cut.
abbrev ids_before : Cut → List ItemData → List ItemId
ids_before hi items = map (λ x. x.id) (filter (is_before hi) items)

-- The ids in a range are those of the items from its begin that are before its end.
ids_from : (lo hi : Cut) (items : List ItemData) → ids_in lo hi items ≡ ids_before hi (items_from lo items)
ids_from lo hi [] = refl
ids_from lo hi (x ∷ xs) = by_tests (ids_from lo hi xs) (cut_le lo (At x.id)) (is_before hi x) refl
  where
    by_tests :
        ids_in lo hi xs ≡ ids_before hi (items_from lo xs)
        → (b c : Bool) → is_before hi x ≡ c
        → map (λ (y : ItemData). y.id) (cond (b && c) (x ∷ filter (λ y. is_in lo hi y.id) xs) (filter (λ y. is_in lo hi y.id) xs))
        ≡ ids_before hi (cond b (x ∷ items_from lo xs) (items_from lo xs))
    by_tests rest true true before = rw before (ap (λ (ids : List ItemId). x.id ∷ ids) rest)
    by_tests rest true false before = rw before rest
    by_tests rest false c before = rest

none_before :
    (hi : Cut) (items : List ItemData)
    → ((y : ItemData) → Has y items → cut_le hi (At y.id) ≡ true) → ids_before hi items ≡ []
none_before hi [] behind = refl
none_before hi (x ∷ xs) behind =
    rw (le-not_lt hi (At x.id) (behind x (inl refl))) (none_before hi xs (λ y has. behind y (inr has)))

-- The first item from the place, by its id.
pub record IsFirst (place : Cut) (items : List ItemData) (i : ItemId) : Type 0 where
  pub item : ItemData
  pub found : first_from place items ≡ Some item
  pub is : item.id ≡ i
  pub from : cut_le place (At i) ≡ true

first_behind :
    (place : Cut) (items : List ItemData) (x : ItemData)
    → first_from place items ≡ Some x → cut_le place (At x.id) ≡ true
first_behind place [] x e = absurd (cc)
first_behind place (y ∷ ys) x e = by_test (first_behind place ys x) (cut_le place (At y.id)) refl e
  where
    by_test :
        (first_from place ys ≡ Some x → cut_le place (At x.id) ≡ true)
        → (b : Bool) → cut_le place (At y.id) ≡ b → cond b (Some y) (first_from place ys) ≡ Some x
        → cut_le place (At x.id) ≡ true
    by_test rest true le e =
        let same : y ≡ x = cc in
        subst (λ (z : ItemData). cut_le place (At z.id) ≡ true) same le
    by_test rest false le e = rest e

pub first_is :
    (place : Cut) (items : List ItemData) (i : ItemId)
    → option_map (λ x. x.id) (first_from place items) ≡ Some i → IsFirst place items i
first_is place items i e = by_first (first_from place items) refl e
  where
    by_first :
        (o : Option ItemData) → first_from place items ≡ o → option_map (λ x. x.id) o ≡ Some i
        → IsFirst place items i
    by_first None found e = absurd (cc)
    by_first (Some x) found e =
        let is : x.id ≡ i = cc in record {
          item = x;
          found = found;
          is = is;
          from = subst (λ (j : ItemId). cut_le place (At j) ≡ true) is (first_behind place items x found);
        }

-- It is in the range: its id comes first, and then those behind it.
pub listed_on :
    (place hi : Cut) (items : List ItemData) (i : ItemId)
    → AreAscending items → IsFirst place items i → true ≡ is_in place hi i
    → ids_in place hi items ≡ i ∷ ids_in (After i) hi items
listed_on place hi items i ascending first within =
    subst (λ (j : ItemId). ids_in place hi items ≡ j ∷ ids_in (After j) hi items) first.is
    (ids_from place hi items
    ∙ ap (ids_before hi) (stepped place items x ascending first.found)
    ∙ rw before (ap (λ (ids : List ItemId). x.id ∷ ids) (sym (ids_from (After x.id) hi items))))
  where
    x : ItemData
    x = first.item

    before : cut_lt (At x.id) hi ≡ true
    before = subst (λ (j : ItemId). cut_lt (At j) hi ≡ true) (sym first.is) (sym (rw first.from at within))

-- It is not: there are none.
pub listed_up :
    (place hi : Cut) (items : List ItemData) (i : ItemId)
    → AreAscending items → IsFirst place items i → false ≡ is_in place hi i
    → ids_in place hi items ≡ []
listed_up place hi items i ascending first beyond =
    ids_from place hi items
    ∙ ap (ids_before hi) (stepped place items x ascending first.found)
    ∙ none_before hi (x ∷ items_from (After x.id) items) (λ y has. elim has [
      | inl same ↦ subst (λ (z : ItemData). cut_le hi (At z.id) ≡ true) (sym same) behind
      | inr there ↦
          le_trans hi (At x.id) (At y.id) behind
          (le_trans (At x.id) (After x.id) (At y.id) (lt-le (At x.id) (After x.id) (at-lt-after x.id))
          (has_filtered (λ z. cut_le (After x.id) (At z.id)) y items there).0)
    ])
  where
    x : ItemData
    x = first.item

    behind : cut_le hi (At x.id) ≡ true
    behind =
        subst (λ (j : ItemId). cut_le hi (At j) ≡ true) (sym first.is)
        (not_lt (At i) hi (sym (rw first.from at beyond)))

-- There is no item from the place on: there are none.
pub listed_out :
    (place hi : Cut) (items : List ItemData)
    → option_map (λ x. x.id) (first_from place items) ≡ None → ids_in place hi items ≡ []
listed_out place hi items none =
    ids_from place hi items ∙ ap (ids_before hi) (ended place items (by_first (first_from place items) none))
  where
    by_first : (o : Option ItemData) → option_map (λ x. x.id) o ≡ None → o ≡ None
    by_first None e = refl
    by_first (Some x) e = absurd (cc)

-- Fewer items are left behind it.
pub listed_fewer :
    (place : Cut) (items : List ItemData) (i : ItemId)
    → AreAscending items → IsFirst place items i
    → length (items_from (After i) items) < length (items_from place items)
listed_fewer place items i ascending first =
    subst (λ (j : ItemId). length (items_from (After j) items) < length (items_from place items)) first.is
    (fewer place items first.item ascending first.found)
