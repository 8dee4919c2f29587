-- Items that are looked at one after another: what those that are left give, at the next one and at the end.
use Rattle.std.proofs.Common.{◌≡◌, ℕ, ◌+◌, ◌<◌, ◌≤◌, Bool, true, false, if◌then◌else◌, List, [], ◌∷◌, ◌++◌, length, drop, get_or, Option, refl, sym, ap, ◌∙◌, append_assoc}
use Rattle.std.proofs.lemmas.List.{drop_all}
use Rattle.sfx_ids.specs.declared.item_id.ItemId.{ItemId}
use Rattle.sfx_item.specs.Item.{ItemData}
use Rattle.sfx_model.specs.members.Readings.{clashing_with, is_in_the_way}
use Rattle.sfx_provider.proofs.CourseLemmas.{opened}

-- What a function of the items that are left gives at the next one, and at the end.
pub next_gives :
    {A : Type 0} (of : List ItemData → A) (items : List ItemData) (j : ℕ) (x : ItemData) (whole : A)
    → x ≡ get_or items j x → j < length items → whole ≡ of (drop j items)
    → whole ≡ of (x ∷ (drop (j + 1) items))
next_gives of items j x whole is inside so_far = so_far ∙ ap (λ (xs : List ItemData). of xs) (opened items j x is inside)

pub end_gives :
    {A : Type 0} (of : List ItemData → A) (items : List ItemData) (j : ℕ) (whole : A)
    → length items ≤ j → whole ≡ of (drop j items) → whole ≡ of []
end_gives of items j whole past so_far = so_far ∙ ap (λ (xs : List ItemData). of xs) (drop_all j items past)

-- A test that is passed, and one that is not.
pub if_true : {A : Type 0} (b : Bool) (x y : A) → b ≡ true → (if b then x else y) ≡ x
if_true true x y e = refl
if_true false x y e = absurd (cc)

pub if_false : {A : Type 0} (b : Bool) (x y : A) → b ≡ false → (if b then x else y) ≡ y
if_false true x y e = absurd (cc)
if_false false x y e = refl

-- The ids of items that are in the way, after one more and past one.
pub clashing_more :
    (name : List ℕ) (except : Option ItemId) (x : ItemData) (left : List ItemData) (whole found next : List ItemId)
    → is_in_the_way name except x ≡ true → whole ≡ found ++ clashing_with name except (x ∷ left) → next ≡ found ++ x.id ∷ []
    → whole ≡ next ++ clashing_with name except left
clashing_more name except x left whole found next way so_far now =
    so_far
    ∙ (ap (λ (ids : List ItemId). found ++ ids) (if_true (is_in_the_way name except x) (x.id ∷ clashing_with name except left) (clashing_with name except left) way)
    ∙ (sym (append_assoc found (x.id ∷ []) (clashing_with name except left)) ∙ ap (λ (ids : List ItemId). ids ++ clashing_with name except left) (sym now)))

pub clashing_past :
    (name : List ℕ) (except : Option ItemId) (x : ItemData) (left : List ItemData) (whole found : List ItemId)
    → is_in_the_way name except x ≡ false → whole ≡ found ++ clashing_with name except (x ∷ left)
    → whole ≡ found ++ clashing_with name except left
clashing_past name except x left whole found way so_far =
    so_far
    ∙ ap (λ (ids : List ItemId). found ++ ids) (if_false (is_in_the_way name except x) (x.id ∷ clashing_with name except left) (clashing_with name except left) way)
