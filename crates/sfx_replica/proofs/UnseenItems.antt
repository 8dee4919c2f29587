-- Items that are looked for one after another, up to a limit.
use Rattle.std.proofs.Common.{◌≡◌, ℕ, suc, ◌+◌, ◌-◌, ◌<◌, ◌≤◌, Bool, true, false, ◌&&◌, List, [], ◌∷◌, ◌++◌, length, take, drop, get_or, map, refl, sym, ◌∙◌, ap, append_assoc, subst, arith}
use Rattle.std.proofs.Math.Seq.{take-nil}
use Rattle.std.proofs.lemmas.List.{append-nil, drop_all, length-append}
use Rattle.sfx_ids.specs.declared.cut.Cut.{Cut}
use Rattle.sfx_ids.specs.declared.cut.Cut.TheVariants.{At}
use Rattle.sfx_ids.specs.Cut.{cut_le}
use Rattle.sfx_knowledge.specs.Knowledge.{Known}
use Rattle.sfx_item.specs.Item.{ItemData}
use Rattle.sfx_model.specs.members.Readings.{is_unseen, unseen}
use Rattle.sfx_provider.proofs.CourseLemmas.{opened}
use Rattle.sfx_replica.specs.Items.{is_next_unseen}

-- What was found so far, and what those that are left give up to the limit, are all up to the limit.
pub record Gathers {A : Type 0} (view : ItemData → A) (limit : ℕ) (whole : List ItemData) (found : List A) (left : List ItemData) : Type 0 where
  pub all : map view (take limit whole) ≡ found ++ map view (take (limit - length found) left)
  pub most : length found ≤ limit

-- The first item is one of them, or it is passed over.
pub unseen_first :
    (units : ℕ) (known : Known) (from : Cut) (x : ItemData) (xs : List ItemData)
    → is_next_unseen units known from x ≡ true → unseen units known from (x ∷ xs) ≡ x ∷ unseen units known from xs
unseen_first units known from x xs is = by_tests (cut_le from (At x.id)) (is_unseen units known x) refl refl is
  where
    by_tests :
        (a b : Bool) → cut_le from (At x.id) ≡ a → is_unseen units known x ≡ b → a && b ≡ true
        → unseen units known from (x ∷ xs) ≡ x ∷ unseen units known from xs
    by_tests true true e f g = rw (e, f) refl
    by_tests true false e f g = absurd (cc)
    by_tests false b e f g = absurd (cc)

pub unseen_passed :
    (units : ℕ) (known : Known) (from : Cut) (x : ItemData) (xs : List ItemData)
    → is_next_unseen units known from x ≡ false → unseen units known from (x ∷ xs) ≡ unseen units known from xs
unseen_passed units known from x xs is = by_tests (cut_le from (At x.id)) (is_unseen units known x) refl refl is
  where
    by_tests :
        (a b : Bool) → cut_le from (At x.id) ≡ a → is_unseen units known x ≡ b → a && b ≡ false
        → unseen units known from (x ∷ xs) ≡ unseen units known from xs
    by_tests true true e f g = absurd (cc)
    by_tests true false e f g = rw (e, f) refl
    by_tests false b e f g = rw e refl

-- At first nothing is found.
pub gathers_none : {A : Type 0} (view : ItemData → A) (limit : ℕ) (whole : List ItemData) → Gathers view limit whole [] whole
gathers_none view limit whole =
    let same : limit - 0 ≡ limit = omega arith in
    record { all = ap (λ (n : ℕ). map view (take n whole)) (sym same); most = omega arith }

-- One more is found.
pub gathers_on :
    {A : Type 0} (view : ItemData → A) (limit : ℕ) (whole : List ItemData) (found : List A) (x : ItemData) (left : List ItemData)
    → Gathers view limit whole found (x ∷ left) → length found < limit
    → Gathers view limit whole (found ++ view x ∷ []) left
gathers_on {A} view limit whole found x left so_far room =
    let some : limit - length found ≡ suc (limit - length (found ++ view x ∷ [])) = rw (length-append found (view x ∷ [])) (omega (arith, room)) in record {
      all = so_far.all ∙ ap (λ (n : ℕ). found ++ map view (take n (x ∷ left))) some ∙ sym (append_assoc found (view x ∷ []) (map view (take (limit - length (found ++ view x ∷ [])) left)));
      most = rw (length-append found (view x ∷ [])) (omega (arith, room));
    }

-- Where as many as the limit are found, they are all.
pub gathered_full :
    {A : Type 0} (view : ItemData → A) (limit : ℕ) (whole : List ItemData) (found : List A) (left : List ItemData)
    → Gathers view limit whole found left → limit ≤ length found → found ≡ map view (take limit whole)
gathered_full {A} view limit whole found left so_far full =
    let none : limit - length found ≡ 0 = omega (arith, full) in
    sym (so_far.all ∙ ap (λ (n : ℕ). found ++ map view (take n left)) none ∙ append-nil found)

-- Where nothing is left, they are all.
pub gathered_all :
    {A : Type 0} (view : ItemData → A) (limit : ℕ) (whole : List ItemData) (found : List A)
    → Gathers view limit whole found [] → found ≡ map view (take limit whole)
gathered_all {A} view limit whole found so_far =
    sym (so_far.all ∙ ap (λ (xs : List ItemData). found ++ map view xs) (take-nil (limit - length found)) ∙ append-nil found)

-- The next item is one, or it is passed over.
pub next_found :
    {A : Type 0} (U : ℕ) (view : ItemData → A) (limit : ℕ) (known : Known) (from : Cut) (items : List ItemData) (i : ℕ)
    (x : ItemData) (found : List A)
    → x ≡ get_or items i x → i < length items
    → Gathers view limit (unseen U known from items) found (unseen U known from (drop i items))
    → is_next_unseen U known from x ≡ true → length found < limit
    → Gathers view limit (unseen U known from items) (found ++ view x ∷ []) (unseen U known from (drop (i + 1) items))
next_found U view limit known from items i x found is inside so_far next room =
    let first = ap (λ (xs : List ItemData). unseen U known from xs) (opened items i x is inside)
    ∙ unseen_first U known from x (drop (i + 1) items) next in
    gathers_on view limit (unseen U known from items) found x
    (unseen U known from (drop (i + 1) items)) (rw first at so_far) room

pub next_passed :
    {A : Type 0} (U : ℕ) (view : ItemData → A) (limit : ℕ) (known : Known) (from : Cut) (items : List ItemData) (i : ℕ)
    (x : ItemData) (found : List A)
    → x ≡ get_or items i x → i < length items
    → Gathers view limit (unseen U known from items) found (unseen U known from (drop i items))
    → is_next_unseen U known from x ≡ false
    → Gathers view limit (unseen U known from items) found (unseen U known from (drop (i + 1) items))
next_passed U view limit known from items i x found is inside so_far next =
    let first = ap (λ (xs : List ItemData). unseen U known from xs) (opened items i x is inside)
    ∙ unseen_passed U known from x (drop (i + 1) items) next in
    rw first at so_far

-- Where no item is left, they are all.
pub gathered_end :
    {A : Type 0} (U : ℕ) (view : ItemData → A) (limit : ℕ) (known : Known) (from : Cut) (items : List ItemData) (i : ℕ) (found : List A)
    → length items ≤ i
    → Gathers view limit (unseen U known from items) found (unseen U known from (drop i items))
    → found ≡ map view (take limit (unseen U known from items))
gathered_end U view limit known from items i found past so_far =
    gathered_all view limit (unseen U known from items) found
    (subst (λ (xs : List ItemData). Gathers view limit (unseen U known from items) found (unseen U known from xs)) (drop_all i items past) so_far)
