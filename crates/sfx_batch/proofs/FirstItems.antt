-- The first items of a list, and whether there are more, found by asking for one more of them.
use Rattle.std.proofs.Common.{◌≡◌, ℕ, zero, suc, ◌+◌, ◌-◌, ◌<◌, ◌≤◌, ◌^◌, min, if◌then◌else◌, nat_lt, List, [], ◌∷◌, length, take, slice_get, Some, arith, refl, ◌∙◌, ap, subst}
use Rattle.std.proofs.lemmas.Bool.Decides.{nat_tests}
use Rattle.std.proofs.lemmas.List.{length-take}
use Rattle.sfx_ids.specs.declared.cut.Cut.{Cut}
use Rattle.sfx_ids.specs.declared.cut.Cut.TheVariants.{After, End}
use Rattle.sfx_model.specs.sessions.Batch.{place_behind}
use Rattle.sfx_item.specs.Item.{ItemData}

-- Behind the items is behind the last of them.
behind_next :
    (x : ItemData) (xs : List ItemData) (last : ItemData)
    → slice_get (x ∷ xs) (length xs) ≡ Some last → place_behind (After x.id) xs ≡ After last.id
behind_next x [] last read = let same : x ≡ last = cc in ap (λ (z : ItemData). After z.id) same
behind_next x (y ∷ ys) last read = behind_next y ys last read

pub behind_last :
    (place : Cut) (items : List ItemData) (last : ItemData)
    → slice_get items (length items - 1) ≡ Some last → place_behind place items ≡ After last.id
behind_last place [] last read = absurd (cc)
behind_last place (x ∷ xs) last read =
    let end : length (x ∷ xs) - 1 ≡ length xs = omega arith in
    behind_next x xs last (subst (λ n. slice_get (x ∷ xs) n ≡ Some last) end read)

-- How many are asked for: one more, where there is such a number.
abbrev pub one_more : ℕ → ℕ
one_more size = min (size + 1) (2 ^ 64 - 1)

-- The first of the items that were given are the first of all.
taken_of : {A : Type 0} (size limit : ℕ) (xs : List A) → size ≤ limit → take size (take limit xs) ≡ take size xs
taken_of zero limit xs less = refl
taken_of (suc size) zero xs less = absurd (omega (arith, less))
taken_of (suc size) (suc limit) [] less = refl
taken_of {A} (suc size) (suc limit) (x ∷ xs) less =
    ap (λ (ys : List A). x ∷ ys) (taken_of size limit xs (omega (arith, less)))

-- There are more of those that were given exactly if there are more of all; that many fit no list.
more_of :
    {A : Type 0} (size : ℕ) (xs : List A)
    → length (take (one_more size) xs) < 2 ^ 63
    → nat_lt size (length (take (one_more size) xs)) ≡ nat_lt size (length xs)
more_of size xs few =
    let given = length-take (one_more size) xs in
    grind (arith, nat_tests, given, few)

pub first_taken :
    (size : ℕ) (given : List ItemData) (xs : List ItemData)
    → size < 2 ^ 64 → given ≡ take (one_more size) xs
    → (take size given) ≡ take size xs
first_taken size given xs fits is =
    ap (take size) is ∙ taken_of size (one_more size) xs (omega (arith, fits))

pub end_taken :
    (size : ℕ) (given : List ItemData) (xs : List ItemData) (end : Cut)
    → size < 2 ^ 64 → length given < 2 ^ 63 → given ≡ take (one_more size) xs
    → end ≡ (if nat_lt size (length given) then place_behind End (take size given) else End)
    → end ≡ (if nat_lt size (length xs) then place_behind End (take size xs) else End)
end_taken size given xs end fits few is ends =
    let many : length given ≡ length (take (one_more size) xs) = ap length is in
    let more = more_of size xs (rw many at few) in
    let taken = first_taken size given xs fits is in
    rw (many, more, taken) at ends
