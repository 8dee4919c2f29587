-- A list that is made one element after another of those of another list.
use Rattle.std.proofs.Common.{◌≡◌, ℕ, ◌+◌, ◌<◌, ◌≤◌, List, [], ◌∷◌, ◌++◌, map, take, length, get_or, sym, ap, ◌∙◌}
use Rattle.std.proofs.lemmas.Grind.{take_at_read}
use Rattle.std.proofs.lemmas.List.{map-append, take_all}

pub mapped_more : {A B : Type 0} (f : A → B) (xs : List A) (i : ℕ) (d : A) (old new : List B) (y : B)
    → i < length xs → old ≡ map f (take i xs) → new ≡ old ++ y ∷ [] → y ≡ f (get_or xs i d) → new ≡ map f (take (i + 1) xs)
mapped_more {A} {B} f xs i d old new y inside before now made =
    now
    ∙ (ap (λ (ys : List B). ys ++ y ∷ []) before
    ∙ (ap (λ (z : B). map f (take i xs) ++ z ∷ []) made
    ∙ (sym (map-append f (take i xs) (get_or xs i d ∷ []))
    ∙ ap (map f) (sym (take_at_read xs i d inside).1))))

pub mapped_all : {A B : Type 0} (f : A → B) (xs zs : List A) (i : ℕ) (made : List B)
    → length xs ≤ i → made ≡ map f (take i xs) → xs ≡ zs → made ≡ map f zs
mapped_all f xs zs i made past so_far same = so_far ∙ (ap (map f) (take_all i xs past) ∙ ap (map f) same)
