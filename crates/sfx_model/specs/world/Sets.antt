use Rattle.std.specs.Prelude.{◌≡◌, ◌⊎◌, List, [], ◌∷◌}

-- The list has this element. Lists of versions, records and sites are read as sets: neither order nor
-- repetition counts.
abbrev pub Has : {A : Type 0} → A → List A → Type 0
Has x [] = ⊥
Has x (y ∷ ys) = (x ≡ y) ⊎ Has x ys

-- Each element of the first list is in the second.
abbrev pub IsPart : {A : Type 0} → List A → List A → Type 0
IsPart {A} xs ys = (x : A) → Has x xs → Has x ys
