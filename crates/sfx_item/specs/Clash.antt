use Rattle.std.specs.Prelude.{◌≡◌, ◌⊎◌, ◌==◌, ℕ, List, ◌∷◌, ◌++◌}
use Rattle.std.specs.List.{slice_split}
use Rattle.sfx_item.specs.Name.{slash}

-- The components of a name: what stands between its slashes.
abbrev pub components : List ℕ → List (List ℕ)
components name = slice_split (λ b. b == slash) name

-- The first name lies below the other: its components are the other's and some more.
pub record IsBelow (name other : List ℕ) : Type 0 where
  pub first : List ℕ
  pub more : List (List ℕ)
  pub split : components name ≡ components other ++ first ∷ more

-- Two names clash where they are equal or one lies below the other, as a file in a folder of the other's
-- name would.
abbrev pub Clash : List ℕ → List ℕ → Type 0
Clash a b = (a ≡ b) ⊎ (IsBelow a b ⊎ IsBelow b a)
