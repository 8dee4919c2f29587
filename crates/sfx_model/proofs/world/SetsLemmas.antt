use Rattle.std.proofs.Common.{◌⊎◌, inl, inr, List, [], ◌∷◌, ◌++◌}
use Rattle.sfx_model.specs.world.Sets.{Has, IsPart}
use Rattle.sfx_model.proofs.world.Step.{AreSame}

pub has_left : {A : Type 0} (x : A) (xs ys : List A) → Has x xs → Has x (xs ++ ys)
has_left x [] ys h = absurd h
has_left x (z ∷ zs) ys h = elim h [ inl e ↦ inl e | inr t ↦ inr (has_left x zs ys t) ]

pub has_right : {A : Type 0} (x : A) (xs ys : List A) → Has x ys → Has x (xs ++ ys)
has_right x [] ys h = h
has_right x (z ∷ zs) ys h = inr (has_right x zs ys h)

pub has_either : {A : Type 0} (x : A) (xs ys : List A) → Has x (xs ++ ys) → Has x xs ⊎ Has x ys
has_either x [] ys h = inr h
has_either x (z ∷ zs) ys h =
    elim h [ inl e ↦ inl (inl e) | inr t ↦ elim (has_either x zs ys t) [ inl a ↦ inl (inr a) | inr b ↦ inr b ] ]

pub same_self : {A : Type 0} (xs : List A) → AreSame xs xs
same_self xs = record { there = λ x h. h; back = λ x h. h }

-- a list joined with a part of it has the same elements
pub joined_left : {A : Type 0} (xs ys : List A) → IsPart ys xs → AreSame xs (xs ++ ys)
joined_left xs ys part = record {
  there = λ x h. has_left x xs ys h;
  back = λ x h. elim (has_either x xs ys h) [ inl a ↦ a | inr b ↦ part x b ];
}

pub joined_right : {A : Type 0} (xs ys : List A) → IsPart xs ys → AreSame ys (xs ++ ys)
joined_right xs ys part = record {
  there = λ x h. has_right x xs ys h;
  back = λ x h. elim (has_either x xs ys h) [ inl a ↦ part x a | inr b ↦ b ];
}
