-- What is known of a source that may tell what it has left.
use Rattle.std.proofs.Common.{◌≡◌, ◌⊎◌, ℕ, false, nat_eq, List, [], Option, Some, None, IfSome, inl, inr, refl, ap, subst, arith}
use Rattle.std.proofs.lemmas.Bool.Decides.{nat_tests}
use Rattle.sfx_outside.specs.Source.{TakesAtMost}
use Rattle.sfx_run.specs.declared.status.Status.{Status}
use Rattle.sfx_run.specs.declared.status.Status.TheVariants.{Memory, SinkFault}
use Rattle.sfx_run.specs.Status.{HasBrokenOff, HasNotBegun, IsAnswered, status_number}

-- what holds of the bytes that were read holds of those that were left
pub told : {X : Type 0} (P : X → Type 0) (o : Option X) (x : X) → IfSome o (λ y. x ≡ y) → P x → IfSome o P
told P None x same fact = tt
told P (Some y) x same fact = subst P same fact

-- what holds of all bytes holds of those that were left
pub told_anyhow : {X : Type 0} (P : X → Type 0) (o : Option X) → ((x : X) → P x) → IfSome o P
told_anyhow P None fact = tt
told_anyhow P (Some y) fact = fact y

-- a run that answered lines did not end before the first
pub has_begun : (s : Status) → IsAnswered s ⊎ HasBrokenOff s → HasNotBegun s → ⊥
has_begun s begun not = grind arith

-- a run that ends otherwise answered not every line
pub unanswered : (s : Status) → HasNotBegun s ⊎ HasBrokenOff s → IsAnswered s → ⊥
unanswered s other answered = grind arith

-- ends with different numbers are not the same
pub unlike : (s t : Status) → nat_eq (status_number s) (status_number t) ≡ false → s ≡ t → ⊥
unlike s t differ is = let same = ap status_number is in grind (arith, nat_tests)

-- what holds by neither of two facts does not hold
pub neither : {A B : Type 0} → (A → ⊥) → (B → ⊥) → A ⊎ B → ⊥
neither no_a no_b (inl a) = no_a a
neither no_a no_b (inr b) = no_b b

-- where the output did not fail, every line was answered, or memory ran out
pub answered_or_memory : (s : Status) → IsAnswered s ⊎ HasBrokenOff s → (s ≡ SinkFault → ⊥) → IsAnswered s ⊎ (s ≡ Memory)
answered_or_memory s (inl answered) fine = inl answered
answered_or_memory s (inr (inl is)) fine = absurd (fine is)
answered_or_memory s (inr (inr is)) fine = inr is

-- where nothing is read, no more than so much is
pub takes_nothing : (most : ℕ) (left : Option (List ℕ)) → TakesAtMost most left left
takes_nothing most None = ([], omega arith, refl)
takes_nothing most (Some rest) = ([], omega arith, refl)
