-- Forgotten deletions at each place.
use Rattle.std.proofs.Common.{◌≡◌, Bool, true, false, refl, sym, ap, ◌∙◌, ℕ, [], if◌then◌else◌, Some}
use Rattle.sfx_ids.specs.declared.cut.Cut.{Cut}
use Rattle.sfx_ids.specs.declared.cut.Cut.TheVariants.{Start}
use Rattle.sfx_ids.specs.Cut.{cut_le}
use Rattle.sfx_vector.specs.Clocks.{AreClocks, Clocks, tick_of}
use Rattle.sfx_segments.specs.Segments.{IsPlace}
use Rattle.sfx_segments.proofs.SegmentsLemmas.{one_form}
use Rattle.sfx_knowledge.specs.Forgotten.{Forgets, AreForgets, fvec, nothing_forgotten}
use Rattle.sfx_knowledge.proofs.KnowledgeLemmas.{value_is}

pub same_forgets : (a b : Forgets) → AreForgets a → AreForgets b → ((place : Cut) → IsPlace place → fvec a place ≡ fvec b place) → a ≡ b
same_forgets a b form_a form_b alike =
    one_form a b form_a.segments form_b.segments
    (λ place is_place. value_is a [] place form_a.segments ∙ ap Some (alike place is_place) ∙ sym (value_is b [] place form_b.segments))

pub nothing_form : AreForgets nothing_forgotten
nothing_form = record { segments = (refl, tt); clocks = λ place inside. no_clocks (cut_le Start place) }
  where
    no_clocks : (b : Bool) → AreClocks (if b then [] else [])
    no_clocks true = tt
    no_clocks false = tt

pub none_forgotten : (place : Cut) (r : ℕ) → tick_of (fvec nothing_forgotten place) r ≡ 0
none_forgotten place r = by_test (cut_le Start place)
  where
    by_test : (b : Bool) → tick_of (let none : Clocks = [] in if b then none else none) r ≡ 0
    by_test true = refl
    by_test false = refl
