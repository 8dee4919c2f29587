-- A text is cut where a tick and a replica meet.
use Rattle.std.proofs.Common.{◌≡◌, ℕ, ◌<◌, ◌^◌, List, Option, Some, MatchOption, decimal, arith, refl}
use Rattle.std.proofs.lemmas.Str.Pattern.{IsSplitOnceResult, split_after}
use Rattle.sfx_ids.specs.Text.{IsSeparator, pair_text, replica_text}
use Rattle.sfx_ids.specs.Tick.{IsTick}
use Rattle.sfx_ids.proofs.TickTexts.{no_separator}
use denote.Ref.{Bor}

pub cut_at_separator : (separator : ℕ) (text : List ℕ) (r : Option (Bor (List ℕ) × Bor (List ℕ))) → IsSplitOnceResult separator text r → IsSeparator separator
    → (tick replica : ℕ) → IsTick tick → text ≡ pair_text separator tick replica
    → MatchOption r ⊥ (λ x. (x.0.now ≡ decimal tick) × (x.1.now ≡ replica_text replica))
cut_at_separator separator text r split fits tick replica is_tick is_text =
    let in_range : tick < 2 ^ 64 = omega arith in
    split_after separator text (decimal tick) (replica_text replica) r split fits.1 is_text (no_separator tick separator in_range fits.0)

pub same_pair : (a b c d : ℕ) → a ≡ c → b ≡ d
    → let p : ℕ × ℕ = (a, b) in let q : ℕ × ℕ = (c, d) in Some p ≡ Some q
same_pair a b c d first second = rw (first, second) refl
