-- A value that is read and written again: its text is the text that was read, where that is a text of the value wanted.
use Rattle.std.proofs.Common.{◌≡◌, ℕ, List, Some, Option, true, true≢false, None, IsSome, IfSome, ◌↔◌, subst, sym, ap, ◌∙◌}
use Rattle.sfx_ids.specs.Tick.{IsTick}
use Rattle.std.proofs.lemmas.Option.{same_Some}
use Rattle.std.proofs.lemmas.Slice.Eq.{bytes_eq-Decides}
use Rattle.std.specs.Str.{bytes_eq}

-- what was written again is the text
pub is_own : (spell : ℕ → List ℕ) (text written : List ℕ) (read wanted : ℕ) → Some read ≡ Some wanted → written ≡ spell read → text ≡ spell wanted
    → written ≡ text
is_own spell text written read wanted same is_written is_text =
    is_written ∙ ap spell (same_Some read wanted same) ∙ sym is_text

-- and so the comparison of both says
pub is_equal : (xs ys : List ℕ) → xs ≡ ys → bytes_eq xs ys ≡ true
is_equal xs ys same = (bytes_eq-Decides xs ys).1 same

-- a tick that is made of the number wanted
pub made : (r : Option ℕ) (count tick : ℕ) → (IsSome r ↔ IsTick count) → IfSome r (λ t. t ≡ count) → count ≡ tick → IsTick tick → r ≡ Some tick
made (Some t) count tick valid value same is_tick = ap Some (value ∙ same)
made None count tick valid value same is_tick = absurd (true≢false (sym (valid.1 (subst IsTick (sym same) is_tick))))
