-- The texts that begin a tick are those that the steps over its digits read.
use Rattle.std.proofs.Common.{◌≡◌, ℕ, ◌+◌, ◌-◌, ◌*◌, ◌/◌, ◌%◌, ◌<◌, ◌≤◌, ◌&&◌, List, [], ◌∷◌, ◌++◌, true, Some, None, option_and_then, nat_le, length, decimal, arith, sym, ap, ◌∙◌, append_assoc, subst, if◌then◌else◌}
use Rattle.std.proofs.lemmas.Bool.Decides.{nat_tests}
use Rattle.std.proofs.lemmas.Fmt.{decimal_by_steps, decimal_digit, decimal_step}
use Rattle.std.proofs.lemmas.List.{append-nil}
use Rattle.std.proofs.lemmas.Option.{same_Some, cond_some, option_and_then_some}
use Rattle.std.specs.Char.{is_ascii_digit}
use Rattle.sfx_ids.specs.Prefix.{BeginsTick}
use Rattle.sfx_ids.specs.Steps.{next_tick}
use Rattle.sfx_ids.specs.Tick.{IsTick, max_tick}
use Rattle.sfx_ids.proofs.StepsLemmas.{run, run-push, run_prefix, ReadsPrefixes}

-- a step that goes on
pub record GoesOn (number byte next : ℕ) : Type 0 where
  pub low : 48 ≤ byte
  pub high : byte ≤ 57
  pub sum : next ≡ number * 10 + (byte - 48)
  pub is_tick : IsTick next

tests : (byte next : ℕ) → (is_ascii_digit byte && nat_le 1 next && nat_le next max_tick) ≡ true → (48 ≤ byte) × (byte ≤ 57) × (1 ≤ next) × (next ≤ max_tick)
tests byte next pass = grind (arith, nat_tests)

pub goes_on : (number byte next : ℕ) → next_tick number byte ≡ Some next → GoesOn number byte next
goes_on number byte next is =
    let sum = number * 10 + (byte - 48) in
    let parts = cond_some (is_ascii_digit byte && nat_le 1 sum && nat_le sum max_tick) sum next is in
    let pass = tests byte sum parts.0 in
    record { low = pass.0; high = pass.1; sum = sym parts.1; is_tick = record { least = omega arith; most = omega arith } }

-- a digit that gives a tick
pub next_by : (number byte next : ℕ) → 48 ≤ byte → byte ≤ 57 → number * 10 + (byte - 48) ≡ next → IsTick next → next_tick number byte ≡ Some next
next_by number byte next low high sum is_tick =
    let total = number * 10 + (byte - 48) in
    let pass : (is_ascii_digit byte && nat_le 1 total && nat_le total max_tick) ≡ true = grind (arith, nat_tests, sum, is_tick.least, is_tick.most) in
    ap (λ b. if b then Some total else None) pass ∙ ap Some sum

-- the digits of a tick are read as the tick
pub run-decimal : (tick : ℕ) → IsTick tick → run next_tick 0 (decimal tick) ≡ Some tick
run-decimal tick is_tick =
    decimal_by_steps (λ n ds. IsTick n → run next_tick 0 ds ≡ Some n)
    (λ n small valid. ap (option_and_then (λ x. Some x)) (next_by 0 (48 + n) n (omega arith) (omega arith) (omega arith) valid))
    (λ n ds big prefix valid.
    let before = prefix (record { least = omega arith; most = omega arith }) in
    run-push next_tick 0 (n / 10) ds (48 + n % 10) before
    ∙ next_by (n / 10) (48 + n % 10) n (omega arith) (omega arith) (omega arith) valid)
    tick (omega arith) is_tick

-- a tick with a digit behind it
digit_behind : (number byte next : ℕ) → 1 ≤ number → GoesOn number byte next → decimal next ≡ decimal number ++ byte ∷ []
digit_behind number byte next some on =
    let low = on.low in
    let high = on.high in
    let sum = on.sum in
    let most = on.is_tick.most in
    let prefix : next / 10 ≡ number = omega arith in
    let last : 48 + next % 10 ≡ byte = omega arith in
    decimal_step next (omega arith) (omega arith) ∙ ap (λ n. decimal n ++ (48 + next % 10) ∷ []) prefix ∙ ap (λ b. decimal number ++ b ∷ []) last

first_digit : (byte next : ℕ) → GoesOn 0 byte next → decimal next ≡ byte ∷ []
first_digit byte next on =
    let low = on.low in
    let high = on.high in
    let sum = on.sum in
    let back : 48 + next ≡ byte = omega arith in
    decimal_digit next (omega arith) ∙ ap (λ b. b ∷ []) back

-- what is read behind a tick are digits of a tick
read_behind : (text : List ℕ) (number end : ℕ) → IsTick number → run next_tick number text ≡ Some end → IsTick end × (decimal end ≡ decimal number ++ text)
read_behind [] number end is_tick read =
    let same = same_Some number end read in
    (subst IsTick same is_tick, ap decimal (sym same) ∙ sym (append-nil (decimal number)))
read_behind (b ∷ bs) number end is_tick read =
    option_and_then_some (λ next. run next_tick next bs) (next_tick number b) end read (λ next step rest.
    let on = goes_on number b next step in
    let after = read_behind bs next end on.is_tick rest in
    (after.0, after.1 ∙ ap (λ p. p ++ bs) (digit_behind number b next is_tick.least on) ∙ append_assoc (decimal number) (b ∷ []) bs))

-- what is read from the start is nothing, or the digits of a tick
whole_tick : (byte : ℕ) (text : List ℕ) (end : ℕ) → run next_tick 0 (byte ∷ text) ≡ Some end → IsTick end × (decimal end ≡ byte ∷ text)
whole_tick byte text end read =
    option_and_then_some (λ next. run next_tick next text) (next_tick 0 byte) end read (λ next step rest.
    let on = goes_on 0 byte next step in
    let after = read_behind text next end on.is_tick rest in
    (after.0, after.1 ∙ ap (λ p. p ++ text) (first_digit byte next on)))

begins : (text : List ℕ) (end : ℕ) → run next_tick 0 text ≡ Some end → BeginsTick text
begins [] end read =
    record { tick = 1; rest = 49 ∷ []; valid = record { least = omega arith; most = omega arith }; spelled = decimal_digit 1 (omega arith) }
begins (b ∷ bs) end read =
    let whole = whole_tick b bs end read in
    record { tick = end; rest = []; valid = whole.0; spelled = whole.1 ∙ sym (append-nil (b ∷ bs)) }

-- the prefixes of the digits of ticks are what the steps read
pub tick_prefixes : ReadsPrefixes next_tick BeginsTick
tick_prefixes = record {
  begins = begins;
  reads = λ text prefix. run_prefix next_tick 0 prefix.tick text prefix.rest (ap (run next_tick 0) (sym prefix.spelled) ∙ run-decimal prefix.tick prefix.valid);
}

-- digits that begin a tick are those of a tick
pub prefix_is_tick : (text : List ℕ) → 0 < length text → BeginsTick text → (tick : ℕ) × IsTick tick × (decimal tick ≡ text)
prefix_is_tick [] some prefix = absurd (omega arith)
prefix_is_tick (b ∷ bs) some prefix =
    let read = tick_prefixes.reads (b ∷ bs) prefix in
    let whole = whole_tick b bs read.0 read.1 in
    (read.0, whole.0, whole.1)
