-- The longest prefix that begins a tick and a replica is made of the longest prefixes that begin each of them.
use Rattle.std.proofs.Common.{◌≡◌, ◌⊎◌, ◌≢◌, ℕ, ◌+◌, ◌-◌, ◌^◌, ◌<◌, ◌≤◌, List, [], ◌∷◌, ◌++◌, length, length-append, get_or, take, drop, decimal, inl, inr, arith, refl, sym, ap, subst, ◌∙◌, append_assoc}
use Rattle.std.proofs.lemmas.Bool.{cases_lt}
use Rattle.std.proofs.lemmas.Fmt.{decimal_nonempty}
use Rattle.std.proofs.lemmas.List.{append-nil, take_at, drop_at, take-take, drop-take, drop-drop, get_or_at, get_or_append_left, get_or-take, length-take-le, length-drop}
use Rattle.sfx_ids.specs.Prefix.{BeginsTick, BeginsReplica, BeginsPair, IsLongestPrefix}
use Rattle.sfx_ids.specs.Text.{IsSeparator, replica_text}
use Rattle.sfx_ids.specs.Tick.{IsTick}
use Rattle.sfx_ids.proofs.StepsLemmas.{take_beyond}
use Rattle.sfx_ids.proofs.TickPrefixes.{prefix_is_tick}
use Rattle.sfx_ids.proofs.TickTexts.{no_separator}

-- two ways to cut a list: one prefix holds the other
data Overlap (xs ys prefix rest : List ℕ) : Type 0 where
  held : (more : List ℕ) → xs ≡ prefix ++ more → Overlap xs ys prefix rest
  beyond : (b : ℕ) (more : List ℕ) → prefix ≡ xs ++ b ∷ more → ys ≡ b ∷ more ++ rest → Overlap xs ys prefix rest

overlap : (xs ys prefix rest : List ℕ) → xs ++ ys ≡ prefix ++ rest → Overlap xs ys prefix rest
overlap xs ys [] rest same = held xs refl
overlap [] ys (b ∷ prefix) rest same = beyond b prefix refl same
overlap (x ∷ xs) ys (b ∷ prefix) rest same =
    let first : x ≡ b = cc in
    let others : xs ++ ys ≡ prefix ++ rest = cc in
    elim (overlap xs ys prefix rest others) [
      | held more is ↦ held more (rw (first, is) refl)
      | beyond c more is left ↦ beyond c more (rw (first, is) refl) left
    ]

-- a prefix of a tick's digits begins a pair
tick_to_pair : (separator : ℕ) (text : List ℕ) → BeginsTick text → BeginsPair separator text
tick_to_pair separator text prefix = record {
  tick = prefix.tick;
  replica = 0;
  rest = prefix.rest ++ separator ∷ replica_text 0;
  is_tick = prefix.valid;
  is_replica = omega arith;
  spelled = ap (λ t. t ++ separator ∷ replica_text 0) prefix.spelled ∙ append_assoc text prefix.rest (separator ∷ replica_text 0);
}

-- a prefix of a pair that goes beyond the separator, which stands at this place
record Crosses (separator : ℕ) (text : List ℕ) (n at : ℕ) : Type 0 where
  pub some : 0 < at
  pub within : at < n
  pub tick : BeginsTick (take at text)
  pub here : get_or text at 0 ≡ separator
  pub rest : BeginsReplica (drop (at + 1) (take n text))

crosses : (separator : ℕ) (text : List ℕ) (n tick replica : ℕ) (more rest : List ℕ) → n ≤ length text → IsTick tick → replica < 2 ^ 128
    → take n text ≡ decimal tick ++ separator ∷ more → replica_text replica ≡ more ++ rest → Crosses separator text n (length (decimal tick))
crosses separator text n tick replica more rest inside is_tick is_replica is left =
    let digits = decimal tick in
    let at = length digits in
    let some = decimal_nonempty tick (omega arith) in
    let long : length (take n text) ≡ n = length-take-le n text inside in
    let within : at < n = omega (arith, long, ap length is, length-append digits (separator ∷ more)) in
    let le : at ≤ n = omega arith in
    let prefix : take at text ≡ digits = sym (take-take at n text le) ∙ ap (take at) is ∙ take_at digits (separator ∷ more) at refl in
    let here : get_or text at 0 ≡ separator = sym (get_or-take n text at 0 within) ∙ ap (λ t. get_or t at 0) is ∙ get_or_at digits separator more 0 at refl in
    let behind : drop (at + 1) (take n text) ≡ more = sym (drop-drop 1 at (take n text)) ∙ ap (drop 1) (ap (drop at) is ∙ drop_at digits (separator ∷ more) at refl) in
    record {
      some = some;
      within = within;
      tick = record { tick = tick; rest = []; valid = is_tick; spelled = sym prefix ∙ sym (append-nil (take at text)) };
      here = here;
      rest = record { replica = replica; rest = rest; valid = is_replica; spelled = left ∙ ap (λ t. t ++ rest) (sym behind) };
    }

pair_cases : (separator : ℕ) (text : List ℕ) (n : ℕ) → n ≤ length text → BeginsPair separator (take n text)
    → BeginsTick (take n text) ⊎ ((at : ℕ) × Crosses separator text n at)
pair_cases separator text n within prefix =
    elim (overlap (decimal prefix.tick) (separator ∷ replica_text prefix.replica) (take n text) prefix.rest prefix.spelled) [
      | held more is ↦ inl (record { tick = prefix.tick; rest = more; valid = prefix.is_tick; spelled = is })
      | beyond b more is left ↦
          let same : separator ≡ b = cc in
          let rest : replica_text prefix.replica ≡ more ++ prefix.rest = cc in
          inr (length (decimal prefix.tick), crosses separator text n prefix.tick prefix.replica more prefix.rest within prefix.is_tick prefix.is_replica (rw same is) rest)
    ]

-- the separator stands behind the longest prefix of digits
at_digits : (separator : ℕ) (text : List ℕ) (n at digits : ℕ) → n ≤ length text → IsSeparator separator → IsLongestPrefix BeginsTick text digits → Crosses separator text n at → at ≡ digits
at_digits separator text n at digits inside fits longest across =
    by_side (cases_lt at digits)
  where
    by_side : (at < digits) ⊎ (digits ≤ at) → at ≡ digits
    by_side (inr over) =
        let within = across.within in
        let le = longest.longest at (omega arith) across.tick in
        omega arith
    by_side (inl under) =
        let prefix = longest.begins in
        let big : prefix.tick < 2 ^ 64 = omega (arith, prefix.valid.most) in
        let long : length (take digits text) ≡ digits = length-take-le digits text longest.within in
        let inner : at < length (take digits text) = omega arith in
        let character : get_or (decimal prefix.tick) at 0 ≡ separator =
        ap (λ t. get_or t at 0) prefix.spelled ∙ get_or_append_left (take digits text) prefix.rest 0 at inner ∙ get_or-take digits text at 0 under ∙ across.here in
        let place : at < length (decimal prefix.tick) = omega (arith, ap length prefix.spelled, length-append (take digits text) prefix.rest) in
        absurd (no_separator prefix.tick separator big fits.0 at place character)

-- no separator stands behind the digits
pub longest_digits : (separator : ℕ) (text : List ℕ) (digits : ℕ) → IsSeparator separator → IsLongestPrefix BeginsTick text digits
    → (0 < digits → digits < length text → get_or text digits 0 ≢ separator) → IsLongestPrefix (BeginsPair separator) text digits
longest_digits separator text digits fits longest none = record {
  within = longest.within;
  begins = tick_to_pair separator (take digits text) longest.begins;
  longest = λ n inside prefix. elim (pair_cases separator text n inside prefix) [
    | inl tick ↦ longest.longest n inside tick
    | inr across ↦
        let same = at_digits separator text n across.0 digits inside fits longest across.1 in
        let some = across.1.some in
        let within = across.1.within in
        absurd (none (omega arith) (omega arith) (ap (λ i. get_or text i 0) (sym same) ∙ across.1.here))
  ];
}

-- the separator stands behind the digits, and then a prefix of a replica
pub longest_beyond : (separator : ℕ) (text : List ℕ) (digits rest : ℕ) → IsSeparator separator → IsLongestPrefix BeginsTick text digits
    → 0 < digits → digits < length text → get_or text digits 0 ≡ separator → IsLongestPrefix BeginsReplica (drop (digits + 1) text) rest
    → IsLongestPrefix (BeginsPair separator) text (digits + 1 + rest)
longest_beyond separator text digits rest fits longest some inner here behind =
    let whole : digits + 1 + rest ≤ length text = omega (arith, behind.within, length-drop (digits + 1) text) in
    let after = drop (digits + 1) text in
    let long = length-take-le digits text longest.within in
    let tick = prefix_is_tick (take digits text) (omega (arith, long)) longest.begins in
    let split : take (digits + 1 + rest) text ≡ take digits text ++ separator ∷ take rest after =
    take_beyond text digits (digits + 1 + rest) (omega arith) whole
    ∙ ap (λ b. take digits text ++ b ∷ drop (digits + 1) (take (digits + 1 + rest) text)) here
    ∙ ap (λ t. take digits text ++ separator ∷ t) (drop-take (digits + 1) rest text) in
    record {
      within = whole;
      begins = record {
        tick = tick.0;
        replica = behind.begins.replica;
        rest = behind.begins.rest;
        is_tick = tick.1;
        is_replica = behind.begins.valid;
        spelled = ap (λ t. t ++ separator ∷ replica_text behind.begins.replica) tick.2
            ∙ ap (λ t. take digits text ++ separator ∷ t) behind.begins.spelled
            ∙ sym (append_assoc (take digits text) (separator ∷ take rest after) behind.begins.rest)
            ∙ ap (λ t. t ++ behind.begins.rest) (sym split);
      };
      longest = λ n inside prefix. elim (pair_cases separator text n inside prefix) [
        | inl begins ↦ let le = longest.longest n inside begins in
            omega arith
        | inr across ↦
            let same = at_digits separator text n across.0 digits inside fits longest across.1 in
            let within = across.1.within in
            let m = n - (digits + 1) in
            let sum : digits + 1 + m ≡ n = omega arith in
            let cut : drop (across.0 + 1) (take n text) ≡ take m after =
            ap (λ d. drop (d + 1) (take n text)) same ∙ ap (λ k. drop (digits + 1) (take k text)) (sym sum) ∙ drop-take (digits + 1) m text in
            let le = behind.longest m (omega (arith, length-drop (digits + 1) text)) (subst BeginsReplica cut across.1.rest) in
            omega arith
      ];
    }
