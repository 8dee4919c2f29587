-- A text that is read byte by byte, by steps that may refuse, and the longest prefix that begins a spelling.
use Rattle.std.proofs.Common.{◌≡◌, ◌⊎◌, ℕ, ◌+◌, ◌<◌, ◌≤◌, List, [], ◌∷◌, ◌++◌, length, take, drop, get_or, Option, Some, None, option_and_then, inl, inr, arith, refl, sym, ap, ◌∙◌}
use Rattle.std.proofs.lemmas.Bool.{cases_lt}
use Rattle.std.proofs.lemmas.List.{take_all, take_more, take-take, take-append-drop, drop_more, get_or-take, length-take-le}
use Rattle.std.proofs.lemmas.Option.{none-some}
use Rattle.sfx_ids.specs.Prefix.{IsLongestPrefix}

-- the state after a text, or `None` once a byte is refused
abbrev pub run : (ℕ → ℕ → Option ℕ) → ℕ → List ℕ → Option ℕ
run step state [] = Some state
run step state (b ∷ bs) = option_and_then (λ next. run step next bs) (step state b)

then_twice : (f g : ℕ → Option ℕ) (o : Option ℕ) → option_and_then (λ x. option_and_then g (f x)) o ≡ option_and_then g (option_and_then f o)
then_twice f g None = refl
then_twice f g (Some x) = refl

then_same : (f g : ℕ → Option ℕ) → ((x : ℕ) → f x ≡ g x) → (o : Option ℕ) → option_and_then f o ≡ option_and_then g o
then_same f g same None = refl
then_same f g same (Some x) = same x

pub run-append : (step : ℕ → ℕ → Option ℕ) (state : ℕ) (xs ys : List ℕ)
    → run step state (xs ++ ys) ≡ option_and_then (λ next. run step next ys) (run step state xs)
run-append step state [] ys = refl
run-append step state (x ∷ xs) ys =
    then_same (λ next. run step next (xs ++ ys)) (λ next. option_and_then (λ after. run step after ys) (run step next xs)) (λ next. run-append step next xs ys) (step state x)
    ∙ then_twice (λ next. run step next xs) (λ next. run step next ys) (step state x)

then_some : (o : Option ℕ) → option_and_then (λ x. Some x) o ≡ o
then_some None = refl
then_some (Some x) = refl

-- one byte more
pub run-push : (step : ℕ → ℕ → Option ℕ) (start state : ℕ) (xs : List ℕ) (b : ℕ) → run step start xs ≡ Some state
    → run step start (xs ++ b ∷ []) ≡ step state b
run-push step start state xs b reached =
    run-append step start xs (b ∷ []) ∙ ap (option_and_then (λ next. run step next (b ∷ []))) reached ∙ then_some (step state b)

-- one byte more of a text
pub run_more : (step : ℕ → ℕ → Option ℕ) (start state next : ℕ) (text : List ℕ) (i : ℕ) → i < length text → run step start (take i text) ≡ Some state
    → step state (get_or text i 0) ≡ Some next → run step start (take (i + 1) text) ≡ Some next
run_more step start state next text i within reached goes_on =
    ap (run step start) (take_more text i 0 within) ∙ run-push step start state (take i text) (get_or text i 0) reached ∙ goes_on

-- a byte that is refused, whatever follows
pub run-refused : (step : ℕ → ℕ → Option ℕ) (start state : ℕ) (xs : List ℕ) (b : ℕ) (ys : List ℕ) → run step start xs ≡ Some state → step state b ≡ None
    → run step start (xs ++ b ∷ ys) ≡ None
run-refused step start state xs b ys reached refused =
    run-append step start xs (b ∷ ys) ∙ ap (option_and_then (λ next. run step next (b ∷ ys))) reached
    ∙ ap (option_and_then (λ next. run step next ys)) refused

-- a prefix is read where the whole is
pub run_prefix : (step : ℕ → ℕ → Option ℕ) (start end : ℕ) (xs ys : List ℕ) → run step start (xs ++ ys) ≡ Some end
    → (state : ℕ) × (run step start xs ≡ Some state)
run_prefix step start end xs ys whole = cases (run step start xs) refl (sym (run-append step start xs ys) ∙ whole)
  where
    cases : (o : Option ℕ) → run step start xs ≡ o → option_and_then (λ next. run step next ys) o ≡ Some end → (state : ℕ) × (run step start xs ≡ Some state)
    cases None is rest = absurd (none-some end rest)
    cases (Some state) is rest = (state, is)

-- the texts that the steps read are those that begin a spelling
pub record ReadsPrefixes (step : ℕ → ℕ → Option ℕ) (Begins : List ℕ → Type 0) : Type 0 where
  pub begins : (text : List ℕ) (state : ℕ) → run step 0 text ≡ Some state → Begins text
  pub reads : (text : List ℕ) → Begins text → (state : ℕ) × (run step 0 text ≡ Some state)

-- a longer prefix holds the byte behind a shorter one
pub take_beyond : (text : List ℕ) (i n : ℕ) → i < n → n ≤ length text
    → take n text ≡ take i text ++ get_or text i 0 ∷ drop (i + 1) (take n text)
take_beyond text i n more within =
    let prefix = take n text in
    let long : length prefix ≡ n = length-take-le n text within in
    let inner : i < length prefix = omega arith in
    let le : i ≤ n = omega arith in
    sym (take-append-drop i prefix)
    ∙ ap (λ p. p ++ drop i prefix) (take-take i n text le)
    ∙ ap (λ r. take i text ++ r) (drop_more prefix i 0 inner ∙ ap (λ b. b ∷ drop (i + 1) prefix) (get_or-take n text i 0 more))

-- the steps stop at a byte
pub longest_at_stop : (step : ℕ → ℕ → Option ℕ) (Begins : List ℕ → Type 0) → ReadsPrefixes step Begins → (text : List ℕ) (at state : ℕ) → at < length text
    → run step 0 (take at text) ≡ Some state → step state (get_or text at 0) ≡ None → IsLongestPrefix Begins text at
longest_at_stop step Begins prefixes text at state within reached refused =
    record { within = omega arith; begins = prefixes.begins (take at text) state reached; longest = λ n inside begins. least n inside begins (cases_lt at n) }
  where
    least : (n : ℕ) → n ≤ length text → Begins (take n text) → (at < n) ⊎ (n ≤ at) → n ≤ at
    least n inside begins (inr le) = le
    least n inside begins (inl beyond) =
        let some = prefixes.reads (take n text) begins in
        let never = run-refused step 0 state (take at text) (get_or text at 0) (drop (at + 1) (take n text)) reached refused in
        absurd (none-some some.0 (sym never ∙ ap (run step 0) (sym (take_beyond text at n beyond inside)) ∙ some.1))

-- the steps read the whole text
pub longest_at_end : (step : ℕ → ℕ → Option ℕ) (Begins : List ℕ → Type 0) → ReadsPrefixes step Begins → (text : List ℕ) (at state : ℕ) → length text ≤ at
    → run step 0 (take at text) ≡ Some state → IsLongestPrefix Begins text (length text)
longest_at_end step Begins prefixes text at state over reached =
    let whole : take at text ≡ take (length text) text = take_all at text over ∙ sym (take_all (length text) text (omega arith)) in
    let begins = prefixes.begins (take (length text) text) state (ap (run step 0) (sym whole) ∙ reached) in
    record { within = omega arith; begins = begins; longest = λ n inside prefix. inside }
