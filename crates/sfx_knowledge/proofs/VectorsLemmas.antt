-- Clock vectors made of ticks, for listed replicas.
use Rattle.std.proofs.Common.{◌≡◌, ◌≢◌, ◌⊎◌, ℕ, ◌+◌, ◌<◌, ◌≤◌, ◌^◌, max, ◌&&◌, ◌||◌, Bool, true, false, true≢false, if◌then◌else◌, nat_eq, nat_lt, inl, inr, arith, refl, sym, ap, subst, ◌∙◌, List, [], ◌∷◌, ◌++◌}
use Rattle.std.proofs.lemmas.Bool.{eq-eqb, ne_eqb, lt-ltb, le-ltb, eqb-true, cases_lt, cases_eq}
use Rattle.sfx_ids.specs.Tick.{IsTick, max_tick}
use Rattle.sfx_vector.specs.Clocks.{Clocks, AreFrom, AreClocks, tick_of, ChangesOnly}
use Rattle.sfx_vector.proofs.ClocksLemmas.{tick-here, tick-past, same_ticks, same_pair}
use Rattle.sfx_segments.proofs.StandardFacts.{yes_it, not_it, tested}
use Rattle.sfx_knowledge.specs.Forms.{with_tick, clocks_of, same_clocks, is_listed, AreReplicas, listed_in}
use Rattle.sfx_knowledge.specs.Vectors.{joined_clocks, own_clocks}
use Rattle.sfx_knowledge.proofs.StandardFacts.{and-left, and-right, or-left, or-right}

-- ---- one more replica

-- where its tick is 0, nothing changes
with_tick-none : (r t : ℕ) (cs : Clocks) → t ≡ 0 → with_tick r t cs ≡ cs
with_tick-none r t [] none = ap (λ b. let x : Clocks = if b then [] else (r, t) ∷ [] in x) (eq-eqb t 0 none)
with_tick-none r t (c ∷ cs) none =
    let rest : with_tick r t cs ≡ cs = with_tick-none r t cs none in
    by_tests (nat_lt c.0 r) (nat_eq c.0 r) (nat_eq t 0) (with_tick r t cs) rest (eq-eqb t 0 none)
  where
    by_tests : (less here zero : Bool) (ds : Clocks) → ds ≡ cs → zero ≡ true → (if less then c ∷ ds else (if here then c ∷ cs else (if zero then c ∷ cs else (r, t) ∷ c ∷ cs))) ≡ c ∷ cs
    by_tests true here zero ds rest is = ap (λ xs. c ∷ xs) rest
    by_tests false true zero ds rest is = refl
    by_tests false false true ds rest is = refl
    by_tests false false false ds rest is = absurd (true≢false (sym is))

with_tick-past : (r t : ℕ) (c : ℕ × ℕ) (cs : Clocks) → c.0 < r → with_tick r t (c ∷ cs) ≡ c ∷ with_tick r t cs
with_tick-past r t c cs less = rw lt-ltb refl

with_tick-here : (r t : ℕ) (c : ℕ × ℕ) (cs : Clocks) → c.0 ≡ r → with_tick r t (c ∷ cs) ≡ c ∷ cs
with_tick-here r t c cs is =
    let le : r ≤ c.0 = omega arith in
    rw (le-ltb c.0 r le, eq-eqb c.0 r is) refl

with_tick-new : (r t : ℕ) (c : ℕ × ℕ) (cs : Clocks) → r < c.0 → t ≢ 0 → let d : ℕ × ℕ = (r, t) in with_tick r t (c ∷ cs) ≡ d ∷ c ∷ cs
with_tick-new r t c cs less some =
    let le : r ≤ c.0 = omega arith in
    let other : c.0 ≢ r = λ is. omega arith in
    rw (le-ltb c.0 r le, ne_eqb c.0 r other, ne_eqb t 0 some) refl

with_tick-last : (r t : ℕ) → t ≢ 0 → let d : ℕ × ℕ = (r, t) in with_tick r t [] ≡ d ∷ []
with_tick-last r t some = rw (ne_eqb t 0 some) refl

-- it stays in form
AreFrom-with_tick : (low r t : ℕ) (cs : Clocks) → low ≤ r → r < 2 ^ 128 → t ≤ max_tick → AreFrom low cs → AreFrom low (with_tick r t cs)
AreFrom-with_tick low r t cs le fits most from = elim (cases_eq t 0) [
  | inl none ↦ subst (AreFrom low) (sym (with_tick-none r t cs none)) from
  | inr some ↦ placed low r t cs le fits (record { least = omega arith; most = most }) some from
]
  where
    placed : (low r t : ℕ) (cs : Clocks) → low ≤ r → r < 2 ^ 128 → IsTick t → t ≢ 0 → AreFrom low cs → AreFrom low (with_tick r t cs)
    placed low r t [] le fits valid some from = subst (AreFrom low) (sym (with_tick-last r t some)) (le, fits, valid, tt)
    placed low r t (c ∷ cs) le fits valid some from = elim (cases_lt c.0 r) [
      | inl less ↦
          subst (AreFrom low) (sym (with_tick-past r t c cs less))
          (from.0, from.1, from.2, placed (c.0 + 1) r t cs (omega arith) fits valid some from.3)
      | inr above ↦ elim (cases_eq c.0 r) [
        | inl is ↦ subst (AreFrom low) (sym (with_tick-here r t c cs is)) from
        | inr other ↦
            subst (AreFrom low) (sym (with_tick-new r t c cs (omega arith) some))
            (le, fits, valid, (omega arith, from.1, from.2, from.3))
      ]
    ]

-- the ticks of the others stay
tick-with_tick_other : (r t : ℕ) (cs : Clocks) (q : ℕ) → r ≢ q → tick_of (with_tick r t cs) q ≡ tick_of cs q
tick-with_tick_other r t cs q differ = elim (cases_eq t 0) [
  | inl none ↦ ap (λ xs. tick_of xs q) (with_tick-none r t cs none)
  | inr some ↦ placed r t cs q differ some
]
  where
    placed : (r t : ℕ) (cs : Clocks) (q : ℕ) → r ≢ q → t ≢ 0 → tick_of (with_tick r t cs) q ≡ tick_of cs q
    placed r t [] q differ some = ap (λ xs. tick_of xs q) (with_tick-last r t some) ∙ tick-past (r, t) [] q differ
    placed r t (c ∷ cs) q differ some = elim (cases_lt c.0 r) [
      | inl less ↦
          ap (λ xs. tick_of xs q) (with_tick-past r t c cs less)
          ∙ ap (λ n. if nat_eq c.0 q then c.1 else n) (placed r t cs q differ some)
      | inr above ↦ elim (cases_eq c.0 r) [
        | inl is ↦ ap (λ xs. tick_of xs q) (with_tick-here r t c cs is)
        | inr other ↦
            ap (λ xs. tick_of xs q) (with_tick-new r t c cs (omega arith) some)
            ∙ tick-past (r, t) (c ∷ cs) q differ
      ]
    ]

-- the replica has its tick, where it had that one or none
tick-with_tick_same : (low r t : ℕ) (cs : Clocks) → AreFrom low cs → (tick_of cs r ≡ 0) ⊎ (tick_of cs r ≡ t) → tick_of (with_tick r t cs) r ≡ t
tick-with_tick_same low r t cs from had = elim (cases_eq t 0) [
  | inl none ↦
      ap (λ xs. tick_of xs r) (with_tick-none r t cs none)
      ∙ elim had [ inl zero ↦ zero ∙ sym none | inr is ↦ is ]
  | inr some ↦ placed low r t cs from had some
]
  where
    placed : (low r t : ℕ) (cs : Clocks) → AreFrom low cs → (tick_of cs r ≡ 0) ⊎ (tick_of cs r ≡ t) → t ≢ 0 → tick_of (with_tick r t cs) r ≡ t
    placed low r t [] from had some = ap (λ xs. tick_of xs r) (with_tick-last r t some) ∙ tick-here (r, t) [] r refl
    placed low r t (c ∷ cs) from had some = elim (cases_lt c.0 r) [
      | inl less ↦
          let past : tick_of (c ∷ cs) r ≡ tick_of cs r = tick-past c cs r (λ is. omega arith) in
          ap (λ xs. tick_of xs r) (with_tick-past r t c cs less)
          ∙ tick-past c (with_tick r t cs) r (λ is. omega arith)
          ∙ placed (c.0 + 1) r t cs from.3 (elim had [ inl zero ↦ inl (sym past ∙ zero) | inr is ↦ inr (sym past ∙ is) ]) some
      | inr above ↦ elim (cases_eq c.0 r) [
        | inl is ↦
            let here : tick_of (c ∷ cs) r ≡ c.1 = tick-here c cs r is in
            ap (λ xs. tick_of xs r) (with_tick-here r t c cs is)
            ∙ elim had [ inl zero ↦ absurd (omega (arith, here, from.2.least)) | inr same ↦ same ]
        | inr other ↦ ap (λ xs. tick_of xs r) (with_tick-new r t c cs (omega arith) some) ∙ tick-here (r, t) (c ∷ cs) r refl
      ]
    ]

-- ---- the vector with these ticks

pub AreClocks-clocks_of : (rs : List ℕ) (ticks : ℕ → ℕ) → AreReplicas rs → ((r : ℕ) → ticks r ≤ max_tick) → AreClocks (clocks_of rs ticks)
AreClocks-clocks_of [] ticks listed most = tt
AreClocks-clocks_of (r ∷ rs) ticks listed most =
    AreFrom-with_tick 0 r (ticks r) (clocks_of rs ticks) (omega arith) listed.0 (most r) (AreClocks-clocks_of rs ticks listed.1 most)

-- a listed replica has its tick, and the others have none
tick-clocks_of_if : (rs : List ℕ) (ticks : ℕ → ℕ) (q : ℕ) → AreReplicas rs → ((r : ℕ) → ticks r ≤ max_tick) → tick_of (clocks_of rs ticks) q ≡ (if is_listed rs q then ticks q else 0)
tick-clocks_of_if [] ticks q listed most = refl
tick-clocks_of_if (r ∷ rs) ticks q listed most =
    let rest : tick_of (clocks_of rs ticks) q ≡ (if is_listed rs q then ticks q else 0) = tick-clocks_of_if rs ticks q listed.1 most in
    elim (cases_eq r q) [
      | inl is ↦
          subst (λ x. tick_of (with_tick r (ticks r) (clocks_of rs ticks)) x ≡ (if is_listed (r ∷ rs) x then ticks x else 0)) is
          (tick-with_tick_same 0 r (ticks r) (clocks_of rs ticks) (AreClocks-clocks_of rs ticks listed.1 most) (either (is_listed rs r) (ticks r) _ (tick-clocks_of_if rs ticks r listed.1 most))
          ∙ sym (ap (λ b. if b || is_listed rs r then ticks r else 0) (eq-eqb r r refl)))
      | inr other ↦
          tick-with_tick_other r (ticks r) (clocks_of rs ticks) q other ∙ rest
          ∙ sym (ap (λ b. if b || is_listed rs q then ticks q else 0) (ne_eqb r q other))
    ]
  where
    either : (b : Bool) (t n : ℕ) → n ≡ (if b then t else 0) → (n ≡ 0) ⊎ (n ≡ t)
    either true t n is = inr is
    either false t n is = inl is

pub tick-clocks_of : (rs : List ℕ) (ticks : ℕ → ℕ) (q : ℕ) → AreReplicas rs → ((r : ℕ) → ticks r ≤ max_tick) → (is_listed rs q ≡ false → ticks q ≡ 0) → tick_of (clocks_of rs ticks) q ≡ ticks q
tick-clocks_of rs ticks q listed most others = tick-clocks_of_if rs ticks q listed most ∙ by_test (is_listed rs q) others
  where
    by_test : (b : Bool) → (b ≡ false → ticks q ≡ 0) → (if b then ticks q else 0) ≡ ticks q
    by_test true others = refl
    by_test false others = sym (others refl)

-- ---- the replicas that a vector lists

pub AreReplicas-append : (rs qs : List ℕ) → AreReplicas rs → AreReplicas qs → AreReplicas (rs ++ qs)
AreReplicas-append [] qs first second = second
AreReplicas-append (r ∷ rs) qs first second = (first.0, AreReplicas-append rs qs first.1 second)

pub AreReplicas-listed_in : (low : ℕ) (cs : Clocks) → AreFrom low cs → AreReplicas (listed_in cs)
AreReplicas-listed_in low [] from = tt
AreReplicas-listed_in low (c ∷ cs) from = (from.1, AreReplicas-listed_in (c.0 + 1) cs from.3)

pub listed-append : (rs qs : List ℕ) (r : ℕ) → is_listed (rs ++ qs) r ≡ false → (is_listed rs r ≡ false) × (is_listed qs r ≡ false)
listed-append [] qs r none = (refl, none)
listed-append (x ∷ rs) qs r none =
    let rest = listed-append rs qs r (or-right (nat_eq x r) (is_listed (rs ++ qs) r) none) in
    let first : nat_eq x r ≡ false = or-left (nat_eq x r) (is_listed (rs ++ qs) r) none in
    (ap (λ b. b || is_listed rs r) first ∙ rest.0, rest.1)

pub tick-unlisted : (cs : Clocks) (r : ℕ) → is_listed (listed_in cs) r ≡ false → tick_of cs r ≡ 0
tick-unlisted [] r none = refl
tick-unlisted (c ∷ cs) r none =
    ap (λ b. if b then c.1 else tick_of cs r) (or-left (nat_eq c.0 r) (is_listed (listed_in cs) r) none)
    ∙ tick-unlisted cs r (or-right (nat_eq c.0 r) (is_listed (listed_in cs) r) none)

pub tick-most : (low : ℕ) (cs : Clocks) (r : ℕ) → AreFrom low cs → tick_of cs r ≤ max_tick
tick-most low [] r from = omega arith
tick-most low (c ∷ cs) r from = elim (cases_eq c.0 r) [
  | inl is ↦ omega (arith, tick-here c cs r is, from.2.most)
  | inr other ↦ omega (arith, tick-past c cs r other, tick-most (c.0 + 1) cs r from.3)
]

-- ---- both joined, and one's own tick

pub AreClocks-joined : (a b : Clocks) → AreClocks a → AreClocks b → AreClocks (joined_clocks a b)
AreClocks-joined a b form_a form_b =
    AreClocks-clocks_of (listed_in a ++ listed_in b) (λ r. max (tick_of a r) (tick_of b r))
    (AreReplicas-append (listed_in a) (listed_in b) (AreReplicas-listed_in 0 a form_a) (AreReplicas-listed_in 0 b form_b))
    (λ r. omega (arith, tick-most 0 a r form_a, tick-most 0 b r form_b))

pub tick-joined : (a b : Clocks) (r : ℕ) → AreClocks a → AreClocks b → tick_of (joined_clocks a b) r ≡ max (tick_of a r) (tick_of b r)
tick-joined a b r form_a form_b =
    tick-clocks_of (listed_in a ++ listed_in b) (λ r. max (tick_of a r) (tick_of b r)) r
    (AreReplicas-append (listed_in a) (listed_in b) (AreReplicas-listed_in 0 a form_a) (AreReplicas-listed_in 0 b form_b))
    (λ r. omega (arith, tick-most 0 a r form_a, tick-most 0 b r form_b))
    (λ none. let parts = listed-append (listed_in a) (listed_in b) r none in
    omega (arith, tick-unlisted a r parts.0, tick-unlisted b r parts.1))

pub joined_is : (a b made : Clocks) → AreClocks a → AreClocks b → AreClocks made → ((r : ℕ) → tick_of made r ≡ max (tick_of a r) (tick_of b r)) → made ≡ joined_clocks a b
joined_is a b made form_a form_b form ticks =
    same_ticks 0 made (joined_clocks a b) form (AreClocks-joined a b form_a form_b)
    (λ r. ticks r ∙ sym (tick-joined a b r form_a form_b))

own_most : (own tick : ℕ) (a : Clocks) → tick ≤ max_tick → AreClocks a → (r : ℕ) → (if nat_eq r own then tick else tick_of a r) ≤ max_tick
own_most own tick a most form r = by_test (nat_eq r own)
  where
    by_test : (b : Bool) → (if b then tick else tick_of a r) ≤ max_tick
    by_test true = most
    by_test false = tick-most 0 a r form

pub AreClocks-own : (own tick : ℕ) (a : Clocks) → own < 2 ^ 128 → tick ≤ max_tick → AreClocks a → AreClocks (own_clocks own tick a)
AreClocks-own own tick a fits most form =
    AreClocks-clocks_of (own ∷ listed_in a) (λ r. if nat_eq r own then tick else tick_of a r)
    (fits, AreReplicas-listed_in 0 a form) (own_most own tick a most form)

pub tick-own : (own tick : ℕ) (a : Clocks) (r : ℕ) → own < 2 ^ 128 → tick ≤ max_tick → AreClocks a → tick_of (own_clocks own tick a) r ≡ (if nat_eq r own then tick else tick_of a r)
tick-own own tick a r fits most form =
    tick-clocks_of (own ∷ listed_in a) (λ r. if nat_eq r own then tick else tick_of a r) r
    (fits, AreReplicas-listed_in 0 a form) (own_most own tick a most form)
    (λ none.
    let other : own ≢ r = λ is. absurd (true≢false (sym (eq-eqb own r is) ∙ or-left (nat_eq own r) (is_listed (listed_in a) r) none)) in
    ap (λ b. if b then tick else tick_of a r) (ne_eqb r own (λ is. other (sym is)))
    ∙ tick-unlisted a r (or-right (nat_eq own r) (is_listed (listed_in a) r) none))

pub own_is : (own tick : ℕ) (a made : Clocks) → own < 2 ^ 128 → tick ≤ max_tick → AreClocks a → AreClocks made → ((r : ℕ) → tick_of made r ≡ (if nat_eq r own then tick else tick_of a r)) → made ≡ own_clocks own tick a
own_is own tick a made fits most form_a form ticks =
    same_ticks 0 made (own_clocks own tick a) form (AreClocks-own own tick a fits most form_a)
    (λ r. ticks r ∙ sym (tick-own own tick a r fits most form_a))

-- the tick is taken away, and then there is another one or none
pub ticks_with : (a copied bare made : Clocks) (own tick : ℕ) → copied ≡ a → ChangesOnly copied bare own 0 → ChangesOnly bare made own (max (tick_of bare own) tick) → (r : ℕ) → tick_of made r ≡ (if nat_eq r own then tick else tick_of a r)
ticks_with a copied bare made own tick is taken raised r = elim (cases_eq r own) [
  | inl same ↦
      ap (tick_of made) same ∙ raised.changed
      ∙ omega (arith, taken.changed)
      ∙ sym (ap (λ b. if b then tick else tick_of a r) (eq-eqb r own same))
  | inr other ↦
      raised.others r other ∙ taken.others r other ∙ ap (λ x. tick_of x r) is
      ∙ sym (ap (λ b. if b then tick else tick_of a r) (ne_eqb r own other))
]

pub ticks_without : (a copied bare : Clocks) (own : ℕ) → copied ≡ a → ChangesOnly copied bare own 0 → (r : ℕ) → tick_of bare r ≡ (if nat_eq r own then 0 else tick_of a r)
ticks_without a copied bare own is taken r = elim (cases_eq r own) [
  | inl same ↦
      ap (tick_of bare) same ∙ taken.changed
      ∙ sym (ap (λ b. if b then 0 else tick_of a r) (eq-eqb r own same))
  | inr other ↦
      taken.others r other ∙ ap (λ x. tick_of x r) is
      ∙ sym (ap (λ b. if b then 0 else tick_of a r) (ne_eqb r own other))
]

-- ---- the test of two vectors

pub same_clocks-is : (a b : Clocks) → same_clocks a b ≡ true → a ≡ b
same_clocks-is [] [] same = refl
same_clocks-is [] (d ∷ ds) same = absurd (true≢false (sym same))
same_clocks-is (c ∷ cs) [] same = absurd (true≢false (sym same))
same_clocks-is (c ∷ cs) (d ∷ ds) same =
    let front : (nat_eq c.0 d.0 && nat_eq c.1 d.1) ≡ true = and-left (nat_eq c.0 d.0 && nat_eq c.1 d.1) (same_clocks cs ds) same in
    let first : c.0 ≡ d.0 = eqb-true c.0 d.0 (and-left (nat_eq c.0 d.0) (nat_eq c.1 d.1) front) in
    let second : c.1 ≡ d.1 = eqb-true c.1 d.1 (and-right (nat_eq c.0 d.0) (nat_eq c.1 d.1) front) in
    let tails : cs ≡ ds = same_clocks-is cs ds (and-right (nat_eq c.0 d.0 && nat_eq c.1 d.1) (same_clocks cs ds) same) in
    let heads : c ≡ d = same_pair c d first second in
    cc

pub same_clocks-self : (a : Clocks) → same_clocks a a ≡ true
same_clocks-self [] = refl
same_clocks-self (c ∷ cs) = rw (eq-eqb c.0 c.0 refl, eq-eqb c.1 c.1 refl) (same_clocks-self cs)

pub same_clocks-true : (a b : Clocks) → a ≡ b → same_clocks a b ≡ true
same_clocks-true a b is = ap (λ x. same_clocks x b) is ∙ same_clocks-self b

pub same_clocks-false : (a b : Clocks) → a ≢ b → same_clocks a b ≡ false
same_clocks-false a b other = elim (tested (same_clocks a b)) [
  | yes_it same ↦ absurd (other (same_clocks-is a b same))
  | not_it differ ↦ differ
]
