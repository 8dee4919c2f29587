-- Rows: one clock vector for each unit.
use Rattle.std.proofs.lemmas.List.{append-nil, append_assoc}
use Rattle.std.proofs.Common.{◌≡◌, ◌≢◌, ◌⊎◌, ℕ, zero, suc, ◌+◌, ◌-◌, ◌<◌, ◌≤◌, ◌&&◌, Bool, true, false, true≢false, if◌then◌else◌, nat_eq, inl, inr, arith, refl, sym, ap, subst, ◌∙◌, List, [], ◌∷◌, ◌++◌}
use Rattle.std.proofs.lemmas.Bool.{eq-eqb, ne_eqb, eqb-true, cases_lt, cases_eq}
use Rattle.sfx_vector.specs.Clocks.{Clocks, AreClocks, tick_of}
use Rattle.sfx_vector.proofs.ClocksLemmas.{same_ticks}
use Rattle.sfx_segments.proofs.StandardFacts.{yes_it, not_it, tested}
use Rattle.sfx_knowledge.specs.Row.{UnitRowData, listed_or, row_at, AreExceptions, IsClockRow, ChangesUnit}
use Rattle.sfx_knowledge.specs.Forms.{same_clocks, exceptions_of, row_of, same_exceptions, same_row}
use Rattle.sfx_knowledge.proofs.StandardFacts.{and-left, and-right, and-true}
use Rattle.sfx_knowledge.proofs.VectorsLemmas.{same_clocks-is, same_clocks-self}

abbrev pub made : Clocks → List (ℕ × Clocks) → UnitRowData
made base others = record { base = base; others = others }

-- ---- the vector of a unit

pub listed-here : (base : Clocks) (o : ℕ × Clocks) (os : List (ℕ × Clocks)) (u : ℕ) → o.0 ≡ u → listed_or base (o ∷ os) u ≡ o.1
listed-here base o os u is = ap (λ b. if b then o.1 else listed_or base os u) (eq-eqb o.0 u is)

pub listed-past : (base : Clocks) (o : ℕ × Clocks) (os : List (ℕ × Clocks)) (u : ℕ) → o.0 ≢ u → listed_or base (o ∷ os) u ≡ listed_or base os u
listed-past base o os u other = ap (λ b. if b then o.1 else listed_or base os u) (ne_eqb o.0 u other)

-- below all exceptions there is the base
pub listed-below : (units : ℕ) (base : Clocks) (low : ℕ) (os : List (ℕ × Clocks)) (u : ℕ) → AreExceptions units base low os → u < low → listed_or base os u ≡ base
listed-below units base low [] u form below = refl
listed-below units base low (o ∷ os) u form below =
    listed-past base o os u (λ is. omega arith) ∙ listed-below units base (o.0 + 1) os u form.4 (omega arith)

pub row_at-first : (units : ℕ) (row : UnitRowData) → IsClockRow units row → row_at row 0 ≡ row.base
row_at-first units row form = listed-below units row.base 1 row.others 0 form.others (omega arith)

AreClocks-listed : (units : ℕ) (base : Clocks) (low : ℕ) (os : List (ℕ × Clocks)) (u : ℕ) → AreClocks base → AreExceptions units base low os → AreClocks (listed_or base os u)
AreClocks-listed units base low [] u first form = first
AreClocks-listed units base low (o ∷ os) u first form =
    by_test (nat_eq o.0 u) (AreClocks-listed units base (o.0 + 1) os u first form.4)
  where
    by_test : (b : Bool) → AreClocks (listed_or base os u) → AreClocks (if b then o.1 else listed_or base os u)
    by_test true rest = form.2
    by_test false rest = rest

pub AreClocks-row_at : (units : ℕ) (row : UnitRowData) (u : ℕ) → IsClockRow units row → AreClocks (row_at row u)
AreClocks-row_at units row u form = AreClocks-listed units row.base 1 row.others u form.base form.others

-- ---- one form

pub exceptions-lower : (units : ℕ) (base : Clocks) (low high : ℕ) (os : List (ℕ × Clocks)) → low ≤ high → AreExceptions units base high os → AreExceptions units base low os
exceptions-lower units base low high [] le form = tt
exceptions-lower units base low high (o ∷ os) le form = (omega arith, form.1, form.2, form.3, form.4)

same_other : (o p : ℕ × Clocks) → o.0 ≡ p.0 → o.1 ≡ p.1 → o ≡ p
same_other o p first second =
    let same : (let x : ℕ × Clocks = (o.0, o.1) in let y : ℕ × Clocks = (p.0, p.1) in x ≡ y) = rw (first, second) refl in
    same

same_list : (units : ℕ) (base : Clocks) (low : ℕ) (os ps : List (ℕ × Clocks)) → AreExceptions units base low os → AreExceptions units base low ps → ((u : ℕ) → u < units → listed_or base os u ≡ listed_or base ps u) → os ≡ ps
same_list units base low [] [] form_o form_p alike = refl
same_list units base low (o ∷ os) [] form_o form_p alike =
    absurd (form_o.3 (sym (listed-here base o os o.0 refl) ∙ alike o.0 form_o.1))
same_list units base low [] (p ∷ ps) form_o form_p alike =
    absurd (form_p.3 (sym (listed-here base p ps p.0 refl) ∙ sym (alike p.0 form_p.1)))
same_list units base low (o ∷ os) (p ∷ ps) form_o form_p alike =
    let o_first : p.0 ≤ o.0 = not_below o os p ps form_o form_p (alike o.0 form_o.1) in
    let p_first : o.0 ≤ p.0 = not_below p ps o os form_p form_o (sym (alike p.0 form_p.1)) in
    let first : o.0 ≡ p.0 = omega arith in
    let second : o.1 ≡ p.1 =
    sym (listed-here base o os o.0 refl) ∙ alike o.0 form_o.1 ∙ listed-here base p ps o.0 (sym first) in
    let rest : (u : ℕ) → u < units → listed_or base os u ≡ listed_or base ps u = λ u within. elim (cases_eq o.0 u) [
      | inl is ↦
          listed-below units base (o.0 + 1) os u form_o.4 (omega arith)
          ∙ sym (listed-below units base (p.0 + 1) ps u form_p.4 (omega arith))
      | inr other ↦
          sym (listed-past base o os u other) ∙ alike u within ∙ listed-past base p ps u (λ is. other (first ∙ is))
    ] in
    let tails : os ≡ ps =
    same_list units base (o.0 + 1) os ps form_o.4 (subst (λ n. AreExceptions units base (n + 1) ps) (sym first) form_p.4) rest in
    let heads : o ≡ p = same_other o p first second in
    cc
  where
    not_below : (o : ℕ × Clocks) (os : List (ℕ × Clocks)) (p : ℕ × Clocks) (ps : List (ℕ × Clocks)) → AreExceptions units base low (o ∷ os) → AreExceptions units base low (p ∷ ps) → listed_or base (o ∷ os) o.0 ≡ listed_or base (p ∷ ps) o.0 → p.0 ≤ o.0
    not_below o os p ps form_o form_p same = elim (cases_lt o.0 p.0) [
      | inr le ↦ le
      | inl less ↦
          absurd (form_o.3 (sym (listed-here base o os o.0 refl) ∙ same
          ∙ listed-below units base p.0 (p ∷ ps) o.0 (omega arith, form_p.1, form_p.2, form_p.3, form_p.4) less))
    ]

-- two rows with the same vectors are the same
pub same_rows : (units : ℕ) (a b : UnitRowData) → IsClockRow units a → IsClockRow units b → a.base ≡ b.base → ((u : ℕ) → u < units → row_at a u ≡ row_at b u) → a ≡ b
same_rows units a b form_a form_b first alike =
    let form_b' : AreExceptions units a.base 1 b.others = subst (λ base. AreExceptions units base 1 b.others) (sym first) form_b.others in
    let others : a.others ≡ b.others =
    same_list units a.base 1 a.others b.others form_a.others form_b'
    (λ u within. alike u within ∙ ap (λ base. listed_or base b.others u) (sym first)) in
    let same : made a.base a.others ≡ made b.base b.others = rw (first, others) refl in
    same

pub one_row : (units : ℕ) (a b : UnitRowData) → 1 ≤ units → IsClockRow units a → IsClockRow units b → ((u r : ℕ) → u < units → tick_of (row_at a u) r ≡ tick_of (row_at b u) r) → a ≡ b
one_row units a b some form_a form_b ticks =
    let alike : (u : ℕ) → u < units → row_at a u ≡ row_at b u =
    λ u within. same_ticks 0 (row_at a u) (row_at b u) (AreClocks-row_at units a u form_a) (AreClocks-row_at units b u form_b) (λ r. ticks u r within) in
    same_rows units a b form_a form_b (sym (row_at-first units a form_a) ∙ alike 0 some ∙ row_at-first units b form_b) alike

-- ---- the row with these vectors

-- the test at the first unit, with what it says
exceptions-same : (base : Clocks) (vector : ℕ → Clocks) (unit count : ℕ) → same_clocks (vector unit) base ≡ true → exceptions_of base vector unit (suc count) ≡ exceptions_of base vector (unit + 1) count
exceptions-same base vector unit count same = rw same refl

exceptions-differ : (base : Clocks) (vector : ℕ → Clocks) (unit count : ℕ) → same_clocks (vector unit) base ≡ false → let o : ℕ × Clocks = (unit, vector unit) in exceptions_of base vector unit (suc count) ≡ o ∷ exceptions_of base vector (unit + 1) count
exceptions-differ base vector unit count differ = rw differ refl

pub not_same : (a b : Clocks) → same_clocks a b ≡ false → a ≢ b
not_same a b differ is = true≢false (sym (same_clocks-self b) ∙ ap (λ x. same_clocks x b) (sym is) ∙ differ)

pub AreExceptions-exceptions_of : (units : ℕ) (base : Clocks) (vector : ℕ → Clocks) (unit count : ℕ) → unit + count ≤ units → ((u : ℕ) → u < units → AreClocks (vector u)) → AreExceptions units base unit (exceptions_of base vector unit count)
AreExceptions-exceptions_of units base vector unit zero within form = tt
AreExceptions-exceptions_of units base vector unit (suc count) within form = elim (tested (same_clocks (vector unit) base)) [
  | yes_it same ↦
      subst (AreExceptions units base unit) (sym (exceptions-same base vector unit count same))
      (exceptions-lower units base unit (unit + 1) _ (omega arith) (AreExceptions-exceptions_of units base vector (unit + 1) count (omega arith) form))
  | not_it differ ↦
      subst (AreExceptions units base unit) (sym (exceptions-differ base vector unit count differ))
      (omega arith, omega arith, form unit (omega arith), not_same (vector unit) base differ, AreExceptions-exceptions_of units base vector (unit + 1) count (omega arith) form)
]

-- below the first unit none is listed
unlisted-below : (base : Clocks) (vector : ℕ → Clocks) (unit count u : ℕ) → u < unit → listed_or base (exceptions_of base vector unit count) u ≡ base
unlisted-below base vector unit zero u less = refl
unlisted-below base vector unit (suc count) u less = elim (tested (same_clocks (vector unit) base)) [
  | yes_it same ↦
      ap (λ os. listed_or base os u) (exceptions-same base vector unit count same)
      ∙ unlisted-below base vector (unit + 1) count u (omega arith)
  | not_it differ ↦
      ap (λ os. listed_or base os u) (exceptions-differ base vector unit count differ)
      ∙ listed-past base (unit, vector unit) (exceptions_of base vector (unit + 1) count) u (λ is. omega arith)
      ∙ unlisted-below base vector (unit + 1) count u (omega arith)
]

pub listed-exceptions_of : (base : Clocks) (vector : ℕ → Clocks) (unit count u : ℕ) → unit ≤ u → u < unit + count → listed_or base (exceptions_of base vector unit count) u ≡ vector u
listed-exceptions_of base vector unit zero u low high = absurd (omega arith)
listed-exceptions_of base vector unit (suc count) u low high = elim (tested (same_clocks (vector unit) base)) [
  | yes_it same ↦
      ap (λ os. listed_or base os u) (exceptions-same base vector unit count same)
      ∙ elim (cases_eq unit u) [
        | inl is ↦
            unlisted-below base vector (unit + 1) count u (omega arith)
            ∙ sym (same_clocks-is (vector unit) base same) ∙ ap vector is
        | inr other ↦ listed-exceptions_of base vector (unit + 1) count u (omega arith) (omega arith)
      ]
  | not_it differ ↦
      ap (λ os. listed_or base os u) (exceptions-differ base vector unit count differ)
      ∙ elim (cases_eq unit u) [
        | inl is ↦ listed-here base (unit, vector unit) (exceptions_of base vector (unit + 1) count) u is ∙ ap vector is
        | inr other ↦
            listed-past base (unit, vector unit) (exceptions_of base vector (unit + 1) count) u other
            ∙ listed-exceptions_of base vector (unit + 1) count u (omega arith) (omega arith)
      ]
]

pub IsRow-row_of : (units : ℕ) (vector : ℕ → Clocks) → ((u : ℕ) → (u < units) ⊎ (u ≡ 0) → AreClocks (vector u)) → IsClockRow units (row_of units vector)
IsRow-row_of units vector form = record {
  base = form 0 (inr refl);
  others = from_one units vector form;
}
  where
    from_one : (units : ℕ) (vector : ℕ → Clocks) → ((u : ℕ) → (u < units) ⊎ (u ≡ 0) → AreClocks (vector u)) → AreExceptions units (vector 0) 1 (exceptions_of (vector 0) vector 1 (units - 1))
    from_one zero vector form = tt
    from_one (suc n) vector form = AreExceptions-exceptions_of (suc n) (vector 0) vector 1 (suc n - 1) (omega arith) (λ u within. form u (inl within))

pub row_at-row_of : (units : ℕ) (vector : ℕ → Clocks) (u : ℕ) → (u < units) ⊎ (u ≡ 0) → row_at (row_of units vector) u ≡ vector u
row_at-row_of units vector u within = elim (cases_eq u 0) [
  | inl first ↦ ap (row_at (row_of units vector)) first ∙ at_first (units - 1) ∙ ap vector (sym first)
  | inr other ↦ listed-exceptions_of (vector 0) vector 1 (units - 1) u (omega arith) (omega arith)
]
  where
    at_first : (count : ℕ) → listed_or (vector 0) (exceptions_of (vector 0) vector 1 count) 0 ≡ vector 0
    at_first count = unlisted-below (vector 0) vector 1 count 0 (omega arith)

-- ---- the exceptions unit by unit

-- those so far with the first of the rest
pub exceptions_more : (base : Clocks) (vector : ℕ → Clocks) (unit units : ℕ) (next : Clocks) (before after whole : List (ℕ × Clocks)) → base ≡ vector 0 → next ≡ vector unit → unit < units → after ≡ before ++ exceptions_of base (λ _. next) unit 1 → before ++ exceptions_of (vector 0) vector unit (units - unit) ≡ whole → after ++ exceptions_of (vector 0) vector (unit + 1) (units - (unit + 1)) ≡ whole
exceptions_more base vector unit units next before after whole first here within is so_far =
    let rest = exceptions_of (vector 0) vector (unit + 1) (units - (unit + 1)) in
    let count : units - unit ≡ suc (units - (unit + 1)) = omega arith in
    ap (λ xs. xs ++ rest) (is ∙ ap (λ b. before ++ exceptions_of b (λ _. next) unit 1) first ∙ ap (λ v. before ++ exceptions_of (vector 0) (λ _. v) unit 1) here)
    ∙ append_assoc before (exceptions_of (vector 0) (λ _. vector unit) unit 1) rest
    ∙ ap (λ xs. before ++ xs) (first_of (same_clocks (vector unit) (vector 0)) rest)
    ∙ ap (λ n. before ++ exceptions_of (vector 0) vector unit n) (sym count)
    ∙ so_far
  where
    first_of : (b : Bool) (rest : List (ℕ × Clocks)) → (let o : ℕ × Clocks = (unit, vector unit) in (if b then [] else o ∷ []) ++ rest ≡ (if b then rest else o ∷ rest))
    first_of true rest = refl
    first_of false rest = refl

-- and at the end
pub exceptions_end : (vector : ℕ → Clocks) (unit units : ℕ) (others : List (ℕ × Clocks)) → units ≤ unit → others ++ exceptions_of (vector 0) vector unit (units - unit) ≡ exceptions_of (vector 0) vector 1 (units - 1) → others ≡ exceptions_of (vector 0) vector 1 (units - 1)
exceptions_end vector unit units others end is =
    let none : units - unit ≡ 0 = omega arith in
    sym (append-nil others) ∙ ap (λ n. others ++ exceptions_of (vector 0) vector unit n) (sym none) ∙ is

pub IsRow-parts : (units : ℕ) (vector : ℕ → Clocks) (base : Clocks) (others : List (ℕ × Clocks)) → base ≡ vector 0 → others ≡ exceptions_of (vector 0) vector 1 (units - 1) → AreClocks base → ((u : ℕ) → 1 ≤ u → u < units → AreClocks (vector u)) → IsClockRow units (made base others)
IsRow-parts units vector base others first is form_base form =
    let same : row_of units vector ≡ made base others = rw (first, is) refl in
    subst (IsClockRow units) same
    (IsRow-row_of units vector (λ u within. elim (cases_eq u 0) [
      | inl least ↦ subst AreClocks (first ∙ ap vector (sym least)) form_base
      | inr other ↦ form u (omega arith) (omega arith)
    ]))

-- the row with another vector at one unit
pub put_is : (units : ℕ) (old new : UnitRowData) (unit : ℕ) (vector : Clocks) → unit < units → new ≡ row_of units (λ u. if nat_eq u unit then vector else row_at old u) → ChangesUnit units old new unit vector
put_is units old new unit vector within is = record {
  changed =
      at unit within ∙ ap (λ b. if b then vector else row_at old unit) (eq-eqb unit unit refl);
  others = λ u inside other. at u inside ∙ ap (λ b. if b then vector else row_at old u) (ne_eqb u unit other);
}
  where
    at : (u : ℕ) → u < units → row_at new u ≡ (if nat_eq u unit then vector else row_at old u)
    at u inside =
        ap (λ row. row_at row u) is
        ∙ row_at-row_of units (λ x. if nat_eq x unit then vector else row_at old x) u (inl inside)

-- ---- the test of two rows

same_exceptions-is : (os ps : List (ℕ × Clocks)) → same_exceptions os ps ≡ true → os ≡ ps
same_exceptions-is [] [] same = refl
same_exceptions-is [] (p ∷ ps) same = absurd (true≢false (sym same))
same_exceptions-is (o ∷ os) [] same = absurd (true≢false (sym same))
same_exceptions-is (o ∷ os) (p ∷ ps) same =
    let front : (nat_eq o.0 p.0 && same_clocks o.1 p.1) ≡ true = and-left (nat_eq o.0 p.0 && same_clocks o.1 p.1) (same_exceptions os ps) same in
    let first : o.0 ≡ p.0 = eqb-true o.0 p.0 (and-left (nat_eq o.0 p.0) (same_clocks o.1 p.1) front) in
    let second : o.1 ≡ p.1 = same_clocks-is o.1 p.1 (and-right (nat_eq o.0 p.0) (same_clocks o.1 p.1) front) in
    let tails : os ≡ ps = same_exceptions-is os ps (and-right (nat_eq o.0 p.0 && same_clocks o.1 p.1) (same_exceptions os ps) same) in
    let heads : o ≡ p = same_other o p first second in
    cc

same_exceptions-self : (os : List (ℕ × Clocks)) → same_exceptions os os ≡ true
same_exceptions-self [] = refl
same_exceptions-self (o ∷ os) = rw (eq-eqb o.0 o.0 refl, same_clocks-self o.1) (same_exceptions-self os)

pub same_row-is : (a b : UnitRowData) → same_row a b ≡ true → a ≡ b
same_row-is a b same =
    let first : a.base ≡ b.base = same_clocks-is a.base b.base (and-left (same_clocks a.base b.base) (same_exceptions a.others b.others) same) in
    let second : a.others ≡ b.others = same_exceptions-is a.others b.others (and-right (same_clocks a.base b.base) (same_exceptions a.others b.others) same) in
    let is : made a.base a.others ≡ made b.base b.others = rw (first, second) refl in
    is

pub same_row-self : (a : UnitRowData) → same_row a a ≡ true
same_row-self a = and-true (same_clocks a.base a.base) (same_exceptions a.others a.others) (same_clocks-self a.base) (same_exceptions-self a.others)

pub not_same_row : (a b : UnitRowData) → same_row a b ≡ false → a ≢ b
not_same_row a b differ is = true≢false (sym (same_row-self b) ∙ ap (λ x. same_row x b) (sym is) ∙ differ)
