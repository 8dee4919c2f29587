-- Units of items in order.
use Rattle.std.proofs.Common.{◌≡◌, ◌⊎◌, ℕ, suc, ◌<◌, ◌≤◌, ◌&&◌, ◌||◌, Bool, true, false, true≢false, if◌then◌else◌, nat_eq, inl, inr, arith, refl, sym, ap, subst, ◌∙◌, List, [], ◌∷◌, length}
use Rattle.std.specs.List.{insert}
use Rattle.std.specs.Cmp.{IsTotalOrder}
use Rattle.std.specs.declared.cmp.Ordering.{Ordering}
use Rattle.std.specs.declared.cmp.Ordering.TheVariants.{Less, Equal, Greater}
use Rattle.std.specs.Ordering.{on, is_lt, ordering_reverse}
use Rattle.std.proofs.lemmas.Bool.Decides.{nat_tests}
use Rattle.std.proofs.lemmas.Cmp.{on_total, then_total, nat_cmp_total, tied_itself}
use Rattle.std.proofs.lemmas.Bool.{eq-eqb, eqb-true}
use Rattle.sfx_ids.specs.declared.item_id.ItemId.{ItemId}
use Rattle.sfx_ids.proofs.CutLemmas.{is_less}
use Rattle.sfx_segments.proofs.StandardFacts.{yes_it, not_it, tested}
use Rattle.sfx_knowledge.specs.Skips.{same_cell, is_skipped, AddsSkip, cell_cmp, cell_lt, GoOnBehind, AreSkips, cell_place}
use Rattle.sfx_knowledge.proofs.StandardFacts.{and-left, and-right, or-left, or-right}

-- ---- the order

cell_total : IsTotalOrder cell_cmp
cell_total =
    then_total (on_total (λ (s : ItemId × ℕ). s.0.tick) nat_cmp_total)
    (then_total (on_total (λ (s : ItemId × ℕ). s.0.replica) nat_cmp_total) (on_total (λ (s : ItemId × ℕ). s.1) nat_cmp_total))

cells_equal : (s t : ItemId × ℕ) → cell_cmp s t ≡ Equal → same_cell s.0 s.1 t.0 t.1 ≡ true
cells_equal s t equal =
    let tick : s.0.tick ≡ t.0.tick = grind (arith, nat_tests) in
    let replica : s.0.replica ≡ t.0.replica = grind (arith, nat_tests) in
    let unit : s.1 ≡ t.1 = grind (arith, nat_tests) in
    rw (eq-eqb s.0.tick t.0.tick tick, eq-eqb s.0.replica t.0.replica replica, eq-eqb s.1 t.1 unit) refl

-- one that is neither before another nor the same is behind it
behind : (s t : ItemId × ℕ) → cell_lt t s ≡ false → same_cell t.0 t.1 s.0 s.1 ≡ false → cell_lt s t ≡ true
behind s t not other = by_answer (cell_cmp t s) (cell_cmp s t) (cell_total.antisymm s t) (cells_equal t s) not
  where
    by_answer : (o p : Ordering) → p ≡ ordering_reverse o → (o ≡ Equal → same_cell t.0 t.1 s.0 s.1 ≡ true) → is_lt o ≡ false → is_lt p ≡ true
    by_answer Less p turned same nor = absurd (true≢false nor)
    by_answer Equal p turned same nor = absurd (true≢false (sym (same refl) ∙ other))
    by_answer Greater p turned same nor = ap is_lt turned

abbrev item_of : ℕ → ℕ → ItemId
item_of tick replica = record { tick = tick; replica = replica }

pub cells_same : (i : ItemId) (u : ℕ) (j : ItemId) (x : ℕ) → same_cell i u j x ≡ true → (i ≡ j) × (u ≡ x)
cells_same i u j x same =
    let item : (nat_eq i.tick j.tick && nat_eq i.replica j.replica) ≡ true = and-left (nat_eq i.tick j.tick && nat_eq i.replica j.replica) (nat_eq u x) same in
    let tick : i.tick ≡ j.tick = eqb-true i.tick j.tick (and-left (nat_eq i.tick j.tick) (nat_eq i.replica j.replica) item) in
    let replica : i.replica ≡ j.replica = eqb-true i.replica j.replica (and-right (nat_eq i.tick j.tick) (nat_eq i.replica j.replica) item) in
    let is : item_of i.tick i.replica ≡ item_of j.tick j.replica = rw (tick, replica) refl in
    (is, eqb-true u x (and-right (nat_eq i.tick j.tick && nat_eq i.replica j.replica) (nat_eq u x) same))

pub cells-self : (i : ItemId) (u : ℕ) → same_cell i u i u ≡ true
cells-self i u = rw (eq-eqb i.tick i.tick refl, eq-eqb i.replica i.replica refl, eq-eqb u u refl) refl

abbrev pair_of : ItemId → ℕ → ItemId × ℕ
pair_of i u = (i, u)

same_pair : (s t : ItemId × ℕ) → s.0 ≡ t.0 → s.1 ≡ t.1 → s ≡ t
same_pair s t item unit =
    let is : pair_of s.0 s.1 ≡ pair_of t.0 t.1 = rw (item, unit) refl in
    is

cell-trans : (a b c : ItemId × ℕ) → cell_lt a b ≡ true → cell_lt b c ≡ true → cell_lt a c ≡ true
cell-trans a b c first second = ap is_lt (cell_total.trans a b c (is_less (cell_cmp a b) first) (is_less (cell_cmp b c) second))

-- one before another is not the same
apart : (s t : ItemId × ℕ) → cell_lt s t ≡ true → same_cell t.0 t.1 s.0 s.1 ≡ false
apart s t lt = elim (tested (same_cell t.0 t.1 s.0 s.1)) [
  | yes_it same ↦
      let is = cells_same t.0 t.1 s.0 s.1 same in
      let pair : t ≡ s = same_pair t s is.0 is.1 in
      absurd (true≢false (sym lt ∙ ap (λ x. cell_lt s x) pair ∙ ap is_lt (tied_itself cell_total s)))
  | not_it other ↦ other
]

-- ---- one more

pub place-within : (ts : List (ItemId × ℕ)) (s : ItemId × ℕ) → cell_place ts s ≤ length ts
place-within [] s = omega arith
place-within (t ∷ ts) s = by_test (cell_lt t s) (place-within ts s)
  where
    by_test : (b : Bool) → cell_place ts s ≤ length ts → (if b then suc (cell_place ts s) else 0) ≤ length (t ∷ ts)
    by_test true rest = omega arith
    by_test false rest = omega arith

place-past : (t : ItemId × ℕ) (ts : List (ItemId × ℕ)) (s : ItemId × ℕ) → cell_lt t s ≡ true → cell_place (t ∷ ts) s ≡ suc (cell_place ts s)
place-past t ts s lt = ap (λ b. if b then suc (cell_place ts s) else 0) lt

place-here : (t : ItemId × ℕ) (ts : List (ItemId × ℕ)) (s : ItemId × ℕ) → cell_lt t s ≡ false → cell_place (t ∷ ts) s ≡ 0
place-here t ts s not = ap (λ b. if b then suc (cell_place ts s) else 0) not

GoOn-insert : (units : ℕ) (from : ItemId × ℕ) (ts : List (ItemId × ℕ)) (s : ItemId × ℕ) → s.1 < units → cell_lt from s ≡ true → GoOnBehind units from ts → is_skipped ts s.0 s.1 ≡ false → GoOnBehind units from (insert ts (cell_place ts s) s)
GoOn-insert units from [] s valid lt on none = (lt, valid, tt)
GoOn-insert units from (t ∷ ts) s valid lt on none = elim (tested (cell_lt t s)) [
  | yes_it past ↦
      subst (λ n. GoOnBehind units from (insert (t ∷ ts) n s)) (sym (place-past t ts s past))
      (on.0, on.1, GoOn-insert units t ts s valid past on.2 (or-right (same_cell t.0 t.1 s.0 s.1) (is_skipped ts s.0 s.1) none))
  | not_it not ↦
      subst (λ n. GoOnBehind units from (insert (t ∷ ts) n s)) (sym (place-here t ts s not))
      (lt, valid, (behind s t not (or-left (same_cell t.0 t.1 s.0 s.1) (is_skipped ts s.0 s.1) none), on.1, on.2))
]

pub AreSkips-insert : (units : ℕ) (ts : List (ItemId × ℕ)) (s : ItemId × ℕ) → s.1 < units → AreSkips units ts → is_skipped ts s.0 s.1 ≡ false → AreSkips units (insert ts (cell_place ts s) s)
AreSkips-insert units [] s valid form none = (valid, tt)
AreSkips-insert units (t ∷ ts) s valid form none = elim (tested (cell_lt t s)) [
  | yes_it past ↦
      subst (λ n. AreSkips units (insert (t ∷ ts) n s)) (sym (place-past t ts s past))
      (form.0, GoOn-insert units t ts s valid past form.1 (or-right (same_cell t.0 t.1 s.0 s.1) (is_skipped ts s.0 s.1) none))
  | not_it not ↦
      subst (λ n. AreSkips units (insert (t ∷ ts) n s)) (sym (place-here t ts s not))
      (valid, (behind s t not (or-left (same_cell t.0 t.1 s.0 s.1) (is_skipped ts s.0 s.1) none), form.0, form.1))
]

skipped-insert : (ts : List (ItemId × ℕ)) (s : ItemId × ℕ) (j : ItemId) (x : ℕ) → is_skipped (insert ts (cell_place ts s) s) j x ≡ (same_cell s.0 s.1 j x || is_skipped ts j x)
skipped-insert [] s j x = refl
skipped-insert (t ∷ ts) s j x = elim (tested (cell_lt t s)) [
  | yes_it past ↦
      ap (λ n. is_skipped (insert (t ∷ ts) n s) j x) (place-past t ts s past)
      ∙ ap (λ b. same_cell t.0 t.1 j x || b) (skipped-insert ts s j x)
      ∙ swapped (same_cell t.0 t.1 j x) (same_cell s.0 s.1 j x) (is_skipped ts j x)
  | not_it not ↦ ap (λ n. is_skipped (insert (t ∷ ts) n s) j x) (place-here t ts s not)
]
  where
    swapped : (a b c : Bool) → (a || (b || c)) ≡ (b || (a || c))
    swapped true true c = refl
    swapped true false c = refl
    swapped false b c = refl

pub added : (old new : List (ItemId × ℕ)) (i : ItemId) (u : ℕ) → (let s : ItemId × ℕ = (i, u) in new ≡ insert old (cell_place old s) s) → AddsSkip old new i u
added old new i u is j x = ap (λ ss. is_skipped ss j x) is ∙ skipped-insert old (i, u) j x

-- one that is there already
pub added_again : (old : List (ItemId × ℕ)) (i : ItemId) (u : ℕ) → is_skipped old i u ≡ true → AddsSkip old old i u
added_again old i u there j x = elim (tested (same_cell i u j x)) [
  | yes_it same ↦
      let is = cells_same i u j x same in
      subst (λ k. is_skipped old k x ≡ true) is.0 (subst (λ n. is_skipped old i n ≡ true) is.1 there)
      ∙ sym (ap (λ b. b || is_skipped old j x) same)
  | not_it other ↦ sym (ap (λ b. b || is_skipped old j x) other)
]

-- ---- one form

-- one before all of the list, or the one that it follows, is not listed
unskipped : (units : ℕ) (from : ItemId × ℕ) (ts : List (ItemId × ℕ)) (s : ItemId × ℕ) → (cell_lt s from ≡ true) ⊎ (s ≡ from) → GoOnBehind units from ts → is_skipped ts s.0 s.1 ≡ false
unskipped units from [] s le on = refl
unskipped units from (t ∷ ts) s le on =
    let lt : cell_lt s t ≡ true = elim le [ inl less ↦ cell-trans s from t less on.0 | inr is ↦ subst (λ x. cell_lt x t ≡ true) (sym is) on.0 ] in
    ap (λ b. b || is_skipped ts s.0 s.1) (apart s t lt) ∙ unskipped units t ts s (inl lt) on.2

-- so the first of two lists with the same members are the same
first_same : (units : ℕ) (s : ItemId × ℕ) (ss : List (ItemId × ℕ)) (t : ItemId × ℕ) (ts : List (ItemId × ℕ)) → GoOnBehind units s ss → GoOnBehind units t ts → ((i : ItemId) (u : ℕ) → is_skipped (s ∷ ss) i u ≡ is_skipped (t ∷ ts) i u) → s ≡ t
first_same units s ss t ts on_s on_t alike = elim (tested (same_cell t.0 t.1 s.0 s.1)) [
  | yes_it same ↦ let is = cells_same t.0 t.1 s.0 s.1 same in sym (same_pair t s is.0 is.1)
  | not_it other ↦ elim (tested (cell_lt s t)) [
    | yes_it lt ↦
        absurd (true≢false (sym (ap (λ b. b || is_skipped ss s.0 s.1) (cells-self s.0 s.1)) ∙ alike s.0 s.1
        ∙ ap (λ b. b || is_skipped ts s.0 s.1) other ∙ unskipped units t ts s (inl lt) on_t))
    | not_it not ↦
        let lt : cell_lt t s ≡ true = behind t s not (turned t s other) in
        absurd (true≢false (sym (ap (λ b. b || is_skipped ts t.0 t.1) (cells-self t.0 t.1)) ∙ sym (alike t.0 t.1)
        ∙ ap (λ b. b || is_skipped ss t.0 t.1) (turned t s other) ∙ unskipped units s ss t (inl lt) on_s))
  ]
]
  where
    turned : (t s : ItemId × ℕ) → same_cell t.0 t.1 s.0 s.1 ≡ false → same_cell s.0 s.1 t.0 t.1 ≡ false
    turned t s other = elim (tested (same_cell s.0 s.1 t.0 t.1)) [
      | yes_it same ↦
          let is = cells_same s.0 s.1 t.0 t.1 same in
          let pair : s ≡ t = same_pair s t is.0 is.1 in
          absurd (true≢false (sym (cells-self t.0 t.1) ∙ ap (λ (x : ItemId × ℕ). same_cell t.0 t.1 x.0 x.1) (sym pair) ∙ other))
      | not_it nor ↦ nor
    ]

-- and what follows has the same members
rest_alike : (units : ℕ) (s : ItemId × ℕ) (ss : List (ItemId × ℕ)) (t : ItemId × ℕ) (ts : List (ItemId × ℕ)) → s ≡ t → GoOnBehind units s ss → GoOnBehind units t ts → ((i : ItemId) (u : ℕ) → is_skipped (s ∷ ss) i u ≡ is_skipped (t ∷ ts) i u) → (i : ItemId) (u : ℕ) → is_skipped ss i u ≡ is_skipped ts i u
rest_alike units s ss t ts heads on_s on_t alike i u = elim (tested (same_cell s.0 s.1 i u)) [
  | yes_it same ↦
      let is = cells_same s.0 s.1 i u same in
      let at_s : (let x : ItemId × ℕ = (i, u) in x ≡ s) = sym (same_pair s (i, u) is.0 is.1) in
      unskipped units s ss (i, u) (inr at_s) on_s ∙ sym (unskipped units t ts (i, u) (inr (at_s ∙ heads)) on_t)
  | not_it other ↦
      sym (ap (λ b. b || is_skipped ss i u) other) ∙ alike i u
      ∙ ap (λ b. b || is_skipped ts i u) (ap (λ (x : ItemId × ℕ). same_cell x.0 x.1 i u) (sym heads) ∙ other)
]

-- lists in form with the same members go on alike
skips_alike : (units : ℕ) (from : ItemId × ℕ) (ss ts : List (ItemId × ℕ)) → GoOnBehind units from ss → GoOnBehind units from ts → ((i : ItemId) (u : ℕ) → is_skipped ss i u ≡ is_skipped ts i u) → ss ≡ ts
skips_alike units from [] [] on_s on_t alike = refl
skips_alike units from [] (t ∷ ts) on_s on_t alike =
    absurd (true≢false (sym (ap (λ b. b || is_skipped ts t.0 t.1) (cells-self t.0 t.1)) ∙ sym (alike t.0 t.1)))
skips_alike units from (s ∷ ss) [] on_s on_t alike =
    absurd (true≢false (sym (ap (λ b. b || is_skipped ss s.0 s.1) (cells-self s.0 s.1)) ∙ alike s.0 s.1))
skips_alike units from (s ∷ ss) (t ∷ ts) on_s on_t alike =
    let heads : s ≡ t = first_same units s ss t ts on_s.2 on_t.2 alike in
    let tails : ss ≡ ts = skips_alike units s ss ts on_s.2 (subst (λ x. GoOnBehind units x ts) (sym heads) on_t.2) (rest_alike units s ss t ts heads on_s.2 on_t.2 alike) in
    cc

pub same_skips : (units : ℕ) (ss ts : List (ItemId × ℕ)) → AreSkips units ss → AreSkips units ts → ((i : ItemId) (u : ℕ) → is_skipped ss i u ≡ is_skipped ts i u) → ss ≡ ts
same_skips units [] [] form_s form_t alike = refl
same_skips units [] (t ∷ ts) form_s form_t alike =
    absurd (true≢false (sym (ap (λ b. b || is_skipped ts t.0 t.1) (cells-self t.0 t.1)) ∙ sym (alike t.0 t.1)))
same_skips units (s ∷ ss) [] form_s form_t alike =
    absurd (true≢false (sym (ap (λ b. b || is_skipped ss s.0 s.1) (cells-self s.0 s.1)) ∙ alike s.0 s.1))
same_skips units (s ∷ ss) (t ∷ ts) form_s form_t alike =
    let heads : s ≡ t = first_same units s ss t ts form_s.1 form_t.1 alike in
    let tails : ss ≡ ts = skips_alike units s ss ts form_s.1 (subst (λ x. GoOnBehind units x ts) (sym heads) form_t.1) (rest_alike units s ss t ts heads form_s.1 form_t.1 alike) in
    cc
