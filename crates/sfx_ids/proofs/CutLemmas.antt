-- The order of cuts, as lemmas.
use Rattle.std.proofs.Common.{◌≡◌, ◌⊎◌, ℕ, ◌==◌, true, false, true≢false, if◌then◌else◌, inl, inr, arith, refl, sym, ap, subst, ◌∙◌}
use Rattle.std.proofs.lemmas.Bool.Decides.{nat_tests}
use Rattle.std.proofs.lemmas.Cmp.{on_total, then_total, nat_cmp_total, tied_itself}
use Rattle.std.specs.Cmp.{IsTotalOrder}
use Rattle.std.specs.Ordering.{nat_cmp, on, then_cmp, is_lt, is_le, ordering_reverse}
use Rattle.std.specs.declared.cmp.Ordering.{Ordering}
use Rattle.std.specs.declared.cmp.Ordering.TheVariants.{Less, Equal, Greater}
use Rattle.sfx_ids.specs.declared.cut.Cut.{Cut}
use Rattle.sfx_ids.specs.declared.cut.Cut.TheVariants.{Start, At, After, End}
use Rattle.sfx_ids.specs.declared.item_id.ItemId.{ItemId}
use Rattle.sfx_ids.specs.Cut.{Rank, rank_of, cut_cmp, cut_lt, cut_le, is_between}

-- ---- the order is total, and tells cuts apart

pub cut_total : IsTotalOrder cut_cmp
cut_total =
    on_total rank_of
    (then_total (on_total (λ r. r.part) nat_cmp_total)
    (then_total (on_total (λ r. r.tick) nat_cmp_total)
    (then_total (on_total (λ r. r.replica) nat_cmp_total) (on_total (λ r. r.side) nat_cmp_total))))

-- the cut of a rank
abbrev cut_of : Rank → Cut
cut_of r =
    if r.part == 0 then Start
    else if r.part == 2 then End
    else if r.side == 0 then At (record { tick = r.tick; replica = r.replica })
    else After (record { tick = r.tick; replica = r.replica })

cut_of-rank_of : (a : Cut) → cut_of (rank_of a) ≡ a
cut_of-rank_of Start = refl
cut_of-rank_of (At x) = refl
cut_of-rank_of (After x) = refl
cut_of-rank_of End = refl

abbrev rank : ℕ → ℕ → ℕ → ℕ → Rank
rank part tick replica side = record { part = part; tick = tick; replica = replica; side = side }

same_rank : (r s : Rank) → r.part ≡ s.part → r.tick ≡ s.tick → r.replica ≡ s.replica → r.side ≡ s.side → r ≡ s
same_rank r s part tick replica side =
    let same : rank r.part r.tick r.replica r.side ≡ rank s.part s.tick s.replica s.side = rw (part, tick, replica, side) refl in
    same

abbrev rank_cmp : Rank → Rank → Ordering
rank_cmp =
    then_cmp (on (λ r. r.part) nat_cmp)
    (then_cmp (on (λ r. r.tick) nat_cmp)
    (then_cmp (on (λ r. r.replica) nat_cmp) (on (λ r. r.side) nat_cmp)))

equal_parts : (r s : Rank) → rank_cmp r s ≡ Equal → (r.part ≡ s.part) × (r.tick ≡ s.tick) × (r.replica ≡ s.replica) × (r.side ≡ s.side)
equal_parts r s equal = (grind (arith, nat_tests), grind (arith, nat_tests), grind (arith, nat_tests), grind (arith, nat_tests))

pub cut_exact : (a b : Cut) → cut_cmp a b ≡ Equal → a ≡ b
cut_exact a b equal =
    let parts = equal_parts (rank_of a) (rank_of b) equal in
    sym (cut_of-rank_of a) ∙ ap cut_of (same_rank (rank_of a) (rank_of b) parts.0 parts.1 parts.2 parts.3) ∙ cut_of-rank_of b

-- ---- two cuts

pub cmp-self : (a : Cut) → cut_cmp a a ≡ Equal
cmp-self a = tied_itself cut_total a

pub le-self : (a : Cut) → cut_le a a ≡ true
le-self a = ap is_le (cmp-self a)

pub lt-self : (a : Cut) → cut_lt a a ≡ false
lt-self a = ap is_lt (cmp-self a)

pub lt-le : (a b : Cut) → cut_lt a b ≡ true → cut_le a b ≡ true
lt-le a b = by_answer (cut_cmp a b)
  where
    by_answer : (o : Ordering) → is_lt o ≡ true → is_le o ≡ true
    by_answer Less lt = refl
    by_answer Equal lt = refl
    by_answer Greater lt = lt

pub le_or_lt : (a b : Cut) → (cut_le a b ≡ true) ⊎ (cut_lt b a ≡ true)
le_or_lt a b = by_answer (cut_cmp a b) (cut_cmp b a) (cut_total.antisymm b a)
  where
    by_answer : (o p : Ordering) → p ≡ ordering_reverse o → (is_le o ≡ true) ⊎ (is_lt p ≡ true)
    by_answer Less p turned = inl refl
    by_answer Equal p turned = inl refl
    by_answer Greater p turned = inr (ap is_lt turned)

pub not_lt : (a b : Cut) → cut_lt a b ≡ false → cut_le b a ≡ true
not_lt a b = by_answer (cut_cmp a b) (cut_cmp b a) (cut_total.antisymm b a)
  where
    by_answer : (o p : Ordering) → p ≡ ordering_reverse o → is_lt o ≡ false → is_le p ≡ true
    by_answer Less p turned not = absurd (true≢false not)
    by_answer Equal p turned not = ap is_le turned
    by_answer Greater p turned not = ap is_le turned

pub not_le : (a b : Cut) → cut_le a b ≡ false → cut_lt b a ≡ true
not_le a b = by_answer (cut_cmp a b) (cut_cmp b a) (cut_total.antisymm b a)
  where
    by_answer : (o p : Ordering) → p ≡ ordering_reverse o → is_le o ≡ false → is_lt p ≡ true
    by_answer Less p turned not = absurd (true≢false not)
    by_answer Equal p turned not = absurd (true≢false not)
    by_answer Greater p turned not = ap is_lt turned

pub lt-not_le : (a b : Cut) → cut_lt a b ≡ true → cut_le b a ≡ false
lt-not_le a b = by_answer (cut_cmp a b) (cut_cmp b a) (cut_total.antisymm b a)
  where
    by_answer : (o p : Ordering) → p ≡ ordering_reverse o → is_lt o ≡ true → is_le p ≡ false
    by_answer Less p turned lt = ap is_le turned
    by_answer Equal p turned lt = absurd (true≢false (sym lt))
    by_answer Greater p turned lt = absurd (true≢false (sym lt))

pub le-not_lt : (a b : Cut) → cut_le a b ≡ true → cut_lt b a ≡ false
le-not_lt a b = by_answer (cut_cmp a b) (cut_cmp b a) (cut_total.antisymm b a)
  where
    by_answer : (o p : Ordering) → p ≡ ordering_reverse o → is_le o ≡ true → is_lt p ≡ false
    by_answer Less p turned le = ap is_lt turned
    by_answer Equal p turned le = ap is_lt turned
    by_answer Greater p turned le = absurd (true≢false (sym le))

pub le_cases : (a b : Cut) → cut_le a b ≡ true → (cut_lt a b ≡ true) ⊎ (a ≡ b)
le_cases a b = by_answer (cut_cmp a b) (cut_exact a b)
  where
    by_answer : (o : Ordering) → (o ≡ Equal → a ≡ b) → is_le o ≡ true → (is_lt o ≡ true) ⊎ (a ≡ b)
    by_answer Less same le = inl refl
    by_answer Equal same le = inr (same refl)
    by_answer Greater same le = absurd (true≢false (sym le))

pub le_antisym : (a b : Cut) → cut_le a b ≡ true → cut_le b a ≡ true → a ≡ b
le_antisym a b le back = elim (le_cases a b le) [
  | inl lt ↦ absurd (true≢false (sym back ∙ lt-not_le a b lt))
  | inr same ↦ same
]

-- one is before the other, or they are one
pub compared : (a b : Cut) → (cut_lt a b ≡ true) ⊎ ((a ≡ b) ⊎ (cut_lt b a ≡ true))
compared a b = elim (le_or_lt a b) [
  | inl le ↦ elim (le_cases a b le) [ inl lt ↦ inl lt | inr same ↦ inr (inl same) ]
  | inr lt ↦ inr (inr lt)
]

-- ---- three cuts

pub is_less : (o : Ordering) → is_lt o ≡ true → o ≡ Less
is_less Less lt = refl
is_less Equal lt = absurd (true≢false (sym lt))
is_less Greater lt = absurd (true≢false (sym lt))

pub lt_trans : (a b c : Cut) → cut_lt a b ≡ true → cut_lt b c ≡ true → cut_lt a c ≡ true
lt_trans a b c first second = ap is_lt (cut_total.trans a b c (is_less (cut_cmp a b) first) (is_less (cut_cmp b c) second))

pub le_lt_trans : (a b c : Cut) → cut_le a b ≡ true → cut_lt b c ≡ true → cut_lt a c ≡ true
le_lt_trans a b c first second = elim (le_cases a b first) [
  | inl lt ↦ lt_trans a b c lt second
  | inr same ↦ subst (λ x. cut_lt x c ≡ true) (sym same) second
]

pub lt_le_trans : (a b c : Cut) → cut_lt a b ≡ true → cut_le b c ≡ true → cut_lt a c ≡ true
lt_le_trans a b c first second = elim (le_cases b c second) [
  | inl lt ↦ lt_trans a b c first lt
  | inr same ↦ subst (λ x. cut_lt a x ≡ true) same first
]

pub le_trans : (a b c : Cut) → cut_le a b ≡ true → cut_le b c ≡ true → cut_le a c ≡ true
le_trans a b c first second = elim (le_cases a b first) [
  | inl lt ↦ lt-le a c (lt_le_trans a b c lt second)
  | inr same ↦ subst (λ x. cut_le x c ≡ true) (sym same) second
]

-- ---- the ends, and the gap behind an item

pub start-le : (a : Cut) → cut_le Start a ≡ true
start-le Start = refl
start-le (At x) = refl
start-le (After x) = refl
start-le End = refl

pub le-end : (a : Cut) → cut_le a End ≡ true
le-end Start = refl
le-end (At x) = refl
le-end (After x) = refl
le-end End = refl

pub at-lt-after : (x : ItemId) → cut_lt (At x) (After x) ≡ true
at-lt-after x = grind (arith, nat_tests)

-- no cut stands between the place of an item and the gap behind it
pub after-le : (x : ItemId) (a : Cut) → cut_lt (At x) a ≡ true → cut_le (After x) a ≡ true
after-le x Start lt = absurd (true≢false (sym lt))
after-le x (At y) lt = grind (arith, nat_tests)
after-le x (After y) lt = grind (arith, nat_tests)
after-le x End lt = refl

-- the range from the place of an item to the gap behind it is that place alone
pub alone : (x : ItemId) (a : Cut) → is_between (At x) (After x) a ≡ true → a ≡ At x
alone x a between = elim (le_cases (At x) a (grind (arith, nat_tests))) [
  | inl lt ↦ absurd (true≢false (sym (after-le x a lt) ∙ lt-not_le a (After x) (grind (arith, nat_tests))))
  | inr same ↦ sym same
]
