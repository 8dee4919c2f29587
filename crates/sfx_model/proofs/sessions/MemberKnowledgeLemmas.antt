-- Whether forgotten deletions are known, and what knowledge is after learning.
use Rattle.std.proofs.Common.{◌≡◌, ◌≢◌, ◌↔◌, ℕ, zero, suc, ◌<◌, ◌≤◌, max, Bool, true, false, true≢false, IsTrue, not, ◌&&◌, ◌||◌, if◌then◌else◌, nat_eq, nat_le, arith, refl, sym, ap, subst, ◌∙◌, List, [], ◌∷◌, ◌++◌}
use Rattle.std.specs.List.{list_all}
use Rattle.std.proofs.lemmas.Bool.{eqb-true, eq-eqb}
use Rattle.sfx_ids.specs.Tick.{max_tick}
use Rattle.sfx_ids.specs.declared.cut.Cut.{Cut}
use Rattle.sfx_ids.specs.declared.cut.Cut.TheVariants.{Start, At, After, End}
use Rattle.sfx_ids.specs.declared.item_id.ItemId.{ItemId}
use Rattle.sfx_ids.specs.Cut.{cut_le, cut_lt, is_between}
use Rattle.sfx_ids.proofs.CutLemmas.{le-not_lt, not_le, le_trans, alone, le-self, at-lt-after}
use Rattle.sfx_vector.specs.Clocks.{Clocks, tick_of}
use Rattle.sfx_segments.specs.Segments.{IsPlace}
use Rattle.sfx_segments.proofs.StandardFacts.{yes_it, not_it, tested}
use Rattle.sfx_knowledge.specs.Row.{UnitRowData, row_at}
use Rattle.sfx_knowledge.specs.Knowledge.{Known, no_row, clocks_at, tick_at, IsKnowledge, HasTicks, learned_ticks}
use Rattle.sfx_knowledge.specs.Skips.{same_cell, is_skipped_at}
use Rattle.sfx_knowledge.specs.Forgotten.{Forgets, fvec, IsForgottenWithinAt}
use Rattle.sfx_knowledge.specs.Forms.{listed_in, is_listed, replicas_of, starts_of, AreTicks, ArePlaces, is_parted, ChangeAtAlone}
use Rattle.sfx_knowledge.proofs.StandardFacts.{and-left, and-right, and-true, or-left, or-right}
use Rattle.sfx_knowledge.proofs.VectorsLemmas.{AreReplicas-append, listed-append, tick-unlisted, tick-most}
use Rattle.sfx_knowledge.proofs.KnowledgeLemmas.{AreClocks-clocks_at}
use Rattle.sfx_knowledge.proofs.SkipsLemmas.{cells_same}
use Rattle.sfx_knowledge.proofs.FormsLemmas.{ArePlaces-starts_of, segment-unparted, AreReplicas-known, tick-unlisted_known, form-knowledge_of, ticks-knowledge_of}
use Rattle.sfx_model.specs.sessions.Class.{is_within, is_forgotten_within}
use Rattle.sfx_model.specs.world.Units.{every_unit}
use Rattle.sfx_model.specs.sessions.MemberKnowledge.{learned_known, as_place, skip_cuts}

-- ---- what is forgotten within knowledge

le-is : (a b : ℕ) → nat_le a b ≡ true → a ≤ b
le-is a b e = grind (arith, e)

le-true : (a b : ℕ) → a ≤ b → nat_le a b ≡ true
le-true a b le = grind (arith, le)

listed_passes : (test : ℕ → Bool) (rs : List ℕ) (r : ℕ) → list_all test rs ≡ true → is_listed rs r ≡ true → test r ≡ true
listed_passes test [] r all listed = absurd (true≢false (sym listed))
listed_passes test (x ∷ xs) r all listed = elim (tested (nat_eq x r)) [
  | yes_it same ↦ subst (λ (y : ℕ). test y ≡ true) (eqb-true x r same) (and-left (test x) (list_all test xs) all)
  | not_it not ↦ listed_passes test xs r (and-right (test x) (list_all test xs) all) (sym (ap (λ (b : Bool). b || is_listed xs r) not) ∙ listed)
]

all_pass : (test : ℕ → Bool) (rs : List ℕ) → ((r : ℕ) → test r ≡ true) → list_all test rs ≡ true
all_pass test [] each = refl
all_pass test (x ∷ xs) each = and-true (test x) (list_all test xs) (each x) (all_pass test xs each)

pub within_is : (clocks : Clocks) (known : Known) (place : Cut) (u : ℕ) → is_within clocks known place u ≡ true
    → (r : ℕ) → tick_of clocks r ≤ tick_at known place u r
within_is clocks known place u all r = elim (tested (is_listed (listed_in clocks) r)) [
  | yes_it listed ↦ le-is (tick_of clocks r) (tick_at known place u r)
      (listed_passes (λ q. nat_le (tick_of clocks q) (tick_at known place u q)) (listed_in clocks) r all listed)
  | not_it not ↦ subst (λ (t : ℕ). t ≤ tick_at known place u r) (sym (tick-unlisted clocks r not)) (omega arith)
]

pub within_true : (clocks : Clocks) (known : Known) (place : Cut) (u : ℕ) → ((r : ℕ) → tick_of clocks r ≤ tick_at known place u r)
    → is_within clocks known place u ≡ true
within_true clocks known place u each =
    all_pass (λ r. nat_le (tick_of clocks r) (tick_at known place u r)) (listed_in clocks) (λ r. le-true (tick_of clocks r) (tick_at known place u r) (each r))

pub every_is : (test : ℕ → Bool) (units : ℕ) → every_unit test units ≡ true → (u : ℕ) → u < units → test u ≡ true
every_is test zero all u low = absurd (omega (arith, low))
every_is test (suc n) all u low = elim (tested (nat_eq u n)) [
  | yes_it same ↦ subst (λ (y : ℕ). test y ≡ true) (sym (eqb-true u n same)) (and-left (test n) (every_unit test n) all)
  | not_it not ↦ every_is test n (and-right (test n) (every_unit test n) all) u
      (let differ : u ≢ n = λ e. true≢false (sym (eq-eqb u n e) ∙ not) in grind (arith, low, differ))
]

pub every_true : (test : ℕ → Bool) (units : ℕ) → ((u : ℕ) → u < units → test u ≡ true) → every_unit test units ≡ true
every_true test zero each = refl
every_true test (suc n) each =
    and-true (test n) (every_unit test n) (each n (omega arith)) (every_true test n (λ u low. each u (omega (arith, low))))

pub forgotten_within_decided : (units : ℕ) (forgotten : Forgets) (known : Known) (i : ItemId)
    → IsTrue (is_forgotten_within units forgotten known i) ↔ IsForgottenWithinAt units forgotten known i
forgotten_within_decided units forgotten known i = (
  λ all u r low. within_is (fvec forgotten (At i)) known (At i) u
      (every_is (is_within (fvec forgotten (At i)) known (At i)) units all u low) r,
  λ each. every_true (is_within (fvec forgotten (At i)) known (At i)) units (λ u low. within_true (fvec forgotten (At i)) known (At i) u (λ r. each u r low)),
)

-- ---- learned_ticks knowledge

parted-append : (cs ds : List Cut) (p q : Cut) → is_parted (cs ++ ds) p q ≡ false → (is_parted cs p q ≡ false) × (is_parted ds p q ≡ false)
parted-append [] ds p q not = (refl, not)
parted-append (c ∷ cs) ds p q not =
    let rest = parted-append cs ds p q (or-right (cut_lt p c && cut_le c q) (is_parted (cs ++ ds) p q) not) in (
      (let here = or-left (cut_lt p c && cut_le c q) (is_parted (cs ++ ds) p q) not in ap (λ (b : Bool). b || is_parted cs p q) here ∙ rest.0),
      rest.1,
    )

pub ArePlaces-append : (cs ds : List Cut) → ArePlaces cs → ArePlaces ds → ArePlaces (cs ++ ds)
ArePlaces-append [] ds first second = second
ArePlaces-append (c ∷ cs) ds first second = (first.0, ArePlaces-append cs ds first.1 second)

ArePlaces-place_of : (c : Cut) → ArePlaces (as_place c)
ArePlaces-place_of Start = (tt, tt)
ArePlaces-place_of (At i) = (tt, tt)
ArePlaces-place_of (After i) = (tt, tt)
ArePlaces-place_of End = tt

ArePlaces-skip_cuts : (ss : List (ItemId × ℕ)) → ArePlaces (skip_cuts ss)
ArePlaces-skip_cuts [] = tt
ArePlaces-skip_cuts (s ∷ ss) = (tt, (tt, ArePlaces-skip_cuts ss))

-- a cut that does not part two places is behind both or behind neither
same_side : (c p q : Cut) → cut_le p q ≡ true → (cut_lt p c && cut_le c q) ≡ false → cut_le c p ≡ cut_le c q
same_side c p q le not = elim (tested (cut_le c p)) [
  | yes_it before ↦ before ∙ sym (le_trans c p q before le)
  | not_it behind ↦ elim (tested (cut_le c q)) [
    | yes_it between ↦ absurd (true≢false (sym (and-true (cut_lt p c) (cut_le c q) (not_le c p behind) between) ∙ not))
    | not_it beyond ↦ behind ∙ sym beyond
  ]
]

end_behind : (p : Cut) → IsPlace p → cut_le End p ≡ false
end_behind Start at = refl
end_behind (At i) at = refl
end_behind (After i) at = refl
end_behind End at = absurd at

-- so is a range's cut, where it is a place
range_side : (c p q : Cut) → IsPlace p → IsPlace q → cut_le p q ≡ true → is_parted (as_place c) p q ≡ false → cut_le c p ≡ cut_le c q
range_side Start p q at to le not = same_side Start p q le (or-left (cut_lt p Start && cut_le Start q) false not)
range_side (At i) p q at to le not = same_side (At i) p q le (or-left (cut_lt p (At i) && cut_le (At i) q) false not)
range_side (After i) p q at to le not = same_side (After i) p q le (or-left (cut_lt p (After i) && cut_le (After i) q) false not)
range_side End p q at to le not = end_behind p at ∙ sym (end_behind q to)

lt_by_le : (a b : Cut) → cut_lt a b ≡ not (cut_le b a)
lt_by_le a b = elim (tested (cut_le b a)) [
  | yes_it le ↦ le-not_lt b a le ∙ sym (ap not le)
  | not_it gt ↦ not_le b a gt ∙ sym (ap not gt)
]

same_range : (lo hi p q : Cut) → cut_le lo p ≡ cut_le lo q → cut_le hi p ≡ cut_le hi q → is_between lo hi p ≡ is_between lo hi q
same_range lo hi p q low high =
    let here = lt_by_le p hi in
    let there = lt_by_le q hi in
    let ends : cut_lt p hi ≡ cut_lt q hi = here ∙ (ap not high ∙ sym there) in
    ap (λ (b : Bool). b && cut_lt p hi) low ∙ ap (λ (b : Bool). cut_le lo q && b) ends

-- the unit of the item is that of the place
abbrev at_cell : ItemId × ℕ → Cut → ℕ → Bool
at_cell s (At i) u = same_cell s.0 s.1 i u
at_cell s Start u = false
at_cell s (After i) u = false
at_cell s End u = false

skipped_first : (s : ItemId × ℕ) (ss : List (ItemId × ℕ)) (p : Cut) (u : ℕ) → is_skipped_at (s ∷ ss) p u ≡ (at_cell s p u || is_skipped_at ss p u)
skipped_first s ss Start u = refl
skipped_first s ss (At i) u = refl
skipped_first s ss (After i) u = refl
skipped_first s ss End u = refl

-- two places that the cuts of an item do not part are both its place or neither is
same_place : (i : ItemId) (p q : Cut) → cut_le (At i) p ≡ cut_le (At i) q → cut_le (After i) p ≡ cut_le (After i) q → (p ≡ At i) → q ≡ At i
same_place i p q at after is =
    let within : is_between (At i) (After i) p ≡ true = subst (λ (x : Cut). is_between (At i) (After i) x ≡ true) (sym is)
    (and-true (cut_le (At i) (At i)) (cut_lt (At i) (After i)) (le-self (At i)) (at-lt-after i)) in
    alone i q (sym (same_range (At i) (After i) p q at after) ∙ within)

at_cell_is : (s : ItemId × ℕ) (p : Cut) (u : ℕ) → at_cell s p u ≡ true → p ≡ At s.0
at_cell_is s Start u e = absurd (true≢false (sym e))
at_cell_is s (At i) u e = ap At (sym (cells_same s.0 s.1 i u e).0)
at_cell_is s (After i) u e = absurd (true≢false (sym e))
at_cell_is s End u e = absurd (true≢false (sym e))

same_cell_there : (s : ItemId × ℕ) (p q : Cut) (u : ℕ) → cut_le (At s.0) p ≡ cut_le (At s.0) q → cut_le (After s.0) p ≡ cut_le (After s.0) q
    → at_cell s p u ≡ at_cell s q u
same_cell_there s p q u at after = elim (tested (at_cell s p u)) [
  | yes_it here ↦
      let is = at_cell_is s p u here in
      ap (λ (x : Cut). at_cell s x u) (is ∙ sym (same_place s.0 p q at after is))
  | not_it none ↦ elim (tested (at_cell s q u)) [
    | yes_it there ↦
        let is = at_cell_is s q u there in
        ap (λ (x : Cut). at_cell s x u) (same_place s.0 q p (sym at) (sym after) is ∙ sym is)
    | not_it nor ↦ none ∙ sym nor
  ]
]

skipped_alike : (ss : List (ItemId × ℕ)) (p q : Cut) (u : ℕ) → cut_le p q ≡ true → is_parted (skip_cuts ss) p q ≡ false
    → is_skipped_at ss p u ≡ is_skipped_at ss q u
skipped_alike [] p q u le not = none p ∙ sym (none q) where
  none : (x : Cut) → is_skipped_at [] x u ≡ false
  none Start = refl
  none (At i) = refl
  none (After i) = refl
  none End = refl
skipped_alike (s ∷ ss) p q u le not =
    let behind = or-right (cut_lt p (At s.0) && cut_le (At s.0) q) (is_parted (After s.0 ∷ skip_cuts ss) p q) not in
    let at = same_side (At s.0) p q le (or-left (cut_lt p (At s.0) && cut_le (At s.0) q) (is_parted (After s.0 ∷ skip_cuts ss) p q) not) in
    let after = same_side (After s.0) p q le (or-left (cut_lt p (After s.0) && cut_le (After s.0) q) (is_parted (skip_cuts ss) p q) behind) in
    let rest = skipped_alike ss p q u le (or-right (cut_lt p (After s.0) && cut_le (After s.0) q) (is_parted (skip_cuts ss) p q) behind) in
    skipped_first s ss p u
    ∙ (ap (λ (b : Bool). b || is_skipped_at ss p u) (same_cell_there s p q u at after)
    ∙ (ap (λ (b : Bool). at_cell s q u || b) rest
    ∙ sym (skipped_first s ss q u)))

known_alike : (known : Known) (p q : Cut) (u r : ℕ) → cut_le p q ≡ true → is_parted (starts_of known) p q ≡ false
    → tick_at known p u r ≡ tick_at known q u r
known_alike known p q u r le not =
    ap (λ (row : UnitRowData). tick_of (row_at row u) r) (segment-unparted no_row known p q le not)

-- the cuts at which learned_ticks knowledge may change
abbrev learned_cuts : Cut → Cut → List (ItemId × ℕ) → Known → Known → List Cut
learned_cuts lo hi skipped here there =
    as_place lo ++ (as_place hi ++ (skip_cuts skipped ++ (starts_of here ++ starts_of there)))

learned_alike : (lo hi : Cut) (skipped : List (ItemId × ℕ)) (here there : Known) (p q : Cut) (u r : ℕ)
    → IsPlace p → IsPlace q → cut_le p q ≡ true → is_parted (learned_cuts lo hi skipped here there) p q ≡ false
    → learned_ticks lo hi skipped (tick_at here) (tick_at there) p u r ≡ learned_ticks lo hi skipped (tick_at here) (tick_at there) q u r
learned_alike lo hi skipped here there p q u r at to le not =
    let first = parted-append (as_place lo) (as_place hi ++ (skip_cuts skipped ++ (starts_of here ++ starts_of there))) p q not in
    let second = parted-append (as_place hi) (skip_cuts skipped ++ (starts_of here ++ starts_of there)) p q first.1 in
    let third = parted-append (skip_cuts skipped) (starts_of here ++ starts_of there) p q second.1 in
    let fourth = parted-append (starts_of here) (starts_of there) p q third.1 in
    let range = same_range lo hi p q (range_side lo p q at to le first.0) (range_side hi p q at to le second.0) in
    let left = skipped_alike skipped p q u le third.0 in
    let own = known_alike here p q u r le fourth.0 in
    let other = known_alike there p q u r le fourth.1 in
    rw (range, left, own, other) refl

tick_bound : (units : ℕ) (known : Known) (p : Cut) (u r : ℕ) → IsKnowledge units known → tick_at known p u r ≤ max_tick
tick_bound units known p u r form = tick-most 0 (clocks_at known p u) r (AreClocks-clocks_at units known p u form.rows)

chosen_bound : (b : Bool) (x y n : ℕ) → x ≤ n → y ≤ n → (if b then max x y else x) ≤ n
chosen_bound true x y n low high = omega (arith, low, high)
chosen_bound false x y n low high = low

chosen_none : (b : Bool) (x y : ℕ) → x ≡ 0 → y ≡ 0 → (if b then max x y else x) ≡ 0
chosen_none true x y p q = omega (arith, p, q)
chosen_none false x y p q = p

AreTicks-learned : (units : ℕ) (lo hi : Cut) (skipped : List (ItemId × ℕ)) (here there : Known) → IsKnowledge units here → IsKnowledge units there
    → AreTicks units (replicas_of here ++ replicas_of there) (learned_ticks lo hi skipped (tick_at here) (tick_at there))
AreTicks-learned units lo hi skipped here there form other = record {
  listed = AreReplicas-append (replicas_of here) (replicas_of there) (AreReplicas-known units here form.rows) (AreReplicas-known units there other.rows);
  most = λ p u r at low. chosen_bound (is_between lo hi p && not (is_skipped_at skipped p u)) (tick_at here p u r) (tick_at there p u r) max_tick
      (tick_bound units here p u r form) (tick_bound units there p u r other);
  others = λ p u r at low none.
      let both = listed-append (replicas_of here) (replicas_of there) r none in
      chosen_none (is_between lo hi p && not (is_skipped_at skipped p u)) (tick_at here p u r) (tick_at there p u r)
      (tick-unlisted_known here p u r both.0) (tick-unlisted_known there p u r both.1);
}

ChangeAtAlone-learned : (units : ℕ) (lo hi : Cut) (skipped : List (ItemId × ℕ)) (here there : Known) → IsKnowledge units here → IsKnowledge units there
    → ChangeAtAlone units (learned_cuts lo hi skipped here there) (learned_ticks lo hi skipped (tick_at here) (tick_at there))
ChangeAtAlone-learned units lo hi skipped here there form other = record {
  places =
      ArePlaces-append (as_place lo) (as_place hi ++ (skip_cuts skipped ++ (starts_of here ++ starts_of there))) (ArePlaces-place_of lo)
      (ArePlaces-append (as_place hi) (skip_cuts skipped ++ (starts_of here ++ starts_of there)) (ArePlaces-place_of hi)
      (ArePlaces-append (skip_cuts skipped) (starts_of here ++ starts_of there) (ArePlaces-skip_cuts skipped)
      (ArePlaces-append (starts_of here) (starts_of there) (ArePlaces-starts_of here form.segments) (ArePlaces-starts_of there other.segments))));
  alike = λ p q u r at to low le not. learned_alike lo hi skipped here there p q u r at to le not;
}

pub learned_known_is : (units : ℕ) (lo hi : Cut) (skipped : List (ItemId × ℕ)) (here there : Known) → 1 ≤ units → IsKnowledge units here → IsKnowledge units there
    → IsKnowledge units (learned_known units lo hi skipped here there) × HasTicks units (learned_known units lo hi skipped here there) (learned_ticks lo hi skipped (tick_at here) (tick_at there))
learned_known_is units lo hi skipped here there some form other =
    let ticks = AreTicks-learned units lo hi skipped here there form other in
    let alike = ChangeAtAlone-learned units lo hi skipped here there form other in (
      form-knowledge_of units (learned_cuts lo hi skipped here there) (replicas_of here ++ replicas_of there) (learned_ticks lo hi skipped (tick_at here) (tick_at there)) some ticks alike,
      ticks-knowledge_of units (learned_cuts lo hi skipped here there) (replicas_of here ++ replicas_of there) (learned_ticks lo hi skipped (tick_at here) (tick_at there)) ticks alike,
    )
