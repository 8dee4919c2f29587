-- The greatest tick that is known or forgotten of a replica, and that it does not pass the replica's clock.
use Rattle.std.proofs.Common.{◌≡◌, ℕ, zero, suc, ◌+◌, ◌<◌, ◌≤◌, max, Bool, true, false, if◌then◌else◌, nat_eq, nat_lt, inl, inr, arith, refl, sym, ap, subst, ◌∙◌, List, [], ◌∷◌, map, slice_get, Option, Some, None}
use Rattle.std.specs.List.{flat_map}
use Rattle.std.proofs.lemmas.Bool.Decides.{nat_tests}
use Rattle.sfx_ids.specs.declared.cut.Cut.{Cut}
use Rattle.sfx_ids.specs.declared.cut.Cut.TheVariants.{Start}
use Rattle.sfx_ids.proofs.CutLemmas.{le-self, start-le}
use Rattle.sfx_vector.specs.Clocks.{Clocks, AreClocks, tick_of}
use Rattle.sfx_segments.specs.Segments.{IsPlace, AreSegments}
use Rattle.sfx_knowledge.specs.Row.{UnitRowData, listed_or, row_at, AreExceptions, IsClockRow}
use Rattle.sfx_knowledge.specs.Knowledge.{Known, no_row, tick_at, AreRows, IsKnowledge, IsMost}
use Rattle.sfx_knowledge.specs.Forgotten.{Forgets, AreForgets, fvec}
use Rattle.sfx_knowledge.proofs.ForgottenLemmas.{same_forgets}
use Rattle.sfx_knowledge.proofs.RowLemmas.{listed-here, listed-past, row_at-first}
use Rattle.sfx_knowledge.proofs.SegmentStarts.{segment_found, begins}
use Rattle.sfx_model.specs.sessions.Acts.{IsInForm, IsOrderly}
use Rattle.sfx_model.specs.sessions.MemberKnowledge.{ahead_of, laid_known, most_in, most_known, row_clocks}
use Rattle.sfx_model.specs.members.Members.{Member, shown, clock_among}
use Rattle.sfx_model.specs.members.Replica.{RepresentsReplica}
use Rattle.sfx_model.specs.world.Sets.{Has}
use Rattle.sfx_model.specs.world.World.{World}
use Rattle.sfx_model.proofs.sessions.ClassTests.{in_form, laid_form, laid_has}
use Rattle.sfx_model.proofs.world.SetsLemmas.{has_left, has_right, has_either}
use Rattle.sfx_model.proofs.world.SiteLemmas.{clock_found}

-- ---- elements of lists

pub has_at : {A : Type 0} (xs : List A) (k : ℕ) (x : A) → slice_get xs k ≡ Some x → Has x xs
has_at [] k x at = absurd (no_some at)
  where
    no_some : (let none : Option _ = None in none ≡ Some x) → ⊥
    no_some e = cc
has_at (y ∷ ys) zero x at = inl (let e : y ≡ x = cc in sym e)
has_at (y ∷ ys) (suc k) x at = inr (has_at ys k x at)

pub at_has : {A : Type 0} (xs : List A) (x : A) → Has x xs → (k : ℕ) × (slice_get xs k ≡ Some x)
at_has [] x h = absurd h
at_has (y ∷ ys) x h = elim h [
  | inl is ↦ (0, ap Some (sym is))
  | inr there ↦ (let at = at_has ys x there in (suc at.0, at.1))
]

pub has_mapped : {A B : Type 0} (f : A → B) (xs : List A) (y : B) → Has y (map f xs) → (x : A) × Has x xs × (y ≡ f x)
has_mapped f [] y h = absurd h
has_mapped f (x ∷ xs) y h = elim h [
  | inl is ↦ (x, inl refl, is)
  | inr there ↦ (let at = has_mapped f xs y there in (at.0, inr at.1, at.2))
]

pub has_flattened : {A B : Type 0} (f : A → List B) (xs : List A) (y : B) → Has y (flat_map f xs) → (x : A) × Has x xs × Has y (f x)
has_flattened f [] y h = absurd h
has_flattened f (x ∷ xs) y h = elim (has_either y (f x) (flat_map f xs) h) [
  | inl here ↦ (x, inl refl, here)
  | inr there ↦ (let at = has_flattened f xs y there in (at.0, inr at.1, at.2))
]

pub has_flat : {A B : Type 0} (f : A → List B) (xs : List A) (x : A) (y : B) → Has x xs → Has y (f x) → Has y (flat_map f xs)
has_flat f [] x y h there = absurd h
has_flat {A} {B} f (z ∷ zs) x y h there = elim h [
  | inl is ↦ has_left y (f z) (flat_map f zs) (subst (λ (a : A). Has y (f a)) is there)
  | inr rest ↦ has_right y (f z) (flat_map f zs) (has_flat f zs x y rest there)
]

-- ---- the greatest tick in vectors

pub most_bound : (r n : ℕ) (cs : List Clocks) → ((c : Clocks) → Has c cs → tick_of c r ≤ n) → most_in r cs ≤ n
most_bound r n [] each = omega arith
most_bound r n (c ∷ cs) each =
    let first = each c (inl refl) in
    let rest = most_bound r n cs (λ d h. each d (inr h)) in
    grind (arith, first, rest)

pub most_has : (r : ℕ) (cs : List Clocks) (c : Clocks) → Has c cs → tick_of c r ≤ most_in r cs
most_has r [] c h = absurd h
most_has r (d ∷ ds) c h = elim h [
  | inl is ↦ (let same = ap (λ (x : Clocks). tick_of x r) is in grind (arith, same))
  | inr there ↦ (let rest = most_has r ds c there in grind (arith, rest))
]

-- ---- the vectors of a row

-- a listed vector is that of its unit
pub listed_is : (units : ℕ) (base : Clocks) (low : ℕ) (os : List (ℕ × Clocks)) (o : ℕ × Clocks) → AreExceptions units base low os → Has o os
    → (low ≤ o.0) × (o.0 < units) × (listed_or base os o.0 ≡ o.1)
listed_is units base low [] o form h = absurd h
listed_is units base low (p ∷ ps) o form h = elim h [
  | inl is ↦ subst (λ (x : ℕ × Clocks). (low ≤ x.0) × (x.0 < units) × (listed_or base (p ∷ ps) x.0 ≡ x.1)) (sym is)
      (form.0, form.1, listed-here base p ps p.0 refl)
  | inr there ↦
      (let rest = listed_is units base (p.0 + 1) ps o form.4 there in
      let behind : p.0 + 1 ≤ o.0 = rest.0 in
      let first : low ≤ p.0 = form.0 in
      (omega arith, rest.1, listed-past base p ps o.0 (λ e. absurd (omega (arith, e, behind))) ∙ rest.2))
]

-- each vector of a row is that of some unit
pub unit_of : (units : ℕ) (row : UnitRowData) (c : Clocks) → 1 ≤ units → IsClockRow units row → Has c (row_clocks row) → (u : ℕ) × (u < units) × (row_at row u ≡ c)
unit_of units row c some form h = elim h [
  | inl is ↦ (0, omega (arith, some), row_at-first units row form ∙ sym is)
  | inr there ↦
      (let at = has_mapped (λ (o : ℕ × Clocks). o.1) row.others c there in
      let listed = listed_is units row.base 1 row.others at.0 form.others at.1 in
      (at.0.0, listed.1, listed.2 ∙ sym at.2))
]

-- the vector of a unit is one of those of the row
pub row_at-has : (base : Clocks) (os : List (ℕ × Clocks)) (u : ℕ) → Has (listed_or base os u) (base ∷ map (λ o. o.1) os)
row_at-has base [] u = inl refl
row_at-has base (o ∷ os) u = by_test (nat_eq o.0 u) (row_at-has base os u)
  where
    by_test : (b : Bool) → Has (listed_or base os u) (base ∷ map (λ o. o.1) os) → Has (if b then o.1 else listed_or base os u) (base ∷ o.1 ∷ map (λ o. o.1) os)
    by_test true rest = inr (inl refl)
    by_test false rest = elim rest [ inl first ↦ inl first | inr there ↦ inr (inr there) ]

pub row_has : (units : ℕ) (known : Known) (p : Cut × UnitRowData) → AreRows units known → Has p known → IsClockRow units p.1
row_has units [] p rows h = absurd h
row_has units (q ∷ qs) p rows h = elim h [
  | inl is ↦ subst (λ (x : Cut × UnitRowData). IsClockRow units x.1) (sym is) rows.0
  | inr there ↦ row_has units qs p rows.1 there
]

-- ---- the greatest tick that is known of a replica

-- a bound of the ticks at every place and unit is one of all listed ticks
pub known_bound : (units r n : ℕ) (known : Known) → 1 ≤ units → IsKnowledge units known
    → ((place : Cut) (u : ℕ) → IsPlace place → u < units → tick_at known place u r ≤ n)
    → most_in r (flat_map (λ p. row_clocks p.1) known) ≤ n
known_bound units r n known some form bound =
    most_bound r n (flat_map (λ p. row_clocks p.1) known) (λ c h.
    let segment = has_flattened (λ (p : Cut × UnitRowData). row_clocks p.1) known c h in
    let unit = unit_of units segment.0.1 c some (row_has units known segment.0 form.rows segment.1) segment.2 in
    let at = at_has known segment.0 segment.1 in
    let there = begins no_row known at.0 segment.0 form.segments at.1 in
    subst (λ (d : Clocks). tick_of d r ≤ n) (ap (λ (row : UnitRowData). row_at row unit.0) there.1 ∙ unit.2)
    (bound segment.0.0 unit.0 there.0 unit.1))

-- no tick of the replica is greater
pub known_within : (r u : ℕ) (known : Known) (place : Cut) → AreSegments known → IsPlace place
    → tick_at known place u r ≤ most_in r (flat_map (λ p. row_clocks p.1) known)
known_within r u known place form is =
    let at = segment_found no_row known place form in
    let row = at.segment.1 in
    subst (λ (x : UnitRowData). tick_of (row_at x u) r ≤ most_in r (flat_map (λ p. row_clocks p.1) known)) (sym (at.has place at.le (le-self place)))
    (most_has r (flat_map (λ p. row_clocks p.1) known) (row_at row u)
    (has_flat (λ (p : Cut × UnitRowData). row_clocks p.1) known at.segment (row_at row u)
    (has_at known at.index at.segment at.at) (row_at-has row.base row.others u)))

-- ---- the greatest tick that is forgotten of a replica

pub forgotten_bound : (r n : ℕ) (forgotten : Forgets) → AreSegments forgotten
    → ((place : Cut) → IsPlace place → tick_of (fvec forgotten place) r ≤ n)
    → most_in r (map (λ p. p.1) forgotten) ≤ n
forgotten_bound r n forgotten form bound =
    most_bound r n (map (λ p. p.1) forgotten) (λ c h.
    let segment = has_mapped (λ (p : Cut × Clocks). p.1) forgotten c h in
    let at = at_has forgotten segment.0 segment.1 in
    let there = begins [] forgotten at.0 segment.0 form at.1 in
    subst (λ (d : Clocks). tick_of d r ≤ n) (there.1 ∙ sym segment.2) (bound segment.0.0 there.0))

-- ---- the greatest tick, as it is computed

known_met : (units r n : ℕ) (known : Known) → IsKnowledge units known → IsMost units known r n
    → n ≤ most_in r (flat_map (λ p. row_clocks p.1) known)
known_met units r n known form most =
    subst (λ (t : ℕ). t ≤ most_in r (flat_map (λ p. row_clocks p.1) known)) most.met.4
    (known_within r most.met.1 known most.met.0 form.segments most.met.2)

-- forgotten deletions with one vector everywhere
forgets_are : (forgotten : Forgets) (v : Clocks) → AreForgets forgotten → ((place : Cut) → IsPlace place → fvec forgotten place ≡ v)
    → forgotten ≡ (Start, v) ∷ []
forgets_are forgotten v form everywhere =
    same_forgets forgotten ((Start, v) ∷ []) form
    (record {
      segments = (refl, tt);
      clocks = λ place is. subst AreClocks (everywhere place is ∙ sym (one_segment place)) (form.clocks place is);
    })
    (λ place is. everywhere place is ∙ sym (one_segment place))
  where
    one_segment : (place : Cut) → fvec ((Start, v) ∷ []) place ≡ v
    one_segment place = rw (start-le place) refl

pub most_known_is : (units r known_most : ℕ) (known : Known) (forgotten : Forgets) (v : Clocks) → 1 ≤ units
    → IsKnowledge units known → IsMost units known r known_most
    → AreForgets forgotten → ((place : Cut) → IsPlace place → fvec forgotten place ≡ v)
    → max known_most (tick_of v r) ≡ most_known r known forgotten
most_known_is units r known_most known forgotten v some form most forgot everywhere =
    let low = known_bound units r known_most known some form most.bound in
    let high = known_met units r known_most known form most in
    let is : most_in r (flat_map (λ p. row_clocks p.1) known) ≡ known_most = omega (arith, low, high) in
    rw (forgets_are forgotten v forgot everywhere, is) (grind arith)

-- ---- no replica of a world is ahead

pub not_ahead : (m : Member) (known : Known) (forgotten : Forgets) → most_known m.id known forgotten ≤ m.clock → ahead_of m known forgotten ≡ None
not_ahead m known forgotten within =
    let fails : nat_lt m.clock (most_known m.id known forgotten) ≡ false = grind (arith, nat_tests, within) in
    rw fails refl

pub form_ahead : (w : World) (source m : Member) → RepresentsReplica w source.id (shown source) → RepresentsReplica w m.id (shown m)
    → 1 ≤ w.units → IsInForm w.units source → ahead_of m (laid_known w.units source) source.forgotten ≡ None
form_ahead w source m (site, at, there) (s, is, here) some form =
    let clock : clock_among w.sites m.id ≡ m.clock = clock_found w.sites m.id s is ∙ sym here.header.clock in
    let known = known_bound w.units m.id m.clock (laid_known w.units source) some (laid_form w.units source form) (λ place u inside small.
    let bound = there.bounded.vectors place u m.id inside small in
    let same = laid_has w.units source form place u m.id inside small in
    subst (λ (t : ℕ). t ≤ m.clock) (sym same) (subst (λ (c : ℕ). (shown source).vector_at place u m.id ≤ c) clock bound)) in
    let forgotten = forgotten_bound m.id m.clock source.forgotten form.forgotten.segments (λ place inside.
    subst (λ (c : ℕ). tick_of (fvec source.forgotten place) m.id ≤ c) clock (there.bounded.forgotten place m.id inside)) in
    not_ahead m (laid_known w.units source) source.forgotten (grind (arith, known, forgotten))

pub none_ahead : (w : World) (source m : Member) → RepresentsReplica w source.id (shown source) → RepresentsReplica w m.id (shown m)
    → IsOrderly w.units source → ahead_of m (laid_known w.units source) source.forgotten ≡ None
none_ahead w source m there here orderly = form_ahead w source m there here orderly.some (in_form w.units source orderly)
