-- Parts of a state that stands stand, two states that stand do so together, and a whole state has all replicas.
use Rattle.std.proofs.Common.{◌≡◌, ◌≢◌, ℕ, ◌<◌, ◌≤◌, nat_eq, nat_lt, ◌||◌, Bool, true, false, if◌then◌else◌, List, [], ◌∷◌, ◌++◌, inl, inr, refl, sym, ◌∙◌, subst, arith}
use Rattle.std.proofs.lemmas.Bool.{cases_eq, eqb-false, eqb-true, ne_eqb}
use Rattle.std.proofs.lemmas.Bool.Decides.{nat_tests}
use Rattle.sfx_ids.specs.declared.cut.Cut.{Cut}
use Rattle.sfx_segments.specs.Segments.{IsPlace}
use Rattle.sfx_vector.specs.Clocks.{tick_of}
use Rattle.sfx_knowledge.specs.Knowledge.{tick_at}
use Rattle.sfx_knowledge.specs.Forgotten.{fvec}
use Rattle.sfx_model.specs.sessions.Acts.{IsOrderly}
use Rattle.sfx_model.specs.sessions.MemberKnowledge.{most_known, names_id}
use Rattle.sfx_model.specs.world.Sets.{Has, IsPart}
use Rattle.sfx_model.specs.world.World.{World, Site}
use Rattle.sfx_model.specs.members.Members.{NamedMember, Community, clock_among}
use Rattle.sfx_model.specs.members.StandsIn.{AreIdsApart, AreDisjoint, FitsUnits, HasMember, IsWhole, StateStandsIn, together}
use Rattle.sfx_model.proofs.members.StateStands.{counted}
use Rattle.sfx_model.proofs.sessions.NoneIsAhead.{forgotten_bound, known_bound}
use Rattle.sfx_model.proofs.world.SetsLemmas.{has_either}

-- A list all of whose members are in the empty list is empty.
none_part : (ms : List NamedMember) → IsPart ms [] → ms ≡ []
none_part [] part = refl
none_part (m ∷ ms) part = absurd (part m (inl refl))

-- Some of the members stand.
pub split_state :
    (w : World) (c d : Community)
    → StateStandsIn w c → d.units ≡ c.units → IsPart d.members c.members → AreIdsApart d.members → StateStandsIn w d
split_state w c d stands units part apart = record {
  units = elim stands.units [
    | inl same ↦ inl (units ∙ same)
    | inr none ↦ inr (
      units ∙ none.0,
      none_part d.members (subst (λ (ms : List NamedMember). IsPart d.members ms) none.1 part),
    )
  ];
  apart = apart;
  members = λ m has. stands.members m (part m has);
}

-- The ids of two lists are apart where none of them is in both.
pub apart_append :
    (ms ns : List NamedMember)
    → AreIdsApart ms → AreIdsApart ns
    → ((m n : NamedMember) → Has m ms → Has n ns → n.member.id ≢ m.member.id) → AreIdsApart (ms ++ ns)
apart_append [] ns first second other = second
apart_append (m ∷ ms) ns first second other = (
  λ n has. elim (has_either n ms ns has) [
    | inl here ↦ first.0 n here
    | inr there ↦ other m n (inl refl) there
  ],
  apart_append ms ns first.1 second (λ x n has there. other x n (inr has) there),
)

-- The unit count of both states.
both_units : (w : World) (c d : Community) → FitsUnits w c → FitsUnits w d → FitsUnits w (together c d)
both_units w c d (inl first) (inl second) = inl (omega (arith, first, second))
both_units w c d (inl first) (inr none) = let zero = none.0 in inl (omega (arith, first, zero))
both_units w c d (inr none) (inl second) = let zero = none.0 in inl (omega (arith, zero, second))
both_units w c d (inr none) (inr nobody) =
    let here = none.0 in
    let there = nobody.0 in
    inr (omega (arith, here, there), rw (none.1, nobody.1) refl)

-- Two states without a common id stand together.
pub both_state :
    (w : World) (c d : Community)
    → StateStandsIn w c → StateStandsIn w d → AreDisjoint c d → StateStandsIn w (together c d)
both_state w c d first second disjoint = record {
  units = both_units w c d first.units second.units;
  apart = apart_append c.members d.members first.apart second.apart (λ m n has there. disjoint m has n there);
  members = λ m has. elim (has_either m c.members d.members has) [
    | inl here ↦ first.members m here
    | inr there ↦ second.members m there
  ];
}

-- ---- a whole state

-- A clock above 0 is that of a site.
clock_site : (ss : List Site) (r : ℕ) → 1 ≤ clock_among ss r → (s : Site) × Has s ss × (s.id ≡ r)
clock_site [] r some = absurd (omega arith)
clock_site (x ∷ xs) r some = by_test (clock_site xs r) (nat_eq x.id r) refl some
  where
    by_test :
        (1 ≤ clock_among xs r → (s : Site) × Has s xs × (s.id ≡ r)) → (b : Bool) → nat_eq x.id r ≡ b
        → 1 ≤ (if b then x.clock else clock_among xs r) → (s : Site) × Has s (x ∷ xs) × (s.id ≡ r)
    by_test more true is up = (x, inl refl, eqb-true x.id r is)
    by_test more false is up = let (s, has, same) = more up in (s, inr has, same)

-- A replica with a clock above 0 has a member.
clock_member : (w : World) (c : Community) (r n : ℕ) → IsWhole w c → 1 ≤ n → n ≤ clock_among w.sites r → HasMember c r
clock_member w c r n whole some up =
    let (s, has, same) = clock_site w.sites r (omega arith) in
    subst (λ (x : ℕ). HasMember c x) same (whole s has)

-- So has one that a member's knowledge names,
pub known_member :
    (w : World) (c : Community) (m : NamedMember) (place : Cut) (u r : ℕ)
    → StateStandsIn w c → IsWhole w c → Has m c.members → IsPlace place → u < c.units
    → 1 ≤ tick_at m.member.knowledge place u r → HasMember c r
known_member w c m place u r stands whole has inside small some = elim (cases_eq r m.member.id) [
  | inl own ↦ (m, has, sym own)
  | inr other ↦
      let (s, at, rep) = (stands.members m has).represents in
      let up = rep.bounded.vectors place u r inside (subst (λ (n : ℕ). u < n) (counted w c m stands has) small) in
      clock_member w c r (tick_at m.member.knowledge place u r) whole some
      (subst (λ (b : Bool). (if b then m.member.clock else tick_at m.member.knowledge place u r) ≤ clock_among w.sites r)
      (ne_eqb r m.member.id other) up)
]

-- and one that its forgotten deletions name.
pub forgotten_member :
    (w : World) (c : Community) (m : NamedMember) (place : Cut) (r : ℕ)
    → StateStandsIn w c → IsWhole w c → Has m c.members → IsPlace place
    → 1 ≤ tick_of (fvec m.member.forgotten place) r → HasMember c r
forgotten_member w c m place r stands whole has inside some =
    let (s, at, rep) = (stands.members m has).represents in
    clock_member w c r (tick_of (fvec m.member.forgotten place) r) whole some (rep.bounded.forgotten place r inside)

-- Either way it has a member.
pub named_has_member :
    (w : World) (c : Community) (m : NamedMember) (r : ℕ)
    → StateStandsIn w c → IsWhole w c → Has m c.members → IsOrderly c.units m.member → names_id r m.member ≡ true → HasMember c r
named_has_member w c m r stands whole has orderly named = by_own (nat_eq m.member.id r) refl named
  where
    bound : m.member.id ≢ r → most_known r m.member.knowledge m.member.forgotten ≤ clock_among w.sites r
    bound other =
        let (s, at, rep) = (stands.members m has).represents in
        let low = known_bound c.units r (clock_among w.sites r) m.member.knowledge orderly.some orderly.knowledge (λ place u inside small.
        let up = rep.bounded.vectors place u r inside (subst (λ (n : ℕ). u < n) (counted w c m stands has) small) in
        subst (λ (b : Bool). (if b then m.member.clock else tick_at m.member.knowledge place u r) ≤ clock_among w.sites r)
        (ne_eqb r m.member.id (λ same. other (sym same))) up) in
        let high = forgotten_bound r (clock_among w.sites r) m.member.forgotten orderly.forgotten.segments (λ place inside.
        rep.bounded.forgotten place r inside) in
        grind (arith, low, high)

    by_own : (b : Bool) → nat_eq m.member.id r ≡ b → (b || nat_lt 0 (most_known r m.member.knowledge m.member.forgotten)) ≡ true → HasMember c r
    by_own true is e = (m, has, eqb-true m.member.id r is)
    by_own false is e =
        let other : m.member.id ≢ r = eqb-false m.member.id r is in
        let some : 0 < most_known r m.member.knowledge m.member.forgotten = grind (arith, nat_tests, e) in
        clock_member w c r (most_known r m.member.knowledge m.member.forgotten) whole (omega (arith, some)) (bound other)
