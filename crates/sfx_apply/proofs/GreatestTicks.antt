-- The greatest tick that is known of a replica.
use Rattle.std.proofs.Common.{◌≡◌, ℕ, ◌<◌, ◌≤◌, Bool, true, false, if◌then◌else◌, nat_lt, arith, refl, sym, ap, subst, ◌∙◌, [], ◌∷◌, Some, None}
use Rattle.std.proofs.lemmas.Bool.Decides.{nat_tests}
use Rattle.sfx_knowledge.specs.Knowledge.{Known}
use Rattle.sfx_knowledge.specs.Forgotten.{Forgets}
use Rattle.sfx_model.specs.sessions.Batch.{BatchData, IsBatch}
use Rattle.sfx_model.specs.sessions.MemberKnowledge.{ahead_of, most_known}
use Rattle.sfx_model.specs.members.Members.{Member}
use Rattle.sfx_model.proofs.sessions.NoneIsAhead.{known_within}
use Rattle.sfx_provider.specs.Head.{HeadData, head_of}
use Rattle.sfx_apply.specs.Work.{KnowsNoMore}

-- Where a replica is not ahead, no tick of it is greater than its clock.
pub not_ahead : (units : ℕ) (m : Member) (b : BatchData) → IsBatch units b → ahead_of m b.made_with b.forgotten ≡ None → KnowsNoMore units m b
not_ahead units m b batch none = record {
  known = λ place u is inside.
      let low = known_within m.id u b.made_with place batch.made_with.segments is in
      let most : most_known m.id b.made_with b.forgotten ≤ m.clock = by_test (nat_lt m.clock (most_known m.id b.made_with b.forgotten)) refl none in
      omega (arith, low, most);
}
  where
    by_test :
        (c : Bool) → nat_lt m.clock (most_known m.id b.made_with b.forgotten) ≡ c
        → (if c then Some (most_known m.id b.made_with b.forgotten) else None) ≡ None
        → most_known m.id b.made_with b.forgotten ≤ m.clock
    by_test true e f = absurd (cc)
    by_test false e f = grind (arith, nat_tests, e)

-- The tick that is found is the greatest, by what is read of the replica and of the batch.
pub tick_found :
    (units id tick : ℕ) (known : Known) (forgotten : Forgets) (m : Member) (b : BatchData) (h : HeadData)
    → h ≡ head_of units m → id ≡ h.id → known ≡ b.made_with → forgotten ≡ b.forgotten
    → tick ≡ most_known id known forgotten → tick ≡ most_known m.id b.made_with b.forgotten
tick_found units id tick known forgotten m b h head id_is known_is forgotten_is most =
    let own : id ≡ m.id = id_is ∙ ap (λ (x : HeadData). x.id) head in
    most ∙ rw (own, known_is, forgotten_is) refl

-- Where it is not greater than the clock that is read, the batch knows no more.
pub behind_clock :
    (units clock tick : ℕ) (m n : Member) (b : BatchData) (h : HeadData)
    → IsBatch units b → h ≡ head_of units m → n ≡ m → clock ≡ h.clock
    → tick ≡ most_known m.id b.made_with b.forgotten → tick ≤ clock → KnowsNoMore units n b
behind_clock units clock tick m n b h batch head same clock_is tick_is low =
    let time : clock ≡ m.clock = clock_is ∙ ap (λ (x : HeadData). x.clock) head in
    let within : most_known m.id b.made_with b.forgotten ≤ m.clock = omega (arith, tick_is, time, low) in
    let fails : nat_lt m.clock (most_known m.id b.made_with b.forgotten) ≡ false = grind (arith, nat_tests, within) in
    subst (λ (x : Member). KnowsNoMore units x b) (sym same) (not_ahead units m b batch (rw fails refl))

-- Where it is greater, the replica is ahead.
pub before_tick :
    (units clock tick : ℕ) (m : Member) (b : BatchData) (h : HeadData) → h ≡ head_of units m → clock ≡ h.clock
    → tick ≡ most_known m.id b.made_with b.forgotten → clock < tick → ahead_of m b.made_with b.forgotten ≡ Some tick
before_tick units clock tick m b h head clock_is tick_is high =
    let time : clock ≡ m.clock = clock_is ∙ ap (λ (x : HeadData). x.clock) head in
    let beyond : m.clock < most_known m.id b.made_with b.forgotten = omega (arith, tick_is, time, high) in
    let holds : nat_lt m.clock (most_known m.id b.made_with b.forgotten) ≡ true = grind (arith, nat_tests, beyond) in
    rw holds (ap Some (sym tick_is))
