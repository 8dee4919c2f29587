-- Two members that synchronized both ways, and left nothing, know the same.
use Rattle.std.proofs.Common.{◌≡◌, ◌≢◌, ℕ, ◌<◌, ◌≤◌, max, nat_lt, Bool, true, false, if◌then◌else◌, Option, Some, None, inl, inr, refl, sym, ◌∙◌, ap, subst, arith}
use Rattle.std.proofs.lemmas.Bool.{cases_eq, eq-eqb, ne_eqb}
use Rattle.std.proofs.lemmas.Bool.Decides.{nat_tests}
use Rattle.sfx_ids.specs.declared.cut.Cut.{Cut}
use Rattle.sfx_ids.specs.declared.cut.Cut.TheVariants.{Start}
use Rattle.sfx_ids.specs.Cut.{cut_le}
use Rattle.sfx_segments.specs.Segments.{IsPlace}
use Rattle.sfx_knowledge.specs.Knowledge.{IsKnowledge, Known, tick_at}
use Rattle.sfx_knowledge.specs.Forgotten.{Forgets}
use Rattle.sfx_knowledge.proofs.KnowledgeLemmas.{one_knowledge}
use Rattle.sfx_model.specs.sessions.Achieved.{GoesBothWays, LeavesNothing, joined_ticks, member_after}
use Rattle.sfx_model.specs.sessions.Acts.{IsOrderly}
use Rattle.sfx_model.specs.sessions.MemberKnowledge.{ahead_of, laid_known, most_known}
use Rattle.sfx_model.specs.members.Members.{Member}
use Rattle.sfx_model.specs.sessions.Rules.{RulesData}
use Rattle.sfx_model.specs.sessions.Session.{SessionResult, session_of}
use Rattle.sfx_model.proofs.sessions.KnowledgeGained.{Gains, KnowsInForm, gained_ticks, knows_form, laid_in_form, laid_ticks, whole_gains}
use Rattle.sfx_model.proofs.sessions.NoneIsAhead.{known_within}

-- A member that no knowledge is ahead of.
not_passed : (clock most : ℕ) → (if nat_lt clock most then Some most else None) ≡ None → most ≤ clock
not_passed clock most = by_test (nat_lt clock most) refl
  where
    by_test : (b : Bool) → nat_lt clock most ≡ b → (if b then Some most else None) ≡ None → most ≤ clock
    by_test true e none = absurd (cc)
    by_test false e none = grind (arith, nat_tests)

within_clock :
    (units : ℕ) (m : Member) (known : Known) (forgotten : Forgets) (place : Cut) (u : ℕ)
    → IsKnowledge units known → ahead_of m known forgotten ≡ None → IsPlace place
    → tick_at known place u m.id ≤ m.clock
within_clock units m known forgotten place u form none at =
    let most = not_passed m.clock (most_known m.id known forgotten) none in
    let low = known_within m.id u known place form.segments at in
    omega (arith, most, low)

-- Joined ticks of the destination itself, and of another replica.
joined_own :
    (units : ℕ) (source m : Member) (clock : ℕ) (place : Cut) (u r : ℕ) → r ≡ m.id → joined_ticks units source m clock place u r ≡ clock
joined_own units source m clock place u r own = rw (eq-eqb r m.id own) refl

joined_other :
    (units : ℕ) (source m : Member) (clock : ℕ) (place : Cut) (u r : ℕ)
    → r ≢ m.id
    → joined_ticks units source m clock place u r ≡ max (tick_at (laid_known units m) place u r) (tick_at (laid_known units source) place u r)
joined_other units source m clock place u r other = rw (ne_eqb r m.id other) refl

own_tick :
    (units : ℕ) (m : Member) (place : Cut) (u r : ℕ)
    → KnowsInForm units m → IsPlace place → u < units → r ≡ m.id → tick_at (laid_known units m) place u r ≡ m.clock
own_tick units m place u r form at small own = laid_ticks units m form place u r at small ∙ rw (eq-eqb r m.id own) refl

-- What a, b, n and o know of one replica, by whose own it is: n is b after a session from a, and o is a after
-- one from n.
of_both : (n o now clock : ℕ) → n ≡ now → o ≡ clock → now ≤ clock → clock ≤ now → o ≡ n
of_both n o now clock first second low high = omega arith

of_there : (a b n o now : ℕ) → n ≡ now → o ≡ max a n → a ≤ b → b ≤ now → o ≡ n
of_there a b n o now first second low high = omega arith

of_back : (a b n o clock : ℕ) → n ≡ max b a → o ≡ clock → a ≡ clock → n ≤ clock → o ≡ n
of_back a b n o clock first second own low = omega arith

of_others : (a b n o : ℕ) → n ≡ max b a → o ≡ max a n → o ≡ n
of_others a b n o first second = omega arith

at_most : (t x y z : ℕ) → t ≡ x → t ≤ y → y ≤ z → x ≤ z
at_most t x y z is low high = omega arith

-- After both sessions both know the same.
same_known_after :
    (units : ℕ) (a b n o : Member)
    → KnowsInForm units a → KnowsInForm units b
    → Gains units (tick_at (laid_known units a)) (cut_le Start) b n
    → Gains units (tick_at (laid_known units n)) (cut_le Start) a o
    → ahead_of b (laid_known units a) a.forgotten ≡ None → ahead_of a (laid_known units n) n.forgotten ≡ None
    → o.clock ≡ a.clock → laid_known units o ≡ laid_known units n
same_known_after units a b n o form_a form_b there back first second quiet =
    one_knowledge units (laid_known units o) (laid_known units n) form_a.some (laid_in_form units o back.form)
    (laid_in_form units n there.form) same
  where
    same : (place : Cut) (u r : ℕ) → IsPlace place → u < units → tick_at (laid_known units o) place u r ≡ tick_at (laid_known units n) place u r
    same place u r at small =
        let n_is = gained_ticks units a b n form_b there place u r at small in
        let o_is = gained_ticks units n a o form_a back place u r at small in
        let a_low : tick_at (laid_known units a) place u b.id ≤ b.clock =
        within_clock units b (laid_known units a) a.forgotten place u (laid_in_form units a form_a) first at in
        let n_low : tick_at (laid_known units n) place u a.id ≤ a.clock =
        within_clock units a (laid_known units n) n.forgotten place u (laid_in_form units n there.form) second at in
        elim (cases_eq r b.id) [
          | inl of_b ↦ elim (cases_eq r a.id) [
            | inl of_a ↦
                let n_own = n_is ∙ joined_own units a b n.clock place u r of_b in
                let o_own = o_is ∙ joined_own units n a o.clock place u r of_a ∙ quiet in
                let low : tick_at (laid_known units n) place u r ≤ a.clock =
                subst (λ (x : ℕ). tick_at (laid_known units n) place u x ≤ a.clock) (sym of_a) n_low in
                let high : tick_at (laid_known units a) place u r ≤ b.clock =
                subst (λ (x : ℕ). tick_at (laid_known units a) place u x ≤ b.clock) (sym of_b) a_low in
                let own = own_tick units a place u r form_a at small of_a in
                let up = there.clock in
                of_both (tick_at (laid_known units n) place u r) (tick_at (laid_known units o) place u r) n.clock a.clock n_own o_own
                (subst (λ (t : ℕ). t ≤ a.clock) n_own low) (at_most (tick_at (laid_known units a) place u r) a.clock b.clock n.clock own high up)
            | inr not_a ↦
                of_there (tick_at (laid_known units a) place u r) b.clock (tick_at (laid_known units n) place u r)
                (tick_at (laid_known units o) place u r) n.clock
                (n_is ∙ joined_own units a b n.clock place u r of_b)
                (o_is ∙ joined_other units n a o.clock place u r not_a)
                (subst (λ (x : ℕ). tick_at (laid_known units a) place u x ≤ b.clock) (sym of_b) a_low) there.clock
          ]
          | inr not_b ↦ elim (cases_eq r a.id) [
            | inl of_a ↦
                of_back (tick_at (laid_known units a) place u r) (tick_at (laid_known units b) place u r)
                (tick_at (laid_known units n) place u r) (tick_at (laid_known units o) place u r) a.clock
                (n_is ∙ joined_other units a b n.clock place u r not_b)
                (o_is ∙ joined_own units n a o.clock place u r of_a ∙ quiet) (own_tick units a place u r form_a at small of_a)
                (subst (λ (x : ℕ). tick_at (laid_known units n) place u x ≤ a.clock) (sym of_a) n_low)
            | inr not_a ↦
                of_others (tick_at (laid_known units a) place u r) (tick_at (laid_known units b) place u r)
                (tick_at (laid_known units n) place u r) (tick_at (laid_known units o) place u r)
                (n_is ∙ joined_other units a b n.clock place u r not_b) (o_is ∙ joined_other units n a o.clock place u r not_a)
          ]
        ]

pub equal_after :
    (units : ℕ) (a b : Member) (rules rules_back : RulesData) (size size_back : ℕ) (cut cut_back : Option ℕ) (there back : SessionResult)
    → IsOrderly units a → IsOrderly units b
    → there ≡ session_of units a b rules size cut
    → back ≡ session_of units (member_after there) a rules_back size_back cut_back
    → GoesBothWays units a b there back → laid_known units (member_after back) ≡ laid_known units (member_after there)
equal_after units a b rules rules_back size size_back cut cut_back there back orderly_a orderly_b there_is back_is both =
    same_known_after units a b (member_after there) (member_after back) form_a form_b first second both.ahead_there
    both.ahead_back both.quiet
  where
    form_a : KnowsInForm units a
    form_a = knows_form units a orderly_a

    form_b : KnowsInForm units b
    form_b = knows_form units b orderly_b

    first : Gains units (tick_at (laid_known units a)) (cut_le Start) b (member_after there)
    first =
        subst (λ (s : SessionResult). Gains units (tick_at (laid_known units a)) (cut_le Start) b (member_after s)) (sym there_is)
        (whole_gains units a b rules size cut form_a form_b (subst LeavesNothing there_is both.leaves_there))

    second : Gains units (tick_at (laid_known units (member_after there))) (cut_le Start) a (member_after back)
    second =
        subst (λ (s : SessionResult). Gains units (tick_at (laid_known units (member_after there))) (cut_le Start) a (member_after s)) (sym back_is)
        (whole_gains units (member_after there) a rules_back size_back cut_back first.form form_a (subst LeavesNothing back_is both.leaves_back))
