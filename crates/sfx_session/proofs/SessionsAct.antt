-- What a session does in a world of replicas, and that the source is ahead of the destination in none.
use Rattle.std.proofs.Common.{◌≡◌, ℕ, ◌<◌, ◌≤◌, Bool, true, false, if◌then◌else◌, nat_lt, arith, refl, sym, subst, Option, Some, None}
use Rattle.std.proofs.lemmas.Bool.Decides.{nat_tests}
use Rattle.sfx_model.specs.sessions.Acts.{DeedsActIn, IsOrderly, TakePart}
use Rattle.sfx_model.specs.sessions.Deeds.{session_deeds}
use Rattle.sfx_model.specs.sessions.MemberKnowledge.{ahead_of, laid_known, most_known}
use Rattle.sfx_model.specs.members.Consistent.{IsConsistent}
use Rattle.sfx_model.specs.members.Members.{Member}
use Rattle.sfx_model.specs.sessions.Rules.{RulesData}
use Rattle.sfx_model.specs.sessions.Session.{session_of}
use Rattle.sfx_model.specs.world.World.{World}
use Rattle.sfx_model.proofs.sessions.SessionsAct.{whole_session_acts}
use Rattle.sfx_model.proofs.sessions.NoneIsAhead.{none_ahead}
use Rattle.sfx_model.proofs.sessions.ConsistentIsOrderly.{orderly}

-- a session between orderly members acts in each world of which they are two replicas
pub session_acts :
    (units : ℕ) (source first now : Member) (rules : RulesData) (size : ℕ) (cut : Option ℕ)
    → IsConsistent units source → IsConsistent units first → 1 ≤ size
    → now ≡ (session_of units source first rules size cut).course.member
    → (w : World) → TakePart w units source first
    → DeedsActIn w (session_deeds units source first rules size cut) source first.id now
session_acts units source first now rules size cut theirs ours some is w part =
    subst (λ (m : Member). DeedsActIn w (session_deeds units source first rules size cut) source first.id m) (sym is)
    (subst
    (λ (u : ℕ). IsOrderly u source → IsOrderly u first → 1 ≤ size
    → DeedsActIn w (session_deeds u source first rules size cut) source first.id (session_of u source first rules size cut).course.member)
    part.units_are
    (whole_session_acts w source first rules size cut part.well_formed part.apart part.source_stands part.stands)
    (orderly units source theirs) (orderly units first ours) some)

-- there the source knows and has forgotten no more of the destination than this one's clock tells
within_clock : (w : World) (units : ℕ) (source destination : Member) → IsConsistent units source → TakePart w units source destination
    → most_known destination.id (laid_known units source) source.forgotten ≤ destination.clock
within_clock w units source destination theirs part =
    by_test (nat_lt destination.clock most) refl
    (subst (λ (u : ℕ). IsOrderly u source → ahead_of destination (laid_known u source) source.forgotten ≡ None) part.units_are
    (none_ahead w source destination part.source_stands part.stands) (orderly units source theirs))
  where
    most : ℕ
    most = most_known destination.id (laid_known units source) source.forgotten

    by_test : (b : Bool) → nat_lt destination.clock most ≡ b → (if b then Some most else None) ≡ None → most ≤ destination.clock
    by_test true is none = absurd (cc)
    by_test false is none = grind (arith, nat_tests, is)

-- so such a tick is never greater than its clock
pub never_ahead : (w : World) (units tick clock : ℕ) (source destination : Member)
    → IsConsistent units source
    → tick ≡ most_known destination.id (laid_known units source) source.forgotten → clock ≡ destination.clock → clock < tick
    → TakePart w units source destination → ⊥
never_ahead w units tick clock source destination theirs most clock_is ahead part =
    let within = within_clock w units source destination theirs part in
    omega (arith, within, most, clock_is, ahead)
