-- What lines say of the whole community fits the world, and replicas that are kept elsewhere stand on.
use Rattle.std.proofs.Common.{◌≡◌, ◌≢◌, ◌⊎◌, ℕ, List, [], ◌∷◌, ◌++◌, inl, inr, refl, sym, ◌∙◌, ap, subst, arith}
use Rattle.sfx_model.specs.world.Sets.{Has}
use Rattle.sfx_model.specs.world.World.{World, WellFormed}
use Rattle.sfx_model.specs.world.Events.{Event, Units, Widen, Join, Make, Clean, Forget, Apply, Learn, Deed, Own, ForgetFrom, ApplyFrom, LearnFrom, after_deed, after_deeds, event_of, new_site, AreLegalDeeds}
use Rattle.sfx_model.specs.members.Members.{Community, Member, NamedMember, shown}
use Rattle.sfx_model.specs.members.StandsIn.{FitsUnits, HasNoOtherUnits, IsElsewhere, StandsIn, StateStandsIn}
use Rattle.sfx_model.specs.members.States.{ChangesMember, IsDeedOf, IsOf}
use Rattle.sfx_model.proofs.world.SetsLemmas.{has_either, has_left, has_right}
use Rattle.sfx_model.proofs.members.DeedsLemmas.{deed_of_others, deeds_stand}
use Rattle.sfx_model.proofs.world.SiteLemmas.{found}
use Rattle.sfx_community.specs.History.{AllFit, DeedFits, Fits}

-- what fits, of deeds one after the other
pub fit_append : (w : World) (ds es : List Deed) → AllFit w ds → AllFit (after_deeds w ds) es → AllFit w (ds ++ es)
fit_append w [] es first second = second
fit_append w (d ∷ ds) es first second = (first.0, fit_append (after_deed w (event_of w d)) ds es first.1 second)

pub fit_parts : (w : World) (ds es : List Deed) → AllFit w (ds ++ es) → AllFit w ds × AllFit (after_deeds w ds) es
fit_parts w [] es fit = (tt, fit)
fit_parts w (d ∷ ds) es fit =
    let rest = fit_parts (after_deed w (event_of w d)) ds es fit.1 in
    ((fit.0, rest.0), rest.1)

-- what one replica does says nothing of the whole community
own_fits : (w : World) (e : Event) (r : ℕ) → IsOf e r → Fits w e
own_fits w (Units units) r of = absurd of
own_fits w (Widen more) r of = tt
own_fits w (Join id) r of = absurd of
own_fits w (Make id i v contents) r of = tt
own_fits w (Clean id i v lo hi) r of = tt
own_fits w (Forget id snapshot lo hi) r of = tt
own_fits w (Apply id snapshot i v marks) r of = tt
own_fits w (Learn id snapshot lo hi left) r of = tt

own_deed_fits : (w : World) (d : Deed) (r : ℕ) → IsDeedOf d r → DeedFits w d
own_deed_fits w (Own event) r of = own_fits w event r (of (new_site 0))
own_deed_fits w (ForgetFrom id source lo hi) r of = tt
own_deed_fits w (ApplyFrom id source i v marks) r of = tt
own_deed_fits w (LearnFrom id source lo hi left) r of = tt

pub own_fit : (w : World) (ds : List Deed) (r : ℕ) → ((d : Deed) → Has d ds → IsDeedOf d r) → AllFit w ds
own_fit w [] r own = tt
own_fit w (d ∷ ds) r own =
    (own_deed_fits w d r (own d (inl refl)), own_fit (after_deed w (event_of w d)) ds r (λ e has. own e (inr has)))

-- a member that is not of the replica stands on
pub own_elsewhere :
    (w : World) (ds : List Deed) (r : ℕ) (k : Member)
    → WellFormed w → AreLegalDeeds w ds → ((d : Deed) → Has d ds → IsDeedOf d r) → r ≢ k.id → StandsIn w k
    → StandsIn (after_deeds w ds) k
own_elsewhere w ds r k ok legal own other stands = record {
  represents = deeds_stand w ds k.id (shown k) ok legal (λ d has. deed_of_others d r k.id (own d has) other) stands.represents;
  ascending = stands.ascending;
}

-- a member that is kept elsewhere is so where another one of its id is in the place of one
pub still_elsewhere :
    (c d : Community) (m n k : Member) → ChangesMember m n c d → n.id ≡ m.id → IsElsewhere k c → IsElsewhere k d
still_elsewhere c d m n k changes same away x has is =
    elim (has_either x changes.front (new ∷ changes.back) (subst (λ (ms : List NamedMember). Has x ms) changes.now has)) [
      | inl before ↦ away x (there x (has_left x changes.front (old ∷ changes.back) before)) is
      | inr more ↦ elim more [
        | inl new_is ↦
            away old (there old (has_right old changes.front (old ∷ changes.back) (inl refl)))
            (sym same ∙ ap (λ (y : NamedMember). y.member.id) (sym new_is) ∙ is)
        | inr behind ↦ away x (there x (has_right x changes.front (old ∷ changes.back) (inr behind))) is
      ]
    ]
  where
    old : NamedMember
    old = record { name = changes.name; member = m }

    new : NamedMember
    new = record { name = changes.name; member = n }

    there : (y : NamedMember) → Has y (changes.front ++ old ∷ changes.back) → Has y c.members
    there y h = subst (λ (ms : List NamedMember). Has y ms) (sym changes.before) h

-- the unit count of the first world is that of the second, or it had none
abbrev pub CountStays : World → World → Type 0
CountStays w x = (w.units ≡ 0) ⊎ (x.units ≡ w.units)

pub said_stays : (w : World) (units : ℕ) → HasNoOtherUnits w units → CountStays w (record w { units = units })
said_stays w units (inl none) = inl none
said_stays w units (inr same) = inr (sym same)

pub stays_on : (w x y : World) → CountStays w x → CountStays x y → CountStays w y
stays_on w x y (inl none) more = inl none
stays_on w x y (inr same) (inl none) = inl (sym same ∙ none)
stays_on w x y (inr same) (inr more) = inr (more ∙ same)

-- a world without a unit count has no replicas, and so no members
no_members :
    (w : World) (ms : List NamedMember)
    → WellFormed w → w.units ≡ 0 → ((m : NamedMember) → Has m ms → StandsIn w m.member) → ms ≡ []
no_members w [] ok none stand = refl
no_members w (m ∷ ms) ok none stand =
    let (site, found_it, rep) = (stand m (inl refl)).represents in
    let some = ok.counted site (found w.sites m.member.id site found_it).0 in
    absurd (omega (arith, some, none))

-- a state stands on where each of its members does
pub state_elsewhere :
    (w x : World) (c : Community)
    → WellFormed w → CountStays w x → StateStandsIn w c → ((m : NamedMember) → Has m c.members → StandsIn x m.member)
    → StateStandsIn x c
state_elsewhere w x c ok count stands on = record { units = by_units stands.units count; apart = stands.apart; members = on }
  where
    by_units : FitsUnits w c → CountStays w x → FitsUnits x c
    by_units (inr neither) count = inr neither
    by_units (inl is) (inr same) = inl (is ∙ sym same)
    by_units (inl is) (inl none) = inr (is ∙ none, no_members w c.members ok none stands.members)
