-- Deeds, which name their source by its id, one after another.
use Rattle.std.proofs.Common.{◌≡◌, ◌≢◌, ℕ, List, [], ◌∷◌, ◌++◌, Option, Some, None, IsSomeAnd, inl, inr, refl}
use Rattle.std.specs.Option.{option_map}
use Rattle.sfx_model.specs.world.Sets.{Has}
use Rattle.sfx_model.specs.world.World.{World, Site, Snapshot, WellFormed}
use Rattle.sfx_model.specs.world.Events.{Event, Forget, Apply, Learn, Deed, Own, ForgetFrom, ApplyFrom, LearnFrom, seen_by, after, Legal, new_site, site_of, event_of, after_deed, after_deeds, IsLegalDeed, AreLegalDeeds}
use Rattle.sfx_model.specs.members.Members.{Shown}
use Rattle.sfx_model.specs.members.Replica.{RepresentsReplica}
use Rattle.sfx_model.specs.members.StandsIn.{IsDeedOfOthers}
use Rattle.sfx_model.specs.members.States.{IsOf, IsDeedOf}
use Rattle.sfx_model.proofs.world.EventsKeepWorld.{deed_keeps}
use Rattle.sfx_model.proofs.members.ReplicasStand.{others_stand}
use Rattle.sfx_model.proofs.members.OwnEvents.{LeavesOthers, leaves_self, leaves_on, event_leaves, of_others}

pub after_deeds_append : (w : World) (ds es : List Deed) → after_deeds w (ds ++ es) ≡ after_deeds (after_deeds w ds) es
after_deeds_append w [] es = refl
after_deeds_append w (d ∷ ds) es = after_deeds_append (after_deed w (event_of w d)) ds es

pub legal_deeds_append :
    (w : World) (ds es : List Deed) → AreLegalDeeds w ds → AreLegalDeeds (after_deeds w ds) es → AreLegalDeeds w (ds ++ es)
legal_deeds_append w [] es first second = second
legal_deeds_append w (d ∷ ds) es first second = (first.0, legal_deeds_append (after_deed w (event_of w d)) ds es first.1 second)

-- ---- the event that a deed is

at_source :
    (w : World) (seen : Site → Event) (o : Option Site) (P : World → Type 0)
    → IsSomeAnd (option_map seen o) (λ event. Legal w event) → ((s : Site) → Legal w (seen s) → P (after w (seen s)))
    → P (after_deed w (option_map seen o))
at_source w seen None P legal each = absurd legal
at_source w seen (Some s) P legal each = each s legal

-- What holds after a deed's event, whatever its snapshot is, holds after the deed.
deed_holds :
    (w : World) (d : Deed) (P : World → Type 0)
    → IsLegalDeed w d → ((s : Snapshot) → Legal w (seen_by s d) → P (after w (seen_by s d)))
    → P (after_deed w (event_of w d))
deed_holds w (Own e) P legal each = each (new_site 0) legal
deed_holds w (ForgetFrom r source lo hi) P legal each =
    at_source w (λ (s : Site). Forget r s lo hi) (site_of w.sites source) P legal each
deed_holds w (ApplyFrom r source i v marks) P legal each =
    at_source w (λ (s : Site). Apply r s i v marks) (site_of w.sites source) P legal each
deed_holds w (LearnFrom r source lo hi left) P legal each =
    at_source w (λ (s : Site). Learn r s lo hi left) (site_of w.sites source) P legal each

-- Whose a deed is, its source does not tell.
pub of_any : (s t : Snapshot) (d : Deed) (r : ℕ) → IsOf (seen_by s d) r → IsOf (seen_by t d) r
of_any s t (Own event) r of = of
of_any s t (ForgetFrom id source lo hi) r of = of
of_any s t (ApplyFrom id source i v marks) r of = of
of_any s t (LearnFrom id source lo hi left) r of = of

-- A deed of one replica is of no other.
pub deed_of_others : (d : Deed) (r q : ℕ) → IsDeedOf d r → r ≢ q → IsDeedOfOthers d q
deed_of_others d r q of other snapshot = of_others (seen_by snapshot d) r q (of snapshot) other

-- ---- deeds of one replica

pub deeds_leave :
    (w : World) (ds : List Deed) (r : ℕ)
    → WellFormed w → AreLegalDeeds w ds → ((d : Deed) → Has d ds → IsDeedOf d r) → LeavesOthers w (after_deeds w ds) r
deeds_leave w [] r ok legal own = leaves_self w r ok
deeds_leave w (d ∷ ds) r ok legal own =
    let next = after_deed w (event_of w d) in
    let first = deed_holds w d (λ x. LeavesOthers w x r) legal.0 (λ s ok_s. event_leaves w (seen_by s d) r ok ok_s (own d (inl refl) s)) in
    leaves_on w next (after_deeds next ds) r first (deeds_leave next ds r first.ok legal.1 (λ e has. own e (inr has)))

-- ---- deeds of others

pub deeds_stand :
    (w : World) (ds : List Deed) (r : ℕ) (m : Shown)
    → WellFormed w → AreLegalDeeds w ds → ((d : Deed) → Has d ds → IsDeedOfOthers d r) → RepresentsReplica w r m
    → RepresentsReplica (after_deeds w ds) r m
deeds_stand w [] r m ok legal others stands = stands
deeds_stand w (d ∷ ds) r m ok legal others stands =
    deeds_stand (after_deed w (event_of w d)) ds r m (deed_keeps w (event_of w d) ok legal.0) legal.1
    (λ e has. others e (inr has))
    (deed_holds w d (λ x. RepresentsReplica x r m) legal.0 (λ s ok_s. others_stand w (seen_by s d) r m ok ok_s (others d (inl refl) s) stands))
