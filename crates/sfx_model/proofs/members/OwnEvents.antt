-- Events that one replica does at its own site, one after another.
use Rattle.std.proofs.Common.{◌≡◌, ◌≢◌, ℕ, ◌≤◌, List, [], ◌∷◌, ◌++◌, Option, Some, refl, sym, ◌∙◌, ap, subst, le_refl, le_trans}
use Rattle.sfx_ids.specs.declared.cut.Cut.{Cut}
use Rattle.sfx_ids.specs.declared.item_id.ItemId.{ItemId}
use Rattle.sfx_model.specs.world.Sets.{IsPart}
use Rattle.sfx_model.specs.world.World.{World, Site, Snapshot, WellFormed}
use Rattle.sfx_model.specs.world.Events.{Event, Units, Widen, Join, Make, Clean, Forget, Apply, Learn, site_of, after, Legal, AllLegal, after_all}
use Rattle.sfx_item.specs.Item.{ItemState}
use Rattle.sfx_model.specs.members.Members.{Shown, clock_among}
use Rattle.sfx_model.specs.members.Replica.{IsOfOthers, RepresentsReplica}
use Rattle.sfx_model.specs.members.Snapshots.{Carried}
use Rattle.sfx_model.specs.members.States.{IsOf}
use Rattle.sfx_model.proofs.world.SiteLemmas.{other_found, clock_grows}
use Rattle.sfx_model.proofs.world.EventsKeepWorld.{event_keeps}
use Rattle.sfx_model.proofs.world.ActsAreSteps.{IsStep, new_is, new_there, one_step}
use Rattle.sfx_model.proofs.members.ReplicasStand.{own_found, others_stand}
use Rattle.sfx_model.proofs.members.SnapshotsStay.{carried_stays}

-- ---- one event

-- The unit count stays.
pub count_kept : (w x : World) (r : ℕ) → IsStep w x r → x.units ≡ w.units
count_kept w x r step = ap (λ (y : World). y.units) step.is

-- Another replica's site stays.
pub site_kept : (w x : World) (r q : ℕ) → IsStep w x r → r ≢ q → site_of x.sites q ≡ site_of w.sites q
site_kept w x r q step other =
    ap (λ (y : World). site_of y.sites q) step.is
    ∙ other_found w.sites step.new q (λ same. other (sym (new_is w x r step) ∙ same))

-- No clock falls.
pub clocks_kept : (w x : World) (r q : ℕ) → IsStep w x r → clock_among w.sites q ≤ clock_among x.sites q
clocks_kept w x r q step =
    subst (λ (y : World). clock_among w.sites q ≤ clock_among y.sites q) (sym step.is)
    (clock_grows w.sites step.new step.old q (new_there w x r step) step.step.follows.clock)

-- The replica's site knows what it knew.
pub record Knows (w x : World) (r : ℕ) : Type 0 where
  pub grows : (s : Site) → site_of w.sites r ≡ Some s → (t : Site) × (site_of x.sites r ≡ Some t) × ((i : ItemId) (u : ℕ) → IsPart (s.known i u) (t.known i u))

pub step_knows : (w x : World) (r : ℕ) → IsStep w x r → Knows w x r
step_knows w x r step = record {
  grows = λ s at.
      let same : step.old ≡ s = let both : Some step.old ≡ Some s = sym step.at ∙ at in cc in (
        step.new,
        ap (λ (y : World). site_of y.sites r) step.is ∙ own_found w r step.old step.new step.at step.step.follows.id,
        subst (λ (y : Site). (i : ItemId) (u : ℕ) → IsPart (y.known i u) (step.new.known i u)) same step.step.more,
      );
}

pub knows_on : (w x y : World) (r : ℕ) → Knows w x r → Knows x y r → Knows w y r
knows_on w x y r first second = record {
  grows = λ s at.
      let (t, at_t, more) = first.grows s at in
      let (q, at_q, most) = second.grows t at_t in
      (q, at_q, λ i u v has. most i u v (more i u v has));
}

pub knows_self : (w : World) (r : ℕ) → Knows w w r
knows_self w r = record { grows = λ s at. (s, at, λ i u v has. has) }

-- An event of a replica is of no other.
pub of_others : (e : Event) (r q : ℕ) → IsOf e r → r ≢ q → IsOfOthers e q
of_others (Units units) r q of other = absurd of
of_others (Widen more) r q of other = absurd of
of_others (Join id) r q of other = absurd of
of_others (Make id i v contents) r q of other = λ same. other (sym of ∙ same)
of_others (Clean id i v lo hi) r q of other = λ same. other (sym of ∙ same)
of_others (Forget id snapshot lo hi) r q of other = λ same. other (sym of ∙ same)
of_others (Apply id snapshot i v marks) r q of other = λ same. other (sym of ∙ same)
of_others (Learn id snapshot lo hi left) r q of other = λ same. other (sym of ∙ same)

-- ---- a list of them

-- Each event is one of this replica.
abbrev pub AllOf : List Event → ℕ → Type 0
AllOf [] r = Unit {0}
AllOf (e ∷ es) r = IsOf e r × AllOf es r

pub of_append : (es fs : List Event) (r : ℕ) → AllOf es r → AllOf fs r → AllOf (es ++ fs) r
of_append [] fs r first second = second
of_append (e ∷ es) fs r first second = (first.0, of_append es fs r first.1 second)

pub after_append : (w : World) (es fs : List Event) → after_all w (es ++ fs) ≡ after_all (after_all w es) fs
after_append w [] fs = refl
after_append w (e ∷ es) fs = after_append (after w e) es fs

pub legal_append : (w : World) (es fs : List Event) → AllLegal w es → AllLegal (after_all w es) fs → AllLegal w (es ++ fs)
legal_append w [] fs first second = second
legal_append w (e ∷ es) fs first second = (first.0, legal_append (after w e) es fs first.1 second)

-- What such events leave: the world well-formed, with its unit count; the sites of others; what is known,
-- and clocks; the members of others; and snapshots that are carried along.
pub record LeavesOthers (w x : World) (r : ℕ) : Type 0 where
  pub ok : WellFormed x
  pub count : x.units ≡ w.units
  pub sites : (q : ℕ) → r ≢ q → site_of x.sites q ≡ site_of w.sites q
  pub knows : Knows w x r
  pub clocks : (q : ℕ) → clock_among w.sites q ≤ clock_among x.sites q
  pub others : (q : ℕ) (m : Shown) → r ≢ q → RepresentsReplica w q m → RepresentsReplica x q m
  pub carried : (snapshot : Snapshot) (i : ItemId) (made_with : Cut → ℕ → ℕ → ℕ) (seen : Option ItemState) → Carried w snapshot i made_with seen → Carried x snapshot i made_with seen

pub leaves_self : (w : World) (r : ℕ) → WellFormed w → LeavesOthers w w r
leaves_self w r ok = record {
  ok = ok;
  count = refl;
  sites = λ q other. refl;
  knows = knows_self w r;
  clocks = λ q. le_refl (clock_among w.sites q);
  others = λ q m other stands. stands;
  carried = λ snapshot i made_with seen carried. carried;
}

pub leaves_on : (w x y : World) (r : ℕ) → LeavesOthers w x r → LeavesOthers x y r → LeavesOthers w y r
leaves_on w x y r first second = record {
  ok = second.ok;
  count = second.count ∙ first.count;
  sites = λ q other. second.sites q other ∙ first.sites q other;
  knows = knows_on w x y r first.knows second.knows;
  clocks = λ q. le_trans (first.clocks q) (second.clocks q);
  others = λ q m other stands. second.others q m other (first.others q m other stands);
  carried = λ snapshot i made_with seen carried. second.carried snapshot i made_with seen (first.carried snapshot i made_with seen carried);
}

pub event_leaves : (w : World) (e : Event) (r : ℕ) → WellFormed w → Legal w e → IsOf e r → LeavesOthers w (after w e) r
event_leaves w e r ok legal of =
    let step = one_step w e r ok legal of in
    record {
      ok = event_keeps w e ok legal;
      count = count_kept w (after w e) r step;
      sites = λ q other. site_kept w (after w e) r q step other;
      knows = step_knows w (after w e) r step;
      clocks = λ q. clocks_kept w (after w e) r q step;
      others = λ q m other stands. others_stand w e q m ok legal (of_others e r q of other) stands;
      carried = λ snapshot i made_with seen carried. carried_stays w e snapshot i made_with seen ok legal (count_kept w (after w e) r step) carried;
    }

pub all_leave : (w : World) (es : List Event) (r : ℕ) → WellFormed w → AllLegal w es → AllOf es r → LeavesOthers w (after_all w es) r
all_leave w [] r ok legal of = leaves_self w r ok
all_leave w (e ∷ es) r ok legal of =
    let first = event_leaves w e r ok legal.0 of.0 in
    leaves_on w (after w e) (after_all (after w e) es) r first (all_leave (after w e) es r first.ok legal.1 of.1)
