-- Snapshots, and what comes with them, stay sound and exact through the events of a world.
use Rattle.std.proofs.Common.{◌≡◌, ℕ, ◌<◌, ◌≤◌, ◌⊎◌, ◌↔◌, Option, Some, inl, inr, refl, sym, ◌∙◌, ap, subst, arith, le_refl}
use Rattle.sfx_ids.specs.declared.cut.Cut.{Cut}
use Rattle.sfx_ids.specs.declared.cut.Cut.TheVariants.{At}
use Rattle.sfx_ids.specs.declared.item_id.ItemId.{ItemId}
use Rattle.sfx_ids.specs.declared.version.Version.{Version}
use Rattle.sfx_model.specs.world.Sets.{Has}
use Rattle.sfx_model.specs.world.World.{World, Snapshot, WellFormed, IsContained, Made, holding}
use Rattle.sfx_model.specs.world.Events.{Event, Units, Widen, Join, Make, Clean, Forget, Apply, Learn, after, Legal, site_of, new_site, made}
use Rattle.sfx_item.specs.Item.{ItemState}
use Rattle.sfx_model.specs.members.Members.{clock_among}
use Rattle.sfx_model.specs.members.Snapshots.{Carried}
use Rattle.sfx_model.proofs.world.Step.{IsMadeBy}
use Rattle.sfx_model.proofs.world.SetsLemmas.{same_self}
use Rattle.sfx_model.proofs.world.WorldLemmas.{item_stays}
use Rattle.sfx_model.proofs.world.SiteLemmas.{clock_found, clock_grows}
use Rattle.sfx_model.proofs.members.OthersStand.{item_on}
use Rattle.sfx_model.proofs.members.CleanForgetStand.{made_clock}
use Rattle.sfx_model.proofs.members.JoinStands.{clock_still}
use Rattle.sfx_model.proofs.world.ActsAreSteps.{IsStep, new_there, one_step}

-- A step of a site keeps a snapshot sound, and what comes with it.
carried_step :
    (w x : World) (r : ℕ) (snapshot : Snapshot) (i : ItemId) (made_with : Cut → ℕ → ℕ → ℕ) (seen : Option ItemState)
    → WellFormed w → IsStep w x r → Carried w snapshot i made_with seen → Carried x snapshot i made_with seen
carried_step w x r snapshot i made_with seen ok by carried = subst (λ (y : World). Carried y snapshot i made_with seen) (sym by.is) (record {
  sound = λ j. item_stays w.units w.records by.records j (holding snapshot j) (holding snapshot j) by.step.grows
      (λ u. same_self (snapshot.known j u)) refl (λ q. le_refl (snapshot.forgotten (At j) q)) (carried.sound j);
  backs = record {
    exact = λ u v made. exact_of u v made (by.step.news made.0 made.1);
    bounded = λ u q small. let up = clock_grows w.sites by.new by.old q there by.step.follows.clock in let low =
        carried.backs.bounded u q small in omega arith;
  };
  state = item_on w.units w.records by.records i (holding snapshot i) seen by.step.grows carried.state;
})
  where
    there : site_of w.sites by.new.id ≡ Some by.old
    there = new_there w x r by

    exact_of :
        (u : ℕ) (v : Version) (made : Made by.records i u v)
        → (IsMadeBy w by.old by.new by.records made.0 ⊎ Has made.0 w.records)
        → IsContained (made_with (At i) u) v ↔ Has v (snapshot.known i u)
    exact_of u v made (inr before) = carried.backs.exact u v (made.0, before, made.2)
    exact_of u v made (inl maker) =
        let small : u < w.units = subst (λ (n : ℕ). n < w.units) made.2.unit maker.unit in
        let replica : by.new.id ≡ v.replica = maker.maker ∙ ap (λ (a : Version). a.replica) made.2.version in
        let tick : made.0.version.tick ≡ v.tick = ap (λ (a : Version). a.tick) made.2.version in
        let clock : clock_among w.sites v.replica ≡ by.old.clock =
        subst (λ (n : ℕ). clock_among w.sites n ≡ by.old.clock) replica (clock_found w.sites by.new.id by.old there) in
        let newer = maker.newer in (
          (λ contained. let low = carried.backs.bounded u v.replica small in absurd (omega arith)),
          (λ has. let low : v.tick ≤ clock_among w.sites v.replica =
              made_clock w i u v ok (((carried.sound i).cells u).made v has) in absurd (omega arith)),
        )

-- Each event that leaves the unit count keeps a snapshot sound, and what comes with it.
pub carried_stays :
    (w : World) (e : Event) (snapshot : Snapshot) (i : ItemId) (made_with : Cut → ℕ → ℕ → ℕ) (seen : Option ItemState)
    → WellFormed w → Legal w e → (after w e).units ≡ w.units → Carried w snapshot i made_with seen
    → Carried (after w e) snapshot i made_with seen
carried_stays w (Units units) snapshot i made_with seen ok legal keeps carried =
    subst (λ (n : ℕ). Carried (record w { units = n }) snapshot i made_with seen) (sym keeps) carried
carried_stays w (Widen more) snapshot i made_with seen ok legal keeps carried =
    let greater = legal.greater in absurd (omega (arith, keeps, greater))
carried_stays w (Join id) snapshot i made_with seen ok legal keeps carried = record {
  sound = carried.sound;
  backs = record {
    exact = carried.backs.exact;
    bounded = λ u r small. let up = clock_still w.sites (new_site id) r in let low =
        carried.backs.bounded u r small in omega arith;
  };
  state = carried.state;
}
carried_stays w (Make r j v contents) snapshot i made_with seen ok legal keeps carried =
    carried_step w _ r snapshot i made_with seen ok (one_step w (Make r j v contents) r ok legal refl) carried
carried_stays w (Clean r j v lo hi) snapshot i made_with seen ok legal keeps carried =
    carried_step w _ r snapshot i made_with seen ok (one_step w (Clean r j v lo hi) r ok legal refl) carried
carried_stays w (Forget r other lo hi) snapshot i made_with seen ok legal keeps carried =
    carried_step w _ r snapshot i made_with seen ok (one_step w (Forget r other lo hi) r ok legal refl) carried
carried_stays w (Apply r other j v marks) snapshot i made_with seen ok legal keeps carried =
    carried_step w _ r snapshot i made_with seen ok (one_step w (Apply r other j v marks) r ok legal refl) carried
carried_stays w (Learn r other lo hi left) snapshot i made_with seen ok legal keeps carried =
    carried_step w _ r snapshot i made_with seen ok (one_step w (Learn r other lo hi left) r ok legal refl) carried
