-- An event of a replica is a step of its site.
use Rattle.std.proofs.Common.{◌≡◌, ℕ, List, Option, Some, None, IsSomeAnd, refl, sym, ◌∙◌, subst}
use Rattle.sfx_model.specs.world.World.{Record, World, Site, WellFormed}
use Rattle.sfx_model.specs.world.Events.{Event, Units, Widen, Join, Make, Clean, Forget, Apply, Learn, site_of, put_site, at_site, after, Legal, recorded, site_made, site_cleaned, site_forgot, site_applied, site_learned, made, cleaned, forgot, applied, learned, MakeLegal, CleanLegal, ApplyLegal, LearnLegal}
use Rattle.sfx_model.specs.members.States.{IsOf}
use Rattle.sfx_model.proofs.world.Step.{Step}
use Rattle.sfx_model.proofs.world.SiteLemmas.{found}
use Rattle.sfx_model.proofs.world.StepKeepsWorld.{step_keeps}
use Rattle.sfx_model.proofs.world.MakeKeepsWorld.{make_step}
use Rattle.sfx_model.proofs.world.LearnKeepsWorld.{clean_step, forget_step, learn_step}
use Rattle.sfx_model.proofs.world.ApplyKeepsWorld.{entry_records, entry_step}

-- What holds after an event at a site holds where it does so at the site that is found.
pub at_site_holds :
    (w : World) (id : ℕ) (change : Site → World) (Ok : Site → Type 0) (Holds : World → Type 0)
    → ((t : Site) → site_of w.sites id ≡ Some t → Ok t → Holds (change t)) → IsSomeAnd (site_of w.sites id) Ok
    → Holds (at_site w (site_of w.sites id) change)
at_site_holds w id change Ok Holds each legal = by_site (site_of w.sites id) refl legal
  where
    by_site : (o : Option Site) → site_of w.sites id ≡ o → IsSomeAnd o Ok → Holds (at_site w o change)
    by_site None e ok = absurd ok
    by_site (Some t) e ok = each t e ok

-- An event of a replica is a step of its site, and the world after it has the new site and records.
pub record IsStep (w x : World) (r : ℕ) : Type 0 where
  pub old : Site
  pub new : Site
  pub records : List Record
  pub at : site_of w.sites r ≡ Some old
  pub step : Step w old new records
  pub is : x ≡ record w { records = records; sites = put_site new w.sites }

made_is_step :
    (w : World) (r : ℕ) (old new : Site) (rs : List Record)
    → site_of w.sites r ≡ Some old → Step w old new rs → IsStep w (record w { records = rs; sites = put_site new w.sites }) r
made_is_step w r old new rs at step = record { old = old; new = new; records = rs; at = at; step = step; is = refl }

pub one_step : (w : World) (e : Event) (r : ℕ) → WellFormed w → Legal w e → IsOf e r → IsStep w (after w e) r
one_step w (Units units) r ok legal of = absurd of
one_step w (Widen more) r ok legal of = absurd of
one_step w (Join id) r ok legal of = absurd of
one_step w (Make id i v contents) r ok legal of =
    at_site_holds w id (λ t. made w t i v contents) (λ t. MakeLegal w t i v contents) (λ x. IsStep w x r)
    (λ t at ok_t. made_is_step w r t (site_made t i v (t.known i) contents) (recorded i v (t.known i) contents w.units w.records)
    (subst (λ (n : ℕ). site_of w.sites n ≡ Some t) of at) (make_step w t i v contents ok (found w.sites id t at).0 ok_t)) legal
one_step w (Clean id i v lo hi) r ok legal of =
    at_site_holds w id (λ t. cleaned w t i v lo hi) (λ t. CleanLegal w t i v lo hi) (λ x. IsStep w x r)
    (λ t at ok_t. made_is_step w r t (site_cleaned t i v lo hi) w.records
    (subst (λ (n : ℕ). site_of w.sites n ≡ Some t) of at) (clean_step w t i v lo hi ok (found w.sites id t at).0 ok_t)) legal
one_step w (Forget id snapshot lo hi) r ok legal of =
    at_site_holds w id (λ t. forgot w t snapshot lo hi) (λ t. _) (λ x. IsStep w x r)
    (λ t at ok_t. made_is_step w r t (site_forgot t snapshot lo hi) w.records
    (subst (λ (n : ℕ). site_of w.sites n ≡ Some t) of at) (forget_step w t snapshot lo hi ok (found w.sites id t at).0)) legal
one_step w (Apply id snapshot i v marks) r ok legal of =
    at_site_holds w id (λ t. applied w t snapshot i v marks) (λ t. ApplyLegal w t snapshot i v marks) (λ x. IsStep w x r)
    (λ t at ok_t. made_is_step w r t (site_applied w.units t snapshot i v marks) (entry_records w t snapshot i v marks)
    (subst (λ (n : ℕ). site_of w.sites n ≡ Some t) of at)
    (entry_step w t snapshot i v marks (record { ok = ok; there = (found w.sites id t at).0; legal = ok_t }))) legal
one_step w (Learn id snapshot lo hi left) r ok legal of =
    at_site_holds w id (λ t. learned w t snapshot lo hi left) (λ t. LearnLegal w t snapshot lo hi left) (λ x. IsStep w x r)
    (λ t at ok_t. made_is_step w r t (site_learned t snapshot lo hi left) w.records
    (subst (λ (n : ℕ). site_of w.sites n ≡ Some t) of at) (learn_step w t snapshot lo hi left ok (found w.sites id t at).0 ok_t)) legal

-- The new site is one of the replica,
pub new_is : (w x : World) (r : ℕ) (step : IsStep w x r) → step.new.id ≡ r
new_is w x r step = step.step.follows.id ∙ (found w.sites r step.old step.at).1

-- whose old one is found by the same id.
pub new_there : (w x : World) (r : ℕ) (step : IsStep w x r) → site_of w.sites step.new.id ≡ Some step.old
new_there w x r step = subst (λ (n : ℕ). site_of w.sites n ≡ Some step.old) (sym (new_is w x r step)) step.at

-- The world stays well-formed.
pub acting_keeps : (w : World) (e : Event) (r : ℕ) → WellFormed w → Legal w e → IsOf e r → WellFormed (after w e)
acting_keeps w e r ok legal of =
    let step = one_step w e r ok legal of in
    subst WellFormed (sym step.is) (step_keeps w step.old step.new step.records (new_there w (after w e) r step) ok step.step)
