-- What an event does to the states that represent replicas: those of others stay, and that of the replica
-- that acts changes as the event says.
use Rattle.std.proofs.Common.{◌≡◌, ◌≢◌, ℕ, Bool, List, [], Option, Some, inl, inr, refl, sym, ◌∙◌, subst}
use Rattle.sfx_ids.specs.declared.cut.Cut.{Cut}
use Rattle.sfx_ids.specs.declared.item_id.ItemId.{ItemId}
use Rattle.sfx_ids.specs.declared.version.Version.{Version}
use Rattle.sfx_model.specs.world.World.{Content, World, Site, Snapshot, WellFormed, holding}
use Rattle.sfx_model.specs.world.Events.{Event, Units, Widen, Join, Make, Clean, Forget, Apply, Learn, UnitMark, site_of, put_site, after, Legal, new_site, site_made, site_cleaned, site_forgot, site_applied, site_learned, made, cleaned, forgot, applied, learned, MakeLegal, CleanLegal, ApplyLegal, LearnLegal}
use Rattle.sfx_item.specs.Item.{ItemState}
use Rattle.sfx_model.specs.members.Members.{Shown, Represents, ItemRepresents}
use Rattle.sfx_model.specs.members.Results.{EditResult, CleanResult, ForgetResult, EntryResult, LearnResult, Backs, BacksRange, BacksForgotten}
use Rattle.sfx_model.specs.members.Replica.{RepresentsReplica, IsOfOthers, IsNewMember}
use Rattle.sfx_model.proofs.world.SiteLemmas.{found, put_found, other_found}
use Rattle.sfx_model.proofs.world.ActsAreSteps.{IsStep, at_site_holds, new_is, new_there, one_step}
use Rattle.sfx_model.proofs.members.OthersStand.{other_stands}
use Rattle.sfx_model.proofs.members.EditStands.{edit_stands}
use Rattle.sfx_model.proofs.members.CleanForgetStand.{clean_stands, forget_stands}
use Rattle.sfx_model.proofs.members.ApplyStands.{apply_stands}
use Rattle.sfx_model.proofs.members.LearnStands.{learn_stands}
use Rattle.sfx_model.proofs.members.JoinStands.{found_still, found_new, join_others, join_new}

-- A step of another site.
pub step_others :
    (w x : World) (id r : ℕ) (m : Shown)
    → WellFormed w → IsStep w x id → id ≢ r → RepresentsReplica w r m → RepresentsReplica x r m
step_others w x id r m ok step other (s, at_s, rep) =
    subst (λ (y : World). RepresentsReplica y r m) (sym step.is) (
      s,
      other_found w.sites step.new r (λ same. other (sym (new_is w x id step) ∙ same)) ∙ at_s,
      other_stands w step.old step.new step.records s m (new_there w x id step) ok step.step (found w.sites r s at_s).0 rep,
    )

-- The members of other replicas go on representing them.
pub others_stand :
    (w : World) (e : Event) (r : ℕ) (m : Shown)
    → WellFormed w → Legal w e → IsOfOthers e r → RepresentsReplica w r m → RepresentsReplica (after w e) r m
others_stand w (Units units) r m ok legal other (s, at_s, rep) = elim legal.said [
  | inl unsaid ↦
      let bad : site_of [] r ≡ Some s = subst (λ (ss : List Site). site_of ss r ≡ Some s) unsaid.1 at_s in
      absurd (cc)
  | inr same ↦ subst (λ (n : ℕ). RepresentsReplica (record w { units = n }) r m) same (s, at_s, rep)
]
others_stand w (Widen more) r m ok legal other stands = absurd other
others_stand w (Join id) r m ok legal other (s, at_s, rep) =
    (s, found_still w.sites (new_site id) r s at_s, join_others w id s m rep)
others_stand w (Make id i v contents) r m ok legal other stands =
    step_others w _ id r m ok (one_step w (Make id i v contents) id ok legal refl) other stands
others_stand w (Clean id i v lo hi) r m ok legal other stands =
    step_others w _ id r m ok (one_step w (Clean id i v lo hi) id ok legal refl) other stands
others_stand w (Forget id snapshot lo hi) r m ok legal other stands =
    step_others w _ id r m ok (one_step w (Forget id snapshot lo hi) id ok legal refl) other stands
others_stand w (Apply id snapshot i v marks) r m ok legal other stands =
    step_others w _ id r m ok (one_step w (Apply id snapshot i v marks) id ok legal refl) other stands
others_stand w (Learn id snapshot lo hi left) r m ok legal other stands =
    step_others w _ id r m ok (one_step w (Learn id snapshot lo hi left) id ok legal refl) other stands

-- The member of a replica that joined.
pub joined_stands :
    (w : World) (id : ℕ) (m : Shown)
    → WellFormed w → Legal w (Join id) → IsNewMember w.units id m → RepresentsReplica (after w (Join id)) id m
joined_stands w id m ok legal new =
    (new_site id, found_new w.sites (new_site id) legal.new_id, join_new w id m ok new)

-- The site of a replica that acted is found again.
pub own_found :
    (w : World) (r : ℕ) (old new : Site)
    → site_of w.sites r ≡ Some old → new.id ≡ old.id → site_of (put_site new w.sites) r ≡ Some new
own_found w r old new at same =
    let is : new.id ≡ r = same ∙ (found w.sites r old at).1 in
    subst (λ (x : ℕ). site_of (put_site new w.sites) x ≡ Some new) is
    (put_found w.sites new old (subst (λ (x : ℕ). site_of w.sites x ≡ Some old) (sym is) at))

-- The site that is found is the one that the member represents.
pub one_found :
    (w : World) (r : ℕ) (m : Shown) (t : Site)
    → site_of w.sites r ≡ Some t → RepresentsReplica w r m → Represents w t m
one_found w r m t at (s, at_s, rep) =
    let same : s ≡ t = let both : Some s ≡ Some t = sym at_s ∙ at in cc in
    subst (λ (x : Site). Represents w x m) same rep

pub edit_replica :
    (w : World) (r : ℕ) (i : ItemId) (v : Version) (contents : ℕ → Option Content) (m n : Shown)
    → WellFormed w → Legal w (Make r i v contents) → RepresentsReplica w r m → EditResult w.units i v contents m n
    → RepresentsReplica (after w (Make r i v contents)) r n
edit_replica w r i v contents m n ok legal stands result =
    at_site_holds w r (λ t. made w t i v contents) (λ t. MakeLegal w t i v contents) (λ x. RepresentsReplica x r n)
    (λ t at ok_t. (
      site_made t i v (t.known i) contents,
      own_found w r t (site_made t i v (t.known i) contents) at
          refl,
      edit_stands w t i v contents m n ok (found w.sites r t at).0 ok_t (one_found w r m t at stands) result,
    ))
    legal

pub clean_replica :
    (w : World) (r : ℕ) (i : ItemId) (v : Version) (lo hi : Cut) (m n : Shown)
    → WellFormed w → Legal w (Clean r i v lo hi) → RepresentsReplica w r m → CleanResult w.units i v lo hi m n
    → RepresentsReplica (after w (Clean r i v lo hi)) r n
clean_replica w r i v lo hi m n ok legal stands result =
    at_site_holds w r (λ t. cleaned w t i v lo hi) (λ t. CleanLegal w t i v lo hi) (λ x. RepresentsReplica x r n)
    (λ t at ok_t. (
      site_cleaned t i v lo hi,
      own_found w r t (site_cleaned t i v lo hi) at refl,
      clean_stands w t i v
          lo hi m n ok (found w.sites r t at).0 ok_t (one_found w r m t at stands) result,
    )) legal

pub forget_replica :
    (w : World) (r : ℕ) (snapshot : Snapshot) (seen : Cut → ℕ → ℕ) (lo hi : Cut) (m n : Shown)
    → WellFormed w → Legal w (Forget r snapshot lo hi) → RepresentsReplica w r m
    → BacksForgotten w snapshot lo hi seen → ForgetResult w.units seen lo hi m n
    → RepresentsReplica (after w (Forget r snapshot lo hi)) r n
forget_replica w r snapshot seen lo hi m n ok legal stands backs result =
    at_site_holds w r (λ t. forgot w t snapshot lo hi) (λ t. _) (λ x. RepresentsReplica x r n)
    (λ t at ok_t. (
      site_forgot t snapshot lo hi,
      own_found w r t (site_forgot t snapshot lo hi) at refl,
      forget_stands
          w t snapshot seen lo hi m n ok (found w.sites r t at).0 (one_found w r m t at stands) backs result,
    )) legal

pub apply_replica :
    (w : World) (r : ℕ) (snapshot : Snapshot) (i : ItemId) (v : Version) (marks : ℕ → UnitMark)
    (seen : Option ItemState) (made_with : Cut → ℕ → ℕ → ℕ) (m n : Shown)
    → WellFormed w → Legal w (Apply r snapshot i v marks) → RepresentsReplica w r m → Backs w snapshot i made_with
    → ItemRepresents w.units w.records i (holding snapshot i) seen → EntryResult w.units i v marks seen made_with m n
    → RepresentsReplica (after w (Apply r snapshot i v marks)) r n
apply_replica w r snapshot i v marks seen made_with m n ok legal stands backs there result =
    at_site_holds w r (λ t. applied w t snapshot i v marks) (λ t. ApplyLegal w t snapshot i v marks)
    (λ x. RepresentsReplica x r n)
    (λ t at ok_t. (
      site_applied w.units t snapshot i v marks,
      own_found w r t
          (site_applied w.units t snapshot i v marks) at refl,
      apply_stands w t snapshot i v marks seen made_with m n ok
          (found w.sites r t at).0 ok_t (one_found w r m t at stands) backs there result,
    )) legal

pub learn_replica :
    (w : World) (r : ℕ) (snapshot : Snapshot) (lo hi : Cut) (left : ItemId → ℕ → Bool) (made_with : Cut → ℕ → ℕ → ℕ)
    (m n : Shown)
    → WellFormed w → Legal w (Learn r snapshot lo hi left) → RepresentsReplica w r m
    → BacksRange w snapshot lo hi made_with → LearnResult w.units lo hi left made_with m n
    → RepresentsReplica (after w (Learn r snapshot lo hi left)) r n
learn_replica w r snapshot lo hi left made_with m n ok legal stands backs result =
    at_site_holds w r (λ t. learned w t snapshot lo hi left) (λ t. LearnLegal w t snapshot lo hi left)
    (λ x. RepresentsReplica x r n)
    (λ t at ok_t. (
      site_learned t snapshot lo hi left,
      own_found w r t (site_learned t snapshot lo hi left) at refl,
      learn_stands w t snapshot lo hi left made_with m n ok (found w.sites r t at).0 ok_t
          (one_found w r m t at stands) backs result,
    )) legal
