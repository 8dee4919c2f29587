-- A source that represents its site: what comes with its batches backs that site as a snapshot.
use Rattle.std.proofs.Common.{◌≡◌, ◌≢◌, ℕ, ◌≤◌, List, Some, sym, ◌∙◌, subst}
use Rattle.sfx_ids.specs.declared.cut.Cut.{Cut}
use Rattle.sfx_ids.specs.declared.cut.Cut.TheVariants.{At}
use Rattle.sfx_ids.specs.declared.item_id.ItemId.{ItemId}
use Rattle.sfx_knowledge.specs.Knowledge.{Known, HasTicks, IsKnowledge, tick_at}
use Rattle.sfx_model.specs.world.World.{World, Site, WellFormed, IsSound}
use Rattle.sfx_model.specs.world.Events.{Event, after_all, site_of}
use Rattle.sfx_model.specs.sessions.Acts.{IsInForm, IsOrderly, Supplies}
use Rattle.sfx_model.specs.sessions.Batch.{BatchData}
use Rattle.sfx_model.specs.sessions.MemberKnowledge.{laid_known}
use Rattle.sfx_model.specs.members.Members.{Member, Represents, clock_among, shown, state_of, vector_at}
use Rattle.sfx_model.specs.members.Replica.{RepresentsReplica}
use Rattle.sfx_model.specs.members.Results.{Backs, BacksRange}
use Rattle.sfx_model.specs.members.Snapshots.{Carried}
use Rattle.sfx_model.proofs.sessions.ClassTests.{laid_has, laid_form}
use Rattle.sfx_model.proofs.members.FactsHold.{made_below}
use Rattle.sfx_model.proofs.members.ReplicasStand.{one_found}
use Rattle.sfx_model.proofs.world.SiteLemmas.{found}
use Rattle.sfx_model.proofs.members.OwnEvents.{all_leave}
use Rattle.sfx_model.proofs.sessions.TaskActs.{TaskActs}

-- The batch has the source's id, knowledge and forgotten deletions.
pub record IsFrom (units : ℕ) (source : Member) (b : BatchData) : Type 0 where
  pub source_is : b.source ≡ source.id
  pub made_with : b.made_with ≡ laid_known units source
  pub forgotten : b.forgotten ≡ source.forgotten

-- Source and destination represent their sites, and the destination's lists are in order.
pub record Ready (w : World) (units : ℕ) (source m : Member) (snapshot : Site) : Type 0 where
  pub ok : WellFormed w
  pub count : w.units ≡ units
  pub at : site_of w.sites source.id ≡ Some snapshot
  pub theirs : Represents w snapshot (shown source)
  pub stands : RepresentsReplica w m.id (shown m)
  pub orderly : IsOrderly units m

-- It stays so when the destination acts.
pub ready_on :
    (w : World) (units : ℕ) (source m n : Member) (snapshot : Site) (es : List Event)
    → source.id ≢ m.id → Ready w units source m snapshot → TaskActs w es m n → n.id ≡ m.id
    → Ready (after_all w es) units source n snapshot
ready_on w units source m n snapshot es apart ready acts same =
    let leaves = all_leave w es m.id ready.ok acts.legal acts.of in
    let other : m.id ≢ source.id = λ e. apart (sym e) in
    let at : site_of (after_all w es).sites source.id ≡ Some snapshot = leaves.sites source.id other ∙ ready.at in
    record {
      ok = leaves.ok;
      count = leaves.count ∙ ready.count;
      at = at;
      theirs = one_found (after_all w es) source.id (shown source) snapshot at
          (leaves.others source.id (shown source) other (snapshot, ready.at, ready.theirs));
      stands = subst (λ (r : ℕ). RepresentsReplica (after_all w es) r (shown n)) (sym same) acts.stands;
      orderly = subst (λ (x : ℕ). IsOrderly x n) ready.count acts.orderly;
    }

source_ticks : (w : World) (units : ℕ) (source : Member) → w.units ≡ units → IsInForm units source → HasTicks w.units (laid_known units source) (vector_at source)
source_ticks w units source count form =
    subst (λ (n : ℕ). HasTicks n (laid_known units source) (vector_at source)) (sym count) (laid_has units source form)

-- The made-with knowledge backs each item of the snapshot.
source_backs :
    (w : World) (source : Member) (snapshot : Site) (known : Known) (i : ItemId)
    → WellFormed w → Represents w snapshot (shown source) → HasTicks w.units known (vector_at source) → Backs w snapshot i (tick_at known)
source_backs w source snapshot known i ok rep has = record {
  exact = λ u v made.
      let same = has (At i) u v.replica tt (made_below w i u v ok made) in
      let exact = rep.exact i u v made in (
        (λ contains. exact.0 (subst (λ (t : ℕ). v.tick ≤ t) same contains)),
        (λ there. subst (λ (t : ℕ). v.tick ≤ t) (sym same) (exact.1 there)),
      );
  bounded = λ u r small.
      subst (λ (t : ℕ). t ≤ clock_among w.sites r) (sym (has (At i) u r tt small)) (rep.bounded.vectors (At i) u r tt small);
}

pub source_sound : (w : World) (units : ℕ) (source m : Member) (snapshot : Site) → Ready w units source m snapshot → IsSound w snapshot
source_sound w units source m snapshot ready = ready.ok.sound snapshot (found w.sites source.id snapshot ready.at).0

-- The snapshot is carried with its state of each item.
pub source_carried :
    (w : World) (units : ℕ) (source m : Member) (snapshot : Site) (b : BatchData) (i : ItemId)
    → Ready w units source m snapshot → IsInForm units source → IsFrom units source b
    → Carried w snapshot i (tick_at b.made_with) (state_of source.items i)
source_carried w units source m snapshot b i ready form from =
    subst (λ (k : Known). Carried w snapshot i (tick_at k) (state_of source.items i)) (sym from.made_with) (record {
      sound = source_sound w units source m snapshot ready;
      backs = source_backs w source snapshot (laid_known units source) i ready.ok ready.theirs (source_ticks w units source ready.count form);
      state = ready.theirs.items i;
    })

pub source_range :
    (w : World) (units : ℕ) (source m : Member) (snapshot : Site) (b : BatchData) (lo hi : Cut)
    → Ready w units source m snapshot → IsInForm units source → IsFrom units source b
    → BacksRange w snapshot lo hi (tick_at b.made_with)
source_range w units source m snapshot b lo hi ready form from =
    let has = source_ticks w units source ready.count form in
    subst (λ (k : Known). BacksRange w snapshot lo hi (tick_at k)) (sym from.made_with) (record {
      items = λ i within. source_backs w source snapshot (laid_known units source) i ready.ok ready.theirs has;
      bounded = λ place u r at small within.
          subst (λ (t : ℕ). t ≤ clock_among w.sites r) (sym (has place u r at small)) (ready.theirs.bounded.vectors place u r at small);
    })

pub source_supplies :
    (w : World) (units : ℕ) (source m : Member) (snapshot : Site) (b : BatchData)
    → Ready w units source m snapshot → IsInForm units source → IsFrom units source b → Supplies w snapshot b
source_supplies w units source m snapshot b ready form from = record {
  made_with = subst (λ (k : Known). IsKnowledge w.units k) (sym from.made_with)
      (subst (λ (n : ℕ). IsKnowledge n (laid_known units source)) (sym ready.count) (laid_form units source form));
  forgotten = rw from.forgotten form.forgotten;
  same = rw from.forgotten (record {
    same = λ place r at within. ready.theirs.header.forgotten place r at;
    bounded = λ place r at within. ready.theirs.bounded.forgotten place r at;
  });
}
