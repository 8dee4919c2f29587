-- A batch's range that is learned: its events may happen, and the destination afterwards represents its
-- site.
use Rattle.std.proofs.Common.{◌≡◌, ℕ, ◌<◌, ◌≤◌, max, Bool, true, false, if◌then◌else◌, List, [], ◌∷◌, ◌++◌, Option, Some, IsSomeAnd, arith, inl, inr, refl, sym, subst, le_refl, le_trans}
use Rattle.std.proofs.lemmas.List.{map-append}
use Rattle.sfx_ids.specs.declared.cut.Cut.{Cut}
use Rattle.sfx_ids.specs.declared.cut.Cut.TheVariants.{Start, At, End}
use Rattle.sfx_ids.specs.declared.item_id.ItemId.{ItemId}
use Rattle.sfx_ids.specs.declared.version.Version.{Version}
use Rattle.sfx_ids.specs.Cut.{is_between}
use Rattle.sfx_knowledge.specs.Knowledge.{tick_at}
use Rattle.sfx_knowledge.specs.Skips.{is_skipped}
use Rattle.sfx_model.specs.declared.mode.Mode.{Mode}
use Rattle.sfx_model.specs.declared.mode.Mode.TheVariants.{Normal, Recover}
use Rattle.sfx_model.specs.world.Sets.{IsPart}
use Rattle.sfx_model.specs.world.World.{Record, World, Site, Snapshot, WellFormed, IsSound, IsSoundItem, Made, holding}
use Rattle.sfx_model.specs.world.Events.{Forget, Learn, LearnFrom, site_of, site_forgot, forgot, after, Legal, after_all, LearnLegal, seen_by}
use Rattle.sfx_model.specs.sessions.Acts.{IsOrderly, Supplies, IsGone, RangeFits}
use Rattle.sfx_model.specs.sessions.Batch.{BatchData}
use Rattle.sfx_model.specs.sessions.Deeds.{forget_deeds, range_deeds, events_with}
use Rattle.sfx_model.specs.members.Members.{Member, Represents, shown}
use Rattle.sfx_model.specs.members.Replica.{RepresentsReplica}
use Rattle.sfx_model.specs.members.Results.{BacksRange}
use Rattle.sfx_model.specs.sessions.Session.{after_range}
use Rattle.sfx_model.proofs.sessions.EntryActs.{forgotten_too, forget_acts, forgotten_form}
use Rattle.sfx_model.proofs.sessions.LearnedKnowledge.{learned_range}
use Rattle.sfx_model.proofs.members.ReplicasStand.{own_found, one_found, learn_replica}
use Rattle.sfx_model.proofs.members.OwnEvents.{LeavesOthers, of_append, after_append, legal_append, all_leave}
use Rattle.sfx_model.proofs.sessions.StoredKnowledge.{stored_form, stored_has}
use Rattle.sfx_model.proofs.sessions.TaskActs.{TaskActs, forgotten_here, supplies_on}

-- The events of forgetting leave what is known, present and recorded.
record StillKnown (w x : World) (s : Site) (r : ℕ) : Type 0 where
  pub site : Site
  pub at : site_of x.sites r ≡ Some site
  pub known : site.known ≡ s.known
  pub present : site.present ≡ s.present
  pub records : x.records ≡ w.records
  pub forgotten : (place : Cut) (q : ℕ) → s.forgotten place q ≤ site.forgotten place q

forget_is : (w : World) (r : ℕ) (s : Site) (snapshot : Snapshot) → site_of w.sites r ≡ Some s → after w (Forget r snapshot Start End) ≡ forgot w s snapshot Start End
forget_is w r s snapshot at = rw at refl

still_known :
    (w : World) (s : Site) (snapshot : Snapshot) (mode : Mode) (r source : ℕ)
    → site_of w.sites r ≡ Some s → StillKnown w (after_all w (events_with snapshot (forget_deeds mode r source))) s r
still_known w s snapshot Normal r source at = record { site = s; at = at; known = refl; present = refl; records = refl; forgotten = λ place q. le_refl (s.forgotten place q) }
still_known w s snapshot Recover r source at =
    subst (λ (x : World). StillKnown w x s r) (sym (forget_is w r s snapshot at)) (record {
      site = site_forgot s snapshot Start End;
      at = own_found w r s (site_forgot s snapshot Start End) at refl;
      known = refl;
      present = refl;
      records = refl;
      forgotten = λ place q. by_test (is_between Start End place) (s.forgotten place q) (snapshot.forgotten place q);
    })
  where
    by_test : (b : Bool) (x y : ℕ) → x ≤ (if b then max x y else x)
    by_test true x y = omega arith
    by_test false x y = le_refl x

-- What backs a range goes on doing so.
range_backs :
    (w x : World) (r : ℕ) (snapshot : Snapshot) (lo hi : Cut) (made_with : Cut → ℕ → ℕ → ℕ)
    → LeavesOthers w x r → x.records ≡ w.records → BacksRange w snapshot lo hi made_with → BacksRange x snapshot lo hi made_with
range_backs w x r snapshot lo hi made_with leaves records backs = record {
  items = λ i within. record {
    exact = λ u v made. (backs.items i within).exact u v (subst (λ (rs : List Record). Made rs i u v) records made);
    bounded = λ u q small.
        le_trans ((backs.items i within).bounded u q (subst (λ (n : ℕ). u < n) leaves.count small)) (leaves.clocks q);
  };
  bounded = λ place u q at small within.
      le_trans (backs.bounded place u q at (subst (λ (n : ℕ). u < n) leaves.count small) within) (leaves.clocks q);
}

-- A sound snapshot stays so.
sound_on :
    (w x : World) (snapshot : Snapshot) → x.units ≡ w.units → x.records ≡ w.records → IsSound w snapshot → IsSound x snapshot
sound_on w x snapshot units records sound i =
    subst (λ (n : ℕ). IsSoundItem n x.records i (holding snapshot i)) (sym units)
    (subst (λ (rs : List Record). IsSoundItem w.units rs i (holding snapshot i)) (sym records) (sound i))

-- The range, in a world in which the forgotten deletions are joined by now.
learn_acts :
    (w : World) (s : Site) (snapshot : Snapshot) (b : BatchData) (left : List (ItemId × ℕ)) (m : Member)
    → WellFormed w → site_of w.sites m.id ≡ Some s → Represents w s (shown (forgotten_too b.mode b.forgotten m)) → IsOrderly w.units m
    → Supplies w snapshot b → IsSound w snapshot → BacksRange w snapshot b.from b.to (tick_at b.made_with) → RangeFits s snapshot b left
    → TaskActs w (Learn m.id snapshot b.from b.to (is_skipped left) ∷ []) m (after_range w.units b left m)
unfolding after_range
learn_acts w s snapshot b left m ok at rep orderly supplies sound backs fits = record {
  legal = (legal, tt);
  of = (refl, tt);
  stands =
      learn_replica w m.id snapshot b.from b.to (is_skipped left) (tick_at b.made_with) (shown (forgotten_too b.mode b.forgotten m))
      (shown (after_range w.units b left m)) ok legal (s, at, rep) backs
      (learned_range w.units (forgotten_too b.mode b.forgotten m) (after_range w.units b left m) b.from b.to left (tick_at b.made_with)
      refl refl refl refl
      (stored_has w.units m.id b.from b.to left m.knowledge b.made_with orderly.some orderly.id orderly.knowledge supplies.made_with));
  orderly = record {
    some = orderly.some;
    id = orderly.id;
    clock = orderly.clock;
    knowledge = stored_form w.units m.id b.from b.to left m.knowledge b.made_with orderly.some orderly.id orderly.knowledge supplies.made_with;
    forgotten = forgotten_form b m b.mode orderly.forgotten supplies.forgotten;
    ascending = orderly.ascending;
    names = orderly.names;
  };
}
  where
    forgotten_by : (i : ItemId) (r : ℕ) → IsGone s snapshot b left i → snapshot.forgotten (At i) r ≤ s.forgotten (At i) r
    forgotten_by i r gone = elim gone.forgotten [
      | inl mode ↦
          subst (λ (t : ℕ). snapshot.forgotten (At i) r ≤ t) (rep.header.forgotten (At i) r tt)
          (forgotten_here w s snapshot b m b.mode i r mode orderly supplies)
      | inr within ↦ within r
    ]

    at_site : LearnLegal w s snapshot b.from b.to (is_skipped left)
    at_site = record {
      sound = sound;
      items = λ i within. elim (fits i within) [
        | inl known ↦ inl known
        | inr gone ↦ inr (record { here = gone.here; there = gone.there; whole = gone.whole; forgotten = λ r. forgotten_by i r gone })
      ];
    }

    legal : Legal w (Learn m.id snapshot b.from b.to (is_skipped left))
    legal = subst (λ (o : Option Site). IsSomeAnd o (λ t. LearnLegal w t snapshot b.from b.to (is_skipped left))) (sym at) at_site

-- The whole range.
pub range_acts :
    (w : World) (s : Site) (snapshot : Snapshot) (b : BatchData) (left : List (ItemId × ℕ)) (m : Member)
    → WellFormed w → site_of w.sites m.id ≡ Some s → Represents w s (shown m) → IsOrderly w.units m
    → Supplies w snapshot b → IsSound w snapshot → BacksRange w snapshot b.from b.to (tick_at b.made_with)
    → RangeFits s snapshot b left
    → TaskActs w (events_with snapshot (range_deeds b left m)) m (after_range w.units b left m)
range_acts w s snapshot b left m ok at rep orderly supplies sound backs fits =
    let first = forget_acts w snapshot b m b.mode ok (s, at, rep) orderly supplies sound in
    let leaves = all_leave w (events_with snapshot (forget_deeds b.mode m.id b.source)) m.id ok first.legal first.of in
    let still = still_known w s snapshot b.mode m.id b.source at in
    let x : World = after_all w (events_with snapshot (forget_deeds b.mode m.id b.source)) in
    let stands : Represents (after_all w (events_with snapshot (forget_deeds b.mode m.id b.source))) still.site (shown (forgotten_too b.mode b.forgotten m)) =
    one_found (after_all w (events_with snapshot (forget_deeds b.mode m.id b.source))) m.id (shown (forgotten_too b.mode b.forgotten m)) still.site still.at first.stands in
    let fits_on : RangeFits still.site snapshot b left =
    λ i within. elim (fits i within) [
      | inl known ↦ inl (subst (λ (k : ItemId → ℕ → List Version). (u : ℕ) → is_skipped left i u ≡ false → IsPart (snapshot.known i u) (k i u)) (sym still.known) known)
      | inr gone ↦ inr (record {
        here = subst (λ (p : ItemId → Bool). p i ≡ false) (sym still.present) gone.here;
        there = gone.there;
        whole = gone.whole;
        forgotten = elim gone.forgotten [
          | inl mode ↦ inl mode
          | inr within_here ↦ inr (λ r. le_trans (within_here r) (still.forgotten (At i) r))
        ];
      })
    ] in
    let learns : (n : ℕ) → Type 0 = λ n. TaskActs (after_all w (events_with snapshot (forget_deeds b.mode m.id b.source)))
    (Learn m.id snapshot b.from b.to (is_skipped left) ∷ []) m (after_range n b left m) in
    let next : TaskActs (after_all w (events_with snapshot (forget_deeds b.mode m.id b.source)))
    (Learn m.id snapshot b.from b.to (is_skipped left) ∷ []) m (after_range w.units b left m) =
    subst learns leaves.count
    (learn_acts (after_all w (events_with snapshot (forget_deeds b.mode m.id b.source))) still.site snapshot b left m leaves.ok still.at stands
    (subst (λ (n : ℕ). IsOrderly n m) (sym leaves.count) orderly)
    (supplies_on w (after_all w (events_with snapshot (forget_deeds b.mode m.id b.source))) m.id snapshot b leaves supplies)
    (sound_on w (after_all w (events_with snapshot (forget_deeds b.mode m.id b.source))) snapshot leaves.count still.records sound)
    (range_backs w (after_all w (events_with snapshot (forget_deeds b.mode m.id b.source))) m.id snapshot b.from b.to (tick_at b.made_with) leaves still.records backs)
    fits_on) in
    let whole : events_with snapshot (range_deeds b left m)
    ≡ events_with snapshot (forget_deeds b.mode m.id b.source) ++ (Learn m.id snapshot b.from b.to (is_skipped left) ∷ []) =
    map-append (seen_by snapshot) (forget_deeds b.mode m.id b.source) (LearnFrom m.id b.source b.from b.to (is_skipped left) ∷ []) in
    rw whole (record {
      legal = legal_append w (events_with snapshot (forget_deeds b.mode m.id b.source))
          (Learn m.id snapshot b.from b.to (is_skipped left) ∷ []) first.legal next.legal;
      of = of_append (events_with snapshot (forget_deeds b.mode m.id b.source))
          (Learn m.id snapshot b.from b.to (is_skipped left) ∷ []) m.id first.of next.of;
      stands = subst (λ (y : World). RepresentsReplica y m.id (shown (after_range w.units b left m)))
          (sym (after_append w (events_with snapshot (forget_deeds b.mode m.id b.source))
          (Learn m.id snapshot b.from b.to (is_skipped left) ∷ []))) next.stands;
      orderly = subst (λ (n : ℕ). IsOrderly n (after_range w.units b left m)) leaves.count next.orderly;
    })
