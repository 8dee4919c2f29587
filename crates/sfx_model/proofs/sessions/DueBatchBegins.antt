-- Each item of the range of a batch that is due is one of a task, or known, or gone from both sides.
use Rattle.std.proofs.Common.{◌≡◌, ◌⊎◌, ℕ, ◌<◌, ◌≤◌, ◌&&◌, not, Bool, true, false, true≢false, if◌then◌else◌, List, [], ◌++◌, map, Option, Some, None, inl, inr, refl, sym, ◌∙◌, ap, subst}
use Rattle.std.specs.List.{filter}
use Rattle.std.proofs.lemmas.Bool.{and_from}
use Rattle.sfx_ids.specs.declared.cut.Cut.{Cut}
use Rattle.sfx_ids.specs.declared.cut.Cut.TheVariants.{At}
use Rattle.sfx_ids.specs.declared.item_id.ItemId.{ItemId}
use Rattle.sfx_ids.specs.ItemId.{creation_of}
use Rattle.sfx_vector.specs.Clocks.{tick_of}
use Rattle.sfx_knowledge.specs.Knowledge.{HasTicks, tick_at}
use Rattle.sfx_knowledge.specs.Forgotten.{Forgets, fvec}
use Rattle.sfx_knowledge.specs.Skips.{is_skipped}
use Rattle.sfx_knowledge.proofs.KnowledgeLemmas.{ticks-self}
use Rattle.sfx_model.specs.declared.absent.Absent.TheVariants as absents
use Rattle.sfx_model.specs.declared.absent.Absent.TheVariants.{Conflict}
use Rattle.sfx_model.specs.declared.mode.Mode.{Mode}
use Rattle.sfx_model.specs.declared.mode.Mode.TheVariants.{Normal, Recover}
use Rattle.sfx_model.specs.world.Sets.{Has}
use Rattle.sfx_model.specs.world.World.{World, Site, holding}
use Rattle.sfx_model.specs.world.Events.{site_of, is_in}
use Rattle.sfx_model.specs.sessions.Acts.{IsInForm}
use Rattle.sfx_model.specs.sessions.Batch.{BatchData, due, due_end, ids_in, batch_from}
use Rattle.sfx_model.specs.sessions.Class.{is_forgotten_within, absent_class_of}
use Rattle.sfx_model.specs.sessions.Entry.{Unlisted, Change}
use Rattle.sfx_model.specs.sessions.MemberKnowledge.{laid_known}
use Rattle.sfx_item.specs.Item.{ItemData, ItemState}
use Rattle.sfx_model.specs.members.Members.{Member, ItemRepresents, shown, state_of, vector_at}
use Rattle.sfx_model.specs.members.Readings.{knows_version, is_unseen}
use Rattle.sfx_model.specs.sessions.Session.{is_among, is_kept, is_unlisted, unlisted, is_live_state, tasks_of}
use Rattle.sfx_model.specs.members.Snapshots.{Meets, AreWithin}
use Rattle.sfx_model.proofs.world.SetsLemmas.{has_left, has_right}
use Rattle.sfx_model.proofs.sessions.BatchActs.{IsPending, IsKnownNow, IsGoneNow, RangeSoFar}
use Rattle.sfx_model.proofs.sessions.ClassLemmas.{range_listed, range_cleaned, range_unknown}
use Rattle.sfx_model.proofs.sessions.ClassTests.{in_form, laid_has, item_seen, unit_contained, creation_lacks, forgotten_within}
use Rattle.sfx_model.proofs.sessions.DueBatch.{has_filter, has_map, state_has, due_has, listed_not, due_batch, due_from}
use Rattle.sfx_model.proofs.members.ReplicasStand.{one_found}
use Rattle.sfx_model.proofs.world.SiteLemmas.{found}
use Rattle.sfx_model.proofs.sessions.SourceBacks.{IsFrom, Ready, source_carried}
use Rattle.sfx_model.proofs.members.AscendingItems.{item_with}

-- In mode Normal the source's forgotten deletions are known at the places of the range.
abbrev pub ForgottenKnown : ℕ → Mode → Member → Member → (ItemId → Type 0) → Type 0
ForgottenKnown units Normal source m InRange =
    (i : ItemId) → InRange i → AreWithin units i (λ place r. tick_of (fvec source.forgotten place) r) (vector_at m)
ForgottenKnown units Recover source m InRange = Unit {0}

-- The destination meets what the source has of an item.
met :
    (w : World) (units : ℕ) (source m : Member) (snapshot s : Site) (b : BatchData) (i : ItemId)
    → Ready w units source m snapshot → IsInForm units source → IsFrom units source b → site_of w.sites m.id ≡ Some s
    → Meets w s (shown m) snapshot i (tick_at b.made_with) (state_of source.items i)
met w units source m snapshot s b i ready theirs from at = record {
  here = (found w.sites m.id s at).0;
  represents = one_found w m.id (shown m) s at ready.stands;
  carried = source_carried w units source m snapshot b i ready theirs from;
}

-- What the destination knows, as a list.
known_ticks :
    (w : World) (units : ℕ) (source m : Member) (snapshot : Site)
    → Ready w units source m snapshot → HasTicks w.units (laid_known units m) (vector_at m)
known_ticks w units source m snapshot ready =
    subst (λ (n : ℕ). HasTicks n (laid_known units m) (vector_at m)) (sym ready.count) (laid_has units m (in_form units m ready.orderly))

-- An item of the source that is not unseen is known.
seen_known :
    (w : World) (units : ℕ) (source m : Member) (snapshot : Site) (b : BatchData) (left : List (ItemId × ℕ)) (i : ItemId) (state : ItemState)
    → Ready w units source m snapshot → IsInForm units source → IsFrom units source b
    → state_of source.items i ≡ Some state → is_unseen units (laid_known units m) (item_with i state) ≡ false
    → IsKnownNow w m.id snapshot left i
seen_known w units source m snapshot b left i state ready theirs from is seen = record {
  known = λ s at.
      let meets : Meets w s (shown m) snapshot i (tick_at b.made_with) (Some state) =
      subst (λ (o : Option ItemState). Meets w s (shown m) snapshot i (tick_at b.made_with) o) is
      (met w units source m snapshot s b i ready theirs from at) in
      range_listed w s (shown m) snapshot i (tick_at b.made_with) state (is_skipped left) ready.ok meets
      (λ u small e. unit_contained w.units (laid_known units m) (vector_at m) w.records i (holding snapshot i) state u
      (known_ticks w units source m snapshot ready) meets.carried.state small
      (item_seen units (laid_known units m) (item_with i state) u seen (subst (λ (n : ℕ). u < n) ready.count small)));
}

-- An item that the source lacks is known where what the source has forgotten of it is.
lacking_known :
    (w : World) (units : ℕ) (source m : Member) (snapshot : Site) (b : BatchData) (left : List (ItemId × ℕ)) (i : ItemId)
    → Ready w units source m snapshot → IsInForm units source → IsFrom units source b → state_of source.items i ≡ None
    → AreWithin units i (λ place r. tick_of (fvec source.forgotten place) r) (vector_at m)
    → IsKnownNow w m.id snapshot left i
lacking_known w units source m snapshot b left i ready theirs from is within = record {
  known = λ s at.
      let meets : Meets w s (shown m) snapshot i (tick_at b.made_with) None =
      subst (λ (o : Option ItemState). Meets w s (shown m) snapshot i (tick_at b.made_with) o) is
      (met w units source m snapshot s b i ready theirs from at) in
      range_cleaned w s (shown m) snapshot i (tick_at b.made_with) (is_skipped left) ready.ok meets
      (λ u r small. subst (λ (t : ℕ). t ≤ vector_at m (At i) u r) (ready.theirs.header.forgotten (At i) r tt)
      (within u r (subst (λ (n : ℕ). u < n) ready.count small)));
}

-- And so where the source never had it.
uncreated_known :
    (w : World) (units : ℕ) (source m : Member) (snapshot : Site) (b : BatchData) (left : List (ItemId × ℕ)) (i : ItemId)
    → Ready w units source m snapshot → IsInForm units source → IsFrom units source b
    → knows_version b.made_with i 0 (creation_of i) ≡ false → IsKnownNow w m.id snapshot left i
uncreated_known w units source m snapshot b left i ready theirs from lacks = record {
  known = λ s at.
      range_unknown w s (shown m) snapshot i (tick_at b.made_with) (state_of source.items i) (is_skipped left) ready.ok
      (met w units source m snapshot s b i ready theirs from at)
      (creation_lacks w.units b.made_with (tick_at b.made_with) i (ticks-self w.units b.made_with)
      (ready.ok.counted s (found w.sites m.id s at).0) lacks);
}

-- An item that is kept, though the source does not list it, is known.
kept_known :
    (w : World) (units : ℕ) (source m : Member) (snapshot : Site) (b : BatchData) (left : List (ItemId × ℕ)) (i : ItemId) (local : ItemState)
    → Ready w units source m snapshot → IsInForm units source → IsFrom units source b → state_of source.items i ≡ None
    → is_kept (absent_class_of units (laid_known units m) b.made_with b.forgotten (item_with i local)) ≡ true
    → IsKnownNow w m.id snapshot left i
unfolding absent_class_of
kept_known w units source m snapshot b left i local ready theirs from is kept =
    by_within (is_forgotten_within units b.forgotten (laid_known units m) i) refl kept
  where
    by_creation :
        (c : Bool)
        → knows_version b.made_with i 0 (creation_of i) ≡ c → is_kept (if c then Conflict else absents.Keep) ≡ true → IsKnownNow w m.id snapshot left i
    by_creation true e k = absurd (true≢false (sym k))
    by_creation false e k = uncreated_known w units source m snapshot b left i ready theirs from e

    by_local :
        (l : Bool)
        → is_kept (if l then (if knows_version b.made_with i 0 (creation_of i) then Conflict else absents.Keep) else absents.Drop) ≡ true
        → IsKnownNow w m.id snapshot left i
    by_local true k = by_creation (knows_version b.made_with i 0 (creation_of i)) refl k
    by_local false k = absurd (true≢false (sym k))

    by_within :
        (g : Bool)
        → is_forgotten_within units b.forgotten (laid_known units m) i ≡ g
        → is_kept (if g then absents.Keep else (if is_unseen units b.made_with (item_with i local) then
        (if knows_version b.made_with i 0 (creation_of i) then Conflict else absents.Keep) else absents.Drop)) ≡ true
        → IsKnownNow w m.id snapshot left i
    by_within true e k =
        lacking_known w units source m snapshot b left i ready theirs from is
        (subst (λ (f : Forgets). AreWithin units i (λ place r. tick_of (fvec f place) r) (vector_at m)) from.forgotten
        (forgotten_within units b.forgotten (laid_known units m) (vector_at m) i (laid_has units m (in_form units m ready.orderly)) e))
    by_within false e k = by_local (is_unseen units b.made_with (item_with i local)) k

-- ---- the range of a batch that is due

-- A change that is due is one of the tasks.
change_pending :
    (units : ℕ) (source : Member) (mode : Mode) (size : ℕ) (m : Member) (from : Cut) (x : ItemData)
    → Has x (due units size (laid_known units m) from source.items)
    → Has (Change x) (tasks_of units (due_batch units source mode size m from) m)
unfolding batch_from tasks_of
change_pending units source mode size m from x has =
    has_right (Change x) (map (λ (y : ItemData). Unlisted y.id) (unlisted mode units (due_batch units source mode size m from) m))
    (map Change (filter (λ y. not (is_live_state y.state)) changes) ++ map Change (filter (λ y. is_live_state y.state) changes))
    (by_state (is_live_state x.state) refl)
  where
    changes : List ItemData
    changes = due units size (laid_known units m) from source.items

    by_state :
        (b : Bool)
        → is_live_state x.state ≡ b
        → Has (Change x) (map Change (filter (λ y. not (is_live_state y.state)) changes) ++ map Change (filter (λ y. is_live_state y.state) changes))
    by_state true e =
        has_right (Change x) (map Change (filter (λ y. not (is_live_state y.state)) changes)) (map Change (filter (λ y. is_live_state y.state) changes))
        (has_map Change x (filter (λ y. is_live_state y.state) changes) (has_filter (λ (y : ItemData). is_live_state y.state) x changes has e))
    by_state false e =
        has_left (Change x) (map Change (filter (λ y. not (is_live_state y.state)) changes)) (map Change (filter (λ y. is_live_state y.state) changes))
        (has_map Change x (filter (λ y. not (is_live_state y.state)) changes)
        (has_filter (λ (y : ItemData). not (is_live_state y.state)) x changes has (ap not e)))

-- An item that is not listed and does not stay is one of the tasks.
unlisted_pending :
    (units : ℕ) (source : Member) (size : ℕ) (m : Member) (from : Cut) (i : ItemId) (local : ItemState)
    → IsInForm units source → state_of source.items i ≡ None → state_of m.items i ≡ Some local
    → is_in from (due_end units size (laid_known units m) from source.items) i ≡ true
    → is_kept (absent_class_of units (laid_known units m) (laid_known units source) source.forgotten (item_with i local)) ≡ false
    → Has (Unlisted i) (tasks_of units (due_batch units source Recover size m from) m)
unfolding batch_from tasks_of
unlisted_pending units source size m from i local theirs none is within kept =
    has_left (Unlisted i)
    (map (λ (y : ItemData). Unlisted y.id) (filter (is_unlisted units (due_batch units source Recover size m from) m) m.items))
    (map Change (filter (λ y. not (is_live_state y.state)) changes) ++ map Change (filter (λ y. is_live_state y.state) changes))
    (has_map (λ (y : ItemData). Unlisted y.id) (item_with i local) (filter (is_unlisted units (due_batch units source Recover size m from) m) m.items)
    (has_filter (is_unlisted units (due_batch units source Recover size m from) m) (item_with i local) m.items (state_has m.items i local is)
    (and_from (is_in from to i) (not (is_among (ids_in from to source.items) i) && not (is_kept (absent_class_of units (laid_known units m) (laid_known units source) source.forgotten (item_with i local)))) within
    (and_from (not (is_among (ids_in from to source.items) i)) (not (is_kept (absent_class_of units (laid_known units m) (laid_known units source) source.forgotten (item_with i local))))
    (ap not (listed_not from to source.items i theirs.ascending none)) (ap not kept)))))
  where
    changes : List ItemData
    changes = due units size (laid_known units m) from source.items

    to : Cut
    to = due_end units size (laid_known units m) from source.items

-- The parts of the batch.
pub due_to :
    (units : ℕ) (source : Member) (mode : Mode) (size : ℕ) (m : Member) (from : Cut) (i : ItemId)
    → is_in (due_batch units source mode size m from).from (due_batch units source mode size m from).to i
    ≡ is_in from (due_end units size (laid_known units m) from source.items) i
unfolding batch_from
due_to units source mode size m from i = refl

due_mode : (units : ℕ) (source : Member) (mode : Mode) (size : ℕ) (m : Member) (from : Cut) → (due_batch units source mode size m from).mode ≡ mode
unfolding batch_from
due_mode units source mode size m from = refl

due_class :
    (units : ℕ) (source : Member) (mode : Mode) (size : ℕ) (m : Member) (from : Cut) (x : ItemData)
    → absent_class_of units (laid_known units m) (due_batch units source mode size m from).made_with (due_batch units source mode size m from).forgotten x
    ≡ absent_class_of units (laid_known units m) (laid_known units source) source.forgotten x
unfolding batch_from
due_class units source mode size m from x = refl

-- Each item of the range.
pub due_so_far :
    (w : World) (units : ℕ) (source : Member) (mode : Mode) (size : ℕ) (m : Member) (snapshot : Site) (from : Cut)
    → 1 ≤ size → Ready w units source m snapshot → IsInForm units source
    → ForgottenKnown units mode source m (λ i. is_in (due_batch units source mode size m from).from (due_batch units source mode size m from).to i ≡ true)
    → RangeSoFar w (due_batch units source mode size m from) m snapshot [] (tasks_of units (due_batch units source mode size m from) m)
due_so_far w units source mode size m snapshot from some ready theirs forgotten i within = by_source (state_of source.items i) refl
  where
    at : is_in from (due_end units size (laid_known units m) from source.items) i ≡ true
    at = sym (due_to units source mode size m from i) ∙ within

    b : BatchData
    b = due_batch units source mode size m from

    absent : state_of source.items i ≡ None → snapshot.present i ≡ false
    absent e = subst (λ (o : Option ItemState). ItemRepresents w.units w.records i (holding snapshot i) o) e (ready.theirs.items i)

    by_mode :
        (k : Mode)
        → mode ≡ k → ForgottenKnown units k source m (λ j. is_in b.from b.to j ≡ true) → state_of source.items i ≡ None
        → IsPending i (tasks_of units b m) ⊎ (IsKnownNow w m.id snapshot [] i ⊎ IsGoneNow b m snapshot [] i)
    by_mode Normal same known e =
        inr (inl (lacking_known w units source m snapshot b [] i ready theirs (due_from units source mode size m from) e (known i within)))
    by_mode Recover same known e = by_local (state_of m.items i) refl
      where
        by_kept :
            (local : ItemState) (c : Bool)
            → state_of m.items i ≡ Some local
            → is_kept (absent_class_of units (laid_known units m) b.made_with b.forgotten (item_with i local)) ≡ c
            → IsPending i (tasks_of units b m) ⊎ (IsKnownNow w m.id snapshot [] i ⊎ IsGoneNow b m snapshot [] i)
        by_kept local true is kept =
            inr (inl (kept_known w units source m snapshot b [] i local ready theirs (due_from units source mode size m from) e kept))
        by_kept local false is kept =
            inl (
              Unlisted i,
              subst (λ (k : Mode). Has (Unlisted i) (tasks_of units (due_batch units source k size m from) m)) (sym same)
                  (unlisted_pending units source size m from i local theirs e is at
                  (ap is_kept (sym (due_class units source mode size m from (item_with i local))) ∙ kept)),
              refl,
            )

        by_local :
            (o : Option ItemState)
            → state_of m.items i ≡ o
            → IsPending i (tasks_of units b m) ⊎ (IsKnownNow w m.id snapshot [] i ⊎ IsGoneNow b m snapshot [] i)
        by_local None is =
            inr (inr (record { mode = due_mode units source mode size m from ∙ same; there = absent e; here = is; whole = λ u. refl }))
        by_local (Some local) is =
            by_kept local (is_kept (absent_class_of units (laid_known units m) b.made_with b.forgotten (item_with i local))) is refl

    by_seen :
        (state : ItemState) (c : Bool)
        → state_of source.items i ≡ Some state → is_unseen units (laid_known units m) (item_with i state) ≡ c
        → IsPending i (tasks_of units b m) ⊎ (IsKnownNow w m.id snapshot [] i ⊎ IsGoneNow b m snapshot [] i)
    by_seen state true e news =
        inl (
          Change (item_with i state),
          change_pending units source mode size m from (item_with i state)
              (due_has units size (laid_known units m) from source.items (item_with i state) some theirs.ascending (state_has source.items i state e) news at),
          refl,
        )
    by_seen state false e seen =
        inr (inl (seen_known w units source m snapshot b [] i state ready theirs (due_from units source mode size m from) e seen))

    by_source :
        (o : Option ItemState)
        → state_of source.items i ≡ o
        → IsPending i (tasks_of units b m) ⊎ (IsKnownNow w m.id snapshot [] i ⊎ IsGoneNow b m snapshot [] i)
    by_source None e = by_mode mode refl forgotten e
    by_source (Some state) e = by_seen state (is_unseen units (laid_known units m) (item_with i state)) e refl
