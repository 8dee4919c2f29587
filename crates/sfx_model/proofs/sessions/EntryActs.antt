-- One applied entry, and what comes before and after it: forgotten deletions are joined, and other items
-- are changed.
use Rattle.std.proofs.Common.{◌≡◌, ◌≢◌, ◌⊎◌, ℕ, ◌+◌, ◌<◌, ◌≤◌, Bool, true, false, true≢false, if◌then◌else◌, List, [], ◌∷◌, length, Option, Some, None, IsSomeAnd, arith, inl, inr, refl, sym, ◌∙◌, ap, subst}
use Rattle.std.specs.List.{list_any}
use Rattle.std.specs.Option.{option_map}
use Rattle.sfx_ids.specs.Tick.{max_tick}
use Rattle.sfx_ids.specs.declared.cut.Cut.{Cut}
use Rattle.sfx_ids.specs.declared.cut.Cut.TheVariants.{Start, At, After, End}
use Rattle.sfx_ids.specs.declared.item_id.ItemId.{ItemId}
use Rattle.sfx_vector.specs.Clocks.{tick_of}
use Rattle.sfx_item.specs.declared.cell.Cell.{Cell}
use Rattle.sfx_knowledge.specs.Knowledge.{IsKnowledge, tick_at}
use Rattle.sfx_knowledge.specs.Forgotten.{Forgets, AreForgets, fvec}
use Rattle.sfx_model.specs.declared.clash_rule.ClashRule.{ClashRule}
use Rattle.sfx_model.specs.declared.mode.Mode.{Mode}
use Rattle.sfx_model.specs.declared.mode.Mode.TheVariants.{Normal, Recover}
use Rattle.sfx_model.specs.world.Sets.{Has}
use Rattle.sfx_model.specs.world.World.{World, Site, Snapshot, WellFormed, IsSound, holding}
use Rattle.sfx_model.specs.world.Events.{Event, Make, Forget, Apply, same_item, site_of, after, Legal, AllLegal, after_all, IsFresh, StampLegal, ApplyLegal}
use Rattle.sfx_model.specs.sessions.Acts.{IsOrderly, Supplies}
use Rattle.sfx_model.specs.sessions.Batch.{BatchData}
use Rattle.sfx_model.specs.sessions.Deeds.{marks_in, version_behind, other_contents, name_given, others_deeds, forget_deeds, events_with}
use Rattle.sfx_model.specs.sessions.Draft.{DraftData}
use Rattle.sfx_model.specs.sessions.Entry.{is_stamped, Changing, clock_after_marks, state_after, left_from, forgets_by, renamed_state, other_state, change_other, change_others}
use Rattle.sfx_model.specs.sessions.MemberKnowledge.{stored_known}
use Rattle.sfx_item.specs.Item.{ItemState, Live, Dead}
use Rattle.sfx_model.specs.members.Members.{Member, AreAscending, Represents, shown, state_of}
use Rattle.sfx_model.specs.members.ItemLists.{with_state_of}
use Rattle.sfx_model.specs.members.Replica.{RepresentsReplica, ActsIn}
use Rattle.sfx_model.specs.members.Results.{EntryResult, StateResult}
use Rattle.sfx_model.specs.members.Snapshots.{Carried, Meets}
use Rattle.sfx_model.specs.members.States.{Rises, next_version, with_state, cells_with}
use Rattle.sfx_model.proofs.members.EditsAct.{edited_acts, deleted_acts}
use Rattle.sfx_model.proofs.sessions.ClassLemmas.{stamp_known, stamp_held}
use Rattle.sfx_model.proofs.sessions.ShapedDraftsApply.{draft_legal, draft_result, stamps_listed, skips_left}
use Rattle.sfx_model.proofs.sessions.ClassesGiveShapes.{Fits}
use Rattle.sfx_model.proofs.sessions.JoinedForgets.{forgot_all, forgets_form}
use Rattle.sfx_model.proofs.sessions.LearnedKnowledge.{learned_item, forgot_both}
use Rattle.sfx_model.proofs.sessions.ClashesLemmas.{AreOnce}
use Rattle.sfx_model.proofs.members.ItemListsLemmas.{state_given, state_kept, put_there}
use Rattle.sfx_model.proofs.members.ReplicasStand.{forget_replica, apply_replica}
use Rattle.sfx_model.proofs.sessions.DraftShapes.{cells_held}
use Rattle.sfx_model.proofs.world.SiteLemmas.{found}
use Rattle.sfx_model.proofs.world.StepKeepsWorld.{same_item_self}
use Rattle.sfx_model.proofs.members.OwnEvents.{AllOf, event_leaves}
use Rattle.sfx_model.proofs.sessions.StoredKnowledge.{stored_has}

-- ---- forgotten deletions

-- The member with the batch's forgotten deletions, in recovery.
abbrev pub forgotten_too : Mode → Forgets → Member → Member
forgotten_too mode forgotten m = record m { forgotten = forgets_by mode forgotten m.forgotten }

-- A site that is found may forget.
forget_legal : (w : World) (r : ℕ) (s : Site) (snapshot : Snapshot) → site_of w.sites r ≡ Some s → IsSound w snapshot → Legal w (Forget r snapshot Start End)
forget_legal w r s snapshot at sound = rw at sound

-- The events of forgetting, by the mode.
pub record Forgets_in (w : World) (es : List Event) (m n : Member) : Type 0 where
  pub legal : AllLegal w es
  pub of : AllOf es m.id
  pub stands : RepresentsReplica (after_all w es) m.id (shown n)

pub forget_acts :
    (w : World) (snapshot : Snapshot) (b : BatchData) (m : Member) (mode : Mode)
    → WellFormed w → RepresentsReplica w m.id (shown m) → IsOrderly w.units m → Supplies w snapshot b → IsSound w snapshot
    → Forgets_in w (events_with snapshot (forget_deeds mode m.id b.source)) m (forgotten_too mode b.forgotten m)
forget_acts w snapshot b m Normal ok stands orderly supplies sound = record { legal = tt; of = tt; stands = stands }
forget_acts w snapshot b m Recover ok (s, at, rep) orderly supplies sound =
    let legal : Legal w (Forget m.id snapshot Start End) = forget_legal w m.id s snapshot at sound in
    record {
      legal = (legal, tt);
      of = (refl, tt);
      stands =
          forget_replica w m.id snapshot (λ place r. tick_of (fvec b.forgotten place) r) Start End (shown m)
          (shown (forgotten_too Recover b.forgotten m)) ok legal (s, at, rep) supplies.same
          (forgot_both w.units m (forgotten_too Recover b.forgotten m) b.forgotten refl refl refl refl
          (forgot_all m.forgotten b.forgotten orderly.forgotten supplies.forgotten));
    }

pub forgotten_form :
    (b : BatchData) (m : Member) (mode : Mode) → AreForgets m.forgotten → AreForgets b.forgotten → AreForgets (forgets_by mode b.forgotten m.forgotten)
forgotten_form b m Normal own other = own
forgotten_form b m Recover own other = forgets_form m.forgotten b.forgotten own other

-- ---- the entry

-- The member after an entry with this draft.
abbrev pub entered : ℕ → BatchData → ItemId → Option ItemState → DraftData → Member → Member
entered units b i seen d m = record {
  id = m.id;
  clock = clock_after_marks d.marks m.clock;
  knowledge = stored_known units m.id (At i) (After i) (left_from i 0 d.marks) m.knowledge b.made_with;
  forgotten = m.forgotten;
  items = with_state_of i (state_after units (next_version m) d seen (state_of m.items i)) m.items;
}

apart_item : (i j : ItemId) → same_item j i ≡ false → i ≢ j
apart_item i j e same =
    true≢false (sym (subst (λ (k : ItemId). same_item j k ≡ true) (sym same) (same_item_self j)) ∙ e)

pub entered_result :
    (units : ℕ) (b : BatchData) (i : ItemId) (seen : Option ItemState) (d : DraftData) (m : Member)
    → IsOrderly units m → IsKnowledge units b.made_with → length d.marks ≡ units
    → StateResult units (next_version m) (marks_in d) (state_of m.items i) seen (state_after units (next_version m) d seen (state_of m.items i))
    → EntryResult units i (next_version m) (marks_in d) seen (tick_at b.made_with) (shown m) (shown (entered units b i seen d m))
entered_result units b i seen d m orderly form long result = record {
  id = refl;
  clock = ap (λ (x : Bool). if x then m.clock + 1 else m.clock) (sym (stamps_listed units d long));
  vectors =
      learned_item units m (entered units b i seen d m) i (marks_in d) (left_from i 0 d.marks) (tick_at b.made_with) refl
      (skips_left units i d)
      (stored_has units m.id (At i) (After i) (left_from i 0 d.marks) m.knowledge b.made_with orderly.some orderly.id orderly.knowledge form);
  forgotten = λ place r at. refl;
  others = λ j other. state_kept i (state_after units (next_version m) d seen (state_of m.items i)) m.items j (apart_item i j other);
  item = subst (λ (o : Option ItemState). StateResult units (next_version m) (marks_in d) (state_of m.items i) seen o)
      (sym (state_given i (state_after units (next_version m) d seen (state_of m.items i)) m.items orderly.ascending)) result;
}

-- A version may be stamped where either side has the item and a tick is left.
stamp_fits :
    (w : World) (s : Site) (m : Member) (snapshot : Snapshot) (i : ItemId) (made_with : Cut → ℕ → ℕ → ℕ) (seen : Option ItemState)
    → WellFormed w → Meets w s (shown m) snapshot i made_with seen → m.clock < max_tick
    → ((state : ItemState) × (seen ≡ Some state)) ⊎ ((state : ItemState) × (state_of m.items i ≡ Some state))
    → StampLegal s snapshot i (next_version m)
stamp_fits w s m snapshot i made_with seen ok meets room known =
    elim known [
      | inl (state, is) ↦ stamp_known w s (shown m) snapshot i made_with state (next_version m) ok
          (subst (λ (o : Option ItemState). Meets w s (shown m) snapshot i made_with o) is meets) fresh
      | inr (state, is) ↦ stamp_held w s (shown m) snapshot i made_with seen state (next_version m) ok meets is fresh
    ]
  where
    fresh : IsFresh s (next_version m)
    fresh = record {
      replica = meets.represents.header.id;
      tick = ap (λ (t : ℕ). t + 1) meets.represents.header.clock;
      fits = omega arith;
    }

-- Either side has the item.
abbrev pub IsKnownItem : Option ItemState → Option ItemState → Type 0
IsKnownItem seen here = ((state : ItemState) × (seen ≡ Some state)) ⊎ ((state : ItemState) × (here ≡ Some state))

pub record Enters (w : World) (snapshot : Snapshot) (b : BatchData) (i : ItemId) (seen : Option ItemState) (d : DraftData) (m : Member) : Type 0 where
  pub legal : Legal w (Apply m.id snapshot i (next_version m) (marks_in d))
  pub stands : RepresentsReplica (after w (Apply m.id snapshot i (next_version m) (marks_in d))) m.id (shown (entered w.units b i seen d m))

pub entry_acts :
    (w : World) (s : Site) (snapshot : Snapshot) (b : BatchData) (i : ItemId) (seen : Option ItemState) (d : DraftData) (m : Member)
    → WellFormed w → site_of w.sites m.id ≡ Some s → Represents w s (shown m) → IsOrderly w.units m
    → IsKnowledge w.units b.made_with → Carried w snapshot i (tick_at b.made_with) seen
    → Fits w s snapshot i seen (state_of m.items i) d
    → (list_any is_stamped d.marks ≡ true → m.clock < max_tick) → IsKnownItem seen (state_of m.items i)
    → Enters w snapshot b i seen d m
entry_acts w s snapshot b i seen d m ok at rep orderly form carried fits room known =
    let has = (found w.sites m.id s at).0 in
    let meets : Meets w s (shown m) snapshot i (tick_at b.made_with) seen = record { here = has; represents = rep; carried = carried } in
    let at_site : ApplyLegal w s snapshot i (next_version m) (marks_in d) =
    draft_legal w s snapshot i (next_version m) seen (state_of m.items i) d ok carried.sound carried.state (rep.items i) fits
    (λ e. stamp_fits w s m snapshot i (tick_at b.made_with) seen ok meets (room e) known) in
    let legal : Legal w (Apply m.id snapshot i (next_version m) (marks_in d)) =
    subst (λ (o : Option Site). IsSomeAnd o (λ t. ApplyLegal w t snapshot i (next_version m) (marks_in d))) (sym at) at_site in
    record {
      legal = legal;
      stands =
          apply_replica w m.id snapshot i (next_version m) (marks_in d) seen (tick_at b.made_with) (shown m)
          (shown (entered w.units b i seen d m)) ok legal (s, at, rep) carried.backs carried.state
          (entered_result w.units b i seen d m orderly form fits.0.long
          (draft_result w.units (next_version m) d seen (state_of m.items i) orderly.some
          (cells_held w.units w.records i (holding s i) (state_of m.items i) (rep.items i)) fits.0));
    }

-- ---- other items

-- The member with the clock and items of a change.
abbrev pub changing : Member → Changing → Member
changing m c = record m { clock = c.clock; items = c.items }

-- The item is live among these.
abbrev pub IsLiveAmong : Member → ItemId → Type 0
IsLiveAmong m i = (cells : List Cell) × (state_of m.items i ≡ Some (Live cells))

-- The change of one other item, by its new name or none.
abbrev other_event : ℕ → Member → ItemId → Option (List ℕ) → Event
other_event units m i name = Make m.id i (next_version m) (other_contents units name)

abbrev other_changed : Member → ItemId → Option (List ℕ) → Member
other_changed m i name = record m {
  clock = m.clock + 1;
  items = with_state_of i (other_state (next_version m) name (state_of m.items i)) m.items;
}

rise_to :
    (units : ℕ) (m : Member) (i : ItemId) (name : Option (List ℕ)) (state old : ItemState)
    → AreAscending m.items → state_of m.items i ≡ Some old → other_state (next_version m) name (state_of m.items i) ≡ Some state
    → Rises units m (other_changed m i name) (with_state i state m.items)
rise_to units m i name state old ascending was is = record {
  id = refl;
  clock = refl;
  knowledge = λ place u r there small other. refl;
  forgotten = refl;
  holds = ap (λ (o : Option ItemState). with_state_of i o m.items) is ∙ put_there i state old m.items ascending was;
}

pub other_acts :
    (w : World) (m : Member) (i : ItemId) (name : Option (List ℕ))
    → WellFormed w → RepresentsReplica w m.id (shown m) → AreAscending m.items → m.clock < max_tick → 1 ≤ w.units
    → IsLiveAmong m i → ActsIn w (other_event w.units m i name) m.id (other_changed m i name)
other_acts w m i None ok stands ascending room some (cells, live) =
    deleted_acts w m (other_changed m i None) i cells ok stands ascending room live
    (rise_to w.units m i None (Dead (next_version m)) (Live cells) ascending live refl)
other_acts w m i (Some name) ok stands ascending room some (cells, live) =
    edited_acts w m (other_changed m i (Some name)) i 0 name cells ok stands ascending room (omega arith) live
    (rise_to w.units m i (Some name) (Live (cells_with m cells 0 name)) (Live cells) ascending live
    (ap (option_map (renamed_state (next_version m) name)) live))

-- The other items are live.
pub record AreWaiting (m : Member) (js : List ItemId) : Type 0 where
  pub live : (j : ItemId) → Has j js → IsLiveAmong m j

-- The events of the other items, one after another.
pub record OthersAct (w : World) (es : List Event) (m n : Member) : Type 0 where
  pub legal : AllLegal w es
  pub of : AllOf es m.id
  pub stands : RepresentsReplica (after_all w es) m.id (shown n)
  pub ascending : AreAscending n.items
  pub clock : n.clock ≤ max_tick

pub others_act :
    (w : World) (snapshot : Snapshot) (units : ℕ) (m : Member) (rule : Option ClashRule) (c : Changing) (js : List ItemId)
    → WellFormed w → w.units ≡ units → 1 ≤ units → RepresentsReplica w m.id (shown (changing m c)) → AreAscending c.items
    → c.clock + length js ≤ max_tick → AreWaiting (changing m c) js → AreOnce js
    → OthersAct w (events_with snapshot (others_deeds units m.id rule c js)) m (changing m (change_others m.id rule c js))
unfolding others_deeds change_others
others_act w snapshot units m rule c [] ok count some stands ascending room waiting once = record {
  legal = tt;
  of = tt;
  stands = stands;
  ascending = ascending;
  clock = omega arith;
}
others_act w snapshot units m rule c (j ∷ js) ok count some stands ascending room waiting once =
    let name : Option (List ℕ) = name_given rule c.items j in
    let acts : ActsIn w (other_event units (changing m c) j (name_given rule c.items j)) m.id (changing m (change_other m.id rule j c)) =
    subst (λ (n : ℕ). ActsIn w (other_event n (changing m c) j (name_given rule c.items j)) m.id (changing m (change_other m.id rule j c))) count
    (other_acts w (changing m c) j (name_given rule c.items j) ok stands ascending (omega arith) (omega arith) (waiting.live j (inl refl))) in
    let leaves = event_leaves w (other_event units (changing m c) j (name_given rule c.items j)) m.id ok acts.legal refl in
    let rest = others_act (after w (other_event units (changing m c) j (name_given rule c.items j))) snapshot units m rule
    (change_other m.id rule j c) js acts.well_formed (leaves.count ∙ count) some acts.represents acts.ascending (omega arith)
    (record {
      live = λ k has.
          let (cells, is) = waiting.live k (inr has) in
          (cells, state_kept j (other_state (version_behind m.id c.clock) (name_given rule c.items j) (state_of c.items j)) c.items k (once.0 k has) ∙ is);
    }) once.1 in
    record {
      legal = (acts.legal, rest.legal);
      of = (refl, rest.of);
      stands = rest.stands;
      ascending = rest.ascending;
      clock = rest.clock;
    }
