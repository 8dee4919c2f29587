-- Each class of a change, and of an item that the source does not list, gives a draft of one of the shapes,
-- and each of its units may have its mark.
use Rattle.std.proofs.Common.{◌≡◌, ℕ, ◌<◌, ◌≤◌, Bool, true, false, true≢false, if◌then◌else◌, List, [], length, Option, Some, None, slice_get, arith, inl, refl, sym, ◌∙◌, ap, subst}
use Rattle.std.specs.List.{list_all}
use Rattle.sfx_ids.specs.declared.cut.Cut.TheVariants.{At}
use Rattle.sfx_ids.specs.declared.item_id.ItemId.{ItemId}
use Rattle.sfx_ids.specs.ItemId.{creation_of}
use Rattle.sfx_vector.specs.Clocks.{tick_of}
use Rattle.sfx_item.specs.declared.cell.Cell.{Cell}
use Rattle.sfx_knowledge.specs.Knowledge.{Known, HasTicks, tick_at}
use Rattle.sfx_knowledge.specs.Forgotten.{Forgets, fvec}
use Rattle.sfx_model.specs.declared.absent.Absent.{Absent}
use Rattle.sfx_model.specs.declared.absent.Absent.TheVariants as absents
use Rattle.sfx_model.specs.declared.absent.Absent.TheVariants.{Conflict}
use Rattle.sfx_model.specs.declared.keep.Keep.{Keep}
use Rattle.sfx_model.specs.declared.keep.Keep.TheVariants.{Source, Destination, Merge, Skip}
use Rattle.sfx_model.specs.declared.mark.Mark.{Mark}
use Rattle.sfx_model.specs.declared.mark.Mark.TheVariants.{Stays, Taken, Stamped, Left, Gone}
use Rattle.sfx_model.specs.declared.unit_class.UnitClass.{UnitClass}
use Rattle.sfx_model.specs.declared.unit_class.UnitClass.TheVariants as unit_classes
use Rattle.sfx_model.specs.declared.unit_class.UnitClass.TheVariants.{Newer, Concurrent}
use Rattle.sfx_model.specs.world.Sets.{IsPart}
use Rattle.sfx_model.specs.world.World.{World, Site, Snapshot, WellFormed, holding}
use Rattle.sfx_model.specs.world.Events.{TakeLegal}
use Rattle.sfx_model.specs.sessions.Class.{AllKnown, TakeWhole, WholeConflict, is_forgotten_within, unit_class, absent_change, whole_change, present_change, unknown_change, class_of, absent_class_of}
use Rattle.sfx_model.specs.sessions.Draft.{DraftData, values_of, value_in, all_marked, whole_draft, conflict_mark, conflict_value, unit_mark, unit_value, is_left, unit_marks, unit_values, units_draft, draft_of, absent_draft}
use Rattle.sfx_item.specs.Item.{ItemData, ItemState, Live, Dead}
use Rattle.sfx_model.specs.members.Members.{Member, ItemRepresents, shown, state_of, vector_at}
use Rattle.sfx_model.specs.members.Readings.{knows_version, is_unseen_at, is_unseen}
use Rattle.sfx_model.specs.sessions.Rules.{RulesData}
use Rattle.sfx_model.specs.members.Snapshots.{Meets, HasContained}
use Rattle.sfx_model.specs.world.Units.{each_unit, at_unit}
use Rattle.std.proofs.lemmas.List.{length-map}
use Rattle.sfx_segments.proofs.StandardFacts.{Tested, yes_it, not_it, tested}
use Rattle.sfx_knowledge.proofs.KnowledgeLemmas.{ticks-self}
use Rattle.sfx_model.proofs.world.UnitsLemmas.{at_each, at_map, length_each, all_at}
use Rattle.sfx_model.proofs.members.FactsHold.{cell_there}
use Rattle.sfx_model.proofs.sessions.ClassLemmas.{known_here, newer_taken, new_taken, cleaned_taken, dropped_legal, range_cleaned, range_unknown}
use Rattle.sfx_model.proofs.sessions.ClassTests.{item_seen, unit_contained, creation_lacks, forgotten_within}
use Rattle.sfx_model.proofs.sessions.DraftShapes.{IsLiveUnit, IsShaped, MakesLive, LeavesAll, MarkFits, DraftFits, HasCells, cells_held, marked_have, value_there, whole_shape, whole_fits, stays_shape, gone_shape, taken_shape}
use Rattle.sfx_model.proofs.members.AscendingItems.{item_with}

-- ---- units of an item that is live on both sides

conflict_unit :
    (keep : Keep) (merged : List ℕ) (sv hv : List ℕ) (seen here : Option Cell)
    → ((c : Cell) × (here ≡ Some c) × (c.value ≡ hv))
    → IsLiveUnit (conflict_mark keep) (conflict_value keep merged sv hv) seen here
conflict_unit Source merged sv hv seen here own = tt
conflict_unit Destination merged sv hv seen here own = tt
conflict_unit Merge merged sv hv seen here own = tt
conflict_unit Skip merged sv hv seen here own = own

class_unit :
    (rules : RulesData) (u : ℕ) (k : UnitClass) (sv hv : List ℕ) (seen here : Option Cell)
    → ((c : Cell) × (seen ≡ Some c) × (c.value ≡ sv)) → ((c : Cell) × (here ≡ Some c) × (c.value ≡ hv))
    → IsLiveUnit (unit_mark rules.keep k) (unit_value rules u k sv hv) seen here
class_unit rules u unit_classes.Known sv hv seen here theirs own = own
class_unit rules u Newer sv hv seen here theirs own = theirs
class_unit rules u Concurrent sv hv seen here theirs own =
    conflict_unit rules.keep (rules.merge u sv hv) sv hv seen here own

left_is : (k : Mark) → is_left k ≡ true → k ≡ Left
left_is Stays e = absurd (true≢false (sym e))
left_is Taken e = absurd (true≢false (sym e))
left_is Stamped e = absurd (true≢false (sym e))
left_is Left e = refl
left_is Gone e = absurd (true≢false (sym e))

the_cell : (cells : List Cell) (u : ℕ) → u < length cells → (c : Cell) × (slice_get cells u ≡ Some c) × (c.value ≡ value_in cells u)
the_cell cells u small = let (c, is) = cell_there cells u small in (c, is, sym (value_there cells u c is))

units_shape :
    (units : ℕ) (rules : RulesData) (classes : List UnitClass) (cells own : List Cell)
    → length cells ≡ units → length own ≡ units → length classes ≡ units
    → IsShaped units (Some (Live cells)) (Some (Live own)) (units_draft units rules classes cells own)
units_shape units rules classes cells own whole long classed =
    by_test (list_all is_left (unit_marks rules.keep classes)) refl
  where
    marks : List Mark
    marks = unit_marks rules.keep classes

    values : List (List ℕ)
    values = unit_values units rules classes cells own

    mark_at : (u : ℕ) → u < units → at_unit marks u Stays ≡ unit_mark rules.keep (at_unit classes u unit_classes.Known)
    mark_at u small = at_map (unit_mark rules.keep) classes u unit_classes.Known Stays (omega arith)

    value_at : (u : ℕ) → u < units → at_unit values u [] ≡ unit_value rules u (at_unit classes u unit_classes.Known) (value_in cells u) (value_in own u)
    value_at u small =
        at_each units (λ x. unit_value rules x (at_unit classes x unit_classes.Known) (value_in cells x) (value_in own x)) u [] small

    by_test :
        (b : Bool)
        → list_all is_left marks ≡ b
        → IsShaped units (Some (Live cells)) (Some (Live own)) (record { marks = marks; values = if b then None else Some values })
    by_test true e = record {
      long = length-map classes (unit_mark rules.keep) ∙ classed;
      shape = LeavesAll (λ u small. left_is (at_unit marks u Stays)
          (all_at is_left marks u Stays (omega (arith, length-map classes (unit_mark rules.keep))) e)) refl;
    }
    by_test false e = record {
      long = length-map classes (unit_mark rules.keep) ∙ classed;
      shape = MakesLive values (record {
        are = refl;
        whole = length_each units (λ u. unit_value rules u (at_unit classes u unit_classes.Known) (value_in cells u) (value_in own u));
        each = λ u small.
            subst (λ (k : Mark). IsLiveUnit k (at_unit values u []) (slice_get cells u) (slice_get own u)) (sym (mark_at u small))
            (subst (λ (v : List ℕ). IsLiveUnit (unit_mark rules.keep (at_unit classes u unit_classes.Known)) v (slice_get cells u) (slice_get own u))
            (sym (value_at u small))
            (class_unit rules u (at_unit classes u unit_classes.Known) (value_in cells u) (value_in own u) (slice_get cells u) (slice_get own u)
            (the_cell cells u (omega arith)) (the_cell own u (omega arith))));
        together = inl ((cells, refl), inl (own, refl));
      });
    }

-- ---- what each class says of the marks

-- A comparison at one item: the member, and what comes with the snapshot's state of the item.
pub record Compared (w : World) (s : Site) (m : Member) (snapshot : Snapshot) (i : ItemId) (known made_with : Known) (seen : Option ItemState) : Type 0 where
  pub ok : WellFormed w
  pub meets : Meets w s (shown m) snapshot i (tick_at made_with) seen
  pub knows : HasTicks w.units known (vector_at m)

some_units : (w : World) (s : Site) (m : Member) (snapshot : Snapshot) (i : ItemId) (known made_with : Known) (seen : Option ItemState) → Compared w s m snapshot i known made_with seen → 1 ≤ w.units
some_units w s m snapshot i known made_with seen c = c.ok.counted s c.meets.here

-- A unit that is not unseen here may stay.
unit_known :
    (w : World) (s : Site) (m : Member) (snapshot : Snapshot) (i : ItemId) (known made_with : Known) (state : ItemState) (u : ℕ)
    → Compared w s m snapshot i known made_with (Some state) → u < w.units → is_unseen_at known i state u ≡ false
    → IsPart (snapshot.known i u) (s.known i u)
unit_known w s m snapshot i known made_with state u c small seen =
    known_here w s (shown m) snapshot i (tick_at made_with) state u c.ok c.meets small
    (unit_contained w.units known (vector_at m) w.records i (holding snapshot i) state u c.knows c.meets.carried.state small seen)

-- The local version of a unit is contained there.
local_contained :
    (w : World) (s : Site) (m : Member) (snapshot : Snapshot) (i : ItemId) (known made_with : Known) (seen : Option ItemState) (local : ItemState) (u : ℕ)
    → Compared w s m snapshot i known made_with seen → state_of m.items i ≡ Some local → u < w.units
    → is_unseen_at made_with i local u ≡ false → HasContained local u (tick_at made_with (At i) u)
local_contained w s m snapshot i known made_with seen local u c at small known_there =
    unit_contained w.units made_with (tick_at made_with) w.records i (holding s i) local u (ticks-self w.units made_with)
    (subst (λ (o : Option ItemState). ItemRepresents w.units w.records i (holding s i) o) at (c.meets.represents.items i)) small
    known_there

-- A unit whose local version the source knew may be taken.
unit_taken :
    (w : World) (s : Site) (m : Member) (snapshot : Snapshot) (i : ItemId) (known made_with : Known) (state local : ItemState) (u : ℕ)
    → Compared w s m snapshot i known made_with (Some state) → state_of m.items i ≡ Some local → u < w.units
    → is_unseen_at made_with i local u ≡ false → TakeLegal s snapshot i u
unit_taken w s m snapshot i known made_with state local u c at small known_there =
    newer_taken w s (shown m) snapshot i (tick_at made_with) state local u c.ok c.meets at small
    (local_contained w s m snapshot i known made_with (Some state) local u c at small known_there)

abbrev pub Fits : World → Site → Snapshot → ItemId → Option ItemState → Option ItemState → DraftData → Type 0
Fits w s snapshot i seen here d = IsShaped w.units seen here d × DraftFits w s snapshot i d

-- All units stay, are taken or go.
stays_fits :
    (w : World) (s : Site) (snapshot : Snapshot) (i : ItemId) (seen here : Option ItemState)
    → ((u : ℕ) → u < w.units → IsPart (snapshot.known i u) (s.known i u))
    → Fits w s snapshot i seen here (all_marked w.units Stays None)
stays_fits w s snapshot i seen here each = (
  stays_shape w.units seen here,
  λ u small. subst (λ (k : Mark). MarkFits w s snapshot i u k) (sym (marked_have w.units Stays None u small)) (each u small),
)

taken_fits :
    (w : World) (s : Site) (snapshot : Snapshot) (i : ItemId) (state : ItemState) (here : Option ItemState)
    → HasCells w.units (Some state) → ((u : ℕ) → u < w.units → TakeLegal s snapshot i u)
    → Fits w s snapshot i (Some state) here (all_marked w.units Taken (values_of (Some state)))
taken_fits w s snapshot i state here has each = (
  taken_shape w.units state here has,
  λ u small. subst (λ (k : Mark). MarkFits w s snapshot i u k) (sym (marked_have w.units Taken (values_of (Some state)) u small))
      (each u small),
)

conflict_fits :
    (w : World) (s : Site) (snapshot : Snapshot) (i : ItemId) (keep : Keep) (seen here : Option ItemState)
    → HasCells w.units seen → HasCells w.units here → Fits w s snapshot i seen here (whole_draft w.units keep seen here)
conflict_fits w s snapshot i keep seen here has own =
    (whole_shape w.units keep seen here has own, whole_fits w s snapshot i keep seen here)

-- The source's state of the item, and the local one, have their cells.
seen_cells :
    (w : World) (s : Site) (m : Member) (snapshot : Snapshot) (i : ItemId) (known made_with : Known) (seen : Option ItemState)
    → Compared w s m snapshot i known made_with seen → HasCells w.units seen
seen_cells w s m snapshot i known made_with seen c = cells_held w.units w.records i (holding snapshot i) seen c.meets.carried.state

here_cells :
    (w : World) (s : Site) (m : Member) (snapshot : Snapshot) (i : ItemId) (known made_with : Known) (seen here : Option ItemState)
    → Compared w s m snapshot i known made_with seen → state_of m.items i ≡ here → HasCells w.units here
here_cells w s m snapshot i known made_with seen here c at =
    subst (λ (o : Option ItemState). HasCells w.units o) at
    (cells_held w.units w.records i (holding s i) (state_of m.items i) (c.meets.represents.items i))

-- A change of an item that the destination does not have.
absent_fits :
    (w : World) (s : Site) (m : Member) (snapshot : Snapshot) (rules : RulesData) (i : ItemId) (known made_with : Known) (state : ItemState)
    → Compared w s m snapshot i known made_with (Some state) → state_of m.items i ≡ None
    → Fits w s snapshot i (Some state) None
    (draft_of w.units rules (absent_change w.units known made_with m.forgotten i) (Some state) None)
absent_fits w s m snapshot rules i known made_with state c at =
    by_creation (tested (knows_version known i 0 (creation_of i)))
  where
    has : HasCells w.units (Some state)
    has = seen_cells w s m snapshot i known made_with (Some state) c

    by_within :
        Tested (is_forgotten_within w.units m.forgotten made_with i)
        → Fits w s snapshot i (Some state) None
        (draft_of w.units rules (if is_forgotten_within w.units m.forgotten made_with i then TakeWhole else WholeConflict) (Some state) None)
    by_within (yes_it e) = rw e (taken_fits w s snapshot i state None has (λ u small.
        cleaned_taken w s (shown m) snapshot i (tick_at made_with) state u c.ok c.meets at small
        (forgotten_within w.units m.forgotten made_with (tick_at made_with) i (ticks-self w.units made_with) e)))
    by_within (not_it e) = rw e (conflict_fits w s snapshot i rules.keep (Some state) None has tt)

    by_creation :
        Tested (knows_version known i 0 (creation_of i))
        → Fits w s snapshot i (Some state) None
        (draft_of w.units rules (absent_change w.units known made_with m.forgotten i) (Some state) None)
    by_creation (yes_it e) = rw e (by_within (tested (is_forgotten_within w.units m.forgotten made_with i)))
    by_creation (not_it e) = rw e (taken_fits w s snapshot i state None has (λ u small.
        new_taken w s (shown m) snapshot i (tick_at made_with) state u c.ok c.meets
        (creation_lacks w.units known (vector_at m) i c.knows (some_units w s m snapshot i known made_with (Some state) c) e)))

-- A change of an item that the destination has, as a whole.
whole_class_fits :
    (w : World) (s : Site) (m : Member) (snapshot : Snapshot) (rules : RulesData) (i : ItemId) (known made_with : Known) (state local : ItemState)
    → Compared w s m snapshot i known made_with (Some state) → state_of m.items i ≡ Some local
    → Fits w s snapshot i (Some state) (Some local)
    (draft_of w.units rules (whole_change w.units made_with (item_with i local)) (Some state) (Some local))
whole_class_fits w s m snapshot rules i known made_with state local c at =
    by_unseen (tested (is_unseen w.units made_with (item_with i local)))
  where
    has : HasCells w.units (Some state)
    has = seen_cells w s m snapshot i known made_with (Some state) c

    by_unseen :
        Tested (is_unseen w.units made_with (item_with i local))
        → Fits w s snapshot i (Some state) (Some local)
        (draft_of w.units rules (whole_change w.units made_with (item_with i local)) (Some state) (Some local))
    by_unseen (yes_it e) =
        rw e (conflict_fits w s snapshot i rules.keep (Some state) (Some local) has
        (here_cells w s m snapshot i known made_with (Some state) (Some local) c at))
    by_unseen (not_it e) = rw e (taken_fits w s snapshot i state (Some local) has (λ u small.
        unit_taken w s m snapshot i known made_with state local u c at small
        (item_seen w.units made_with (item_with i local) u e small)))

-- The mark of a unit of this class fits.
class_mark_fits :
    (w : World) (s : Site) (m : Member) (snapshot : Snapshot) (keep : Keep) (i : ItemId) (known made_with : Known) (state local : ItemState) (u : ℕ)
    → Compared w s m snapshot i known made_with (Some state) → state_of m.items i ≡ Some local → u < w.units
    → MarkFits w s snapshot i u (unit_mark keep (unit_class known made_with i state local u))
class_mark_fits w s m snapshot keep i known made_with state local u c at small =
    by_unseen (tested (is_unseen_at known i state u))
  where
    by_keep : (k : Keep) → MarkFits w s snapshot i u (conflict_mark k)
    by_keep Source = tt
    by_keep Destination = tt
    by_keep Merge = tt
    by_keep Skip = tt

    by_local :
        Tested (is_unseen_at made_with i local u)
        → MarkFits w s snapshot i u (unit_mark keep (if is_unseen_at made_with i local u then Concurrent else Newer))
    by_local (yes_it e) = rw e (by_keep keep)
    by_local (not_it e) = rw e (unit_taken w s m snapshot i known made_with state local u c at small e)

    by_unseen :
        Tested (is_unseen_at known i state u)
        → MarkFits w s snapshot i u (unit_mark keep (unit_class known made_with i state local u))
    by_unseen (yes_it e) = rw e (by_local (tested (is_unseen_at made_with i local u)))
    by_unseen (not_it e) = rw e (unit_known w s m snapshot i known made_with state u c small e)

-- An item that is live on both sides.
both_live_fits :
    (w : World) (s : Site) (m : Member) (snapshot : Snapshot) (rules : RulesData) (i : ItemId) (known made_with : Known) (cells own : List Cell)
    → Compared w s m snapshot i known made_with (Some (Live cells)) → state_of m.items i ≡ Some (Live own)
    → Fits w s snapshot i (Some (Live cells)) (Some (Live own))
    (units_draft w.units rules (each_unit w.units (unit_class known made_with i (Live cells) (Live own))) cells own)
both_live_fits w s m snapshot rules i known made_with cells own c at = (
  units_shape w.units rules classes cells own (seen_cells w s m snapshot i known made_with (Some (Live cells)) c)
      (here_cells w s m snapshot i known made_with (Some (Live cells)) (Some (Live own)) c at)
      (length_each w.units (unit_class known made_with i (Live cells) (Live own))),
  λ u small. subst (λ (k : Mark). MarkFits w s snapshot i u k)
      (sym (at_map (unit_mark rules.keep) classes u unit_classes.Known Stays
      (omega (arith, length_each w.units (unit_class known made_with i (Live cells) (Live own))))
      ∙ ap (unit_mark rules.keep) (at_each w.units (unit_class known made_with i (Live cells) (Live own)) u unit_classes.Known small)))
      (class_mark_fits w s m snapshot rules.keep i known made_with (Live cells) (Live own) u c at small),
)
  where
    classes : List UnitClass
    classes = each_unit w.units (unit_class known made_with i (Live cells) (Live own))

-- A change of an item that the destination has.
present_fits :
    (w : World) (s : Site) (m : Member) (snapshot : Snapshot) (rules : RulesData) (i : ItemId) (known made_with : Known) (state local : ItemState)
    → Compared w s m snapshot i known made_with (Some state) → state_of m.items i ≡ Some local
    → Fits w s snapshot i (Some state) (Some local)
    (draft_of w.units rules (present_change w.units known made_with i state local) (Some state) (Some local))
present_fits w s m snapshot rules i known made_with (Live cells) (Live own) c at =
    both_live_fits w s m snapshot rules i known made_with cells own c at
present_fits w s m snapshot rules i known made_with (Live cells) (Dead v) c at =
    whole_class_fits w s m snapshot rules i known made_with (Live cells) (Dead v) c at
present_fits w s m snapshot rules i known made_with (Dead v) (Live own) c at =
    whole_class_fits w s m snapshot rules i known made_with (Dead v) (Live own) c at
present_fits w s m snapshot rules i known made_with (Dead v) (Dead d) c at =
    whole_class_fits w s m snapshot rules i known made_with (Dead v) (Dead d) c at

-- A change.
pub change_fits :
    (w : World) (s : Site) (m : Member) (snapshot : Snapshot) (rules : RulesData) (item : ItemData) (known made_with : Known) (here : Option ItemState)
    → Compared w s m snapshot item.id known made_with (Some item.state) → state_of m.items item.id ≡ here
    → Fits w s snapshot item.id (Some item.state) here
    (draft_of w.units rules (class_of w.units known made_with m.forgotten item here) (Some item.state) here)
unfolding class_of
change_fits w s m snapshot rules item known made_with here c at = by_unseen (tested (is_unseen w.units known item))
  where
    by_here :
        (o : Option ItemState)
        → state_of m.items item.id ≡ o
        → Fits w s snapshot item.id (Some item.state) o
        (draft_of w.units rules (unknown_change w.units known made_with m.forgotten item o) (Some item.state) o)
    by_here None is = absent_fits w s m snapshot rules item.id known made_with item.state c is
    by_here (Some local) is = present_fits w s m snapshot rules item.id known made_with item.state local c is

    by_unseen :
        Tested (is_unseen w.units known item)
        → Fits w s snapshot item.id (Some item.state) here
        (draft_of w.units rules (if is_unseen w.units known item then unknown_change w.units known made_with m.forgotten item here else AllKnown) (Some item.state) here)
    by_unseen (yes_it e) = rw e (by_here here at)
    by_unseen (not_it e) = rw e (stays_fits w s snapshot item.id (Some item.state) here (λ u small.
        unit_known w s m snapshot item.id known made_with item.state u c small (item_seen w.units known item u e small)))

-- An item that the source does not list, which has forgotten these deletions, all of them here by now.
pub unlisted_fits :
    (w : World) (s : Site) (m : Member) (snapshot : Snapshot) (keep : Keep) (i : ItemId) (known made_with : Known) (forgotten : Forgets) (local : ItemState)
    → Compared w s m snapshot i known made_with None → state_of m.items i ≡ Some local
    → ((r : ℕ) → tick_of (fvec forgotten (At i)) r ≡ snapshot.forgotten (At i) r)
    → ((r : ℕ) → snapshot.forgotten (At i) r ≤ tick_of (fvec m.forgotten (At i)) r)
    → Fits w s snapshot i None (Some local)
    (absent_draft w.units keep (absent_class_of w.units known made_with forgotten (item_with i local)) (Some local))
unfolding absent_class_of
unlisted_fits w s m snapshot keep i known made_with forgotten local c at same joined =
    by_within (tested (is_forgotten_within w.units forgotten known i))
  where
    goal : Absent → Type 0
    goal class = Fits w s snapshot i None (Some local) (absent_draft w.units keep class (Some local))

    none_left : ItemId → ℕ → Bool
    none_left j u = false

    by_creation :
        Tested (knows_version made_with i 0 (creation_of i))
        → goal (if knows_version made_with i 0 (creation_of i) then Conflict else absents.Keep)
    by_creation (yes_it e) =
        subst (λ (b : Bool). goal (if b then Conflict else absents.Keep)) (sym e)
        (conflict_fits w s snapshot i keep None (Some local) tt (here_cells w s m snapshot i known made_with None (Some local) c at))
    by_creation (not_it e) =
        subst (λ (b : Bool). goal (if b then Conflict else absents.Keep)) (sym e)
        (stays_fits w s snapshot i None (Some local) (λ u small.
        range_unknown w s (shown m) snapshot i (tick_at made_with) None none_left c.ok c.meets
        (creation_lacks w.units made_with (tick_at made_with) i (ticks-self w.units made_with)
        (some_units w s m snapshot i known made_with None c) e) u refl))

    by_local :
        Tested (is_unseen w.units made_with (item_with i local))
        → goal (if is_unseen w.units made_with (item_with i local) then (if knows_version made_with i 0 (creation_of i) then Conflict else absents.Keep) else absents.Drop)
    by_local (yes_it e) =
        subst (λ (b : Bool). goal (if b then (if knows_version made_with i 0 (creation_of i) then Conflict else absents.Keep) else absents.Drop)) (sym e)
        (by_creation (tested (knows_version made_with i 0 (creation_of i))))
    by_local (not_it e) =
        subst (λ (b : Bool). goal (if b then (if knows_version made_with i 0 (creation_of i) then Conflict else absents.Keep) else absents.Drop)) (sym e) (
          gone_shape w.units None (Some local),
          λ u small. subst (λ (k : Mark). MarkFits w s snapshot i u k) (sym (marked_have w.units Gone None u small))
              (dropped_legal w s (shown m) snapshot i (tick_at made_with) local u c.ok c.meets at small
              (local_contained w s m snapshot i known made_with None local u c at small
              (item_seen w.units made_with (item_with i local) u e small)) joined),
        )

    by_within :
        Tested (is_forgotten_within w.units forgotten known i)
        → goal (if is_forgotten_within w.units forgotten known i then absents.Keep
        else (if is_unseen w.units made_with (item_with i local) then (if knows_version made_with i 0 (creation_of i) then Conflict else absents.Keep) else absents.Drop))
    by_within (yes_it e) =
        subst (λ (b : Bool). goal (if b then absents.Keep
        else (if is_unseen w.units made_with (item_with i local) then (if knows_version made_with i 0 (creation_of i) then Conflict else absents.Keep) else absents.Drop))) (sym e)
        (stays_fits w s snapshot i None (Some local) (λ u small.
        range_cleaned w s (shown m) snapshot i (tick_at made_with) none_left c.ok c.meets
        (λ x r below. subst (λ (t : ℕ). t ≤ vector_at m (At i) x r) (same r)
        (forgotten_within w.units forgotten known (vector_at m) i c.knows e x r below)) u refl))
    by_within (not_it e) =
        subst (λ (b : Bool). goal (if b then absents.Keep
        else (if is_unseen w.units made_with (item_with i local) then (if knows_version made_with i 0 (creation_of i) then Conflict else absents.Keep) else absents.Drop))) (sym e)
        (by_local (tested (is_unseen w.units made_with (item_with i local))))
