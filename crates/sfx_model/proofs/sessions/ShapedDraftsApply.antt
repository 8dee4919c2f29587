-- A draft of one of the shapes, whose units may have their marks, is an entry that may be applied, and the
-- state that it gives its item is what such an entry owes.
use Rattle.std.proofs.Common.{◌≡◌, ◌≢◌, ◌↔◌, ℕ, zero, suc, ◌+◌, ◌<◌, ◌≤◌, Bool, true, false, true≢false, if◌then◌else◌, List, [], ◌∷◌, length, Option, Some, None, slice_get, arith, inl, inr, refl, sym, ◌∙◌, ap, subst}
use Rattle.std.specs.List.{list_any}
use Rattle.std.proofs.lemmas.Bool.{eq-eqb}
use Rattle.std.proofs.lemmas.Option.{slice_get_within}
use Rattle.sfx_ids.specs.declared.item_id.ItemId.{ItemId}
use Rattle.sfx_ids.specs.declared.version.Version.{Version}
use Rattle.sfx_item.specs.declared.cell.Cell.{Cell}
use Rattle.sfx_segments.proofs.StandardFacts.{Tested, yes_it, not_it, tested}
use Rattle.sfx_knowledge.specs.Skips.{is_skipped, same_cell}
use Rattle.sfx_knowledge.proofs.SkipsLemmas.{cells_same}
use Rattle.sfx_model.specs.declared.mark.Mark.{Mark}
use Rattle.sfx_model.specs.declared.mark.Mark.TheVariants.{Stays, Taken, Stamped, Left, Gone}
use Rattle.sfx_model.specs.world.World.{Content, Written, Deleted, World, Site, Snapshot, WellFormed, IsSound, IsLiveHolding, holding}
use Rattle.sfx_model.specs.world.Events.{Stamps, Leaves, Drops, stamps, brings, content_of, some_unit, StampLegal, UnitLegal, Joint, AllStay, AllTaken, AllLeft, AllGone, AllDelete, AllWrite, Mixed, ApplyLegal}
use Rattle.sfx_model.specs.sessions.Deeds.{content_in, mark_with, marks_in}
use Rattle.sfx_model.specs.sessions.Draft.{DraftData, cells_of, is_left}
use Rattle.sfx_model.specs.sessions.Entry.{is_stamped, is_taken, is_gone, no_cell, cell_after, cells_after, brought, state_after, left_from}
use Rattle.sfx_item.specs.Item.{ItemState, Live, Dead}
use Rattle.sfx_model.specs.members.Members.{ItemRepresents}
use Rattle.sfx_model.specs.members.Results.{StateResult, Unchanged, AsSeen, Removed, DeadNow, LiveNow, CellResult, CellsResult, SkipsLeft, cell_at}
use Rattle.sfx_model.specs.world.Units.{at_unit}
use Rattle.sfx_model.proofs.members.FactsHold.{live_holding}
use Rattle.sfx_model.proofs.world.UnitMarkLemmas.{some_of, none_of}
use Rattle.sfx_model.proofs.world.UnitsLemmas.{at_get, at_past, length_each, each_get, any_at, any_none, any_where, any_false}
use Rattle.sfx_model.proofs.sessions.DraftShapes.{HaveMark, IsLiveUnit, IsLiveOne, live_not_gone, brings_unit, GoTogether, IsLiveDraft, Shape, KeepsAll, LeavesAll, DropsAll, DeletesAll, TakesDead, MakesLive, IsShaped, MarkFits, HasCells}
use Rattle.sfx_model.proofs.sessions.ClassesGiveShapes.{Fits}

-- ---- the entry may be applied

live_one :
    (w : World) (x : Site) (i : ItemId) (o : Option ItemState)
    → WellFormed w → ItemRepresents w.units w.records i (holding x i) o → IsLiveOne o
    → IsLiveHolding w.units w.records i (holding x i)
live_one w x i o ok held (cells, is) =
    live_holding w x i cells ok (subst (λ (p : Option ItemState). ItemRepresents w.units w.records i (holding x i) p) is held)

-- The mark with its content, where the mark is known.
pub mark_is : (units : ℕ) (d : DraftData) (k : Mark) (u : ℕ) → HaveMark units d k → u < units → marks_in d u ≡ mark_with k (content_in d.values u)
mark_is units d k u all small = ap (λ (x : Mark). mark_with x (content_in d.values u)) (all u small)

content_none : (d : DraftData) (u : ℕ) → d.values ≡ None → content_in d.values u ≡ Deleted
content_none d u none = ap (λ (o : Option (List (List ℕ))). content_in o u) none

content_some : (d : DraftData) (values : List (List ℕ)) (u : ℕ) → d.values ≡ Some values → content_in d.values u ≡ Written (at_unit values u [])
content_some d values u is = ap (λ (o : Option (List (List ℕ))). content_in o u) is

written_not : (bytes : List ℕ) → Written bytes ≢ Deleted
written_not bytes e = cc

-- A mark of a live result neither deletes nor drops.
not_deleted : (k : Mark) (bytes : List ℕ) → mark_with k (Written bytes) ≢ Stamps Deleted
not_deleted Stays bytes e = cc
not_deleted Taken bytes e = cc
not_deleted Stamped bytes e = let bad : Written bytes ≡ Deleted = cc in cc
not_deleted Left bytes e = cc
not_deleted Gone bytes e = cc

not_dropped : (k : Mark) (value : List ℕ) (seen here : Option Cell) (c : Content) → IsLiveUnit k value seen here → mark_with k c ≢ Drops
not_dropped Stays value seen here c is e = cc
not_dropped Taken value seen here c is e = cc
not_dropped Stamped value seen here c is e = cc
not_dropped Left value seen here c is e = cc
not_dropped Gone value seen here c is e = absurd is

brought_mark : (k : Mark) (c : Content) → brings_unit k ≡ true → brings (mark_with k c) ≡ true
brought_mark Stays c e = absurd (true≢false (sym e))
brought_mark Taken c e = refl
brought_mark Stamped c e = refl
brought_mark Left c e = absurd (true≢false (sym e))
brought_mark Gone c e = absurd (true≢false (sym e))

-- The marks go together.
draft_joint :
    (w : World) (s : Site) (snapshot : Snapshot) (i : ItemId) (seen here : Option ItemState) (d : DraftData)
    → WellFormed w → ItemRepresents w.units w.records i (holding snapshot i) seen
    → ItemRepresents w.units w.records i (holding s i) here → Shape w.units seen here d → Joint w s snapshot i (marks_in d)
draft_joint w s snapshot i seen here d ok there held (KeepsAll all none) = AllStay (λ u small. mark_is w.units d Stays u all small)
draft_joint w s snapshot i seen here d ok there held (LeavesAll all none) = AllLeft (λ u small. mark_is w.units d Left u all small)
draft_joint w s snapshot i seen here d ok there held (DropsAll all none) = AllGone (λ u small. mark_is w.units d Gone u all small)
draft_joint w s snapshot i seen here d ok there held (TakesDead v is all none) = AllTaken (λ u small. mark_is w.units d Taken u all small)
draft_joint w s snapshot i seen here d ok there held (DeletesAll all none) =
    AllDelete (λ u small. (content_in d.values u, mark_is w.units d Stamped u all small, content_none d u none))
draft_joint w s snapshot i seen here d ok there held (MakesLive values live) = by_together live.together
  where
    by_together : GoTogether w.units seen here d → Joint w s snapshot i (marks_in d)
    by_together (inr all) =
        AllWrite (λ u small. (
          content_in d.values u,
          mark_is w.units d Stamped u all small,
          λ e. written_not (at_unit values u []) (sym (content_some d values u live.are) ∙ e),
        ))
    by_together (inl (theirs, ours)) = Mixed (record {
      there = live_one w snapshot i seen ok there theirs;
      result = λ u small e.
          not_deleted (at_unit d.marks u Stays) (at_unit values u [])
          (ap (mark_with (at_unit d.marks u Stays)) (sym (content_some d values u live.are)) ∙ e);
      whole = λ u small. not_dropped (at_unit d.marks u Stays) (at_unit values u []) (cell_at seen u) (cell_at here u)
          (content_in d.values u) (live.each u small);
      here = elim ours [
        | inl own ↦ inl (live_one w s i here ok held own)
        | inr all ↦ inr (λ u small. brought_mark (at_unit d.marks u Stays) (content_in d.values u) (all u small))
      ];
    })

-- The entry may be applied.
pub draft_legal :
    (w : World) (s : Site) (snapshot : Snapshot) (i : ItemId) (v : Version) (seen here : Option ItemState) (d : DraftData)
    → WellFormed w → IsSound w snapshot → ItemRepresents w.units w.records i (holding snapshot i) seen
    → ItemRepresents w.units w.records i (holding s i) here → Fits w s snapshot i seen here d
    → (list_any is_stamped d.marks ≡ true → StampLegal s snapshot i v) → ApplyLegal w s snapshot i v (marks_in d)
draft_legal w s snapshot i v seen here d ok sound there held (shaped, fits) stamp = record {
  sound = sound;
  units = λ u small. unit_legal u small (at_unit d.marks u Stays) refl (fits u small);
  above = λ u big. ap (λ (k : Mark). content_of (mark_with k (content_in d.values u))) (at_past d.marks u Stays (omega (arith, shaped.long)));
  joint = draft_joint w s snapshot i seen here d ok there held shaped.shape;
}
  where
    unit_legal :
        (u : ℕ) → u < w.units → (k : Mark) → at_unit d.marks u Stays ≡ k → MarkFits w s snapshot i u k
        → UnitLegal w s snapshot i v u (mark_with k (content_in d.values u))
    unit_legal u small Stays e fit = fit
    unit_legal u small Taken e fit = fit
    unit_legal u small Stamped e fit =
        stamp (any_at is_stamped d.marks u Stays (omega (arith, shaped.long)) (ap is_stamped e))
    unit_legal u small Left e fit = tt
    unit_legal u small Gone e fit = fit

-- ---- the state afterwards

-- No mark of the draft passes a test that its mark fails.
pub none_pass : (units : ℕ) (d : DraftData) (k : Mark) (test : Mark → Bool) → length d.marks ≡ units → HaveMark units d k → test k ≡ false → list_any test d.marks ≡ false
none_pass units d k test long all fails =
    any_none test d.marks Stays (λ u small. ap test (all u (omega (arith, long))) ∙ fails)

pub one_passes : (units : ℕ) (d : DraftData) (k : Mark) (test : Mark → Bool) → length d.marks ≡ units → 1 ≤ units → HaveMark units d k → test k ≡ true → list_any test d.marks ≡ true
one_passes units d k test long some all passes =
    any_at test d.marks 0 Stays (omega (arith, long)) (ap test (all 0 some) ∙ passes)

-- The cell of a state, by its list.
cell_listed : (o : Option ItemState) (u : ℕ) → cell_at o u ≡ slice_get (cells_of o) u
cell_listed None u = refl
cell_listed (Some (Live cells)) u = refl
cell_listed (Some (Dead v)) u = refl

pub listed_at : (o : Option ItemState) (u : ℕ) (c : Cell) → cell_at o u ≡ Some c → at_unit (cells_of o) u no_cell ≡ c
listed_at o u c is = at_get (cells_of o) u c no_cell (sym (cell_listed o u) ∙ is)

-- The cell of a unit of a live result.
unit_result :
    (v : Version) (k : Mark) (value : List ℕ) (seen here : Option ItemState) (u : ℕ) (c : Cell)
    → IsLiveUnit k value (cell_at seen u) (cell_at here u)
    → cell_after v k value (at_unit (cells_of seen) u no_cell) (at_unit (cells_of here) u no_cell) ≡ c
    → CellResult v (mark_with k (Written value)) (cell_at here u) (cell_at seen u) c
unit_result v Stays value seen here u c (x, is, same) e = is ∙ ap Some (sym (listed_at here u x is) ∙ e)
unit_result v Taken value seen here u c (x, is, same) e = is ∙ ap Some (sym (listed_at seen u x is) ∙ e)
unit_result v Stamped value seen here u c live e =
    record { version = ap (λ (x : Cell). x.version) (sym e); bytes = ap (λ (x : Cell). x.value) (sym e) }
unit_result v Left value seen here u c (x, is, same) e = is ∙ ap Some (sym (listed_at here u x is) ∙ e)
unit_result v Gone value seen here u c live e = absurd live

-- The cells of a live result.
live_cells :
    (units : ℕ) (v : Version) (d : DraftData) (values : List (List ℕ)) (seen here : Option ItemState)
    → IsLiveDraft units seen here d values
    → CellsResult units v (marks_in d) here seen (cells_after units v d.marks values (cells_of seen) (cells_of here))
live_cells units v d values seen here live = record {
  whole = length_each units made;
  each = λ u c is.
      let (small, e) = each_get units made u c is in
      subst (λ (x : Content). CellResult v (mark_with (at_unit d.marks u Stays) x) (cell_at here u) (cell_at seen u) c)
      (sym (content_some d values u live.are))
      (unit_result v (at_unit d.marks u Stays) (at_unit values u []) seen here u c (live.each u small) e);
}
  where
    made : ℕ → Cell
    made u = cell_after v (at_unit d.marks u Stays) (at_unit values u []) (at_unit (cells_of seen) u no_cell) (at_unit (cells_of here) u no_cell)

-- A unit of a live result that is not brought has the local cell.
kept_unit :
    (k : Mark) (value : List ℕ) (seen here : Option Cell)
    → IsLiveUnit k value seen here → is_taken k ≡ false → is_stamped k ≡ false → (c : Cell) × (here ≡ Some c)
kept_unit Stays value seen here (c, is, same) t s = (c, is)
kept_unit Taken value seen here live t s = absurd (true≢false t)
kept_unit Stamped value seen here live t s = absurd (true≢false s)
kept_unit Left value seen here (c, is, same) t s = (c, is)
kept_unit Gone value seen here live t s = absurd live

kept_result :
    (v : Version) (k : Mark) (value : List ℕ) (c : Content) (seen here : Option Cell) (x : Cell)
    → IsLiveUnit k value seen here → is_taken k ≡ false → is_stamped k ≡ false → here ≡ Some x
    → CellResult v (mark_with k c) here seen x
kept_result v Stays value c seen here x live t s is = is
kept_result v Taken value c seen here x live t s is = absurd (true≢false t)
kept_result v Stamped value c seen here x live t s is = absurd (true≢false s)
kept_result v Left value c seen here x live t s is = is
kept_result v Gone value c seen here x live t s is = absurd live

-- Where no unit of a live result is brought, the item stays as it was, live.
kept_live :
    (units : ℕ) (v : Version) (d : DraftData) (values : List (List ℕ)) (seen here : Option ItemState)
    → 1 ≤ units → HasCells units here → length d.marks ≡ units → IsLiveDraft units seen here d values
    → list_any is_taken d.marks ≡ false → list_any is_stamped d.marks ≡ false
    → StateResult units v (marks_in d) here seen here
kept_live units v d values seen here some has long live taken stamped =
    by_state here refl (kept_unit (at_unit d.marks 0 Stays) (at_unit values 0 []) (cell_at seen 0) (cell_at here 0)
    (live.each 0 some) (not_taken 0 some) (not_stamped 0 some))
  where
    not_taken : (u : ℕ) → u < units → is_taken (at_unit d.marks u Stays) ≡ false
    not_taken u small = any_false is_taken d.marks u Stays (omega arith) taken

    not_stamped : (u : ℕ) → u < units → is_stamped (at_unit d.marks u Stays) ≡ false
    not_stamped u small = any_false is_stamped d.marks u Stays (omega arith) stamped

    by_state : (o : Option ItemState) → here ≡ o → ((c : Cell) × (cell_at here 0 ≡ Some c)) → StateResult units v (marks_in d) here seen here
    by_state None e (c, is) = let bad : None ≡ Some c = ap (λ (o : Option ItemState). cell_at o 0) (sym e) ∙ is in absurd (cc)
    by_state (Some (Dead x)) e (c, is) = let bad : None ≡ Some c = ap (λ (o : Option ItemState). cell_at o 0) (sym e) ∙ is in absurd (cc)
    by_state (Some (Live own)) e (c, is) =
        let whole : length own ≡ units = subst (λ (o : Option ItemState). HasCells units o) e has in
        LiveNow own e (record {
          whole = whole;
          each = λ u x at.
              let small : u < units = omega (arith, slice_get_within own u x at) in
              let there : cell_at here u ≡ Some x = ap (λ (o : Option ItemState). cell_at o u) e ∙ at in
              kept_result v (at_unit d.marks u Stays) (at_unit values u []) (content_in d.values u) (cell_at seen u) (cell_at here u) x
              (live.each u small) (not_taken u small) (not_stamped u small) there;
        })

-- The state that a draft gives its item is what its entry owes.
pub draft_result :
    (units : ℕ) (v : Version) (d : DraftData) (seen here : Option ItemState)
    → 1 ≤ units → HasCells units here → IsShaped units seen here d
    → StateResult units v (marks_in d) here seen (state_after units v d seen here)
draft_result units v d seen here some has shaped = by_shape shaped.shape
  where
    long : length d.marks ≡ units
    long = shaped.long

    by_shape : Shape units seen here d → StateResult units v (marks_in d) here seen (state_after units v d seen here)
    by_shape (KeepsAll all none) =
        rw (none_pass units d Stays is_gone long all refl, none_pass units d Stays is_taken long all refl, none_pass units d Stays is_stamped long all refl)
        (Unchanged (inl (λ u small. mark_is units d Stays u all small)) refl)
    by_shape (LeavesAll all none) =
        rw (none_pass units d Left is_gone long all refl, none_pass units d Left is_taken long all refl, none_pass units d Left is_stamped long all refl)
        (Unchanged (inr (λ u small. mark_is units d Left u all small)) refl)
    by_shape (DropsAll all none) =
        rw (one_passes units d Gone is_gone long some all refl) (Removed (λ u small. mark_is units d Gone u all small) refl)
    by_shape (DeletesAll all none) =
        let stamped : list_any is_stamped d.marks ≡ true = one_passes units d Stamped is_stamped long some all refl in
        let dead : brought units v d.marks d.values seen here ≡ Some (Dead v) =
        ap (λ (o : Option (List (List ℕ))). brought units v d.marks o seen here) none
        ∙ ap (λ (b : Bool). let r : Option ItemState = if b then Some (Dead v) else seen in r) stamped in
        rw (none_pass units d Stamped is_gone long all refl, none_pass units d Stamped is_taken long all refl, one_passes units d Stamped is_stamped long some all refl)
        (DeadNow (λ u small. (content_in d.values u, mark_is units d Stamped u all small, content_none d u none)) dead)
    by_shape (TakesDead x is all none) =
        let plain : list_any is_stamped d.marks ≡ false = none_pass units d Taken is_stamped long all refl in
        let as_seen : brought units v d.marks d.values seen here ≡ seen =
        ap (λ (o : Option (List (List ℕ))). brought units v d.marks o seen here) none
        ∙ ap (λ (b : Bool). let r : Option ItemState = if b then Some (Dead v) else seen in r) plain in
        rw (none_pass units d Taken is_gone long all refl, one_passes units d Taken is_taken long some all refl)
        (AsSeen (λ u small. mark_is units d Taken u all small) as_seen)
    by_shape (MakesLive values live) =
        rw (any_none is_gone d.marks Stays (λ u small. live_not_gone (at_unit d.marks u Stays) (at_unit values u []) (cell_at seen u) (cell_at here u) (live.each u (omega (arith, long)))))
        (by_taken (tested (list_any is_taken d.marks)) (tested (list_any is_stamped d.marks)))
      where
        made : brought units v d.marks d.values seen here ≡ Some (Live (cells_after units v d.marks values (cells_of seen) (cells_of here)))
        made = ap (λ (o : Option (List (List ℕ))). brought units v d.marks o seen here) live.are

        brings_it : StateResult units v (marks_in d) here seen (brought units v d.marks d.values seen here)
        brings_it = LiveNow (cells_after units v d.marks values (cells_of seen) (cells_of here)) made (live_cells units v d values seen here live)

        by_taken :
            Tested (list_any is_taken d.marks) → Tested (list_any is_stamped d.marks)
            → StateResult units v (marks_in d) here seen
            (if list_any is_taken d.marks then brought units v d.marks d.values seen here
            else (if list_any is_stamped d.marks then brought units v d.marks d.values seen here else here))
        by_taken (yes_it t) s = subst (λ (b : Bool). StateResult units v (marks_in d) here seen
            (if b then brought units v d.marks d.values seen here
            else (if list_any is_stamped d.marks then brought units v d.marks d.values seen here else here))) (sym t) brings_it
        by_taken (not_it t) (yes_it s) = subst (λ (b : Bool). StateResult units v (marks_in d) here seen
            (if b then brought units v d.marks d.values seen here
            else (if list_any is_stamped d.marks then brought units v d.marks d.values seen here else here))) (sym t)
            (subst (λ (b : Bool). StateResult units v (marks_in d) here seen
            (if b then brought units v d.marks d.values seen here else here)) (sym s) brings_it)
        by_taken (not_it t) (not_it s) = subst (λ (b : Bool). StateResult units v (marks_in d) here seen
            (if b then brought units v d.marks d.values seen here
            else (if list_any is_stamped d.marks then brought units v d.marks d.values seen here else here))) (sym t)
            (subst (λ (b : Bool). StateResult units v (marks_in d) here seen
            (if b then brought units v d.marks d.values seen here else here)) (sym s)
            (kept_live units v d values seen here some has long live t s))

-- ---- ticks and units left alone

stamps_mark : (k : Mark) (c : Content) → stamps (mark_with k c) ≡ is_stamped k
stamps_mark Stays c = refl
stamps_mark Taken c = refl
stamps_mark Stamped c = refl
stamps_mark Left c = refl
stamps_mark Gone c = refl

-- A unit is stamped where the list says so.
pub stamps_listed :
    (units : ℕ) (d : DraftData) → length d.marks ≡ units → some_unit (λ u. stamps (marks_in d u)) units ≡ list_any is_stamped d.marks
stamps_listed units d long = by_test (tested (list_any is_stamped d.marks))
  where
    by_test : Tested (list_any is_stamped d.marks) → some_unit (λ u. stamps (marks_in d u)) units ≡ list_any is_stamped d.marks
    by_test (yes_it e) =
        let (u, small, is) = any_where is_stamped d.marks Stays e in
        some_of (λ x. stamps (marks_in d x)) units u (omega arith)
        (stamps_mark (at_unit d.marks u Stays) (content_in d.values u) ∙ is)
        ∙ sym e
    by_test (not_it e) =
        none_of (λ x. stamps (marks_in d x)) units
        (λ u small. stamps_mark (at_unit d.marks u Stays) (content_in d.values u) ∙ any_false is_stamped d.marks u Stays (omega arith) e)
        ∙ sym e

left_mark : (k : Mark) (c : Content) → (is_left k ≡ true) ↔ (mark_with k c ≡ Leaves)
left_mark Stays c = ((λ e. absurd (true≢false (sym e))), (λ e. cc))
left_mark Taken c = ((λ e. absurd (true≢false (sym e))), (λ e. cc))
left_mark Stamped c = ((λ e. absurd (true≢false (sym e))), (λ e. cc))
left_mark Left c = ((λ e. refl), (λ e. refl))
left_mark Gone c = ((λ e. absurd (true≢false (sym e))), (λ e. cc))

other_unit : (i : ItemId) (u x : ℕ) → u ≢ x → same_cell i u i x ≡ false
other_unit i u x other = by_test (same_cell i u i x) refl
  where
    by_test : (b : Bool) → same_cell i u i x ≡ b → b ≡ false
    by_test true e = absurd (other (cells_same i u i x e).1)
    by_test false e = refl

same_unit : (i : ItemId) (u : ℕ) → same_cell i u i u ≡ true
same_unit i u = rw (eq-eqb i.tick i.tick refl, eq-eqb i.replica i.replica refl, eq-eqb u u refl) refl

-- Units below those of a list of marks are not listed.
left_below : (i : ItemId) (from : ℕ) (ks : List Mark) (u : ℕ) → u < from → is_skipped (left_from i from ks) i u ≡ false
left_below i from [] u below = refl
left_below i from (k ∷ ks) u below = by_test (is_left k) (left_below i (from + 1) ks u (omega arith))
  where
    by_test : (b : Bool) → is_skipped (left_from i (from + 1) ks) i u ≡ false → is_skipped (let r : List (ItemId × ℕ) = if b then (i, from) ∷ left_from i (from + 1) ks else left_from i (from + 1) ks in r) i u ≡ false
    by_test true rest = rw (other_unit i from u (λ e. omega arith)) rest
    by_test false rest = rest

-- The units that are left alone are those listed.
left_listed : (i : ItemId) (from : ℕ) (ks : List Mark) (u : ℕ) → is_skipped (left_from i from ks) i (from + u) ≡ is_left (at_unit ks u Stays)
left_listed i from [] u = refl
left_listed i from (k ∷ ks) zero =
    subst (λ (n : ℕ). is_skipped (left_from i from (k ∷ ks)) i n ≡ is_left k) (let e : from ≡ from + 0 = omega arith in e) (by_test (is_left k))
  where
    by_test : (b : Bool) → is_skipped (let r : List (ItemId × ℕ) = if b then (i, from) ∷ left_from i (from + 1) ks else left_from i (from + 1) ks in r) i from ≡ b
    by_test true = rw (same_unit i from) refl
    by_test false = left_below i (from + 1) ks from (omega arith)
left_listed i from (k ∷ ks) (suc u) =
    by_test (is_left k) (subst (λ (n : ℕ). is_skipped (left_from i (from + 1) ks) i n ≡ is_left (at_unit ks u Stays)) (let e : from + 1 + u ≡ from + suc u = omega arith in e) (left_listed i (from + 1) ks u))
  where
    by_test : (b : Bool) → is_skipped (left_from i (from + 1) ks) i (from + suc u) ≡ is_left (at_unit ks u Stays) → is_skipped (let r : List (ItemId × ℕ) = if b then (i, from) ∷ left_from i (from + 1) ks else left_from i (from + 1) ks in r) i (from + suc u) ≡ is_left (at_unit ks u Stays)
    by_test true rest = rw (other_unit i from (from + suc u) (λ e. omega arith)) rest
    by_test false rest = rest

pub marks_left : (i : ItemId) (ks : List Mark) (u : ℕ) → is_skipped (left_from i 0 ks) i u ≡ is_left (at_unit ks u Stays)
marks_left i ks u =
    subst (λ (n : ℕ). is_skipped (left_from i 0 ks) i n ≡ is_left (at_unit ks u Stays)) (let e : 0 + u ≡ u = omega arith in e)
    (left_listed i 0 ks u)

pub skips_left : (units : ℕ) (i : ItemId) (d : DraftData) → SkipsLeft units i (marks_in d) (left_from i 0 d.marks)
skips_left units i d u small =
    let listed = marks_left i d.marks u in
    let both = left_mark (at_unit d.marks u Stays) (content_in d.values u) in (
      (λ e. both.0 (sym listed ∙ e)),
      (λ e. listed ∙ both.1 e),
    )
