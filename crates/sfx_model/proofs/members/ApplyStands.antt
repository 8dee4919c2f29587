-- A member that applied an entry goes on representing its site.
use Rattle.std.proofs.Common.{◌≡◌, ◌≢◌, ℕ, ◌<◌, ◌≤◌, ◌↔◌, Bool, true, false, if◌then◌else◌, List, ◌∷◌, ◌++◌, Option, Some, None, inl, inr, refl, sym, ◌∙◌, ap, subst, arith}
use Rattle.std.proofs.lemmas.Option.{slice_get_within}
use Rattle.sfx_ids.specs.declared.cut.Cut.{Cut}
use Rattle.sfx_ids.specs.declared.cut.Cut.TheVariants.{Start, At, After, End}
use Rattle.sfx_ids.specs.declared.item_id.ItemId.{ItemId}
use Rattle.sfx_ids.specs.declared.version.Version.{Version}
use Rattle.sfx_item.specs.declared.cell.Cell.{Cell}
use Rattle.sfx_model.specs.world.Sets.{Has, IsPart}
use Rattle.sfx_model.specs.world.World.{Content, Written, Deleted, World, Site, Snapshot, Holding, WellFormed, holding, Made, IsLatest}
use Rattle.sfx_model.specs.world.Events.{UnitMark, Keeps, Takes, Stamps, Leaves, Drops, same_item, known_with, known_by, knew_by, content_of, brings, is_dropped, present_after, clock_after, site_applied, applied, UnitLegal, ApplyLegal}
use Rattle.sfx_item.specs.Item.{ItemState}
use Rattle.sfx_model.specs.members.Members.{Shown, Represents, ItemRepresents, IsLatestCell, state_of, clock_among}
use Rattle.sfx_model.specs.members.Results.{Backs, EntryResult, StateResult, Unchanged, AsSeen, Removed, DeadNow, LiveNow, CellResult, CellsResult, joined_by, joined_at, cell_at}
use Rattle.sfx_model.proofs.world.Step.{AreSame, Grows}
use Rattle.sfx_model.proofs.world.SetsLemmas.{same_self}
use Rattle.sfx_model.proofs.world.SiteLemmas.{site_there}
use Rattle.sfx_model.proofs.world.StepKeepsWorld.{same_item_is, same_item_self}
use Rattle.sfx_model.proofs.world.RecordedLemmas.{record_of, recorded_new, made_latest, made_deletes}
use Rattle.sfx_model.proofs.world.UnitMarkLemmas.{present_brought, present_dropped, present_kept, present_stays, knows_here, knows_there}
use Rattle.sfx_model.proofs.members.OthersStand.{moved_stands}
use Rattle.sfx_model.proofs.members.FactsHold.{made_below, cell_there}
use Rattle.sfx_model.proofs.members.MembersLemmas.{own_entry, other_entry, items_after, item_same, cell_same, exact_joined}
use Rattle.sfx_model.proofs.members.EditStands.{held_cell}
use Rattle.sfx_model.proofs.world.ApplyKeepsWorld.{Entry, entry_records, entry_holding, entry_grows, entry_step, same_with}

-- Knowledge of a unit by its mark is exact, for a version of another replica than the one that stamps.
unit_exact :
    (mark : UnitMark) (v x : Version) (a b : ℕ) (here seen : List Version)
    → ((c : Content) → mark ≡ Stamps c → x ≢ v) → ((x.tick ≤ a) ↔ Has x here) → ((x.tick ≤ b) ↔ Has x seen)
    → (x.tick ≤ joined_by mark a b) ↔ Has x (known_with v (known_by mark seen here) (content_of mark))
unit_exact Keeps v x a b here seen other exact_a exact_b = exact_joined x a b here seen exact_a exact_b
unit_exact Takes v x a b here seen other exact_a exact_b = exact_joined x a b here seen exact_a exact_b
unit_exact Leaves v x a b here seen other exact_a exact_b = exact_a
unit_exact Drops v x a b here seen other exact_a exact_b = exact_joined x a b here seen exact_a exact_b
unit_exact (Stamps c) v x a b here seen other exact_a exact_b =
    let joined = exact_joined x a b here seen exact_a exact_b in (
      (λ h. inr (joined.0 h)),
      (λ h. elim h [ inl same ↦ absurd (other c refl same) | inr there ↦ joined.1 there ]),
    )

-- Joined ticks stay within the clock where both do.
unit_bounded : (mark : UnitMark) (a b clock : ℕ) → a ≤ clock → b ≤ clock → joined_by mark a b ≤ clock
unit_bounded Keeps a b clock low other = omega arith
unit_bounded Takes a b clock low other = omega arith
unit_bounded (Stamps c) a b clock low other = omega arith
unit_bounded Leaves a b clock low other = low
unit_bounded Drops a b clock low other = omega arith

-- A stamp's version is of the replica that applies the entry.
stamp_replica :
    (w : World) (s : Site) (snapshot : Snapshot) (i : ItemId) (v : Version) (u : ℕ) (mark : UnitMark) (c : Content)
    → mark ≡ Stamps c → UnitLegal w s snapshot i v u mark → v.replica ≡ s.id
stamp_replica w s snapshot i v u mark c is legal =
    (subst (λ (m : UnitMark). UnitLegal w s snapshot i v u m) is legal).fresh.replica

-- Knowledge of each cell is exact after an entry, for versions of other replicas.
entry_exact :
    (w : World) (s : Site) (snapshot : Snapshot) (i : ItemId) (v : Version) (marks : ℕ → UnitMark)
    (made_with : Cut → ℕ → ℕ → ℕ) (m : Shown) (j : ItemId) (u : ℕ) (x : Version)
    → WellFormed w → ApplyLegal w s snapshot i v marks → Represents w s m → Backs w snapshot i made_with
    → Made w.records j u x → x.replica ≢ s.id
    → (x.tick ≤ joined_at i marks m.vector_at made_with (At j) u x.replica) ↔ Has x
    ((site_applied w.units s snapshot i v marks).known j u)
entry_exact w s snapshot i v marks made_with m j u x ok legal rep backs made other = by_test (same_item j i) refl
  where
    at_item :
        Made w.records i u x
        → (x.tick ≤ joined_by (marks u) (m.vector_at (At i) u x.replica) (made_with (At i) u x.replica)) ↔ Has x
        (known_with v (knew_by marks snapshot s i u) (content_of (marks u)))
    at_item here =
        unit_exact (marks u) v x (m.vector_at (At i) u x.replica) (made_with (At i) u x.replica) (s.known i u)
        (snapshot.known i u)
        (λ c is same. other (ap (λ (y : Version). y.replica) same ∙ stamp_replica w s snapshot i v u (marks u) c is
        (legal.units u (made_below w i u x ok here))))
        (rep.exact i u x here) (backs.exact u x here)

    by_test :
        (b : Bool)
        → same_item j i ≡ b
        → (x.tick ≤ (if b then joined_by (marks u) (m.vector_at (At j) u x.replica) (made_with (At j) u x.replica)
        else m.vector_at (At j) u x.replica)) ↔ Has x
        ((if b then (λ (y : ℕ). known_with v (knew_by marks snapshot s i y) (content_of (marks y))) else s.known
        j) u)
    by_test true e =
        let is : i ≡ j = sym (same_item_is j i e) in
        subst (λ (k : ItemId).
        (x.tick ≤ joined_by (marks u) (m.vector_at (At k) u x.replica) (made_with (At k) u x.replica)) ↔ Has x
        (known_with v (knew_by marks snapshot s i u) (content_of (marks u)))) is
        (at_item (subst (λ (k : ItemId). Made w.records k u x) (sym is) made))
    by_test false e = rep.exact j u x made

-- Knowledge stays within the clocks.
entry_bounded :
    (w : World) (snapshot : Snapshot) (i : ItemId) (marks : ℕ → UnitMark) (here made_with : Cut → ℕ → ℕ → ℕ)
    (place : Cut) (u r : ℕ)
    → Backs w snapshot i made_with → u < w.units → here place u r ≤ clock_among w.sites r
    → joined_at i marks here made_with place u r ≤ clock_among w.sites r
entry_bounded w snapshot i marks here made_with Start u r backs small low = low
entry_bounded w snapshot i marks here made_with (After j) u r backs small low = low
entry_bounded w snapshot i marks here made_with End u r backs small low = low
entry_bounded w snapshot i marks here made_with (At j) u r backs small low = by_test (same_item j i) refl
  where
    by_test :
        (b : Bool)
        → same_item j i ≡ b
        → (if b then joined_by (marks u) (here (At j) u r) (made_with (At j) u r) else here (At j) u r) ≤ clock_among
        w.sites r
    by_test true e = unit_bounded (marks u) (here (At j) u r) (made_with (At j) u r) (clock_among w.sites r) low
        (subst (λ (k : ItemId). made_with (At k) u r ≤ clock_among w.sites r) (sym (same_item_is j i e))
        (backs.bounded u r small))
    by_test false e = low

-- The cell of a unit of a live result is the latest.
cell_applied :
    (w : World) (s : Site) (snapshot : Snapshot) (i : ItemId) (v : Version) (marks : ℕ → UnitMark)
    (before seen : Option ItemState) (u : ℕ) (c : Cell) (mark : UnitMark)
    → Grows w.records (entry_records w s snapshot i v marks) → u < w.units → marks u ≡ mark
    → UnitLegal w s snapshot i v u mark → ItemRepresents w.units w.records i (holding s i) before
    → ItemRepresents w.units w.records i (holding snapshot i) seen
    → CellResult v mark (cell_at before u) (cell_at seen u) c
    → IsLatestCell (entry_records w s snapshot i v marks) i u
    (known_with v (known_by mark (snapshot.known i u) (s.known i u)) (content_of mark)) c
cell_applied w s snapshot i v marks before seen u c Keeps g small is legal held there result =
    cell_same w.records (entry_records w s snapshot i v marks) i u (s.known i u)
    (known_by Keeps (snapshot.known i u) (s.known i u)) c g
    (knows_here Keeps (snapshot.known i u) (s.known i u) legal) (held_cell w s i before u c held result)
cell_applied w s snapshot i v marks before seen u c Takes g small is legal held there result =
    cell_same w.records (entry_records w s snapshot i v marks) i u (snapshot.known i u)
    (known_by Takes (snapshot.known i u) (s.known i u)) c g
    (knows_there Takes (snapshot.known i u) (s.known i u) (λ e. cc) legal.known)
    (held_cell w snapshot i seen u c there result)
cell_applied w s snapshot i v marks before seen u c Leaves g small is legal held there result =
    cell_same w.records (entry_records w s snapshot i v marks) i u (s.known i u) (s.known i u) c g
    (same_self (s.known i u)) (held_cell w s i before u c held result)
cell_applied w s snapshot i v marks before seen u c Drops g small is legal held there result = absurd result
cell_applied w s snapshot i v marks before seen u c (Stamps Deleted) g small is legal held there result =
    absurd result
cell_applied w s snapshot i v marks before seen u c (Stamps (Written bytes)) g small is legal held there result =
    let content : content_of (marks u) ≡ Some (Written bytes) = rw is refl in
    let knew : knew_by marks snapshot s i u ≡ s.known i u ++ snapshot.known i u = rw is refl in
    record {
      latest = subst (λ (x : Version). IsLatest (entry_records w s snapshot i v marks) i u
          (v ∷ (s.known i u ++ snapshot.known i u)) x) (sym result.version)
          (subst (λ (vs : List Version). IsLatest (entry_records w s snapshot i v marks) i u (v ∷ vs) v) knew
          (made_latest w.records i v (knew_by marks snapshot s i) (λ x. content_of (marks x)) w.units u
          (Written bytes) small content));
      value = (
        record_of i u v (knew_by marks snapshot s i u) (Written bytes),
        recorded_new i v (knew_by marks snapshot s i) (λ x. content_of (marks x)) w.units w.records u (Written bytes)
            small content,
        record { item = refl; unit = refl; version = sym result.version },
        ap Written (sym result.bytes),
      );
    }

-- A live result makes or leaves the item present.
present_live :
    (w : World) (s : Site) (i : ItemId) (v : Version) (marks : ℕ → UnitMark) (before seen : Option ItemState)
    (cells : List Cell)
    → 1 ≤ w.units → ItemRepresents w.units w.records i (holding s i) before
    → CellsResult w.units v marks before seen cells → present_after marks w.units (s.present i) ≡ true
present_live w s i v marks before seen cells counted held result =
    let (c, here) = cell_there cells 0 (omega (arith, result.whole)) in
    by_mark (marks 0) c refl (result.each 0 c here)
  where
    not_dropped : (mark : UnitMark) (c : Cell) (o p : Option Cell) → CellResult v mark o p c → is_dropped mark ≡ false
    not_dropped Keeps c o p is = refl
    not_dropped Takes c o p is = refl
    not_dropped (Stamps content) c o p is = refl
    not_dropped Leaves c o p is = refl
    not_dropped Drops c o p is = absurd is

    none_dropped : (u : ℕ) → u < w.units → is_dropped (marks u) ≡ false
    none_dropped u small =
        let (c, here) = cell_there cells u (omega (arith, result.whole)) in
        not_dropped (marks u) c (cell_at before u) (cell_at seen u) (result.each u c here)

    is_held :
        (o : Option ItemState) (c : Cell)
        → ItemRepresents w.units w.records i (holding s i) o → cell_at o 0 ≡ Some c → s.present i ≡ true
    is_held None c is e = absurd (cc)
    is_held (Some state) c is e = is.is_present

    by_mark :
        (mark : UnitMark) (c : Cell)
        → marks 0 ≡ mark → CellResult v mark (cell_at before 0) (cell_at seen 0) c
        → present_after marks w.units (s.present i) ≡ true
    by_mark Keeps c e is = present_stays marks w.units (s.present i) (is_held before c held is) none_dropped
    by_mark Leaves c e is = present_stays marks w.units (s.present i) (is_held before c held is) none_dropped
    by_mark Takes c e is = present_brought marks w.units 0 (s.present i) counted (rw e refl)
    by_mark (Stamps content) c e is = present_brought marks w.units 0 (s.present i) counted (rw e refl)
    by_mark Drops c e is = absurd is

-- The item after an entry is at the member as the site has it.
item_applied :
    (w : World) (s : Site) (snapshot : Snapshot) (i : ItemId) (v : Version) (marks : ℕ → UnitMark)
    (before seen after : Option ItemState)
    → Entry w s snapshot i v marks → ItemRepresents w.units w.records i (holding s i) before
    → ItemRepresents w.units w.records i (holding snapshot i) seen → StateResult w.units v marks before seen after
    → ItemRepresents w.units (entry_records w s snapshot i v marks) i (entry_holding w s snapshot i v marks) after
item_applied w s snapshot i v marks before seen after e held there (Unchanged all is) =
    elim all [
      | inl keeps ↦ as_before (λ u small. rw (keeps u small) refl) (λ u small. rw (keeps u small) refl)
          (λ u small. rw (keeps u small) refl) (λ u small.
          let part : IsPart (snapshot.known i u) (s.known i u) =
          subst (λ (m : UnitMark). UnitLegal w s snapshot i v u m) (keeps u small) (e.legal.units u small) in
          knows_here (marks u) (snapshot.known i u) (s.known i u) part)
      | inr skips ↦ as_before (λ u small. rw (skips u small) refl) (λ u small. rw (skips u small) refl)
          (λ u small. rw (skips u small) refl) (λ u small.
          subst (λ (m : UnitMark). AreSame (s.known i u) (known_by m (snapshot.known i u) (s.known i u)))
          (sym (skips u small)) (same_self (s.known i u)))
    ]
  where
    as_before :
        ((u : ℕ) → u < w.units → brings (marks u) ≡ false)
        → ((u : ℕ) → u < w.units → is_dropped (marks u) ≡ false)
        → ((u : ℕ) → u < w.units → content_of (marks u) ≡ None)
        → ((u : ℕ) → u < w.units → AreSame (s.known i u) (knew_by marks snapshot s i u))
        → ItemRepresents w.units (entry_records w s snapshot i v marks) i (entry_holding w s snapshot i v marks) after
    as_before none_brought none_dropped none_made same =
        subst (λ (o : Option ItemState). ItemRepresents w.units (entry_records w s snapshot i v marks) i
        (entry_holding w s snapshot i v marks) o) (sym is)
        (item_same w.units w.records (entry_records w s snapshot i v marks) i (holding s i)
        (entry_holding w s snapshot i v marks) before (entry_grows w s snapshot i v marks e)
        (λ u small. same_with v (s.known i u) (knew_by marks snapshot s i u) (content_of (marks u))
        (none_made u small) (same u small))
        (present_kept marks w.units (s.present i) none_brought none_dropped) held)
item_applied w s snapshot i v marks before seen after e held there (AsSeen takes is) =
    subst (λ (o : Option ItemState). ItemRepresents w.units (entry_records w s snapshot i v marks) i
    (entry_holding w s snapshot i v marks) o) (sym is)
    (item_same w.units w.records (entry_records w s snapshot i v marks) i (holding snapshot i)
    (entry_holding w s snapshot i v marks) seen (entry_grows w s snapshot i v marks e)
    (λ u small. same_with v (snapshot.known i u) (knew_by marks snapshot s i u) (content_of (marks u))
    (rw (takes u small) refl)
    (knows_there (marks u) (snapshot.known i u) (s.known i u)
    (λ skips. let bad : Takes ≡ Leaves = sym (takes u small) ∙ skips in cc) (legal u small).known))
    (present_brought marks w.units 0 (s.present i) counted (rw (takes 0 counted) refl) ∙ sym
    (legal 0 counted).present) there)
  where
    counted : 1 ≤ w.units
    counted = e.ok.counted s e.there

    legal : (u : ℕ) → u < w.units → UnitLegal w s snapshot i v u Takes
    legal u small = subst (λ (m : UnitMark). UnitLegal w s snapshot i v u m) (takes u small) (e.legal.units u small)
item_applied w s snapshot i v marks before seen after e held there (Removed drops is) =
    rw is (present_dropped marks w.units (s.present i) (e.ok.counted s e.there) drops)
item_applied w s snapshot i v marks before seen after e held there (DeadNow stamps is) = rw is (record {
  is_present = let counted = e.ok.counted s e.there in
      present_brought marks w.units 0 (s.present i) counted (rw (stamps 0 counted).1 refl);
  latest = λ u small.
      let (c, mark, deletes) = stamps u small in
      let content : content_of (marks u) ≡ Some Deleted = rw (mark, deletes) refl in (
        subst (λ (o : Option Content). IsLatest (entry_records w s snapshot i v marks) i u
            (known_with v (knew_by marks snapshot s i u) o) v) (sym content)
            (made_latest w.records i v (knew_by marks snapshot s i) (λ x. content_of (marks x)) w.units u Deleted
            small content),
        made_deletes w.records i v (knew_by marks snapshot s i) (λ x. content_of (marks x)) w.units u small content,
      );
})
item_applied w s snapshot i v marks before seen after e held there (LiveNow cells is result) = rw is (record {
  is_present = present_live w s i v marks before seen cells (e.ok.counted s e.there) held result;
  latest = record {
    whole = result.whole;
    each = λ u c here.
        let small : u < w.units = omega (arith, slice_get_within cells u c here, result.whole) in
        cell_applied w s snapshot i v marks before seen u c (marks u) (entry_grows w s snapshot i v marks e) small
        refl (e.legal.units u small) held there (result.each u c here);
  };
})

-- A member that applied an entry represents its site.
pub apply_stands :
    (w : World) (s : Site) (snapshot : Snapshot) (i : ItemId) (v : Version) (marks : ℕ → UnitMark)
    (seen : Option ItemState) (made_with : Cut → ℕ → ℕ → ℕ) (m n : Shown)
    → WellFormed w → Has s w.sites → ApplyLegal w s snapshot i v marks → Represents w s m
    → Backs w snapshot i made_with → ItemRepresents w.units w.records i (holding snapshot i) seen
    → EntryResult w.units i v marks seen made_with m n
    → Represents (applied w s snapshot i v marks) (site_applied w.units s snapshot i v marks) n
apply_stands w s snapshot i v marks seen made_with m n ok has legal rep backs there result =
    moved_stands w s (site_applied w.units s snapshot i v marks) (entry_records w s snapshot i v marks) n
    (site_there w.sites s ok.distinct has) ok (entry_step w s snapshot i v marks entry) (record {
      id = own;
      clock = clock;
      own = λ place u there small. own_entry w.units n (joined_at i marks m.vector_at made_with) s.id place u
          result.vectors (sym own) there small ∙ clock;
      others = λ j u x made other.
          let at : n.vector_at (At j) u x.replica ≡ joined_at i marks m.vector_at made_with (At j) u x.replica =
          other_entry w.units n (joined_at i marks m.vector_at made_with) (At j) u x.replica result.vectors
          (λ same. other (same ∙ own)) tt (made_below w j u x ok made) in
          let exact = entry_exact w s snapshot i v marks made_with m j u x ok legal rep backs made other in (
            (λ contains. exact.0 (subst (λ (t : ℕ). x.tick ≤ t) at contains)),
            (λ known. subst (λ (t : ℕ). x.tick ≤ t) (sym at) (exact.1 known)),
          );
      items = items_after w.units w.records (entry_records w s snapshot i v marks) i s
          (site_applied w.units s snapshot i v marks) m n (entry_grows w s snapshot i v marks entry) rep.items
          result.others (λ j other. (rw other refl, rw other refl))
          (subst (λ (h : Holding). ItemRepresents w.units (entry_records w s snapshot i v marks) i h
          (state_of n.items i)) (sym held)
          (item_applied w s snapshot i v marks (state_of m.items i) seen (state_of n.items i) entry (rep.items i)
          there result.item));
      forgotten = λ place r at. result.forgotten place r at ∙ rep.header.forgotten place r at;
      bounded = λ place u r at small other. subst (λ (t : ℕ). t ≤ clock_among w.sites r)
          (sym (other_entry w.units n (joined_at i marks m.vector_at made_with) place u r result.vectors
          (λ same. other (same ∙ own)) at small))
          (entry_bounded w snapshot i marks m.vector_at made_with place u r backs small
          (rep.bounded.vectors place u r at small));
      forgotten_bounded = λ place r at. subst (λ (t : ℕ). t ≤ clock_among w.sites r) (sym (result.forgotten place r at))
          (rep.bounded.forgotten place r at);
    })
  where
    entry : Entry w s snapshot i v marks
    entry = record { ok = ok; there = has; legal = legal }

    own : n.id ≡ s.id
    own = result.id ∙ rep.header.id

    clock : n.clock ≡ clock_after marks w.units v.tick s.clock
    clock = result.clock ∙ ap (λ (t : ℕ). clock_after marks w.units v.tick t) rep.header.clock

    held : holding (site_applied w.units s snapshot i v marks) i ≡ entry_holding w s snapshot i v marks
    held = rw (same_item_self i) refl
