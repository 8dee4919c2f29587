use Rattle.std.proofs.Common.{◌≡◌, ◌≢◌, ℕ, ◌<◌, ◌≤◌, ◌⊎◌, inl, inr, ◌∙◌, sym, refl, subst, Bool, true, false, List, Option, Some, None, arith, le_refl}
use Rattle.std.proofs.lemmas.Bool.{cases_lt}
use Rattle.sfx_ids.specs.declared.cut.Cut.TheVariants.{At}
use Rattle.sfx_ids.specs.declared.item_id.ItemId.{ItemId}
use Rattle.sfx_ids.specs.declared.version.Version.{Version}
use Rattle.sfx_ids.specs.ItemId.{creation_of}
use Rattle.sfx_model.specs.world.Sets.{Has, IsPart}
use Rattle.sfx_model.specs.world.World.{Content, Deleted, Record, Site, Snapshot, World, Holding, holding, IsLatest, HasLiveLatest, IsLive, IsDead, IsClosed, IsSoundItem, WellFormed}
use Rattle.sfx_model.specs.world.Events.{UnitMark, Keeps, Takes, Stamps, Leaves, Drops, recorded, known_with, known_by, content_of, brings, is_dropped, present_after, clock_after, knew_by, site_applied, StampLegal, UnitLegal, AllMarked, AreMixed, AllStay, AllTaken, AllLeft, AllGone, AllDelete, AllWrite, Mixed, ApplyLegal}
use Rattle.sfx_model.proofs.world.Step.{AreSame, Grows, Step}
use Rattle.sfx_model.proofs.world.SetsLemmas.{same_self}
use Rattle.sfx_model.proofs.world.WorldLemmas.{grows_self, live_latest_stays, item_stays, above}
use Rattle.sfx_model.proofs.world.RecordedLemmas.{IsMaking, recorded_grows, made_latest, made_deletes, made_lives}
use Rattle.sfx_model.proofs.world.StepKeepsWorld.{fresh_unused}
use Rattle.sfx_model.proofs.world.MakeKeepsWorld.{IsStamp, stamp_step, cells_made, has_with}
use Rattle.sfx_model.proofs.world.UnitMarkLemmas.{present_brought, present_dropped, present_kept, present_stays, clock_stamped, clock_up, stamps_content, stamped_content, knows_more, knows_seen, knows_closed, knows_here, knows_there}

-- the records and the item after an entry
abbrev pub entry_records : World → Site → Snapshot → ItemId → Version → (ℕ → UnitMark) → List Record
entry_records w s snapshot i v marks =
    recorded i v (knew_by marks snapshot s i) (λ u. content_of (marks u)) w.units w.records

abbrev pub entry_holding : World → Site → Snapshot → ItemId → Version → (ℕ → UnitMark) → Holding
entry_holding w s snapshot i v marks = record {
  known = λ u. known_with v (knew_by marks snapshot s i u) (content_of (marks u));
  present = present_after marks w.units (s.present i);
  forgotten = s.forgotten (At i);
}

-- all that is at hand where an entry is applied
pub record Entry (w : World) (s : Site) (snapshot : Snapshot) (i : ItemId) (v : Version) (marks : ℕ → UnitMark) : Type 0 where
  pub ok : WellFormed w
  pub there : Has s w.sites
  pub legal : ApplyLegal w s snapshot i v marks

-- the mark of a stamped unit is legal, so the version is fresh
pub stamp_of :
    (w : World) (s : Site) (snapshot : Snapshot) (i : ItemId) (v : Version) (marks : ℕ → UnitMark) (u : ℕ) (c : Content)
    → Entry w s snapshot i v marks → u < w.units → marks u ≡ Stamps c → StampLegal s snapshot i v
stamp_of w s snapshot i v marks u c e small is =
    subst (λ (m : UnitMark). UnitLegal w s snapshot i v u m) is (e.legal.units u small)

pub entry_closed :
    (w : World) (s : Site) (snapshot : Snapshot) (i : ItemId) (v : Version) (marks : ℕ → UnitMark) (u : ℕ)
    → Entry w s snapshot i v marks → IsClosed w.records i u (knew_by marks snapshot s i u)
entry_closed w s snapshot i v marks u e =
    knows_closed w.records i u (marks u) (snapshot.known i u) (s.known i u) ((e.legal.sound i).cells u)
    ((e.ok.sound s e.there i).cells u)

pub entry_making :
    (w : World) (s : Site) (snapshot : Snapshot) (i : ItemId) (v : Version) (marks : ℕ → UnitMark)
    → Entry w s snapshot i v marks
    → IsMaking w.records i v (knew_by marks snapshot s i) (λ u. content_of (marks u)) w.units
entry_making w s snapshot i v marks e = record {
  unused = λ u c small is.
      fresh_unused w s v e.ok e.there (stamp_of w s snapshot i v marks u c e small (stamps_content (marks u) c is)).fresh;
  closed = λ u small. entry_closed w s snapshot i v marks u e;
}

pub entry_grows :
    (w : World) (s : Site) (snapshot : Snapshot) (i : ItemId) (v : Version) (marks : ℕ → UnitMark)
    → Entry w s snapshot i v marks → Grows w.records (entry_records w s snapshot i v marks)
entry_grows w s snapshot i v marks e =
    recorded_grows w.records i v (knew_by marks snapshot s i) (λ u. content_of (marks u)) w.units
    (entry_making w s snapshot i v marks e)

pub entry_cells :
    (w : World) (s : Site) (snapshot : Snapshot) (i : ItemId) (v : Version) (marks : ℕ → UnitMark)
    → Entry w s snapshot i v marks → (u : ℕ)
    → IsClosed (entry_records w s snapshot i v marks) i u ((entry_holding w s snapshot i v marks).known u)
entry_cells w s snapshot i v marks e u =
    cells_made w.records i v (knew_by marks snapshot s i) (λ x. content_of (marks x)) w.units u
    (entry_making w s snapshot i v marks e) (e.legal.above u) (entry_closed w s snapshot i v marks u e)

-- beyond the units neither side knows anything
pub none_above :
    (w : World) (s : Site) (snapshot : Snapshot) (i : ItemId) (v : Version) (marks : ℕ → UnitMark) (u : ℕ)
    → Entry w s snapshot i v marks → w.units ≤ u → IsPart (snapshot.known i u) (s.known i u)
none_above w s snapshot i v marks u e big x has =
    absurd (above w i u (snapshot.known i u) x e.ok ((e.legal.sound i).cells u) big has)

pub none_here :
    (w : World) (s : Site) (snapshot : Snapshot) (i : ItemId) (v : Version) (marks : ℕ → UnitMark) (u : ℕ)
    → Entry w s snapshot i v marks → w.units ≤ u → IsPart (s.known i u) (snapshot.known i u)
none_here w s snapshot i v marks u e big x has =
    absurd (above w i u (s.known i u) x e.ok ((e.ok.sound s e.there i).cells u) big has)

-- the known versions of a unit that is not stamped, as those of a list
pub same_with :
    (v : Version) (xs ys : List Version) (o : Option Content) → o ≡ None → AreSame xs ys → AreSame xs (known_with v ys o)
same_with v xs ys o e same = subst (λ (p : Option Content). AreSame xs (known_with v ys p)) (sym e) same

-- an entry that leaves the known versions those of this holding
pub as_holding :
    (w : World) (s : Site) (snapshot : Snapshot) (i : ItemId) (v : Version) (marks : ℕ → UnitMark) (known : ℕ → List Version) (present : Bool)
    → Entry w s snapshot i v marks
    → IsSoundItem w.units w.records i (record { known = known; present = present; forgotten = s.forgotten (At i) })
    → ((u : ℕ) → u < w.units → content_of (marks u) ≡ None)
    → ((u : ℕ) → u < w.units → AreSame (known u) (known_by (marks u) (snapshot.known i u) (s.known i u)))
    → ((u : ℕ) → w.units ≤ u → AreSame (known u) (known_by (marks u) (snapshot.known i u) (s.known i u)))
    → present ≡ present_after marks w.units (s.present i)
    → IsSoundItem w.units (entry_records w s snapshot i v marks) i (entry_holding w s snapshot i v marks)
as_holding w s snapshot i v marks known present e sound none same beyond is =
    item_stays w.units w.records (entry_records w s snapshot i v marks) i
    (record { known = known; present = present; forgotten = s.forgotten (At i) })
    (entry_holding w s snapshot i v marks) (entry_grows w s snapshot i v marks e)
    (λ u. elim (cases_lt u w.units) [
      | inl small ↦ same_with v (known u) (knew_by marks snapshot s i u) (content_of (marks u)) (none u small) (same u small)
      | inr big ↦ same_with v (known u) (knew_by marks snapshot s i u) (content_of (marks u)) (e.legal.above u big) (beyond u big)
    ])
    is (λ r. le_refl (s.forgotten (At i) r)) sound

-- a present item is sound whatever is forgotten
pub present_sound :
    (units : ℕ) (rs : List Record) (i : ItemId) (h : Holding) (forgotten : ℕ → ℕ)
    → h.present ≡ true → IsSoundItem units rs i h
    → IsSoundItem units rs i (record { known = h.known; present = true; forgotten = forgotten })
present_sound units rs i h forgotten is ok = record {
  cells = ok.cells;
  held = λ there. ok.held is;
  cleaned = λ none. absurd (cc);
  creation = ok.creation;
}

-- the creation is known afterwards where it was known before, or is learned
pub creation_here :
    (w : World) (s : Site) (snapshot : Snapshot) (i : ItemId) (v : Version) (marks : ℕ → UnitMark) (u : ℕ)
    → Has (creation_of i) (s.known i u) → Has (creation_of i) ((entry_holding w s snapshot i v marks).known u)
creation_here w s snapshot i v marks u has =
    has_with v (creation_of i) (knew_by marks snapshot s i u) (content_of (marks u))
    (knows_more (marks u) (snapshot.known i u) (s.known i u) (creation_of i) has)

pub creation_seen :
    (w : World) (s : Site) (snapshot : Snapshot) (i : ItemId) (v : Version) (marks : ℕ → UnitMark) (u : ℕ)
    → marks u ≢ Leaves → Has (creation_of i) (snapshot.known i u)
    → Has (creation_of i) ((entry_holding w s snapshot i v marks).known u)
creation_seen w s snapshot i v marks u learns has =
    has_with v (creation_of i) (knew_by marks snapshot s i u) (content_of (marks u))
    (knows_seen (marks u) (snapshot.known i u) (s.known i u) learns (creation_of i) has)

-- each unit is stamped
pub stamped_item :
    (w : World) (s : Site) (snapshot : Snapshot) (i : ItemId) (v : Version) (marks : ℕ → UnitMark)
    → Entry w s snapshot i v marks
    → ((u : ℕ) → u < w.units → (c : Content) × (marks u ≡ Stamps c))
    → IsLive w.units (entry_records w s snapshot i v marks) i (entry_holding w s snapshot i v marks).known
    ⊎ IsDead w.units (entry_records w s snapshot i v marks) i (entry_holding w s snapshot i v marks).known
    → IsSoundItem w.units (entry_records w s snapshot i v marks) i (entry_holding w s snapshot i v marks)
stamped_item w s snapshot i v marks e all held = record {
  cells = entry_cells w s snapshot i v marks e;
  held = λ is. held;
  cleaned = λ is. let bad : true ≡ false = sym present ∙ is in absurd (cc);
  creation = λ u x has y small.
      let stamp = all y small in
      elim (stamp_of w s snapshot i v marks y stamp.0 e small stamp.1).known [
        | inl here ↦
            creation_here w s snapshot i v marks y ((e.ok.sound s e.there i).creation here.0 here.1 here.2 y small)
        | inr seen ↦
            creation_seen w s snapshot i v marks y (λ skips. let is = stamp.1 in cc)
            ((e.legal.sound i).creation seen.0 seen.1 seen.2 y small)
      ];
}
  where
    present : present_after marks w.units (s.present i) ≡ true
    present =
        let some = e.ok.counted s e.there in
        present_brought marks w.units 0 (s.present i) some (rw (all 0 some).1 refl)

-- marks that may differ
pub mixed_item :
    (w : World) (s : Site) (snapshot : Snapshot) (i : ItemId) (v : Version) (marks : ℕ → UnitMark)
    → Entry w s snapshot i v marks → AreMixed w s snapshot i marks
    → IsSoundItem w.units (entry_records w s snapshot i v marks) i (entry_holding w s snapshot i v marks)
mixed_item w s snapshot i v marks e mixed = record {
  cells = entry_cells w s snapshot i v marks e;
  held = λ is. inl (λ u small.
      made_lives w.records i v (knew_by marks snapshot s i) (λ x. content_of (marks x)) w.units u (content_of (marks u))
      (entry_making w s snapshot i v marks e) small refl
      (λ deletes. mixed.result u small (stamps_content (marks u) Deleted deletes))
      (λ none. before u small (marks u) refl none));
  cleaned = λ is. let bad : true ≡ false = sym present ∙ is in absurd (cc);
  creation = λ u x has y small. elim mixed.here [
    | inl live ↦
        let latest = live.live y small in
        creation_here w s snapshot i v marks y ((e.ok.sound s e.there i).creation y latest.0 latest.1.0 y small)
    | inr all ↦
        let latest = mixed.there.live y small in
        creation_seen w s snapshot i v marks y (λ skips. skips_not y skips (all y small))
        ((e.legal.sound i).creation y latest.0 latest.1.0 y small)
  ];
}
  where
    skips_not : (u : ℕ) → marks u ≡ Leaves → brings (marks u) ≡ true → ⊥
    skips_not u skips is = let bad : false ≡ true = subst (λ (m : UnitMark). brings m ≡ true) skips is in cc

    here_live : (u : ℕ) → u < w.units → brings (marks u) ≡ false → HasLiveLatest w.records i u (s.known i u)
    here_live u small not_brought = elim mixed.here [
      | inl live ↦ live.live u small
      | inr all ↦ let bad : true ≡ false = sym (all u small) ∙ not_brought in absurd (cc)
    ]

    legal : (u : ℕ) → u < w.units → (m : UnitMark) → marks u ≡ m → UnitLegal w s snapshot i v u m
    legal u small m is = subst (λ (x : UnitMark). UnitLegal w s snapshot i v u x) is (e.legal.units u small)

    before :
        (u : ℕ) → u < w.units → (m : UnitMark) → marks u ≡ m → content_of (marks u) ≡ None
        → HasLiveLatest w.records i u (knew_by marks snapshot s i u)
    before u small Keeps is none =
        live_latest_stays w.records w.records i u (s.known i u) (knew_by marks snapshot s i u) (grows_self w.records)
        (knows_here (marks u) (snapshot.known i u) (s.known i u) (legal u small Keeps is)) ((e.ok.sound s e.there i).cells u)
        (here_live u small (rw is refl))
    before u small Takes is none =
        live_latest_stays w.records w.records i u (snapshot.known i u) (knew_by marks snapshot s i u) (grows_self w.records)
        (knows_there (marks u) (snapshot.known i u) (s.known i u) (λ skips. cc) (legal u small Takes is).known)
        ((e.legal.sound i).cells u) (mixed.there.live u small)
    before u small (Stamps c) is none = absurd (let bad : Some c ≡ None = subst (λ (m : UnitMark). content_of m ≡ None) is none in cc)
    before u small Leaves is none =
        subst (λ (m : UnitMark). HasLiveLatest w.records i u (known_by m (snapshot.known i u) (s.known i u))) (sym is)
        (here_live u small (rw is refl))
    before u small Drops is none = absurd (mixed.whole u small is)

    drops_not : (u : ℕ) → u < w.units → (m : UnitMark) → marks u ≡ m → is_dropped m ≡ false
    drops_not u small Keeps is = refl
    drops_not u small Takes is = refl
    drops_not u small (Stamps c) is = refl
    drops_not u small Leaves is = refl
    drops_not u small Drops is = absurd (mixed.whole u small is)

    present : present_after marks w.units (s.present i) ≡ true
    present = elim mixed.here [
      | inl live ↦ present_stays marks w.units (s.present i) live.is_present (λ u small. drops_not u small (marks u) refl)
      | inr all ↦
          let some = e.ok.counted s e.there in
          present_brought marks w.units 0 (s.present i) some (all 0 some)
    ]

-- the item of an entry is sound afterwards
pub entry_item :
    (w : World) (s : Site) (snapshot : Snapshot) (i : ItemId) (v : Version) (marks : ℕ → UnitMark)
    → Entry w s snapshot i v marks
    → IsSoundItem w.units (entry_records w s snapshot i v marks) i (entry_holding w s snapshot i v marks)
entry_item w s snapshot i v marks e = elim e.legal.joint [
  | AllStay all ↦
      as_holding w s snapshot i v marks (s.known i) (s.present i) e (e.ok.sound s e.there i) (λ u small. rw (all u small) refl)
      (λ u small. knows_here (marks u) (snapshot.known i u) (s.known i u) (legal u small Keeps (all u small)))
      (λ u big. knows_here (marks u) (snapshot.known i u) (s.known i u) (none_above w s snapshot i v marks u e big))
      (sym (present_kept marks w.units (s.present i) (λ u small. rw (all u small) refl) (λ u small. rw (all u small) refl)))
  | AllTaken all ↦
      let some = e.ok.counted s e.there in
      as_holding w s snapshot i v marks (snapshot.known i) true e
      (present_sound w.units w.records i (holding snapshot i) (s.forgotten (At i)) (legal 0 some Takes (all 0 some)).present
      (e.legal.sound i))
      (λ u small. rw (all u small) refl)
      (λ u small. knows_there (marks u) (snapshot.known i u) (s.known i u) (λ skips. let is = all u small in cc)
      (legal u small Takes (all u small)).known)
      (λ u big. beyond u big) (sym (present_brought marks w.units 0 (s.present i) some (rw (all 0 some) refl)))
  | AllLeft all ↦
      as_holding w s snapshot i v marks (s.known i) (s.present i) e (e.ok.sound s e.there i) (λ u small. rw (all u small) refl)
      (λ u small. rw (all u small) (same_self (s.known i u)))
      (λ u big. knows_here (marks u) (snapshot.known i u) (s.known i u) (none_above w s snapshot i v marks u e big))
      (sym (present_kept marks w.units (s.present i) (λ u small. rw (all u small) refl) (λ u small. rw (all u small) refl)))
  | AllGone all ↦
      let some = e.ok.counted s e.there in
      as_holding w s snapshot i v marks (snapshot.known i) false e (dropped all)
      (λ u small. rw (all u small) refl)
      (λ u small. knows_there (marks u) (snapshot.known i u) (s.known i u) (λ skips. let is = all u small in cc)
      (legal u small Drops (all u small)).known)
      (λ u big. beyond u big) (sym (present_dropped marks w.units (s.present i) some all))
  | AllDelete all ↦
      stamped_item w s snapshot i v marks e (λ u small. let stamp = all u small in (stamp.0, stamp.1))
      (inr (
        v,
        λ u small.
            let stamp = all u small in
            let content : content_of (marks u) ≡ Some Deleted = rw (stamp.1, stamp.2) refl in (
              subst
                  (λ (o : Option Content).
                  IsLatest (entry_records w s snapshot i v marks) i u (known_with v (knew_by marks snapshot s i u) o) v)
                  (sym content)
                  (made_latest w.records i v (knew_by marks snapshot s i) (λ x. content_of (marks x)) w.units u Deleted small content),
              made_deletes w.records i v (knew_by marks snapshot s i) (λ x. content_of (marks x)) w.units u small content,
            ),
      ))
  | AllWrite all ↦
      stamped_item w s snapshot i v marks e (λ u small. let stamp = all u small in (stamp.0, stamp.1))
      (inl (λ u small.
      let stamp = all u small in
      let content : content_of (marks u) ≡ Some stamp.0 = rw stamp.1 refl in
      made_lives w.records i v (knew_by marks snapshot s i) (λ x. content_of (marks x)) w.units u (content_of (marks u))
      (entry_making w s snapshot i v marks e) small refl
      (λ deletes. stamp.2 (let same : Some stamp.0 ≡ Some Deleted = sym content ∙ deletes in cc))
      (λ none. absurd (cc))))
  | Mixed mixed ↦ mixed_item w s snapshot i v marks e mixed
]
  where
    legal : (u : ℕ) → u < w.units → (m : UnitMark) → marks u ≡ m → UnitLegal w s snapshot i v u m
    legal u small m is = subst (λ (x : UnitMark). UnitLegal w s snapshot i v u x) is (e.legal.units u small)

    beyond : (u : ℕ) → w.units ≤ u → AreSame (snapshot.known i u) (known_by (marks u) (snapshot.known i u) (s.known i u))
    beyond u big =
        let same = knows_here (marks u) (snapshot.known i u) (s.known i u) (none_above w s snapshot i v marks u e big) in
        record {
          there = λ x has. same.there x (none_above w s snapshot i v marks u e big x has);
          back = λ x has. none_here w s snapshot i v marks u e big x (same.back x has);
        }

    dropped :
        AllMarked w.units marks Drops
        → IsSoundItem w.units w.records i (record { known = snapshot.known i; present = false; forgotten = s.forgotten (At i) })
    dropped all = record {
      cells = (e.legal.sound i).cells;
      held = λ is. absurd (cc);
      cleaned = λ is u x has. elim (cases_lt u w.units) [
        | inl small ↦ (legal u small Drops (all u small)).forgotten x has
        | inr big ↦ absurd (above w i u (snapshot.known i u) x e.ok ((e.legal.sound i).cells u) big has)
      ];
      creation = (e.legal.sound i).creation;
    }

pub entry_stamp :
    (w : World) (s : Site) (snapshot : Snapshot) (i : ItemId) (v : Version) (marks : ℕ → UnitMark)
    → Entry w s snapshot i v marks
    → IsStamp w s i v (knew_by marks snapshot s i) (λ u. content_of (marks u)) (present_after marks w.units (s.present i))
    (clock_after marks w.units v.tick s.clock)
entry_stamp w s snapshot i v marks e = record {
  making = entry_making w s snapshot i v marks e;
  more = λ u. knows_more (marks u) (snapshot.known i u) (s.known i u);
  up = clock_up marks w.units v.tick s.clock (λ u small is.
      let stamp = stamped_content (marks u) is in
      let next = (stamp_of w s snapshot i v marks u stamp.0 e small stamp.1).fresh.tick in
      omega arith);
  fresh = λ u c small is.
      let stamp = stamps_content (marks u) c is in (
        (stamp_of w s snapshot i v marks u c e small stamp).fresh,
        clock_stamped marks w.units u v.tick s.clock small (rw stamp refl),
      );
  item = entry_item w s snapshot i v marks e;
}

pub entry_step :
    (w : World) (s : Site) (snapshot : Snapshot) (i : ItemId) (v : Version) (marks : ℕ → UnitMark)
    → Entry w s snapshot i v marks
    → Step w s (site_applied w.units s snapshot i v marks) (entry_records w s snapshot i v marks)
entry_step w s snapshot i v marks e =
    stamp_step w s i v (knew_by marks snapshot s i) (λ u. content_of (marks u)) (present_after marks w.units (s.present i))
    (clock_after marks w.units v.tick s.clock) e.ok e.there (entry_stamp w s snapshot i v marks e)
