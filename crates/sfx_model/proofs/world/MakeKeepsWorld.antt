use Rattle.std.proofs.Common.{◌≡◌, ℕ, ◌<◌, ◌≤◌, inl, inr, ◌∙◌, sym, ap, refl, subst, Bool, true, List, Option, Some, None, arith, le_refl}
use Rattle.std.proofs.lemmas.Bool.{cases_lt}
use Rattle.sfx_ids.specs.declared.cut.Cut.TheVariants.{At}
use Rattle.sfx_ids.specs.declared.item_id.ItemId.{ItemId}
use Rattle.sfx_ids.specs.declared.version.Version.{Version}
use Rattle.sfx_ids.specs.ItemId.{creation_of}
use Rattle.sfx_model.specs.world.Sets.{Has, IsPart}
use Rattle.sfx_model.specs.world.World.{Content, Deleted, Record, Site, World, Made, IsLatest, HasLiveLatest, IsClosed, IsSoundItem, WellFormed}
use Rattle.sfx_model.specs.world.Events.{with_holding, recorded, known_with, site_made, IsFresh, MakeLegal}
use Rattle.sfx_model.proofs.world.Step.{IsMadeBy, Step}
use Rattle.sfx_model.proofs.world.SetsLemmas.{same_self}
use Rattle.sfx_model.proofs.world.WorldLemmas.{closed_stays}
use Rattle.sfx_model.proofs.world.RecordedLemmas.{IsNew, IsMaking, recorded_cases, recorded_grows, recorded_history, made_closed, made_latest, made_deletes, made_lives}
use Rattle.sfx_model.proofs.world.StepKeepsWorld.{fresh_unused, items_sound, items_more, at_item}

pub has_with : (v x : Version) (vs : List Version) (o : Option Content) → Has x vs → Has x (known_with v vs o)
has_with v x vs None has = has
has_with v x vs (Some c) has = inr has

-- the known versions of each unit are closed after a making
pub cells_made :
    (rs : List Record) (i : ItemId) (v : Version) (knew : ℕ → List Version) (contents : ℕ → Option Content) (n u : ℕ)
    → IsMaking rs i v knew contents n → (n ≤ u → contents u ≡ None) → IsClosed rs i u (knew u)
    → IsClosed (recorded i v knew contents n rs) i u (known_with v (knew u) (contents u))
cells_made rs i v knew contents n u m above closed = elim (cases_lt u n) [
  | inl small ↦ made_closed rs i v knew contents n u (contents u) m small refl
  | inr big ↦
      subst (λ (o : Option Content). IsClosed (recorded i v knew contents n rs) i u (known_with v (knew u) o)) (sym (above big))
      (closed_stays rs (recorded i v knew contents n rs) i u (knew u) (knew u) (recorded_grows rs i v knew contents n m)
      (same_self (knew u)) closed)
]

-- what an event that makes versions of one item has to show: s is the site before
pub record IsStamp (w : World) (s : Site) (i : ItemId) (v : Version) (knew : ℕ → List Version) (contents : ℕ → Option Content) (present : Bool) (clock : ℕ) : Type 0 where
  pub making : IsMaking w.records i v knew contents w.units
  pub more : (u : ℕ) → IsPart (s.known i u) (knew u)
  pub up : s.clock ≤ clock
  pub fresh : (u : ℕ) (c : Content) → u < w.units → contents u ≡ Some c → IsFresh s v × (clock ≡ v.tick)
  pub item : IsSoundItem w.units (recorded i v knew contents w.units w.records) i
      (record { known = λ u. known_with v (knew u) (contents u); present = present; forgotten = s.forgotten (At i) })

-- the site afterwards
abbrev pub stamped : Site → ItemId → Version → (ℕ → List Version) → (ℕ → Option Content) → Bool → ℕ → Site
stamped s i v knew contents present clock =
    record (with_holding s i (λ u. known_with v (knew u) (contents u)) present) { clock = clock }

pub stamp_step :
    (w : World) (s : Site) (i : ItemId) (v : Version) (knew : ℕ → List Version) (contents : ℕ → Option Content) (present : Bool) (clock : ℕ)
    → WellFormed w → Has s w.sites → IsStamp w s i v knew contents present clock
    → Step w s (stamped s i v knew contents present clock) (recorded i v knew contents w.units w.records)
stamp_step w s i v knew contents present clock ok there is =
    let grows = recorded_grows w.records i v knew contents w.units is.making in
    record {
      follows = record { id = refl; clock = is.up };
      grows = grows;
      history = recorded_history w.records i v knew contents w.units is.making ok.history;
      news = λ r has. elim (recorded_cases i v knew contents w.units w.records r has) [
        | inl new ↦ inl (made_by r new)
        | inr old ↦ inr old
      ];
      more = λ j u. items_more s i (λ x. known_with v (knew x) (contents x))
          (λ x y has. has_with v y (knew x) (contents x) (is.more x y has)) j u;
      sound = items_sound w.units w.records (recorded i v knew contents w.units w.records) s i
          (λ u. known_with v (knew u) (contents u)) present s.forgotten grows (ok.sound s there)
          (λ j r. le_refl (s.forgotten (At j) r)) is.item;
    }
  where
    here : (r : Record) → IsNew i v knew contents w.units r → Has v (known_with v (knew r.unit) (contents r.unit))
    here r new =
        subst (λ (o : Option Content). Has v (known_with v (knew r.unit) o)) (sym new.content) (inl refl)

    made_by :
        (r : Record) → IsNew i v knew contents w.units r
        → IsMadeBy w s (stamped s i v knew contents present clock) (recorded i v knew contents w.units w.records) r
    made_by r new =
        let fresh = is.fresh r.unit r.content new.unit new.content in
        let tick : r.version.tick ≡ v.tick = ap (λ (x : Version). x.tick) new.version in
        record {
          maker = sym fresh.0.replica ∙ ap (λ (x : Version). x.replica) (sym new.version);
          newer = let next = fresh.0.tick in omega arith;
          most = let clock_is = fresh.1 in omega arith;
          unit = new.unit;
          one_item = λ q has same. elim (recorded_cases i v knew contents w.units w.records q has) [
            | inl other ↦ other.item ∙ sym new.item
            | inr old ↦ absurd (is.making.unused r.unit r.content new.unit new.content q old (same ∙ new.version))
          ];
          creation = λ u small.
              subst (λ (x : ItemId). Made (recorded i v knew contents w.units w.records) x u (creation_of x)) (sym new.item)
              ((is.item.cells u).made (creation_of i) (is.item.creation r.unit v (here r new) u small));
          known =
              subst (λ (x : ItemId). Has r.version ((stamped s i v knew contents present clock).known x r.unit)) (sym new.item)
              (subst (λ (known : ℕ → List Version). Has r.version (known r.unit))
              (sym (at_item i (λ u. known_with v (knew u) (contents u)) s.known))
              (subst (λ (x : Version). Has x (known_with v (knew r.unit) (contents r.unit))) (sym new.version) (here r new)));
        }

-- a replica's making of a version
pub make_making :
    (w : World) (s : Site) (i : ItemId) (v : Version) (contents : ℕ → Option Content)
    → WellFormed w → Has s w.sites → MakeLegal w s i v contents → IsMaking w.records i v (s.known i) contents w.units
make_making w s i v contents ok there legal = record {
  unused = λ u c small is. fresh_unused w s v ok there legal.fresh;
  closed = λ u small. (ok.sound s there i).cells u;
}

pub make_item :
    (w : World) (s : Site) (i : ItemId) (v : Version) (contents : ℕ → Option Content)
    → WellFormed w → Has s w.sites → MakeLegal w s i v contents
    → IsSoundItem w.units (recorded i v (s.known i) contents w.units w.records) i
    (record { known = λ u. known_with v (s.known i u) (contents u); present = true; forgotten = s.forgotten (At i) })
make_item w s i v contents ok there legal =
    let making = make_making w s i v contents ok there legal in
    record {
      cells = λ u. cells_made w.records i v (s.known i) contents w.units u making (legal.kinds.listed u) ((ok.sound s there i).cells u);
      held = λ is. elim legal.kinds.one_kind [
        | inl writes ↦ inl (λ u small.
            made_lives w.records i v (s.known i) contents w.units u (contents u) making small refl (writes u)
            (λ none. before u small none))
        | inr deletes ↦ inr (
          v,
          λ u small. (
            subst
                (λ (o : Option Content). IsLatest (recorded i v (s.known i) contents w.units w.records) i u (known_with v (s.known i u) o) v)
                (sym (deletes u small)) (made_latest w.records i v (s.known i) contents w.units u Deleted small (deletes u small)),
            made_deletes w.records i v (s.known i) contents w.units u small (deletes u small),
          ),
        )
      ];
      cleaned = λ is. absurd (cc);
      creation = λ u x has y small. elim legal.what [
        | inl creates ↦
            let whole = creates.whole y small in
            subst (λ (o : Option Content). Has (creation_of i) (known_with v (s.known i y) o)) (sym whole.1) (inl (sym creates.creation))
        | inr live ↦
            let latest = live.live y small in
            has_with v (creation_of i) (s.known i y) (contents y)
            ((ok.sound s there i).creation y latest.0 latest.1.0 y small)
      ];
    }
  where
    before : (u : ℕ) → u < w.units → contents u ≡ None → HasLiveLatest w.records i u (s.known i u)
    before u small none = elim legal.what [
      | inl creates ↦ let whole = creates.whole u small in let there_is = whole.1 in absurd (cc)
      | inr live ↦ live.live u small
    ]

pub make_step :
    (w : World) (s : Site) (i : ItemId) (v : Version) (contents : ℕ → Option Content)
    → WellFormed w → Has s w.sites → MakeLegal w s i v contents
    → Step w s (site_made s i v (s.known i) contents) (recorded i v (s.known i) contents w.units w.records)
make_step w s i v contents ok there legal =
    stamp_step w s i v (s.known i) contents true v.tick ok there
    (record {
      making = make_making w s i v contents ok there legal;
      more = λ u x has. has;
      up = let next = legal.fresh.tick in omega arith;
      fresh = λ u c small is. (legal.fresh, refl);
      item = make_item w s i v contents ok there legal;
    })
