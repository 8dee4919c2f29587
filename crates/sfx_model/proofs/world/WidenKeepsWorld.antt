use Rattle.std.proofs.Common.{◌≡◌, ℕ, ◌+◌, ◌<◌, inl, inr, ◌∙◌, sym, ap, refl, subst, List, [], ◌∷◌, arith}
use Rattle.std.proofs.lemmas.Bool.{cases_lt}
use Rattle.sfx_ids.specs.declared.item_id.ItemId.{ItemId}
use Rattle.sfx_ids.specs.declared.version.Version.{Version}
use Rattle.sfx_ids.specs.ItemId.{creation_of}
use Rattle.sfx_model.specs.world.Sets.{Has}
use Rattle.sfx_model.specs.world.World.{Content, Written, Deleted, Record, Site, World, Holding, holding, IsAt, Made, IsDeletion, Precedes, IsLatest, IsClosed, IsSoundItem, IsMaker, AreDistinct, WellFormed}
use Rattle.sfx_model.specs.world.Events.{widened_content, widened_records, unit_before, site_widened, sites_widened, widened, WidenLegal}
use Rattle.sfx_model.proofs.world.CopiesLemmas.{copy, AreBelow, wide_from, wide_old, wide_copy, wide_below, wide_history, before_old, before_new, before_above, before_below}

-- two records that say the same, each of its own unit
pub record IsLike (r q : Record) : Type 0 where
  pub item : q.item ≡ r.item
  pub version : q.version ≡ r.version
  pub knew : q.made_knowing ≡ r.made_knowing
  pub deletes : r.content ≡ Deleted → q.content ≡ Deleted
  pub deleted : q.content ≡ Deleted → r.content ≡ Deleted

-- the new records have at each unit what the old ones have at the unit that it was before
pub record Carries (f : ℕ → ℕ) (old new : List Record) : Type 0 where
  pub forth : (r : Record) (u : ℕ) → Has r old → r.unit ≡ f u → (q : Record) × Has q new × (q.unit ≡ u) × IsLike r q
  pub back : (q : Record) → Has q new → (r : Record) × Has r old × (r.unit ≡ f q.unit) × IsLike r q

pub like_self : (r : Record) → IsLike r r
like_self r = record { item = refl; version = refl; knew = refl; deletes = λ e. e; deleted = λ e. e }

pub like_copy : (u : ℕ) (r : Record) → IsLike r (copy u r)
like_copy u r = record {
  item = refl;
  version = refl;
  knew = refl;
  deletes = λ e. rw e refl;
  deleted = by_content r.content;
}
  where
    by_content : (c : Content) → widened_content c ≡ Deleted → c ≡ Deleted
    by_content (Written bytes) e = absurd (cc)
    by_content Deleted e = refl

pub like_same : (r p q : Record) → p ≡ q → IsLike r q → IsLike r p
like_same r p q e is = subst (λ (x : Record). IsLike r x) (sym e) is

pub wide_carries :
    (units more : ℕ) (rs : List Record) → AreBelow units rs → Carries (unit_before units more) rs (widened_records units more rs)
wide_carries units more rs below = record { forth = forth; back = back }
  where
    kept : (r : Record) (u : ℕ) → Has r rs → r.unit ≡ u → (q : Record) × Has q (widened_records units more rs) × (q.unit ≡ u) × IsLike r q
    kept r u has is = (r, wide_old units more rs r has, is, like_self r)

    forth :
        (r : Record) (u : ℕ) → Has r rs → r.unit ≡ unit_before units more u
        → (q : Record) × Has q (widened_records units more rs) × (q.unit ≡ u) × IsLike r q
    forth r u has is = elim (cases_lt u units) [
      | inl old ↦ kept r u has (is ∙ before_old units more u old)
      | inr least ↦ elim (cases_lt u (units + more)) [
        | inl most ↦ (
          copy u r,
          wide_copy units more u rs r has (is ∙ before_new units more u least most) least most,
          refl,
          like_copy u r,
        )
        | inr big ↦ kept r u has (is ∙ before_above units more u big)
      ]
    ]

    back : (q : Record) → Has q (widened_records units more rs) → (r : Record) × Has r rs × (r.unit ≡ unit_before units more q.unit) × IsLike r q
    back q has = elim (wide_from units more rs q has) [
      | inl is ↦
          let unit : q.unit ≡ is.unit = ap (λ (r : Record). r.unit) is.is_copy.same in
          let least = is.least in
          let most = is.most in (
            is.is_copy.of,
            is.is_copy.there,
            is.is_copy.unit ∙ sym (before_new units more q.unit (omega arith) (omega arith)),
            like_same is.is_copy.of q (copy is.unit is.is_copy.of) is.is_copy.same (like_copy is.unit is.is_copy.of),
          )
      | inr old ↦ (q, old, sym (before_old units more q.unit (below q old)), like_self q)
    ]

-- each word, carried from the old unit to the new one

pub made_carried : (f : ℕ → ℕ) (rs qs : List Record) (i : ItemId) (u : ℕ) (v : Version) → Carries f rs qs → Made rs i (f u) v → Made qs i u v
made_carried f rs qs i u v c made =
    let q = c.forth made.0 u made.1 made.2.unit in (
      q.0,
      q.1,
      record {
        item = q.3.item ∙ made.2.item;
        unit = q.2;
        version = q.3.version ∙ made.2.version;
      },
    )

-- the old record of a new one
pub at_before :
    (f : ℕ → ℕ) (i : ItemId) (u : ℕ) (v : Version) (r q : Record)
    → r.unit ≡ f q.unit → IsLike r q → IsAt q i u v → IsAt r i (f u) v
at_before f i u v r q unit like at = record {
  item = sym like.item ∙ at.item;
  unit = unit ∙ ap f at.unit;
  version = sym like.version ∙ at.version;
}

pub deletion_carried :
    (f : ℕ → ℕ) (rs qs : List Record) (i : ItemId) (u : ℕ) (v : Version)
    → Carries f rs qs → IsDeletion rs i (f u) v → IsDeletion qs i u v
deletion_carried f rs qs i u v c d =
    let q = c.forth d.0 u d.1 d.2.unit in (
      q.0,
      q.1,
      record { item = q.3.item ∙ d.2.item; unit = q.2; version = q.3.version ∙ d.2.version },
      q.3.deletes d.3,
    )

pub deletion_before :
    (f : ℕ → ℕ) (rs qs : List Record) (i : ItemId) (u : ℕ) (v : Version)
    → Carries f rs qs → IsDeletion qs i u v → IsDeletion rs i (f u) v
deletion_before f rs qs i u v c d =
    let r = c.back d.0 d.1 in
    (r.0, r.1, at_before f i u v r.0 d.0 r.2 r.3 d.2, r.3.deleted d.3)

pub precedes_carried :
    (f : ℕ → ℕ) (rs qs : List Record) (i : ItemId) (u : ℕ) (a b : Version)
    → Carries f rs qs → Precedes rs i (f u) a b → Precedes qs i u a b
precedes_carried f rs qs i u a b c below = elim below [
  | inl e ↦ inl e
  | inr p ↦
      let q = c.forth p.0 u p.1 p.2.unit in
      inr (
        q.0,
        q.1,
        record { item = q.3.item ∙ p.2.item; unit = q.2; version = q.3.version ∙ p.2.version },
        subst (λ (vs : List Version). Has a vs) (sym q.3.knew) p.3,
      )
]

pub latest_carried :
    (f : ℕ → ℕ) (rs qs : List Record) (i : ItemId) (u : ℕ) (vs : List Version) (latest : Version)
    → Carries f rs qs → IsLatest rs i (f u) vs latest → IsLatest qs i u vs latest
latest_carried f rs qs i u vs latest c is = (is.0, λ v has. precedes_carried f rs qs i u v latest c (is.1 v has))

pub closed_carried :
    (f : ℕ → ℕ) (rs qs : List Record) (i : ItemId) (u : ℕ) (vs : List Version)
    → Carries f rs qs → IsClosed rs i (f u) vs → IsClosed qs i u vs
closed_carried f rs qs i u vs c closed = record {
  made = λ v has. made_carried f rs qs i u v c (closed.made v has);
  closed = λ v q has there at x knew.
      let r = c.back q there in
      closed.closed v r.0 has r.1 (at_before f i u v r.0 q r.2 r.3 at) x (subst (λ (ys : List Version). Has x ys) r.3.knew knew);
}

pub item_carried :
    (f : ℕ → ℕ) (units wide : ℕ) (rs qs : List Record) (i : ItemId) (h : Holding)
    → Carries f rs qs → ((u : ℕ) → u < wide → f u < units) → IsSoundItem units rs i h
    → IsSoundItem wide qs i (record { known = λ u. h.known (f u); present = h.present; forgotten = h.forgotten })
item_carried f units wide rs qs i h c small ok = record {
  cells = λ u. closed_carried f rs qs i u (h.known (f u)) c (ok.cells (f u));
  held = λ is. elim (ok.held is) [
    | inl live ↦ inl (λ u below.
        let latest = live (f u) (small u below) in (
          latest.0,
          latest_carried f rs qs i u (h.known (f u)) latest.0 c latest.1,
          λ d. latest.2 (deletion_before f rs qs i u latest.0 c d),
        ))
    | inr dead ↦ inr (
      dead.0,
      λ u below.
          let at_unit = dead.1 (f u) (small u below) in (
            latest_carried f rs qs i u (h.known (f u)) dead.0 c at_unit.0,
            deletion_carried f rs qs i u dead.0 c at_unit.1,
          ),
    )
  ];
  cleaned = λ is u v has.
      let gone = ok.cleaned is (f u) v has in (
        gone.0,
        gone.1,
        precedes_carried f rs qs i u v gone.0 c gone.2,
        deletion_carried f rs qs i u gone.0 c gone.3,
        gone.4,
      );
  creation = λ u v has x below. ok.creation (f u) v has (f x) (small x below);
}

-- the sites of the wide world

pub sites_has : (units more : ℕ) (ss : List Site) (s : Site) → Has s ss → Has (site_widened units more s) (sites_widened units more ss)
sites_has units more [] s has = absurd has
sites_has units more (x ∷ xs) s has = elim has [
  | inl e ↦ inl (ap (λ (y : Site). site_widened units more y) e)
  | inr there ↦ inr (sites_has units more xs s there)
]

pub sites_from :
    (units more : ℕ) (ss : List Site) (q : Site) → Has q (sites_widened units more ss)
    → (s : Site) × Has s ss × (q ≡ site_widened units more s)
sites_from units more [] q has = absurd has
sites_from units more (x ∷ xs) q has = elim has [
  | inl e ↦ (x, inl refl, e)
  | inr there ↦ let from = sites_from units more xs q there in (from.0, inr from.1, from.2)
]

pub sites_distinct : (units more : ℕ) (ss : List Site) → AreDistinct ss → AreDistinct (sites_widened units more ss)
sites_distinct units more [] d = tt
sites_distinct units more (x ∷ xs) d = (
  λ q has e.
      let from = sites_from units more xs q has in
      d.0 from.0 from.1 (ap (λ (y : Site). y.id) (sym from.2) ∙ e),
  sites_distinct units more xs d.1,
)

pub widen_keeps : (w : World) (more : ℕ) → WellFormed w → WidenLegal w more → WellFormed (widened w more)
widen_keeps w more ok legal = record {
  counted = λ s has. let said = legal.said in omega arith;
  distinct = sites_distinct w.units more w.sites ok.distinct;
  history = wide_history w.units more w.records below ok.history;
  records = λ q has.
      let r = carries.back q has in
      let is = ok.records r.0 r.1 in
      record {
        maker = (
          site_widened w.units more is.maker.0,
          sites_has w.units more w.sites is.maker.0 is.maker.1,
          subst (λ (v : Version). IsMaker (site_widened w.units more is.maker.0) v) (sym r.3.version)
              (record { replica = is.maker.2.replica; least = is.maker.2.least; most = is.maker.2.most }),
        );
        unit = wide_below w.units more w.records below q has;
        one_item = λ p there same.
            let o = carries.back p there in
            o.3.item ∙ is.one_item o.0 o.1 (sym o.3.version ∙ same ∙ r.3.version) ∙ sym r.3.item;
        creation = λ u small.
            subst (λ (i : ItemId). Made (widened_records w.units more w.records) i u (creation_of i)) (sym r.3.item)
            (made_carried f w.records (widened_records w.units more w.records) r.0.item u (creation_of r.0.item) carries
            (is.creation (f u) (before_below w.units more u legal.said small)));
      };
  sound = λ s has.
      let from = sites_from w.units more w.sites s has in
      subst
      (λ (x : Site). (i : ItemId) → IsSoundItem (w.units + more) (widened_records w.units more w.records) i (holding x i))
      (sym from.2)
      (λ i.
      item_carried f w.units (w.units + more) w.records (widened_records w.units more w.records) i (holding from.0 i) carries
      (λ u small. before_below w.units more u legal.said small) (ok.sound from.0 from.1 i));
  own = λ q s has there id.
      let r = carries.back q has in
      let from = sites_from w.units more w.sites s there in
      let is_own : from.0.id ≡ r.0.version.replica =
      ap (λ (x : Site). x.id) (sym from.2) ∙ id ∙ ap (λ (v : Version). v.replica) r.3.version
      in
      let old = ok.own r.0 from.0 r.1 from.1 is_own in
      subst (λ (x : Site). Has q.version (x.known q.item q.unit)) (sym from.2)
      (subst (λ (v : Version). Has v (from.0.known q.item (f q.unit))) (sym r.3.version)
      (subst (λ (i : ItemId). Has r.0.version (from.0.known i (f q.unit))) (sym r.3.item)
      (subst (λ (u : ℕ). Has r.0.version (from.0.known r.0.item u)) r.2 old)));
}
  where
    f : ℕ → ℕ
    f = unit_before w.units more

    below : AreBelow w.units w.records
    below r has = (ok.records r has).unit

    carries : Carries (unit_before w.units more) w.records (widened_records w.units more w.records)
    carries = wide_carries w.units more w.records below
