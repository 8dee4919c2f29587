use Rattle.std.proofs.Common.{◌≡◌, ◌≢◌, ℕ, zero, suc, ◌<◌, ◌⊎◌, inl, inr, ◌∙◌, sym, ap, refl, List, Option, Some, None, arith, subst}
use Rattle.std.proofs.lemmas.Bool.{cases_eq}
use Rattle.sfx_ids.specs.declared.item_id.ItemId.{ItemId}
use Rattle.sfx_ids.specs.declared.version.Version.{Version}
use Rattle.sfx_model.specs.world.Sets.{Has}
use Rattle.sfx_model.specs.world.World.{Content, Deleted, Record, IsAt, IsDeletion, IsLatest, HasLiveLatest, IsClosed, IsHistory}
use Rattle.sfx_model.specs.world.Events.{recorded, recorded_unit, known_with}
use Rattle.sfx_model.proofs.world.Step.{Grows}
use Rattle.sfx_model.proofs.world.SetsLemmas.{same_self}
use Rattle.sfx_model.proofs.world.WorldLemmas.{closed_stays, live_latest_stays}

-- no record is of this version
abbrev pub IsUnused : List Record → Version → Type 0
IsUnused rs v = (r : Record) → Has r rs → r.version ≢ v

-- the record of a unit that has a content
abbrev pub record_of : ItemId → ℕ → Version → List Version → Content → Record
record_of i u v knew c = record { item = i; unit = u; version = v; content = c; made_knowing = knew }

-- a record that came by `recorded`
pub record IsNew (i : ItemId) (v : Version) (knew : ℕ → List Version) (contents : ℕ → Option Content) (n : ℕ) (r : Record) : Type 0 where
  pub item : r.item ≡ i
  pub unit : r.unit < n
  pub version : r.version ≡ v
  pub content : contents r.unit ≡ Some r.content
  pub knew_it : r.made_knowing ≡ knew r.unit

-- what `recorded` is given: where there is a content the version is unused, and what the maker knew is
-- closed
pub record IsMaking (rs : List Record) (i : ItemId) (v : Version) (knew : ℕ → List Version) (contents : ℕ → Option Content) (n : ℕ) : Type 0 where
  pub unused : (u : ℕ) (c : Content) → u < n → contents u ≡ Some c → IsUnused rs v
  pub closed : (u : ℕ) → u < n → IsClosed rs i u (knew u)

pub fewer :
    (rs : List Record) (i : ItemId) (v : Version) (knew : ℕ → List Version) (contents : ℕ → Option Content) (n : ℕ)
    → IsMaking rs i v knew contents (suc n) → IsMaking rs i v knew contents n
fewer rs i v knew contents n m = record {
  unused = λ u c small is. m.unused u c (omega arith) is;
  closed = λ u small. m.closed u (omega arith);
}

pub recorded_cases :
    (i : ItemId) (v : Version) (knew : ℕ → List Version) (contents : ℕ → Option Content) (n : ℕ) (rs : List Record) (r : Record)
    → Has r (recorded i v knew contents n rs) → IsNew i v knew contents n r ⊎ Has r rs
recorded_cases i v knew contents zero rs r has = inr has
recorded_cases i v knew contents (suc n) rs r has =
    by_content (recorded_cases i v knew contents n rs r) (contents n) refl has
  where
    later : IsNew i v knew contents n r → IsNew i v knew contents (suc n) r
    later is = record {
      item = is.item;
      unit = let small = is.unit in omega arith;
      version = is.version;
      content = is.content;
      knew_it = is.knew_it;
    }

    by_content :
        (Has r (recorded i v knew contents n rs) → IsNew i v knew contents n r ⊎ Has r rs)
        → (o : Option Content) → contents n ≡ o
        → Has r (recorded_unit i n v (knew n) o (recorded i v knew contents n rs))
        → IsNew i v knew contents (suc n) r ⊎ Has r rs
    by_content more None e h = elim (more h) [ inl is ↦ inl (later is) | inr there ↦ inr there ]
    by_content more (Some c) e h =
        elim h [
          | inl same ↦
              let unit : r.unit ≡ n = ap (λ (q : Record). q.unit) same in
              let content : r.content ≡ c = ap (λ (q : Record). q.content) same in
              let knew_is : r.made_knowing ≡ knew n = ap (λ (q : Record). q.made_knowing) same in
              inl
              (record {
                item = ap (λ (q : Record). q.item) same;
                unit = omega arith;
                version = ap (λ (q : Record). q.version) same;
                content = rw unit (e ∙ ap {B = Option Content} Some (sym content));
                knew_it = rw unit knew_is;
              })
          | inr there ↦ elim (more there) [ inl is ↦ inl (later is) | inr old ↦ inr old ]
        ]

-- the record of a unit with a content is there
pub recorded_new :
    (i : ItemId) (v : Version) (knew : ℕ → List Version) (contents : ℕ → Option Content) (n : ℕ) (rs : List Record) (u : ℕ) (c : Content)
    → u < n → contents u ≡ Some c → Has (record_of i u v (knew u) c) (recorded i v knew contents n rs)
recorded_new i v knew contents zero rs u c small is = absurd (omega arith)
recorded_new i v knew contents (suc n) rs u c small is =
    by_content (recorded_new i v knew contents n rs u c) (contents n) refl
  where
    by_content :
        (u < n → contents u ≡ Some c → Has (record_of i u v (knew u) c) (recorded i v knew contents n rs))
        → (o : Option Content) → contents n ≡ o
        → Has (record_of i u v (knew u) c) (recorded_unit i n v (knew n) o (recorded i v knew contents n rs))
    by_content more None e =
        let other : u ≢ n = λ same. let bad : contents n ≡ Some c = rw (sym same) is in cc in
        more (omega arith) is
    by_content more (Some d) e = elim (cases_eq u n) [
      | inl same ↦
          let content : c ≡ d = let there : contents n ≡ Some c = rw (sym same) is in cc in
          inl (subst (λ (x : ℕ). record_of i u v (knew u) c ≡ record_of i x v (knew x) d) same (rw content refl))
      | inr other ↦ inr (more (omega arith) is)
    ]

-- the old records are still there
pub recorded_old :
    (i : ItemId) (v : Version) (knew : ℕ → List Version) (contents : ℕ → Option Content) (n : ℕ) (rs : List Record) (r : Record)
    → Has r rs → Has r (recorded i v knew contents n rs)
recorded_old i v knew contents zero rs r has = has
recorded_old i v knew contents (suc n) rs r has = by_content (recorded_old i v knew contents n rs r has) (contents n)
  where
    by_content :
        Has r (recorded i v knew contents n rs) → (o : Option Content)
        → Has r (recorded_unit i n v (knew n) o (recorded i v knew contents n rs))
    by_content old None = old
    by_content old (Some c) = inr old

pub recorded_grows :
    (rs : List Record) (i : ItemId) (v : Version) (knew : ℕ → List Version) (contents : ℕ → Option Content) (n : ℕ)
    → IsMaking rs i v knew contents n → Grows rs (recorded i v knew contents n rs)
recorded_grows rs i v knew contents n m = record {
  kept = λ r has. recorded_old i v knew contents n rs r has;
  was = λ r j u x has at old.
      elim (recorded_cases i v knew contents n rs r has) [
        | inl is ↦
            absurd
            (m.unused r.unit r.content is.unit is.content old.0 old.1 (old.2.version ∙ sym at.version ∙ is.version))
        | inr there ↦ there
      ];
}

pub recorded_history :
    (rs : List Record) (i : ItemId) (v : Version) (knew : ℕ → List Version) (contents : ℕ → Option Content) (n : ℕ)
    → IsMaking rs i v knew contents n → IsHistory rs → IsHistory (recorded i v knew contents n rs)
recorded_history rs i v knew contents zero m history = history
recorded_history rs i v knew contents (suc n) m history =
    let before = fewer rs i v knew contents n m in
    by_content (recorded_history rs i v knew contents n before history) before (contents n) refl
  where
    by_content :
        IsHistory (recorded i v knew contents n rs) → IsMaking rs i v knew contents n
        → (o : Option Content) → contents n ≡ o
        → IsHistory (recorded_unit i n v (knew n) o (recorded i v knew contents n rs))
    by_content done before None e = done
    by_content done before (Some c) e = (
      record {
        first = λ made.
            elim (recorded_cases i v knew contents n rs made.0 made.1) [
              | inl is ↦ let small = is.unit in let same = made.2.unit in omega arith
              | inr old ↦ m.unused n c (omega arith) e made.0 old made.2.version
            ];
        knew = closed_stays rs (recorded i v knew contents n rs) i n (knew n) (knew n)
            (recorded_grows rs i v knew contents n before) (same_self (knew n)) (m.closed n (omega arith));
      },
      done,
    )

-- the record of the new version at a unit is the one that came
pub new_record :
    (rs : List Record) (i : ItemId) (v : Version) (knew : ℕ → List Version) (contents : ℕ → Option Content) (n u : ℕ) (c : Content)
    → IsMaking rs i v knew contents n → u < n → contents u ≡ Some c
    → (r : Record) → Has r (recorded i v knew contents n rs) → IsAt r i u v
    → (r.content ≡ c) × (r.made_knowing ≡ knew u)
new_record rs i v knew contents n u c m small is r has at =
    elim (recorded_cases i v knew contents n rs r has) [
      | inl new ↦
          let content : contents u ≡ Some r.content = rw (sym at.unit) new.content in
          (cc, rw (sym at.unit) new.knew_it)
      | inr old ↦ absurd (m.unused u c small is r old at.version)
    ]

-- the new version, at a unit with a content: what is known with it is closed, and it is the latest
pub made_closed :
    (rs : List Record) (i : ItemId) (v : Version) (knew : ℕ → List Version) (contents : ℕ → Option Content) (n u : ℕ) (o : Option Content)
    → IsMaking rs i v knew contents n → u < n → contents u ≡ o
    → IsClosed (recorded i v knew contents n rs) i u (known_with v (knew u) o)
made_closed rs i v knew contents n u None m small is =
    closed_stays rs (recorded i v knew contents n rs) i u (knew u) (knew u) (recorded_grows rs i v knew contents n m)
    (same_self (knew u)) (m.closed u small)
made_closed rs i v knew contents n u (Some c) m small is =
    let qs = recorded i v knew contents n rs in
    let old =
    closed_stays rs qs i u (knew u) (knew u) (recorded_grows rs i v knew contents n m) (same_self (knew u)) (m.closed u small)
    in
    record {
      made = λ x has.
          elim has [
            | inl e ↦
                rw e (
                  record_of i u v (knew u) c,
                  recorded_new i v knew contents n rs u c small is,
                  record { item = refl; unit = refl; version = refl },
                )
            | inr there ↦ old.made x there
          ];
      closed = λ x r has there at y knew_it.
          elim has [
            | inl e ↦
                let here : IsAt r i u v = record { item = at.item; unit = at.unit; version = at.version ∙ e } in
                let is_new = new_record rs i v knew contents n u c m small is r there here in
                inr (subst (λ (ys : List Version). Has y ys) is_new.1 knew_it)
            | inr before ↦ inr (old.closed x r before there at y knew_it)
          ];
    }

pub made_latest :
    (rs : List Record) (i : ItemId) (v : Version) (knew : ℕ → List Version) (contents : ℕ → Option Content) (n u : ℕ) (c : Content)
    → u < n → contents u ≡ Some c
    → IsLatest (recorded i v knew contents n rs) i u (known_with v (knew u) (Some c)) v
made_latest rs i v knew contents n u c small is = (
  inl refl,
  λ x has. elim has [
    | inl e ↦ inl e
    | inr there ↦
        inr (
          record_of i u v (knew u) c,
          recorded_new i v knew contents n rs u c small is,
          record { item = refl; unit = refl; version = refl },
          there,
        )
  ],
)

pub made_deletes :
    (rs : List Record) (i : ItemId) (v : Version) (knew : ℕ → List Version) (contents : ℕ → Option Content) (n u : ℕ)
    → u < n → contents u ≡ Some Deleted → IsDeletion (recorded i v knew contents n rs) i u v
made_deletes rs i v knew contents n u small is = (
  record_of i u v (knew u) Deleted,
  recorded_new i v knew contents n rs u Deleted small is,
  record { item = refl; unit = refl; version = refl },
  refl,
)

-- a unit whose content deletes nothing has a live latest version after the making, if it had one before
-- or has a content
pub made_lives :
    (rs : List Record) (i : ItemId) (v : Version) (knew : ℕ → List Version) (contents : ℕ → Option Content) (n u : ℕ) (o : Option Content)
    → IsMaking rs i v knew contents n → u < n → contents u ≡ o → o ≢ Some Deleted
    → (o ≡ None → HasLiveLatest rs i u (knew u))
    → HasLiveLatest (recorded i v knew contents n rs) i u (known_with v (knew u) o)
made_lives rs i v knew contents n u None m small is writes before =
    live_latest_stays rs (recorded i v knew contents n rs) i u (knew u) (knew u) (recorded_grows rs i v knew contents n m)
    (same_self (knew u)) (m.closed u small) (before refl)
made_lives rs i v knew contents n u (Some c) m small is writes before = (
  v,
  made_latest rs i v knew contents n u c small is,
  λ d.
      let is_new = new_record rs i v knew contents n u c m small is d.0 d.1 d.2 in
      writes (ap {B = Option Content} Some (sym is_new.0 ∙ d.3)),
)
