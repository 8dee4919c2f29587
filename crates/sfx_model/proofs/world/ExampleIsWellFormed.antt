use Rattle.std.proofs.Common.{◌≡◌, ℕ, ◌≤◌, inl, inr, ◌∙◌, sym, ap, refl, subst, Bool, true, false, ◌&&◌, if◌then◌else◌, nat_eq, List, [], ◌∷◌, arith, lit≤}
use Rattle.std.proofs.lemmas.Bool.{eqb-true}
use Rattle.sfx_ids.specs.declared.item_id.ItemId.{ItemId}
use Rattle.sfx_ids.specs.declared.version.Version.{Version}
use Rattle.sfx_ids.specs.ItemId.{creation_of}
use Rattle.sfx_model.specs.world.Sets.{Has}
use Rattle.sfx_model.specs.world.World.{Content, Written, Deleted, Record, Site, holding, IsAt, Made, IsLatest, HasLiveLatest, IsForgotten, IsClosed, IsHistory, IsSoundItem, WellFormed}
use Rattle.sfx_model.specs.world.Events.{same_item}
use Rattle.sfx_model.specs.members.Examples.{example_item, example_version, example_record, edited_records, deleted, example_world}
use Rattle.sfx_model.proofs.world.StepKeepsWorld.{same_item_is}
use Rattle.sfx_model.proofs.world.WrongWorldsRefused.{other_tick}

-- a record of an example
pub record IsExample (clock : ℕ) (known : List Version) (r : Record) : Type 0 where
  pub item : r.item ≡ example_item
  pub unit : r.unit ≡ 0
  pub replica : r.version.replica ≡ 1
  pub least : 1 ≤ r.version.tick
  pub most : r.version.tick ≤ clock
  pub known_it : Has r.version known

-- what makes a world of an example well-formed
pub record IsFine (rs : List Record) (clock : ℕ) (known : List Version) (present : Bool) (forgotten : ℕ) : Type 0 where
  pub history : IsHistory rs
  pub each : (r : Record) → Has r rs → IsExample clock known r
  pub created : Made rs example_item 0 (example_version 1)
  pub closed : IsClosed rs example_item 0 known
  pub held : present ≡ true → HasLiveLatest rs example_item 0 known
  pub cleaned : present ≡ false → (v : Version) → Has v known → IsForgotten rs example_item 0 known (λ r. if nat_eq r 1 then forgotten else 0) v
  pub creation : Has (example_version 1) known

pub fine_item :
    (rs : List Record) (clock : ℕ) (known : List Version) (present : Bool) (forgotten : ℕ)
    → IsFine rs clock known present forgotten
    → IsSoundItem 1 rs example_item
    (record {
      known = λ u. if nat_eq u 0 then known else [];
      present = present;
      forgotten = λ r. if nat_eq r 1 then forgotten else 0;
    })
fine_item rs clock known present forgotten fine = record {
  cells = λ u. by_unit u (nat_eq u 0) refl;
  held = λ is. inl (λ u small.
      let first : 0 ≡ u = omega arith in
      subst (λ (x : ℕ). HasLiveLatest rs example_item x (if nat_eq x 0 then known else [])) first (fine.held is));
  cleaned = λ is u v has. gone is u v (nat_eq u 0) refl has;
  creation = λ u v has x small.
      let first : 0 ≡ x = omega arith in
      subst (λ (y : ℕ). Has (example_version 1) (if nat_eq y 0 then known else [])) first fine.creation;
}
  where
    by_unit : (u : ℕ) (b : Bool) → nat_eq u 0 ≡ b → IsClosed rs example_item u (if b then known else [])
    by_unit u true e = subst (λ (x : ℕ). IsClosed rs example_item x known) (sym (eqb-true u 0 e)) fine.closed
    by_unit u false e = record { made = λ v has. absurd has; closed = λ v r has. absurd has }

    gone :
        present ≡ false → (u : ℕ) (v : Version) (b : Bool) → nat_eq u 0 ≡ b → Has v (if b then known else [])
        → IsForgotten rs example_item u (if b then known else []) (λ r. if nat_eq r 1 then forgotten else 0) v
    gone is u v true e has =
        subst (λ (x : ℕ). IsForgotten rs example_item x known (λ r. if nat_eq r 1 then forgotten else 0) v) (sym (eqb-true u 0 e))
        (fine.cleaned is v has)
    gone is u v false e has = absurd has

pub fine_world :
    (rs : List Record) (clock : ℕ) (known : List Version) (present : Bool) (forgotten : ℕ)
    → IsFine rs clock known present forgotten → WellFormed (example_world rs clock known present forgotten)
fine_world rs clock known present forgotten fine = record {
  counted = λ s has. lit≤ tt;
  distinct = (λ x has. absurd has, tt);
  history = fine.history;
  records = λ r has.
      let is = fine.each r has in
      record {
        maker = (site, inl refl, record { replica = sym is.replica; least = is.least; most = is.most });
        unit = let unit = is.unit in omega arith;
        one_item = λ q there same. (fine.each q there).item ∙ sym is.item;
        creation = λ u small.
            let first : 0 ≡ u = omega arith in
            subst (λ (x : ℕ). Made rs r.item x (creation_of r.item)) first
            (subst (λ (i : ItemId). Made rs i 0 (creation_of i)) (sym is.item) fine.created);
      };
  sound = λ s has. elim has [
    | inl e ↦
        subst (λ (x : Site). (i : ItemId) → IsSoundItem 1 rs i (holding x i)) (sym e)
        (λ i. by_item i (same_item i example_item) refl)
    | inr none ↦ absurd none
  ];
  own = λ r s has there id. elim there [
    | inl e ↦
        let is = fine.each r has in
        subst (λ (x : Site). Has r.version (x.known r.item r.unit)) (sym e)
        (subst (λ (i : ItemId). Has r.version (site.known i r.unit)) (sym is.item)
        (subst (λ (u : ℕ). Has r.version (site.known example_item u)) (sym is.unit) is.known_it))
    | inr none ↦ absurd none
  ];
}
  where
    site : Site
    site = record {
      id = 1;
      clock = clock;
      known = λ i u. if same_item i example_item && nat_eq u 0 then known else [];
      present = λ i. if same_item i example_item then present else false;
      forgotten = λ place r. if nat_eq r 1 then forgotten else 0;
    }

    by_item :
        (i : ItemId) (b : Bool) → same_item i example_item ≡ b
        → IsSoundItem 1 rs i
        (record {
          known = λ u. if b && nat_eq u 0 then known else [];
          present = if b then present else false;
          forgotten = λ r. if nat_eq r 1 then forgotten else 0;
        })
    by_item i true e =
        subst
        (λ (x : ItemId).
        IsSoundItem 1 rs x
        (record {
          known = λ u. if nat_eq u 0 then known else [];
          present = present;
          forgotten = λ r. if nat_eq r 1 then forgotten else 0;
        }))
        (sym (same_item_is i example_item e)) (fine_item rs clock known present forgotten fine)
    by_item i false e = record {
      cells = λ u. record { made = λ v has. absurd has; closed = λ v r has. absurd has };
      held = λ is. absurd (cc);
      cleaned = λ is u v has. absurd has;
      creation = λ u v has. absurd has;
    }

abbrev pub at_tick : (tick : ℕ) (content : Content) (knew : List Version) → IsAt (example_record tick content knew) example_item 0 (example_version tick)
at_tick tick content knew = record { item = refl; unit = refl; version = refl }

pub example_at : (clock tick : ℕ) (known : List Version) (content : Content) (knew : List Version) (r : Record) → r ≡ example_record tick content knew → 1 ≤ tick → tick ≤ clock → Has (example_version tick) known → IsExample clock known r
example_at clock tick known content knew r e least most has =
    subst (λ (x : Record). IsExample clock known x) (sym e)
    (record { item = refl; unit = refl; replica = refl; least = least; most = most; known_it = has })

-- a creation and one further version whose maker knew it

abbrev pub two : Content → List Record
two content = example_record 2 content (example_version 1 ∷ []) ∷ example_record 1 (Written (97 ∷ [])) [] ∷ []

abbrev pub two_known : List Version
two_known = example_version 2 ∷ example_version 1 ∷ []

pub first_closed : IsClosed (example_record 1 (Written (97 ∷ [])) [] ∷ []) example_item 0 (example_version 1 ∷ [])
first_closed = record {
  made = λ v has. elim has [
    | inl e ↦ rw e (example_record 1 (Written (97 ∷ [])) [], inl refl, at_tick 1 (Written (97 ∷ [])) [])
    | inr none ↦ absurd none
  ];
  closed = λ v r has there at x knew. elim there [
    | inl e ↦ absurd (subst (λ (q : Record). Has x q.made_knowing) e knew)
    | inr none ↦ absurd none
  ];
}

pub two_history : (content : Content) → IsHistory (two content)
two_history content = (
  record {
    first = λ made. elim made.1 [
      | inl e ↦ other_tick 1 2 (omega arith) (ap (λ (q : Record). q.version) (sym e) ∙ made.2.version)
      | inr none ↦ none
    ];
    knew = first_closed;
  },
  (
    record {
      first = λ made. made.1;
      knew = record { made = λ v has. absurd has; closed = λ v r has. absurd has };
    },
    tt,
  ),
)

pub two_closed : (content : Content) → IsClosed (two content) example_item 0 two_known
two_closed content = record {
  made = λ v has. elim has [
    | inl e ↦ rw e (example_record 2 content (example_version 1 ∷ []), inl refl, at_tick 2 content (example_version 1 ∷ []))
    | inr rest ↦ elim rest [
      | inl e ↦ rw e (example_record 1 (Written (97 ∷ [])) [], inr (inl refl), at_tick 1 (Written (97 ∷ [])) [])
      | inr none ↦ absurd none
    ]
  ];
  closed = λ v r has there at x knew. elim there [
    | inl e ↦ elim (subst (λ (q : Record). Has x q.made_knowing) e knew) [ inl first ↦ inr (inl first) | inr none ↦ absurd none ]
    | inr rest ↦ elim rest [
      | inl e ↦ absurd (subst (λ (q : Record). Has x q.made_knowing) e knew)
      | inr none ↦ absurd none
    ]
  ];
}

pub two_latest : (content : Content) → IsLatest (two content) example_item 0 two_known (example_version 2)
two_latest content = (
  inl refl,
  λ v has. elim has [
    | inl e ↦ inl e
    | inr first ↦
        inr (
          example_record 2 content (example_version 1 ∷ []),
          inl refl,
          at_tick 2 content (example_version 1 ∷ []),
          first,
        )
  ],
)

pub two_lives : (bytes : List ℕ) → HasLiveLatest (two (Written bytes)) example_item 0 two_known
two_lives bytes = (
  example_version 2,
  two_latest (Written bytes),
  λ d. elim d.1 [
    | inl e ↦ let content : Written bytes ≡ Deleted = ap (λ (q : Record). q.content) (sym e) ∙ d.3 in cc
    | inr rest ↦ elim rest [
      | inl e ↦ let content : Written (97 ∷ []) ≡ Deleted = ap (λ (q : Record). q.content) (sym e) ∙ d.3 in cc
      | inr none ↦ none
    ]
  ],
)

pub two_fine :
    (content : Content) (present : Bool) (forgotten : ℕ)
    → (present ≡ true → HasLiveLatest (two content) example_item 0 two_known)
    → (present ≡ false → (v : Version) → Has v two_known → IsForgotten (two content) example_item 0 two_known (λ r. if nat_eq r 1 then forgotten else 0) v)
    → IsFine (two content) 2 two_known present forgotten
two_fine content present forgotten held cleaned = record {
  history = two_history content;
  each = λ r has. elim has [
    | inl e ↦ example_at 2 2 two_known content (example_version 1 ∷ []) r e (lit≤ tt) (lit≤ tt) (inl refl)
    | inr rest ↦ elim rest [
      | inl e ↦ example_at 2 1 two_known (Written (97 ∷ [])) [] r e (lit≤ tt) (lit≤ tt) (inr (inl refl))
      | inr none ↦ absurd none
    ]
  ];
  created = (example_record 1 (Written (97 ∷ [])) [], inr (inl refl), at_tick 1 (Written (97 ∷ [])) []);
  closed = two_closed content;
  held = held;
  cleaned = cleaned;
  creation = inr (inl refl);
}

pub edit_accepted : WellFormed (example_world edited_records 2 two_known true 0)
edit_accepted =
    fine_world edited_records 2 two_known true 0
    (two_fine (Written (98 ∷ [])) true 0 (λ is. two_lives (98 ∷ [])) (λ is. absurd (cc)))

pub cleanup_accepted : WellFormed (example_world deleted 2 two_known false 2)
cleanup_accepted =
    fine_world deleted 2 two_known false 2
    (two_fine Deleted false 2 (λ is. absurd (cc))
    (λ is v has. (
      example_version 2,
      inl refl,
      (two_latest Deleted).1 v has,
      (
        example_record 2 Deleted (example_version 1 ∷ []),
        inl refl,
        at_tick 2 Deleted (example_version 1 ∷ []),
        refl,
      ),
      lit≤ tt,
    )))
