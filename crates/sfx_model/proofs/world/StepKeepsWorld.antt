use Rattle.std.proofs.Common.{◌≡◌, ℕ, ◌≤◌, inl, inr, ◌∙◌, sym, ap, refl, subst, Bool, true, false, if◌then◌else◌, nat_eq, List, Some, arith, le_refl}
use Rattle.std.proofs.lemmas.Bool.{eqb-true, eq-eqb, and_parts, cases_eq}
use Rattle.sfx_ids.specs.declared.cut.Cut.{Cut}
use Rattle.sfx_ids.specs.declared.cut.Cut.TheVariants.{At}
use Rattle.sfx_ids.specs.declared.item_id.ItemId.{ItemId}
use Rattle.sfx_ids.specs.declared.version.Version.{Version}
use Rattle.sfx_model.specs.world.Sets.{Has, IsPart}
use Rattle.sfx_model.specs.world.World.{Record, Site, World, holding, IsMaker, IsOfWorld, IsSoundItem, WellFormed}
use Rattle.sfx_model.specs.world.Events.{same_item, site_of, put_site, IsFresh}
use Rattle.sfx_model.proofs.world.Step.{Grows, Step}
use Rattle.sfx_model.proofs.world.SetsLemmas.{same_self}
use Rattle.sfx_model.proofs.world.WorldLemmas.{item_stays, made_stays}
use Rattle.sfx_model.proofs.world.SiteLemmas.{found, put_cases, put_has, put_there, put_distinct, one_site}
use Rattle.sfx_model.proofs.world.RecordedLemmas.{IsUnused}

-- a fresh version is that of no record
pub fresh_unused : (w : World) (s : Site) (v : Version) → WellFormed w → Has s w.sites → IsFresh s v → IsUnused w.records v
fresh_unused w s v ok there fresh r has same =
    let maker = (ok.records r has).maker in
    let id : maker.0.id ≡ s.id = maker.2.replica ∙ ap (λ (x : Version). x.replica) same ∙ fresh.replica in
    let site = one_site w.sites maker.0 s ok.distinct maker.1 there id in
    let clock : maker.0.clock ≡ s.clock = ap (λ (x : Site). x.clock) site in
    let tick : r.version.tick ≡ v.tick = ap (λ (x : Version). x.tick) same in
    let most = maker.2.most in
    let next = fresh.tick in
    omega arith

-- a step keeps the world well-formed
pub step_keeps :
    (w : World) (old new : Site) (rs : List Record)
    → site_of w.sites new.id ≡ Some old → WellFormed w → Step w old new rs
    → WellFormed (record w { records = rs; sites = put_site new w.sites })
step_keeps w old new rs at ok step =
    let there = found w.sites new.id old at in
    record {
      counted = λ s has. ok.counted old there.0;
      distinct = put_distinct w.sites new ok.distinct;
      history = step.history;
      records = λ r has. elim (step.news r has) [
        | inl is ↦
            record {
              maker = (
                new,
                put_has w.sites new old at,
                record {
                  replica = is.maker;
                  least = let newer = is.newer in omega arith;
                  most = is.most;
                },
              );
              unit = is.unit;
              one_item = is.one_item;
              creation = is.creation;
            }
        | inr before ↦ old_record r before
      ];
      sound = λ s has. elim (put_cases w.sites new s ok.distinct has) [
        | inl e ↦ subst (λ (x : Site). (i : ItemId) → IsSoundItem w.units rs i (holding x i)) (sym e) step.sound
        | inr p ↦ λ i.
            item_stays w.units w.records rs i (holding s i) (holding s i) step.grows (λ u. same_self (s.known i u)) refl
            (λ r. le_refl (s.forgotten (At i) r)) (ok.sound s p.0 i)
      ];
      own = λ r s has here id. elim (step.news r has) [
        | inl is ↦ elim (put_cases w.sites new s ok.distinct here) [
          | inl e ↦ subst (λ (x : Site). Has r.version (x.known r.item r.unit)) (sym e) is.known
          | inr p ↦ absurd (p.1 (id ∙ sym is.maker))
        ]
        | inr before ↦ elim (put_cases w.sites new s ok.distinct here) [
          | inl e ↦
              let id_is : old.id ≡ r.version.replica = sym step.follows.id ∙ ap (λ (x : Site). x.id) (sym e) ∙ id in
              subst (λ (x : Site). Has r.version (x.known r.item r.unit)) (sym e)
              (step.more r.item r.unit r.version (ok.own r old before there.0 id_is))
          | inr p ↦ ok.own r s before p.0 id
        ]
      ];
    }
  where
    old_maker :
        (v : Version) → ((s : Site) × Has s w.sites × IsMaker s v) → (s : Site) × Has s (put_site new w.sites) × IsMaker s v
    old_maker v maker = elim (cases_eq maker.0.id new.id) [
      | inl e ↦
          let there = found w.sites new.id old at in
          let site = one_site w.sites maker.0 old ok.distinct maker.1 there.0 (e ∙ sym there.1) in
          let clock : maker.0.clock ≡ old.clock = ap (λ (x : Site). x.clock) site in (
            new,
            put_has w.sites new old at,
            record {
              replica = sym e ∙ maker.2.replica;
              least = maker.2.least;
              most = let most = maker.2.most in let up = step.follows.clock in omega arith;
            },
          )
      | inr other ↦ (maker.0, put_there w.sites new maker.0 maker.1 other, maker.2)
    ]

    old_record : (r : Record) → Has r w.records → IsOfWorld (record w { records = rs; sites = put_site new w.sites }) r
    old_record r has =
        let is = ok.records r has in
        record {
          maker = old_maker r.version is.maker;
          unit = is.unit;
          one_item = λ q there same. elim (step.news q there) [
            | inl new_q ↦ sym (new_q.one_item r (step.grows.kept r has) (sym same))
            | inr before ↦ is.one_item q before same
          ];
          creation = λ u small. made_stays w.records rs r.item u _ step.grows (is.creation u small);
        }

pub same_item_is : (i j : ItemId) → same_item i j ≡ true → i ≡ j
same_item_is i j e =
    let parts = and_parts (nat_eq i.tick j.tick) (nat_eq i.replica j.replica) e in
    let id_of : ℕ → ℕ → ItemId = λ t r. record { tick = t; replica = r } in
    let whole : id_of i.tick i.replica ≡ id_of j.tick j.replica =
    rw (eqb-true i.tick j.tick parts.0, eqb-true i.replica j.replica parts.1) refl
    in
    whole

pub same_item_self : (i : ItemId) → same_item i i ≡ true
same_item_self i = rw (eq-eqb i.tick i.tick refl, eq-eqb i.replica i.replica refl) refl

-- a sound site stays sound where one item changes and is sound
pub items_sound :
    (units : ℕ) (rs qs : List Record) (s : Site) (i : ItemId) (known : ℕ → List Version) (present : Bool) (forgotten : Cut → ℕ → ℕ)
    → Grows rs qs → ((j : ItemId) → IsSoundItem units rs j (holding s j))
    → ((j : ItemId) (r : ℕ) → s.forgotten (At j) r ≤ forgotten (At j) r)
    → IsSoundItem units qs i (record { known = known; present = present; forgotten = forgotten (At i) })
    → (j : ItemId)
    → IsSoundItem units qs j
    (record {
      known = if same_item j i then known else s.known j;
      present = if same_item j i then present else s.present j;
      forgotten = forgotten (At j);
    })
items_sound units rs qs s i known present forgotten g sound up here j = by_test (same_item j i) refl
  where
    by_test :
        (b : Bool) → same_item j i ≡ b
        → IsSoundItem units qs j
        (record {
          known = if b then known else s.known j;
          present = if b then present else s.present j;
          forgotten = forgotten (At j);
        })
    by_test true e =
        subst
        (λ (x : ItemId). IsSoundItem units qs x (record { known = known; present = present; forgotten = forgotten (At x) }))
        (sym (same_item_is j i e)) here
    by_test false e =
        item_stays units rs qs j (holding s j)
        (record { known = s.known j; present = s.present j; forgotten = forgotten (At j) })
        g (λ u. same_self (s.known j u)) refl (up j) (sound j)

-- what is known grows where it grows at one item
pub items_more :
    (s : Site) (i : ItemId) (known : ℕ → List Version) → ((u : ℕ) → IsPart (s.known i u) (known u))
    → (j : ItemId) (u : ℕ) → IsPart (s.known j u) ((if same_item j i then known else s.known j) u)
items_more s i known more j u = by_test (same_item j i) refl
  where
    by_test : (b : Bool) → same_item j i ≡ b → IsPart (s.known j u) ((if b then known else s.known j) u)
    by_test true e = subst (λ (x : ItemId). IsPart (s.known x u) (known u)) (sym (same_item_is j i e)) (more u)
    by_test false e = λ x h. h

-- the changed item
pub at_item : {A : Type 0} (i : ItemId) (x : A) (other : ItemId → A) → (if same_item i i then x else other i) ≡ x
at_item i x other = rw (same_item_self i) refl
