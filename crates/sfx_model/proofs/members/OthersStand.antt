-- A step of one site leaves the members of the other sites standing.
use Rattle.std.proofs.Common.{◌≡◌, ◌≢◌, ℕ, ◌<◌, ◌≤◌, ◌⊎◌, ◌↔◌, List, Option, Some, None, inl, inr, sym, ◌∙◌, ap, subst, arith}
use Rattle.std.proofs.lemmas.Bool.{cases_eq}
use Rattle.sfx_ids.specs.declared.cut.Cut.{Cut}
use Rattle.sfx_ids.specs.declared.cut.Cut.TheVariants.{At}
use Rattle.sfx_ids.specs.declared.item_id.ItemId.{ItemId}
use Rattle.sfx_ids.specs.declared.version.Version.{Version}
use Rattle.sfx_segments.specs.Segments.{IsPlace}
use Rattle.sfx_model.specs.world.Sets.{Has}
use Rattle.sfx_model.specs.world.World.{Record, World, Site, Holding, WellFormed, holding, Made, IsContained}
use Rattle.sfx_model.specs.world.Events.{site_of, put_site}
use Rattle.sfx_item.specs.declared.cell.Cell.{Cell}
use Rattle.sfx_item.specs.Item.{ItemState, Live, Dead}
use Rattle.sfx_model.specs.members.Members.{Shown, Represents, ItemRepresents, IsLatestCell, state_of, clock_among}
use Rattle.sfx_model.proofs.world.Step.{Step, Grows, IsMadeBy, Moves}
use Rattle.sfx_model.proofs.world.SetsLemmas.{same_self}
use Rattle.sfx_model.proofs.world.WorldLemmas.{latest_stays, dead_at_stays}
use Rattle.sfx_model.proofs.world.SiteLemmas.{found, one_site, clock_found, clock_grows, clock_there}

-- A cell stays the latest while records only come.
pub cell_on :
    (rs qs : List Record) (i : ItemId) (u : ℕ) (vs : List Version) (c : Cell)
    → Grows rs qs → IsLatestCell rs i u vs c → IsLatestCell qs i u vs c
cell_on rs qs i u vs c g is = record {
  latest = latest_stays rs qs i u vs vs c.version g (same_self vs) is.latest;
  value = (is.value.0, g.kept is.value.0 is.value.1, is.value.2, is.value.3);
}

-- A member's item stands on while records only come
pub item_on :
    (units : ℕ) (rs qs : List Record) (i : ItemId) (h : Holding) (o : Option ItemState)
    → Grows rs qs → ItemRepresents units rs i h o → ItemRepresents units qs i h o
item_on units rs qs i h None g stands = stands
item_on units rs qs i h (Some (Live cells)) g stands = record {
  is_present = stands.is_present;
  latest = record {
    whole = stands.latest.whole;
    each =
        λ u c is. cell_on rs qs i u (h.known u) c g (stands.latest.each u c is);
  };
}
item_on units rs qs i h (Some (Dead v)) g stands = record {
  is_present = stands.is_present;
  latest = dead_at_stays rs qs i units h.known h.known v g (λ u small. same_self (h.known u)) stands.latest;
}

-- What a site of the world knows was made by tick of the maker's clock
pub known_bounded :
    (w : World) (t maker : Site) (i : ItemId) (u : ℕ) (v : Version)
    → WellFormed w → Has t w.sites → Has maker w.sites → maker.id ≡ v.replica → Has v (t.known i u)
    → v.tick ≤ maker.clock
known_bounded w t maker i u v ok has_t has_maker is has =
    let (r, has_r, at_r) = ((ok.sound t has_t i).cells u).made v has in
    let (s, has_s, made) = (ok.records r has_r).maker in
    let same : s ≡ maker =
    one_site w.sites s maker ok.distinct has_s has_maker
    (made.replica ∙ ap (λ (x : Version). x.replica) at_r.version ∙ sym is) in
    let clocks : s.clock ≡ maker.clock = ap (λ (x : Site). x.clock) same in
    let ticks : r.version.tick ≡ v.tick = ap (λ (x : Version). x.tick) at_r.version in
    omega (arith, made.most)

-- The member of another site stands on
pub other_stands :
    (w : World) (old new : Site) (rs : List Record) (s : Site) (m : Shown)
    → site_of w.sites new.id ≡ Some old → WellFormed w → Step w old new rs → Has s w.sites → Represents w s m
    → Represents (record w { records = rs; sites = put_site new w.sites }) s m
other_stands w old new rs s m at_old ok step has rep = record {
  exact = λ i u v made. exact_of i u v made (step.news made.0 made.1);
  items = λ i. item_on w.units w.records rs i (holding s i) (state_of m.items i) step.grows (rep.items i);
  header = rep.header;
  bounded = record {
    vectors = λ at u r there small. let up = clock_grows w.sites new old r at_old step.follows.clock in let low =
        rep.bounded.vectors at u r there small in omega arith;
    forgotten = λ at r there. let up = clock_grows w.sites new old r at_old step.follows.clock in let low =
        rep.bounded.forgotten at r there in omega arith;
  };
}
  where
    exact_of :
        (i : ItemId) (u : ℕ) (v : Version) (made : Made rs i u v)
        → (IsMadeBy w old new rs made.0 ⊎ Has made.0 w.records)
        → IsContained (m.vector_at (At i) u) v ↔ Has v (s.known i u)
    exact_of i u v made (inr there) = rep.exact i u v (made.0, there, made.2)
    exact_of i u v made (inl by) =
        let small : u < w.units = subst (λ (x : ℕ). x < w.units) made.2.unit by.unit in
        let replica : new.id ≡ v.replica = by.maker ∙ ap (λ (x : Version). x.replica) made.2.version in
        let tick : made.0.version.tick ≡ v.tick = ap (λ (x : Version). x.tick) made.2.version in
        let newer : old.clock < v.tick = omega (arith, by.newer) in
        let clock : clock_among w.sites v.replica ≡ old.clock =
        subst (λ (x : ℕ). clock_among w.sites x ≡ old.clock) replica (clock_found w.sites new.id old at_old) in (
          (λ contained. let low = rep.bounded.vectors (At i) u v.replica tt small in absurd (omega arith)),
          (λ has_v. let low : v.tick ≤ old.clock =
              known_bounded w s old i u v ok has ((found w.sites new.id old at_old).0)
              ((found w.sites new.id old at_old).1 ∙ replica) has_v in absurd (omega arith)),
        )

-- A made version has a record whose replica's site is this one, so its tick is at most the site's clock.
pub made_bounded :
    (w : World) (s : Site) (i : ItemId) (u : ℕ) (v : Version)
    → WellFormed w → Has s w.sites → s.id ≡ v.replica → Made w.records i u v → v.tick ≤ s.clock
made_bounded w s i u v ok has_s is (r, has_r, at_r) =
    let (x, has_x, made) = (ok.records r has_r).maker in
    let same : x ≡ s = one_site w.sites x s ok.distinct has_x has_s
    (made.replica ∙ ap (λ (y : Version). y.replica) at_r.version ∙ sym is) in
    let clocks : x.clock ≡ s.clock = ap (λ (y : Site). y.clock) same in
    let ticks : r.version.tick ≡ v.tick = ap (λ (y : Version). y.tick) at_r.version in
    omega (arith, made.most)

-- The member of the changed site represents it, where it moved as the event says.
pub moved_stands :
    (w : World) (old new : Site) (rs : List Record) (m : Shown)
    → site_of w.sites new.id ≡ Some old → WellFormed w → Step w old new rs → Moves w old new rs m
    → Represents (record w { records = rs; sites = put_site new w.sites }) new m
moved_stands w old new rs m at_old ok step moves = record {
  exact = λ i u v made. elim (cases_eq v.replica new.id) [
    | inl own ↦ own_exact i u v made own (step.news made.0 made.1)
    | inr other ↦ other_exact i u v made other (step.news made.0 made.1)
  ];
  items = moves.items;
  header = record { id = moves.id; clock = moves.clock; forgotten = moves.forgotten };
  bounded = record {
    vectors = bounded_at;
    forgotten = λ place r there. let up =
        clock_grows w.sites new old r at_old step.follows.clock in let low = moves.forgotten_bounded place r there in
        omega arith;
  };
}
  where
    moved_has :
        (i : ItemId) (u : ℕ) (v : Version) (made : Made rs i u v)
        → Has made.0.version (new.known made.0.item made.0.unit) → Has v (new.known i u)
    moved_has i u v made has =
        subst (λ (x : Version). Has x (new.known i u)) made.2.version
        (subst (λ (y : ℕ). Has made.0.version (new.known i y)) made.2.unit
        (subst (λ (j : ItemId). Has made.0.version (new.known j made.0.unit)) made.2.item has))

    contained_of :
        (i : ItemId) (u : ℕ) (v : Version)
        → u < w.units → v.replica ≡ new.id → v.tick ≤ new.clock → IsContained (m.vector_at (At i) u) v
    contained_of i u v small own low =
        let e : m.vector_at (At i) u v.replica ≡ new.clock =
        subst (λ (r : ℕ). m.vector_at (At i) u r ≡ new.clock) (sym own) (moves.own (At i) u tt small) in
        omega arith

    own_exact :
        (i : ItemId) (u : ℕ) (v : Version) (made : Made rs i u v)
        → v.replica ≡ new.id → (IsMadeBy w old new rs made.0 ⊎ Has made.0 w.records)
        → IsContained (m.vector_at (At i) u) v ↔ Has v (new.known i u)
    own_exact i u v made own (inl by) =
        let small : u < w.units = subst (λ (x : ℕ). x < w.units) made.2.unit by.unit in
        let ticks : made.0.version.tick ≡ v.tick = ap (λ (x : Version). x.tick) made.2.version in (
          (λ _. moved_has i u v made by.known),
          (λ _. contained_of i u v small own (omega (arith, by.most))),
        )
    own_exact i u v made own (inr there) =
        let small : u < w.units = subst (λ (x : ℕ). x < w.units) made.2.unit (ok.records made.0 there).unit in
        let replicas : made.0.version.replica ≡ v.replica = ap (λ (x : Version). x.replica) made.2.version in
        let is : old.id ≡ made.0.version.replica = (found w.sites new.id old at_old).1 ∙ sym own ∙ sym replicas in
        let has_old = (found w.sites new.id old at_old).0 in
        let known : Has made.0.version (old.known made.0.item made.0.unit) = ok.own made.0 old there has_old is in
        let low : v.tick ≤ old.clock = made_bounded w old i u v ok has_old (is ∙ replicas) (made.0, there, made.2) in (
          (λ _. moved_has i u v made (step.more made.0.item made.0.unit made.0.version known)),
          (λ _. contained_of i u v small own (omega (arith, step.follows.clock))),
        )

    other_exact :
        (i : ItemId) (u : ℕ) (v : Version) (made : Made rs i u v)
        → v.replica ≢ new.id → (IsMadeBy w old new rs made.0 ⊎ Has made.0 w.records)
        → IsContained (m.vector_at (At i) u) v ↔ Has v (new.known i u)
    other_exact i u v made other (inl by) =
        absurd (other (sym (by.maker ∙ ap (λ (x : Version). x.replica) made.2.version)))
    other_exact i u v made other (inr there) = moves.others i u v (made.0, there, made.2) other

    bounded_at :
        (place : Cut) (u r : ℕ)
        → IsPlace place → u < w.units → m.vector_at place u r ≤ clock_among (put_site new w.sites) r
    bounded_at place u r there small = elim (cases_eq r new.id) [
      | inl own ↦
          let e : m.vector_at place u r ≡ new.clock =
          subst (λ (x : ℕ). m.vector_at place u x ≡ new.clock) (sym own) (moves.own place u there small) in
          let c : clock_among (put_site new w.sites) r ≡ new.clock =
          subst (λ (x : ℕ). clock_among (put_site new w.sites) x ≡ new.clock) (sym own)
          (clock_there w.sites new old at_old) in
          omega arith
      | inr other ↦
          let up = clock_grows w.sites new old r at_old step.follows.clock in
          let low = moves.bounded place u r there small other in
          omega arith
    ]
