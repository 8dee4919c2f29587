-- A member that cleans an item away, or joins forgotten deletions, goes on representing its site.
use Rattle.std.proofs.Common.{◌≡◌, ℕ, ◌≤◌, max, ◌&&◌, nat_eq, Bool, true, false, if◌then◌else◌, List, Some, refl, sym, ◌∙◌, ap, subst, arith}
use Rattle.std.proofs.lemmas.Bool.{and_parts, eqb-true}
use Rattle.sfx_ids.specs.declared.cut.Cut.{Cut}
use Rattle.sfx_ids.specs.declared.cut.Cut.TheVariants.{At}
use Rattle.sfx_ids.specs.declared.item_id.ItemId.{ItemId}
use Rattle.sfx_ids.specs.declared.version.Version.{Version}
use Rattle.sfx_segments.specs.Segments.{IsPlace}
use Rattle.sfx_ids.specs.Cut.{is_between}
use Rattle.sfx_model.specs.world.Sets.{Has}
use Rattle.sfx_model.specs.world.World.{World, Site, Snapshot, WellFormed, holding, Made}
use Rattle.sfx_model.specs.world.Events.{same_item, site_of, put_site, site_cleaned, site_forgot, cleaned, forgot, forgotten_with, forgotten_joined, CleanLegal}
use Rattle.sfx_model.specs.members.Members.{Shown, Represents, ItemRepresents, state_of, clock_among}
use Rattle.sfx_model.specs.members.Results.{CleanResult, ForgetResult, BacksForgotten, SameVectors}
use Rattle.sfx_model.proofs.world.WorldLemmas.{grows_self}
use Rattle.sfx_model.proofs.world.SiteLemmas.{site_there, clock_has, clock_grows}
use Rattle.sfx_model.proofs.world.StepKeepsWorld.{same_item_is, same_item_self}
use Rattle.sfx_model.proofs.members.MembersLemmas.{items_after, item_as}
use Rattle.sfx_model.proofs.members.FactsHold.{made_below}

-- The tick of a made version is at most the clock of its replica.
pub made_clock :
    (w : World) (i : ItemId) (u : ℕ) (v : Version)
    → WellFormed w → Made w.records i u v → v.tick ≤ clock_among w.sites v.replica
made_clock w i u v ok (r, has, at) =
    let (s, has_s, made) = (ok.records r has).maker in
    let clock : clock_among w.sites s.id ≡ s.clock = clock_has w.sites s ok.distinct has_s in
    let here : clock_among w.sites v.replica ≡ s.clock =
    subst (λ (x : ℕ). clock_among w.sites x ≡ s.clock) (made.replica ∙ ap (λ (x : Version). x.replica) at.version)
    clock in
    let ticks : r.version.tick ≡ v.tick = ap (λ (x : Version). x.tick) at.version in
    omega (arith, made.most)

-- What the member of a site that learned and made nothing owes: vectors as before, and the site's items
-- and forgotten deletions.
pub record IsQuiet (w : World) (s new : Site) (m n : Shown) : Type 0 where
  pub site_id : new.id ≡ s.id
  pub site_clock : new.clock ≡ s.clock
  pub known : (j : ItemId) → new.known j ≡ s.known j
  pub id : n.id ≡ m.id
  pub clock : n.clock ≡ m.clock
  pub vectors : SameVectors w.units n.vector_at m.vector_at
  pub items : (j : ItemId) → ItemRepresents w.units w.records j (holding new j) (state_of n.items j)
  pub forgotten : (place : Cut) (r : ℕ) → IsPlace place → n.forgotten place r ≡ new.forgotten place r
  pub forgotten_bounded : (place : Cut) (r : ℕ) → IsPlace place → n.forgotten place r ≤ clock_among w.sites r

quiet_stands :
    (w : World) (s new : Site) (m n : Shown)
    → WellFormed w → Has s w.sites → Represents w s m → IsQuiet w s new m n
    → Represents (record w { sites = put_site new w.sites }) new n
quiet_stands w s new m n ok has rep quiet = record {
  exact = λ i u v made.
      let entry = quiet.vectors (At i) u v.replica tt (made_below w i u v ok made) in
      let exact = rep.exact i u v made in (
        (λ contains. subst (λ (f : ℕ → List Version). Has v (f u)) (sym (quiet.known i))
            (exact.0 (subst (λ (t : ℕ). v.tick ≤ t) entry contains))),
        (λ there. subst (λ (t : ℕ). v.tick ≤ t) (sym entry)
            (exact.1 (subst (λ (f : ℕ → List Version). Has v (f u)) (quiet.known i) there))),
      );
  items = quiet.items;
  header = record {
    id = quiet.id ∙ rep.header.id ∙ sym quiet.site_id;
    clock =
        quiet.clock ∙ rep.header.clock ∙ sym quiet.site_clock;
    forgotten = quiet.forgotten;
  };
  bounded = record {
    vectors = λ place u r there small. let up = grown r in let low = rep.bounded.vectors place u r there small in
        let e = quiet.vectors place u r there small in omega arith;
    forgotten = λ place r there. let up = grown r in let low = quiet.forgotten_bounded place r there in omega arith;
  };
}
  where
    grown : (r : ℕ) → clock_among w.sites r ≤ clock_among (put_site new w.sites) r
    grown r =
        let there : site_of w.sites new.id ≡ Some s =
        subst (λ (x : ℕ). site_of w.sites x ≡ Some s) (sym quiet.site_id) (site_there w.sites s ok.distinct has)
        in
        clock_grows w.sites new s r there (omega (arith, quiet.site_clock))

-- Both ways of one item, where what is known of it stays.
known_one : (s : Site) (i j : ItemId) → (if same_item j i then s.known i else s.known j) ≡ s.known j
known_one s i j = by_test (same_item j i) refl
  where
    by_test : (b : Bool) → same_item j i ≡ b → (if b then s.known i else s.known j) ≡ s.known j
    by_test true e = ap s.known (sym (same_item_is j i e))
    by_test false e = refl

-- A raised entry stays within the clocks where the version is within the clock of its replica.
raised_bounded :
    (w : World) (forgotten : Cut → ℕ → ℕ) (v : Version) (lo hi place : Cut) (r : ℕ)
    → v.tick ≤ clock_among w.sites v.replica → forgotten place r ≤ clock_among w.sites r
    → forgotten_with forgotten v lo hi place r ≤ clock_among w.sites r
raised_bounded w forgotten v lo hi place r low before = by_test (is_between lo hi place && nat_eq r v.replica) refl
  where
    by_test :
        (b : Bool)
        → (is_between lo hi place && nat_eq r v.replica) ≡ b
        → (if b then max (forgotten place r) v.tick else forgotten place r) ≤ clock_among w.sites r
    by_test true e =
        let same : r ≡ v.replica =
        eqb-true r v.replica (and_parts (is_between lo hi place) (nat_eq r v.replica) e).1 in
        let high : v.tick ≤ clock_among w.sites r = subst (λ (x : ℕ). v.tick ≤ clock_among w.sites x) (sym same) low in
        omega arith
    by_test false e = before

-- A member that cleaned an item away represents its site.
pub clean_stands :
    (w : World) (s : Site) (i : ItemId) (v : Version) (lo hi : Cut) (m n : Shown)
    → WellFormed w → Has s w.sites → CleanLegal w s i v lo hi → Represents w s m → CleanResult w.units i v lo hi m n
    → Represents (cleaned w s i v lo hi) (site_cleaned s i v lo hi) n
clean_stands w s i v lo hi m n ok has legal rep result =
    quiet_stands w s (site_cleaned s i v lo hi) m n ok has rep (record {
      site_id = refl;
      site_clock = refl;
      known = λ j. known_one s i j;
      id = result.id;
      clock = result.clock;
      vectors = result.vectors;
      items = items_after w.units w.records w.records i s (site_cleaned s i v lo hi) m n (grows_self w.records) rep.items
          result.others (λ j other. (rw other refl, rw other refl))
          (subst (λ (o : _). ItemRepresents w.units w.records i (holding (site_cleaned s i v lo hi) i) o)
          (sym result.item) (rw (same_item_self i) refl));
      forgotten = λ place r there. result.forgotten place r there ∙ rw (rep.header.forgotten place r there) refl;
      forgotten_bounded = λ place r there. subst (λ (t : ℕ). t ≤ clock_among w.sites r)
          (sym (result.forgotten place r there))
          (raised_bounded w m.forgotten v lo hi place r low (rep.bounded.forgotten place r there));
    })
  where
    low : v.tick ≤ clock_among w.sites v.replica
    low = let deletes = (legal.dead 0 (ok.counted s has)).1 in made_clock w i 0 v ok (deletes.0, deletes.1, deletes.2)

-- Joined entries stay within the clocks where both do.
joined_bounded :
    (w : World) (forgotten seen : Cut → ℕ → ℕ) (lo hi place : Cut) (r : ℕ)
    → (is_between lo hi place ≡ true → seen place r ≤ clock_among w.sites r) → forgotten place r ≤ clock_among w.sites r
    → forgotten_joined forgotten seen lo hi place r ≤ clock_among w.sites r
joined_bounded w forgotten seen lo hi place r high before = by_test (is_between lo hi place) refl
  where
    by_test :
        (b : Bool)
        → is_between lo hi place ≡ b
        → (if b then max (forgotten place r) (seen place r) else forgotten place r) ≤ clock_among w.sites r
    by_test true e = let other = high e in omega arith
    by_test false e = before

-- Forgotten deletions joined with what backs a snapshot's are joined with the snapshot's.
joined_same :
    (w : World) (snapshot : Snapshot) (forgotten here seen : Cut → ℕ → ℕ) (lo hi place : Cut) (r : ℕ)
    → BacksForgotten w snapshot lo hi seen → IsPlace place → forgotten place r ≡ here place r
    → forgotten_joined forgotten seen lo hi place r ≡ forgotten_joined here snapshot.forgotten lo hi place r
joined_same w snapshot forgotten here seen lo hi place r backs there same = by_test (is_between lo hi place) refl
  where
    by_test :
        (b : Bool)
        → is_between lo hi place ≡ b
        → (if b then max (forgotten place r) (seen place r) else forgotten place r) ≡ (if b then max (here place r)
        (snapshot.forgotten place r) else here place r)
    by_test true e = rw (same, backs.same place r there e) refl
    by_test false e = same

-- A member that joined a snapshot's forgotten deletions represents its site.
pub forget_stands :
    (w : World) (s : Site) (snapshot : Snapshot) (seen : Cut → ℕ → ℕ) (lo hi : Cut) (m n : Shown)
    → WellFormed w → Has s w.sites → Represents w s m → BacksForgotten w snapshot lo hi seen
    → ForgetResult w.units seen lo hi m n → Represents (forgot w s snapshot lo hi) (site_forgot s snapshot lo hi) n
forget_stands w s snapshot seen lo hi m n ok has rep backs result =
    quiet_stands w s (site_forgot s snapshot lo hi) m n ok has rep (record {
      site_id = refl;
      site_clock = refl;
      known = λ j. refl;
      id = result.id;
      clock = result.clock;
      vectors = result.vectors;
      items = λ j. item_as w.units w.records j (holding s j) (holding (site_forgot s snapshot lo hi) j)
          (state_of n.items j) refl refl
          (subst (λ (o : _). ItemRepresents w.units w.records j (holding s j) o) (sym (result.items j)) (rep.items j));
      forgotten = λ place r there. result.forgotten place r there
          ∙ joined_same w snapshot m.forgotten s.forgotten seen lo hi place r backs there
          (rep.header.forgotten place r there);
      forgotten_bounded = λ place r there. subst (λ (t : ℕ). t ≤ clock_among w.sites r)
          (sym (result.forgotten place r there))
          (joined_bounded w m.forgotten seen lo hi place r (λ in_range. backs.bounded place r there in_range)
          (rep.bounded.forgotten place r there));
    })
