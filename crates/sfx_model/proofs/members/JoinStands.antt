-- A replica that joins: its new member represents it, and the members of the others stay.
use Rattle.std.proofs.Common.{◌≡◌, ◌≢◌, ℕ, ◌<◌, ◌≤◌, nat_eq, Bool, true, false, if◌then◌else◌, List, [], ◌∷◌, ◌++◌, Some, inl, inr, refl, sym, ap, subst, arith}
use Rattle.std.proofs.lemmas.Bool.{eq-eqb, eqb-true}
use Rattle.sfx_ids.specs.declared.cut.Cut.TheVariants.{At}
use Rattle.sfx_ids.specs.declared.version.Version.{Version}
use Rattle.sfx_model.specs.world.Sets.{Has}
use Rattle.sfx_model.specs.world.World.{World, Site, WellFormed, holding}
use Rattle.sfx_model.specs.world.Events.{site_of, new_site, with_new_site}
use Rattle.sfx_item.specs.Item.{ItemData}
use Rattle.sfx_model.specs.members.Members.{Shown, Represents, ItemRepresents, state_of, clock_among}
use Rattle.sfx_model.specs.members.Replica.{IsNewMember}

-- A site is found as before where one more comes behind.
pub found_still :
    (ss : List Site) (new : Site) (id : ℕ) (s : Site)
    → site_of ss id ≡ Some s → site_of (ss ++ new ∷ []) id ≡ Some s
found_still [] new id s e = cc
found_still (x ∷ xs) new id s e = by_test (found_still xs new id s) (nat_eq x.id id) e
  where
    by_test :
        (site_of xs id ≡ Some s → site_of (xs ++ new ∷ []) id ≡ Some s)
        → (b : Bool) → (if b then Some x else site_of xs id) ≡ Some s
        → (if b then Some x else site_of (xs ++ new ∷ []) id) ≡ Some s
    by_test rest true e = e
    by_test rest false e = rest e

-- The new site is found, where no other has its id.
pub found_new :
    (ss : List Site) (new : Site)
    → ((s : Site) → Has s ss → s.id ≢ new.id) → site_of (ss ++ new ∷ []) new.id ≡ Some new
found_new [] new apart = rw (eq-eqb new.id new.id refl) refl
found_new (x ∷ xs) new apart = by_test (found_new xs new (λ s has. apart s (inr has))) (nat_eq x.id new.id) refl
  where
    by_test :
        site_of (xs ++ new ∷ []) new.id ≡ Some new
        → (b : Bool) → nat_eq x.id new.id ≡ b → (if b then Some x else site_of (xs ++ new ∷ []) new.id) ≡ Some new
    by_test rest true e = absurd (apart x (inl refl) (eqb-true x.id new.id e))
    by_test rest false e = rest

-- No clock falls where one more site comes.
pub clock_still : (ss : List Site) (new : Site) (r : ℕ) → clock_among ss r ≤ clock_among (ss ++ new ∷ []) r
clock_still [] new r = omega arith
clock_still (x ∷ xs) new r = by_test (clock_still xs new r) (nat_eq x.id r)
  where
    by_test :
        clock_among xs r ≤ clock_among (xs ++ new ∷ []) r
        → (b : Bool) → (if b then x.clock else clock_among xs r) ≤ (if b then x.clock else clock_among (xs ++ new ∷ []) r)
    by_test rest true = omega arith
    by_test rest false = rest

-- The member of another replica stays.
pub join_others :
    (w : World) (id : ℕ) (s : Site) (m : Shown)
    → Represents w s m → Represents (with_new_site w id) s m
join_others w id s m rep = record {
  exact = rep.exact;
  items = rep.items;
  header = rep.header;
  bounded = record {
    vectors = λ place u r there small. let up = clock_still w.sites (new_site id) r in let low =
        rep.bounded.vectors place u r there small in omega arith;
    forgotten = λ place r there. let up = clock_still w.sites (new_site id) r in let low =
        rep.bounded.forgotten place r there in omega arith;
  };
}

-- The member of the new replica represents its site.
pub join_new :
    (w : World) (id : ℕ) (m : Shown)
    → WellFormed w → IsNewMember w.units id m → Represents (with_new_site w id) (new_site id) m
join_new w id m ok new = record {
  exact = λ i u v made.
      let (s, has, maker) = (ok.records made.0 made.1).maker in
      let small : u < w.units = subst (λ (x : ℕ). x < w.units) made.2.unit (ok.records made.0 made.1).unit in
      let ticks : made.0.version.tick ≡ v.tick = ap (λ (x : Version). x.tick) made.2.version in (
        (λ contains. let e = new.vectors (At i) u v.replica tt small in absurd (omega (arith, maker.least))),
        (λ has_v. absurd has_v),
      );
  items = λ i. subst (λ (xs : List ItemData). ItemRepresents w.units w.records i (holding (new_site id) i)
      (state_of xs i)) (sym new.items) refl;
  header = record { id = new.id_is; clock = new.clock; forgotten = new.forgotten };
  bounded = record {
    vectors = λ place u r there small. let e = new.vectors place u r there small in omega arith;
    forgotten = λ place r there. let e = new.forgotten place r there in omega arith;
  };
}
