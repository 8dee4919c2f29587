use Rattle.std.proofs.Common.{◌≡◌, ◌≢◌, ℕ, ◌≤◌, ◌⊎◌, inl, inr, ◌∙◌, sym, ap, refl, Bool, true, false, if◌then◌else◌, nat_eq, List, [], ◌∷◌, Option, Some, arith, le_refl}
use Rattle.std.proofs.lemmas.Bool.{eqb-true, eqb-false, eq-eqb, ne_eqb}
use Rattle.sfx_model.specs.world.Sets.{Has}
use Rattle.sfx_model.specs.world.World.{Site, AreDistinct}
use Rattle.sfx_model.specs.world.Events.{site_of, put_site}
use Rattle.sfx_model.specs.members.Members.{clock_among}

pub found : (ss : List Site) (id : ℕ) (s : Site) → site_of ss id ≡ Some s → Has s ss × (s.id ≡ id)
found [] id s e = cc
found (x ∷ xs) id s e = by_test (found xs id s) (nat_eq x.id id) refl e
  where
    by_test :
        (site_of xs id ≡ Some s → Has s xs × (s.id ≡ id)) → (b : Bool) → nat_eq x.id id ≡ b
        → (if b then Some x else site_of xs id) ≡ Some s → Has s (x ∷ xs) × (s.id ≡ id)
    by_test more true t f =
        let same : s ≡ x = cc in
        (inl same, ap (λ (y : Site). y.id) same ∙ eqb-true x.id id t)
    by_test more false t f = let p = more f in (inr p.0, p.1)

-- where the sites differ, each is found by its id
pub site_there : (ss : List Site) (s : Site) → AreDistinct ss → Has s ss → site_of ss s.id ≡ Some s
site_there [] s d has = absurd has
site_there (x ∷ xs) s d has = by_test (site_there xs s d.1) (nat_eq x.id s.id) refl has
  where
    by_test :
        (Has s xs → site_of xs s.id ≡ Some s) → (b : Bool) → nat_eq x.id s.id ≡ b → Has s (x ∷ xs)
        → (if b then Some x else site_of xs s.id) ≡ Some s
    by_test more true t h =
        elim h [
          | inl e ↦ ap {B = Option Site} Some (sym e)
          | inr there ↦ absurd (d.0 s there (sym (eqb-true x.id s.id t)))
        ]
    by_test more false t h =
        elim h [
          | inl e ↦ absurd (eqb-false x.id s.id t (ap (λ (y : Site). y.id) (sym e)))
          | inr there ↦ more there
        ]

-- a site after one was put is that one, or an old one of another id
pub put_cases :
    (ss : List Site) (s x : Site) → AreDistinct ss → Has x (put_site s ss)
    → (x ≡ s) ⊎ (Has x ss × (x.id ≢ s.id))
put_cases [] s x d has = absurd has
put_cases (y ∷ ys) s x d has = by_test (put_cases ys s x d.1) (nat_eq y.id s.id) refl has
  where
    by_test :
        (Has x (put_site s ys) → (x ≡ s) ⊎ (Has x ys × (x.id ≢ s.id)))
        → (b : Bool) → nat_eq y.id s.id ≡ b → Has x (if b then s ∷ ys else y ∷ put_site s ys)
        → (x ≡ s) ⊎ (Has x (y ∷ ys) × (x.id ≢ s.id))
    by_test more true t h =
        elim h [
          | inl e ↦ inl e
          | inr there ↦ inr (inr there, λ same. d.0 x there (same ∙ sym (eqb-true y.id s.id t)))
        ]
    by_test more false t h =
        elim h [
          | inl e ↦ inr (inl e, λ same. eqb-false y.id s.id t (ap (λ (z : Site). z.id) (sym e) ∙ same))
          | inr there ↦ elim (more there) [ inl e ↦ inl e | inr p ↦ inr (inr p.0, p.1) ]
        ]

-- the site that was put is there, if one of its id was
pub put_has : (ss : List Site) (s old : Site) → site_of ss s.id ≡ Some old → Has s (put_site s ss)
put_has [] s old e = cc
put_has (y ∷ ys) s old e = by_test (put_has ys s old) (nat_eq y.id s.id) refl e
  where
    by_test :
        (site_of ys s.id ≡ Some old → Has s (put_site s ys))
        → (b : Bool) → nat_eq y.id s.id ≡ b → (if b then Some y else site_of ys s.id) ≡ Some old
        → Has s (if b then s ∷ ys else y ∷ put_site s ys)
    by_test more true t f = inl refl
    by_test more false t f = inr (more f)

-- an old site of another id is still there
pub put_there : (ss : List Site) (s x : Site) → Has x ss → x.id ≢ s.id → Has x (put_site s ss)
put_there [] s x has other = absurd has
put_there (y ∷ ys) s x has other = by_test (put_there ys s x) (nat_eq y.id s.id) refl has
  where
    by_test :
        (Has x ys → x.id ≢ s.id → Has x (put_site s ys))
        → (b : Bool) → nat_eq y.id s.id ≡ b → Has x (y ∷ ys)
        → Has x (if b then s ∷ ys else y ∷ put_site s ys)
    by_test more true t h =
        elim h [
          | inl e ↦ absurd (other (ap (λ (z : Site). z.id) e ∙ eqb-true y.id s.id t))
          | inr there ↦ inr there
        ]
    by_test more false t h = elim h [ inl e ↦ inl e | inr there ↦ inr (more there other) ]

-- the site that was put is found by its id
pub put_found : (ss : List Site) (s old : Site) → site_of ss s.id ≡ Some old → site_of (put_site s ss) s.id ≡ Some s
put_found [] s old e = cc
put_found (y ∷ ys) s old e = by_test (put_found ys s old) (nat_eq y.id s.id) refl e
  where
    by_test :
        (site_of ys s.id ≡ Some old → site_of (put_site s ys) s.id ≡ Some s)
        → (b : Bool) → nat_eq y.id s.id ≡ b → (if b then Some y else site_of ys s.id) ≡ Some old
        → site_of (if b then s ∷ ys else y ∷ put_site s ys) s.id ≡ Some s
    by_test more true t f = rw (eq-eqb s.id s.id refl) refl
    by_test more false t f = rw t (more f)

-- sites of other ids are found as before
pub other_found : (ss : List Site) (s : Site) (id : ℕ) → s.id ≢ id → site_of (put_site s ss) id ≡ site_of ss id
other_found [] s id other = refl
other_found (y ∷ ys) s id other = by_test (other_found ys s id other) (nat_eq y.id s.id) refl
  where
    by_test :
        site_of (put_site s ys) id ≡ site_of ys id → (b : Bool) → nat_eq y.id s.id ≡ b
        → site_of (if b then s ∷ ys else y ∷ put_site s ys) id ≡ (if nat_eq y.id id then Some y else site_of ys id)
    by_test more true t =
        rw (ne_eqb s.id id other, ne_eqb y.id id (λ e. other (sym (eqb-true y.id s.id t) ∙ e))) refl
    by_test more false t = rw more refl

-- the sites differ as before
pub put_distinct : (ss : List Site) (s : Site) → AreDistinct ss → AreDistinct (put_site s ss)
put_distinct [] s d = d
put_distinct (y ∷ ys) s d = by_test (put_distinct ys s d.1) (nat_eq y.id s.id) refl
  where
    by_test :
        AreDistinct (put_site s ys) → (b : Bool) → nat_eq y.id s.id ≡ b
        → AreDistinct (if b then s ∷ ys else y ∷ put_site s ys)
    by_test more true t = (λ x has e. d.0 x has (e ∙ sym (eqb-true y.id s.id t)), d.1)
    by_test more false t = (
      λ x has same. elim (put_cases ys s x d.1 has) [
        | inl e ↦ eqb-false y.id s.id t (sym same ∙ ap (λ (z : Site). z.id) e)
        | inr p ↦ d.0 x p.0 same
      ],
      more,
    )

-- there is one site of an id
pub one_site : (ss : List Site) (a b : Site) → AreDistinct ss → Has a ss → Has b ss → a.id ≡ b.id → a ≡ b
one_site ss a b d ha hb e =
    let fa : site_of ss b.id ≡ Some a = rw (sym e) (site_there ss a d ha) in
    let fb = site_there ss b d hb in
    cc

pub clock_found : (ss : List Site) (id : ℕ) (s : Site) → site_of ss id ≡ Some s → clock_among ss id ≡ s.clock
clock_found [] id s e = cc
clock_found (x ∷ xs) id s e = by_test (clock_found xs id s) (nat_eq x.id id) e
  where
    by_test :
        (site_of xs id ≡ Some s → clock_among xs id ≡ s.clock) → (b : Bool)
        → (if b then Some x else site_of xs id) ≡ Some s → (if b then x.clock else clock_among xs id) ≡ s.clock
    by_test more true f = let same : x ≡ s = cc in ap (λ (y : Site). y.clock) same
    by_test more false f = more f

pub clock_has : (ss : List Site) (s : Site) → AreDistinct ss → Has s ss → clock_among ss s.id ≡ s.clock
clock_has ss s d has = clock_found ss s.id s (site_there ss s d has)

-- a put site of a clock that is not lower makes no clock lower
pub clock_grows :
    (ss : List Site) (s old : Site) (r : ℕ) → site_of ss s.id ≡ Some old → old.clock ≤ s.clock
    → clock_among ss r ≤ clock_among (put_site s ss) r
clock_grows [] s old r e up = cc
clock_grows (y ∷ ys) s old r e up = by_test (clock_grows ys s old r) (nat_eq y.id s.id) refl e
  where
    by_test :
        (site_of ys s.id ≡ Some old → old.clock ≤ s.clock → clock_among ys r ≤ clock_among (put_site s ys) r)
        → (b : Bool) → nat_eq y.id s.id ≡ b → (if b then Some y else site_of ys s.id) ≡ Some old
        → (if nat_eq y.id r then y.clock else clock_among ys r) ≤ clock_among (if b then s ∷ ys else y ∷ put_site s ys) r
    by_test more true t f =
        let same : y ≡ old = cc in
        let clock : y.clock ≡ old.clock = ap (λ (z : Site). z.clock) same in
        rw (sym (eqb-true y.id s.id t)) (by_place (nat_eq y.id r) (omega arith))
      where
        by_place : (b : Bool) → y.clock ≤ s.clock → (if b then y.clock else clock_among ys r) ≤ (if b then s.clock else clock_among ys r)
        by_place true h = h
        by_place false h = le_refl (clock_among ys r)
    by_test more false t f = by_place (nat_eq y.id r) (more f up)
      where
        by_place :
            (b : Bool) → clock_among ys r ≤ clock_among (put_site s ys) r
            → (if b then y.clock else clock_among ys r) ≤ (if b then y.clock else clock_among (put_site s ys) r)
        by_place true h = le_refl y.clock
        by_place false h = h

pub clock_there : (ss : List Site) (s old : Site) → site_of ss s.id ≡ Some old → clock_among (put_site s ss) s.id ≡ s.clock
clock_there ss s old e = clock_found (put_site s ss) s.id s (put_found ss s old e)
