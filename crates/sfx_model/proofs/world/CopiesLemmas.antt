use Rattle.std.proofs.Common.{◌≡◌, ◌≢◌, ℕ, zero, suc, ◌+◌, ◌<◌, ◌≤◌, ◌⊎◌, inl, inr, ◌∙◌, sym, ap, refl, subst, Bool, true, false, if◌then◌else◌, nat_eq, List, [], ◌∷◌, ◌++◌, arith}
use Rattle.std.proofs.lemmas.Bool.{eqb-true, eqb-false, lt-ltb, le-ltb, cases_lt, cases_eq}
use Rattle.sfx_model.specs.world.Sets.{Has}
use Rattle.sfx_model.specs.world.World.{Record, Made, IsHistory}
use Rattle.sfx_model.specs.world.Events.{widened_content, copies, widened_records, unit_before}
use Rattle.sfx_model.proofs.world.SetsLemmas.{has_left, has_right, has_either}

-- the copy of a record at a new unit
abbrev pub copy : ℕ → Record → Record
copy u r = record r { unit = u; content = widened_content r.content }

-- the record is a copy at this unit of a record of unit 0
pub record IsCopyAt (u : ℕ) (rs : List Record) (q : Record) : Type 0 where
  pub of : Record
  pub there : Has of rs
  pub unit : of.unit ≡ 0
  pub same : q ≡ copy u of

pub copies_has : (u : ℕ) (rs : List Record) (r : Record) → Has r rs → r.unit ≡ 0 → Has (copy u r) (copies u rs)
copies_has u [] r has first = absurd has
copies_has u (x ∷ xs) r has first = by_test (copies_has u xs r) (nat_eq x.unit 0) refl has
  where
    by_test :
        (Has r xs → r.unit ≡ 0 → Has (copy u r) (copies u xs)) → (b : Bool) → nat_eq x.unit 0 ≡ b → Has r (x ∷ xs)
        → Has (copy u r) (if b then copy u x ∷ copies u xs else copies u xs)
    by_test more true e h =
        elim h [ inl same ↦ inl (ap (λ (y : Record). copy u y) same) | inr there ↦ inr (more there first) ]
    by_test more false e h =
        elim h [
          | inl same ↦ absurd (eqb-false x.unit 0 e (ap (λ (y : Record). y.unit) (sym same) ∙ first))
          | inr there ↦ more there first
        ]

pub copies_from : (u : ℕ) (rs : List Record) (q : Record) → Has q (copies u rs) → IsCopyAt u rs q
copies_from u [] q has = absurd has
copies_from u (x ∷ xs) q has = by_test (copies_from u xs q) (nat_eq x.unit 0) refl has
  where
    later : IsCopyAt u xs q → IsCopyAt u (x ∷ xs) q
    later is = record { of = is.of; there = inr is.there; unit = is.unit; same = is.same }

    by_test :
        (Has q (copies u xs) → IsCopyAt u xs q) → (b : Bool) → nat_eq x.unit 0 ≡ b
        → Has q (if b then copy u x ∷ copies u xs else copies u xs) → IsCopyAt u (x ∷ xs) q
    by_test more true e h =
        elim h [
          | inl same ↦ record { of = x; there = inl refl; unit = eqb-true x.unit 0 e; same = same }
          | inr there ↦ later (more there)
        ]
    by_test more false e h = later (more h)

-- copies of a history, at a unit where nothing was made, come before it as a history
pub copies_history :
    (u : ℕ) (rs rest : List Record)
    → IsHistory rs → IsHistory rest → ((q : Record) → Has q rest → q.unit ≢ u) → IsHistory (copies u rs ++ rest)
copies_history u [] rest history done other = done
copies_history u (x ∷ xs) rest history done other =
    by_test (copies_history u xs rest history.1 done other) (nat_eq x.unit 0) refl
  where
    by_test :
        IsHistory (copies u xs ++ rest) → (b : Bool) → nat_eq x.unit 0 ≡ b
        → IsHistory ((if b then copy u x ∷ copies u xs else copies u xs) ++ rest)
    by_test more false e = more
    by_test more true e =
        let unit : x.unit ≡ 0 = eqb-true x.unit 0 e in
        let at_first : Made xs x.item x.unit x.version → ⊥ = history.0.first in (
          record {
            first = λ made. elim (has_either made.0 (copies u xs) rest made.1) [
              | inl here ↦
                  let from = copies_from u xs made.0 here in
                  at_first (
                    from.of,
                    from.there,
                    record {
                      item = ap (λ (y : Record). y.item) (sym from.same) ∙ made.2.item;
                      unit = from.unit ∙ sym unit;
                      version = ap (λ (y : Record). y.version) (sym from.same) ∙ made.2.version;
                    },
                  )
              | inr there ↦ other made.0 there made.2.unit
            ];
            knew = record {
              made = λ v has.
                  let old = history.0.knew.made v has in (
                    copy u old.0,
                    has_left (copy u old.0) (copies u xs) rest (copies_has u xs old.0 old.1 (old.2.unit ∙ unit)),
                    record { item = old.2.item; unit = refl; version = old.2.version },
                  );
              closed = λ v r has there at y knew_it. elim (has_either r (copies u xs) rest there) [
                | inl here ↦
                    let from = copies_from u xs r here in
                    history.0.knew.closed v from.of has from.there
                    (record {
                      item = ap (λ (z : Record). z.item) (sym from.same) ∙ at.item;
                      unit = from.unit ∙ sym unit;
                      version = ap (λ (z : Record). z.version) (sym from.same) ∙ at.version;
                    })
                    y (subst (λ (z : Record). Has y z.made_knowing) from.same knew_it)
                | inr far ↦ absurd (other r far at.unit)
              ];
            };
          },
          more,
        )

-- all records are of units below this count
abbrev pub AreBelow : ℕ → List Record → Type 0
AreBelow units rs = (r : Record) → Has r rs → r.unit < units

-- a record of the wide world that is not an old one
pub record IsWide (units n : ℕ) (rs : List Record) (q : Record) : Type 0 where
  pub unit : ℕ
  pub least : units ≤ unit
  pub most : unit < units + n
  pub is_copy : IsCopyAt unit rs q

pub wide_from : (units n : ℕ) (rs : List Record) (q : Record) → Has q (widened_records units n rs) → IsWide units n rs q ⊎ Has q rs
wide_from units zero rs q has = inr has
wide_from units (suc n) rs q has = elim (has_either q (copies (units + n) rs) (widened_records units n rs) has) [
  | inl here ↦
      inl
      (record {
        unit = units + n;
        least = omega arith;
        most = omega arith;
        is_copy = copies_from (units + n) rs q here;
      })
  | inr there ↦ elim (wide_from units n rs q there) [
    | inl is ↦
        inl
        (record {
          unit = is.unit;
          least = is.least;
          most = let most = is.most in omega arith;
          is_copy = is.is_copy;
        })
    | inr old ↦ inr old
  ]
]

pub wide_old : (units n : ℕ) (rs : List Record) (r : Record) → Has r rs → Has r (widened_records units n rs)
wide_old units zero rs r has = has
wide_old units (suc n) rs r has =
    has_right r (copies (units + n) rs) (widened_records units n rs) (wide_old units n rs r has)

pub wide_copy :
    (units n u : ℕ) (rs : List Record) (r : Record)
    → Has r rs → r.unit ≡ 0 → units ≤ u → u < units + n → Has (copy u r) (widened_records units n rs)
wide_copy units zero u rs r has first least most = absurd (omega arith)
wide_copy units (suc n) u rs r has first least most = elim (cases_eq u (units + n)) [
  | inl e ↦
      has_left (copy u r) (copies (units + n) rs) (widened_records units n rs)
      (subst (λ (x : ℕ). Has (copy u r) (copies x rs)) e (copies_has u rs r has first))
  | inr other ↦
      has_right (copy u r) (copies (units + n) rs) (widened_records units n rs)
      (wide_copy units n u rs r has first least (omega arith))
]

pub wide_below : (units n : ℕ) (rs : List Record) → AreBelow units rs → AreBelow (units + n) (widened_records units n rs)
wide_below units n rs below q has = elim (wide_from units n rs q has) [
  | inl is ↦
      let unit : q.unit ≡ is.unit = ap (λ (r : Record). r.unit) is.is_copy.same in
      let most = is.most in
      omega arith
  | inr old ↦ let small = below q old in omega arith
]

pub wide_history : (units n : ℕ) (rs : List Record) → AreBelow units rs → IsHistory rs → IsHistory (widened_records units n rs)
wide_history units zero rs below history = history
wide_history units (suc n) rs below history =
    copies_history (units + n) rs (widened_records units n rs) history (wide_history units n rs below history)
    (λ q has e. let small = wide_below units n rs below q has in omega arith)

-- which unit a unit had before

pub before_old : (units more u : ℕ) → u < units → unit_before units more u ≡ u
before_old units more u small = rw (lt-ltb u units small) refl

pub before_new : (units more u : ℕ) → units ≤ u → u < units + more → unit_before units more u ≡ 0
before_new units more u least most = rw (le-ltb u units least, lt-ltb u (units + more) most) refl

pub before_above : (units more u : ℕ) → units + more ≤ u → unit_before units more u ≡ u
before_above units more u big = let least : units ≤ u = omega arith in rw (le-ltb u units least, le-ltb u (units + more) big) refl

pub before_below : (units more u : ℕ) → 1 ≤ units → u < units + more → unit_before units more u < units
before_below units more u some small = elim (cases_lt u units) [
  | inl old ↦ rw (before_old units more u old) old
  | inr new ↦ rw (before_new units more u new small) some
]
