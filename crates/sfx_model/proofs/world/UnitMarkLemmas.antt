use Rattle.std.proofs.Common.{◌≡◌, ◌≢◌, ℕ, zero, suc, ◌<◌, ◌≤◌, inl, inr, ap, refl, subst, Bool, true, false, ◌||◌, if◌then◌else◌, List, Some, arith, le_refl}
use Rattle.std.proofs.lemmas.Bool.{cases_eq, or_cases}
use Rattle.sfx_ids.specs.declared.item_id.ItemId.{ItemId}
use Rattle.sfx_ids.specs.declared.version.Version.{Version}
use Rattle.sfx_model.specs.world.Sets.{IsPart}
use Rattle.sfx_model.specs.world.World.{Content, Record, IsClosed}
use Rattle.sfx_model.specs.world.Events.{UnitMark, Keeps, Takes, Stamps, Leaves, Drops, known_by, content_of, stamps, brings, is_dropped, some_unit, present_after, clock_after, AllMarked}
use Rattle.sfx_model.proofs.world.Step.{AreSame}
use Rattle.sfx_model.proofs.world.SetsLemmas.{has_left, has_right, same_self, joined_left, joined_right}
use Rattle.sfx_model.proofs.world.WorldLemmas.{closed_union}

-- tests over units

pub some_of : (test : ℕ → Bool) (n u : ℕ) → u < n → test u ≡ true → some_unit test n ≡ true
some_of test zero u small is = absurd (omega arith)
some_of test (suc n) u small is = elim (cases_eq u n) [
  | inl e ↦ let here : test n ≡ true = subst (λ (x : ℕ). test x ≡ true) e is in rw here refl
  | inr other ↦ rw (some_of test n u (omega arith) is) (or_true (test n))
]
  where
    or_true : (b : Bool) → (b || true) ≡ true
    or_true true = refl
    or_true false = refl

pub none_of : (test : ℕ → Bool) (n : ℕ) → ((u : ℕ) → u < n → test u ≡ false) → some_unit test n ≡ false
none_of test zero none = refl
none_of test (suc n) none =
    rw (none n (omega arith)) (none_of test n (λ u small. none u (omega arith)))

pub one_of : (test : ℕ → Bool) (n : ℕ) → some_unit test n ≡ true → (u : ℕ) × (u < n) × (test u ≡ true)
one_of test zero e = absurd (cc)
one_of test (suc n) e = elim (or_cases (test n) (some_unit test n) e) [
  | inl here ↦ (n, omega arith, here)
  | inr more ↦ let p = one_of test n more in let small = p.1 in (p.0, omega arith, p.2)
]

-- presence and clock after an entry

pub present_brought : (marks : ℕ → UnitMark) (units u : ℕ) (before : Bool) → u < units → brings (marks u) ≡ true → present_after marks units before ≡ true
present_brought marks units u before small is = rw (some_of (λ x. brings (marks x)) units u small is) refl

pub present_dropped : (marks : ℕ → UnitMark) (units : ℕ) (before : Bool) → 1 ≤ units → AllMarked units marks Drops → present_after marks units before ≡ false
present_dropped marks units before some all =
    rw (
      none_of (λ x. brings (marks x)) units (λ u small. rw (all u small) refl),
      some_of (λ x. is_dropped (marks x)) units 0 some (rw (all 0 some) refl),
    )
    refl

pub present_kept :
    (marks : ℕ → UnitMark) (units : ℕ) (before : Bool)
    → ((u : ℕ) → u < units → brings (marks u) ≡ false) → ((u : ℕ) → u < units → is_dropped (marks u) ≡ false)
    → present_after marks units before ≡ before
present_kept marks units before a b =
    rw (none_of (λ x. brings (marks x)) units a, none_of (λ x. is_dropped (marks x)) units b) refl

-- present before, and no unit dropped: present afterwards
pub present_stays :
    (marks : ℕ → UnitMark) (units : ℕ) (before : Bool)
    → before ≡ true → ((u : ℕ) → u < units → is_dropped (marks u) ≡ false) → present_after marks units before ≡ true
present_stays marks units before is none =
    rw (none_of (λ x. is_dropped (marks x)) units none) (by_test (some_unit (λ x. brings (marks x)) units))
  where
    by_test : (b : Bool) → (if b then true else before) ≡ true
    by_test true = refl
    by_test false = is

pub clock_stamped : (marks : ℕ → UnitMark) (units u tick before : ℕ) → u < units → stamps (marks u) ≡ true → clock_after marks units tick before ≡ tick
clock_stamped marks units u tick before small is = rw (some_of (λ x. stamps (marks x)) units u small is) refl

pub clock_up :
    (marks : ℕ → UnitMark) (units tick before : ℕ)
    → ((u : ℕ) → u < units → stamps (marks u) ≡ true → before ≤ tick) → before ≤ clock_after marks units tick before
clock_up marks units tick before up = by_test (some_unit (λ x. stamps (marks x)) units) refl
  where
    by_test : (b : Bool) → some_unit (λ x. stamps (marks x)) units ≡ b → before ≤ (if b then tick else before)
    by_test true e = let p = one_of (λ x. stamps (marks x)) units e in up p.0 p.1 p.2
    by_test false e = le_refl before

-- what a mark says

pub stamps_content : (m : UnitMark) (c : Content) → content_of m ≡ Some c → m ≡ Stamps c
stamps_content Keeps c e = absurd (cc)
stamps_content Takes c e = absurd (cc)
stamps_content (Stamps d) c e = let same : d ≡ c = cc in ap {B = UnitMark} Stamps same
stamps_content Leaves c e = absurd (cc)
stamps_content Drops c e = absurd (cc)

pub stamped_content : (m : UnitMark) → stamps m ≡ true → (c : Content) × (m ≡ Stamps c)
stamped_content Keeps e = absurd (cc)
stamped_content Takes e = absurd (cc)
stamped_content (Stamps d) e = (d, refl)
stamped_content Leaves e = absurd (cc)
stamped_content Drops e = absurd (cc)

pub knows_more : (m : UnitMark) (seen here : List Version) → IsPart here (known_by m seen here)
knows_more Keeps seen here = λ x has. has_left x here seen has
knows_more Takes seen here = λ x has. has_left x here seen has
knows_more (Stamps c) seen here = λ x has. has_left x here seen has
knows_more Leaves seen here = λ x has. has
knows_more Drops seen here = λ x has. has_left x here seen has

pub knows_seen : (m : UnitMark) (seen here : List Version) → m ≢ Leaves → IsPart seen (known_by m seen here)
knows_seen Keeps seen here learns = λ x has. has_right x here seen has
knows_seen Takes seen here learns = λ x has. has_right x here seen has
knows_seen (Stamps c) seen here learns = λ x has. has_right x here seen has
knows_seen Leaves seen here learns = absurd (learns refl)
knows_seen Drops seen here learns = λ x has. has_right x here seen has

pub knows_closed :
    (rs : List Record) (i : ItemId) (u : ℕ) (m : UnitMark) (seen here : List Version)
    → IsClosed rs i u seen → IsClosed rs i u here → IsClosed rs i u (known_by m seen here)
knows_closed rs i u Keeps seen here a b = closed_union rs i u here seen b a
knows_closed rs i u Takes seen here a b = closed_union rs i u here seen b a
knows_closed rs i u (Stamps c) seen here a b = closed_union rs i u here seen b a
knows_closed rs i u Leaves seen here a b = b
knows_closed rs i u Drops seen here a b = closed_union rs i u here seen b a

-- where the snapshot knows nothing more, the known versions stay the same
pub knows_here : (m : UnitMark) (seen here : List Version) → IsPart seen here → AreSame here (known_by m seen here)
knows_here Keeps seen here part = joined_left here seen part
knows_here Takes seen here part = joined_left here seen part
knows_here (Stamps c) seen here part = joined_left here seen part
knows_here Leaves seen here part = same_self here
knows_here Drops seen here part = joined_left here seen part

-- where the snapshot knows all, the known versions become the snapshot's, unless the unit is skipped
pub knows_there : (m : UnitMark) (seen here : List Version) → m ≢ Leaves → IsPart here seen → AreSame seen (known_by m seen here)
knows_there Keeps seen here learns part = joined_right here seen part
knows_there Takes seen here learns part = joined_right here seen part
knows_there (Stamps c) seen here learns part = joined_right here seen part
knows_there Leaves seen here learns part = absurd (learns refl)
knows_there Drops seen here learns part = joined_right here seen part
