use Rattle.std.proofs.Common.{◌≡◌, ◌≢◌, ℕ, zero, suc, ◌<◌, ◌≤◌, ◌⊎◌, inl, inr, ◌∙◌, sym, ap, refl, subst, Bool, true, false, arith}
use Rattle.std.proofs.lemmas.Bool.{cases_Bool, cases_eq}
use Rattle.sfx_ids.specs.declared.item_id.ItemId.{ItemId}
use Rattle.sfx_model.specs.world.World.{Content, Deleted, Site, Snapshot, World}
use Rattle.sfx_model.specs.world.Events.{UnitMark, Keeps, Takes, Stamps, Leaves, Drops, AllMarked, Joint, AllStay, AllTaken, AllLeft, AllGone, AllDelete, AllWrite, Mixed}
use Rattle.sfx_model.specs.world.Agreement.{IsSameKind, MarksDiffer, NoneDeletes, StampsDelete, NoneDrops, AgreesAcrossUnits}
use Rattle.sfx_model.proofs.world.UnitMarkLemmas.{stamped_content}

-- whether both marks do the same
abbrev pub same_kind : UnitMark → UnitMark → Bool
same_kind Keeps Keeps = true
same_kind Keeps k = false
same_kind Takes Takes = true
same_kind Takes k = false
same_kind (Stamps c) (Stamps d) = true
same_kind (Stamps c) k = false
same_kind Leaves Leaves = true
same_kind Leaves k = false
same_kind Drops Drops = true
same_kind Drops k = false

pub same_kind_self : (m : UnitMark) → same_kind m m ≡ true
same_kind_self Keeps = refl
same_kind_self Takes = refl
same_kind_self (Stamps c) = refl
same_kind_self Leaves = refl
same_kind_self Drops = refl

pub other_kind : (m k : UnitMark) → same_kind m k ≡ false → IsSameKind m k → ⊥
other_kind m k e is = elim is [
  | inl same ↦
      let bad : same_kind m m ≡ false = subst (λ (x : UnitMark). same_kind m x ≡ false) (sym same) e in
      let good = same_kind_self m in
      cc
  | inr both ↦
      let a = stamped_content m both.0 in
      let b = stamped_content k both.1 in
      let bad : same_kind (Stamps a.0) (Stamps b.0) ≡ false =
      subst (λ (x : UnitMark). same_kind (Stamps a.0) x ≡ false) b.1 (subst (λ (x : UnitMark). same_kind x k ≡ false) a.1 e)
      in
      cc
]

-- each unit passes the test, or one does not
pub all_or_one : (test : ℕ → Bool) (n : ℕ) → ((u : ℕ) → u < n → test u ≡ true) ⊎ ((u : ℕ) × (u < n) × (test u ≡ false))
all_or_one test zero = inl (λ u small. absurd (omega arith))
all_or_one test (suc n) = elim (cases_Bool (test n)) [
  | inl here ↦ elim (all_or_one test n) [
    | inl all ↦ inl (λ u small. elim (cases_eq u n) [
      | inl e ↦ subst (λ (x : ℕ). test x ≡ true) (sym e) here
      | inr other ↦ all u (omega arith)
    ])
    | inr one ↦ let small = one.1 in inr (one.0, omega arith, one.2)
  ]
  | inr not_here ↦ inr (n, omega arith, not_here)
]

-- marks that are all of the kind of the first
pub kept_kind : (k : UnitMark) → same_kind Keeps k ≡ true → k ≡ Keeps
kept_kind Keeps e = refl
kept_kind Takes e = absurd (cc)
kept_kind (Stamps c) e = absurd (cc)
kept_kind Leaves e = absurd (cc)
kept_kind Drops e = absurd (cc)

pub taken_kind : (k : UnitMark) → same_kind Takes k ≡ true → k ≡ Takes
taken_kind Keeps e = absurd (cc)
taken_kind Takes e = refl
taken_kind (Stamps c) e = absurd (cc)
taken_kind Leaves e = absurd (cc)
taken_kind Drops e = absurd (cc)

pub stamped_kind : (d : Content) (k : UnitMark) → same_kind (Stamps d) k ≡ true → (c : Content) × (k ≡ Stamps c)
stamped_kind d Keeps e = absurd (cc)
stamped_kind d Takes e = absurd (cc)
stamped_kind d (Stamps c) e = (c, refl)
stamped_kind d Leaves e = absurd (cc)
stamped_kind d Drops e = absurd (cc)

pub skipped_kind : (k : UnitMark) → same_kind Leaves k ≡ true → k ≡ Leaves
skipped_kind Keeps e = absurd (cc)
skipped_kind Takes e = absurd (cc)
skipped_kind (Stamps c) e = absurd (cc)
skipped_kind Leaves e = refl
skipped_kind Drops e = absurd (cc)

pub dropped_kind : (k : UnitMark) → same_kind Drops k ≡ true → k ≡ Drops
dropped_kind Keeps e = absurd (cc)
dropped_kind Takes e = absurd (cc)
dropped_kind (Stamps c) e = absurd (cc)
dropped_kind Leaves e = absurd (cc)
dropped_kind Drops e = refl

-- marks that differ and agree across units are mixed
pub differing_shape :
    (w : World) (s : Site) (snapshot : Snapshot) (i : ItemId) (marks : ℕ → UnitMark)
    → AgreesAcrossUnits w s snapshot i marks → MarksDiffer w.units marks → Joint w s snapshot i marks
differing_shape w s snapshot i marks agrees differ =
    Mixed
    (record {
      there = agrees.there differ;
      result = agrees.result differ;
      whole = elim agrees.drops [
        | inl none ↦ none
        | inr all ↦ absurd (differ.4 (inl (all differ.0 differ.2 ∙ sym (all differ.1 differ.3))))
      ];
      here = agrees.here differ;
    })

pub uniform_shape :
    (w : World) (s : Site) (snapshot : Snapshot) (i : ItemId) (marks : ℕ → UnitMark) (m : UnitMark)
    → AgreesAcrossUnits w s snapshot i marks → ((u : ℕ) → u < w.units → same_kind m (marks u) ≡ true)
    → Joint w s snapshot i marks
uniform_shape w s snapshot i marks Keeps agrees all = AllStay (λ u small. kept_kind (marks u) (all u small))
uniform_shape w s snapshot i marks Takes agrees all = AllTaken (λ u small. taken_kind (marks u) (all u small))
uniform_shape w s snapshot i marks (Stamps d) agrees all = elim agrees.deletions [
  | inl none ↦ AllWrite (λ u small.
      let stamp = stamped_kind d (marks u) (all u small) in
      (stamp.0, stamp.1, λ e. none u small (stamp.1 ∙ ap {B = UnitMark} Stamps e)))
  | inr delete ↦ AllDelete (λ u small.
      let stamp = stamped_kind d (marks u) (all u small) in
      (stamp.0, stamp.1, delete u stamp.0 small stamp.1))
]
uniform_shape w s snapshot i marks Leaves agrees all = AllLeft (λ u small. skipped_kind (marks u) (all u small))
uniform_shape w s snapshot i marks Drops agrees all = AllGone (λ u small. dropped_kind (marks u) (all u small))

pub agreement_shape :
    (w : World) (s : Site) (snapshot : Snapshot) (i : ItemId) (marks : ℕ → UnitMark)
    → 1 ≤ w.units → AgreesAcrossUnits w s snapshot i marks → Joint w s snapshot i marks
agreement_shape w s snapshot i marks some agrees = elim (all_or_one (λ u. same_kind (marks 0) (marks u)) w.units) [
  | inl all ↦ uniform_shape w s snapshot i marks (marks 0) agrees all
  | inr one ↦
      differing_shape w s snapshot i marks agrees (0, one.0, some, one.1, other_kind (marks 0) (marks one.0) one.2)
]

-- marks that are all the same agree across units
pub uniform_agrees :
    (w : World) (s : Site) (snapshot : Snapshot) (i : ItemId) (marks : ℕ → UnitMark)
    → ((u x : ℕ) → u < w.units → x < w.units → IsSameKind (marks u) (marks x))
    → NoneDeletes w.units marks ⊎ StampsDelete w.units marks
    → NoneDrops w.units marks ⊎ AllMarked w.units marks Drops
    → AgreesAcrossUnits w s snapshot i marks
uniform_agrees w s snapshot i marks same deletions drops = record {
  there = λ differ. absurd (differ.4 (same differ.0 differ.1 differ.2 differ.3));
  result = λ differ. absurd (differ.4 (same differ.0 differ.1 differ.2 differ.3));
  here = λ differ. absurd (differ.4 (same differ.0 differ.1 differ.2 differ.3));
  deletions = deletions;
  drops = drops;
}

pub marked_agrees :
    (w : World) (s : Site) (snapshot : Snapshot) (i : ItemId) (marks : ℕ → UnitMark) (m : UnitMark)
    → AllMarked w.units marks m → m ≢ Stamps Deleted → NoneDrops w.units marks ⊎ AllMarked w.units marks Drops
    → AgreesAcrossUnits w s snapshot i marks
marked_agrees w s snapshot i marks m all writes drops =
    uniform_agrees w s snapshot i marks (λ u x a b. inl (all u a ∙ sym (all x b)))
    (inl (λ u small e. writes (sym (all u small) ∙ e))) drops

pub stamped_agrees :
    (w : World) (s : Site) (snapshot : Snapshot) (i : ItemId) (marks : ℕ → UnitMark)
    → ((u : ℕ) → u < w.units → (c : Content) × (marks u ≡ Stamps c))
    → NoneDeletes w.units marks ⊎ StampsDelete w.units marks
    → AgreesAcrossUnits w s snapshot i marks
stamped_agrees w s snapshot i marks all deletions =
    uniform_agrees w s snapshot i marks (λ u x a b. inr (rw (all u a).1 refl, rw (all x b).1 refl)) deletions
    (inl (λ u small e. let stamp = all u small in let is = stamp.1 in cc))

pub shape_agrees :
    (w : World) (s : Site) (snapshot : Snapshot) (i : ItemId) (marks : ℕ → UnitMark)
    → Joint w s snapshot i marks → AgreesAcrossUnits w s snapshot i marks
shape_agrees w s snapshot i marks joint = elim joint [
  | AllStay all ↦ marked_agrees w s snapshot i marks Keeps all (λ e. cc) (inl (λ u small e. let is = all u small in cc))
  | AllTaken all ↦ marked_agrees w s snapshot i marks Takes all (λ e. cc) (inl (λ u small e. let is = all u small in cc))
  | AllLeft all ↦ marked_agrees w s snapshot i marks Leaves all (λ e. cc) (inl (λ u small e. let is = all u small in cc))
  | AllGone all ↦ marked_agrees w s snapshot i marks Drops all (λ e. cc) (inr all)
  | AllDelete all ↦
      stamped_agrees w s snapshot i marks (λ u small. let stamp = all u small in (stamp.0, stamp.1))
      (inr (λ u c small is.
      let stamp = all u small in
      let same : Stamps c ≡ Stamps stamp.0 = sym is ∙ stamp.1 in
      let content : c ≡ stamp.0 = cc in
      content ∙ stamp.2))
  | AllWrite all ↦
      stamped_agrees w s snapshot i marks (λ u small. let stamp = all u small in (stamp.0, stamp.1))
      (inl (λ u small is.
      let stamp = all u small in
      let same : Stamps stamp.0 ≡ Stamps Deleted = sym stamp.1 ∙ is in
      let content : stamp.0 ≡ Deleted = cc in
      stamp.2 content))
  | Mixed mixed ↦
      record {
        there = λ differ. mixed.there;
        result = λ differ. mixed.result;
        here = λ differ. mixed.here;
        deletions = inl mixed.result;
        drops = inl mixed.whole;
      }
]
