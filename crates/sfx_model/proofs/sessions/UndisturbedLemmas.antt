-- Sessions that meet no conflict and no clash: that none comes stays so from entry to entry.
use Rattle.std.proofs.Common.{◌≡◌, ◌≢◌, ◌⊎◌, ℕ, zero, suc, ◌<◌, ◌≤◌, max, not, nat_le, Bool, true, false, true≢false, if◌then◌else◌, List, Option, Some, None, arith, inl, inr, refl, sym, ◌∙◌, ap, subst, le_trans}
use Rattle.std.specs.Option.{option_map_or, option_and_then}
use Rattle.std.proofs.lemmas.Bool.Decides.{nat_tests}
use Rattle.sfx_ids.specs.declared.cut.Cut.TheVariants.{At}
use Rattle.sfx_ids.specs.declared.item_id.ItemId.{ItemId}
use Rattle.sfx_ids.specs.declared.version.Version.{Version}
use Rattle.sfx_ids.specs.ItemId.{creation_of}
use Rattle.sfx_vector.specs.Clocks.{tick_of}
use Rattle.sfx_knowledge.specs.Knowledge.{Known, IsKnowledge, tick_at}
use Rattle.sfx_knowledge.specs.Forgotten.{Forgets, AreForgets, fvec}
use Rattle.sfx_item.specs.Item.{ItemState, Live, Dead, ItemData, version_at}
use Rattle.sfx_model.specs.declared.absent.Absent.{Absent}
use Rattle.sfx_model.specs.declared.absent.Absent.TheVariants as absents
use Rattle.sfx_model.specs.declared.absent.Absent.TheVariants.{Conflict}
use Rattle.sfx_model.specs.sessions.Acts.{IsOrderly}
use Rattle.sfx_model.specs.sessions.Class.{is_forgotten_within, absent_class_of}
use Rattle.sfx_model.specs.members.Consistent.{IsConsistent, AreApart, live_name}
use Rattle.sfx_model.specs.world.Events.{some_unit}
use Rattle.sfx_model.specs.sessions.MemberKnowledge.{laid_known}
use Rattle.sfx_model.specs.members.Members.{Member, AreAscending, state_of, vector_at}
use Rattle.sfx_model.specs.members.Readings.{knows_version, is_unseen_at}
use Rattle.sfx_model.specs.sessions.Undisturbed.{KnowsUnit, KnowsState, IsChangedOnce, KnowsDeletions, IsNotDeleted, IsNameOf, IsUndisturbed, KnowsMadeAlone}
use Rattle.sfx_model.proofs.sessions.ClassTests.{in_form, laid_has}
use Rattle.sfx_model.proofs.sessions.MemberKnowledgeLemmas.{forgotten_within_decided}
use Rattle.sfx_model.proofs.sessions.ConsistentIsOrderly.{orderly}
use Rattle.sfx_model.proofs.world.UnitsLemmas.{none_at}
use Rattle.sfx_model.proofs.sessions.QuietDrafts.{HasCell, IsCalled, ComesOf}
use Rattle.sfx_model.proofs.members.AscendingItems.{item_with}

-- ---- knowledge that grows

le_is : (a b : ℕ) → nat_le a b ≡ true → a ≤ b
le_is a b test = grind (arith, nat_tests)

is_le : (a b : ℕ) → a ≤ b → nat_le a b ≡ true
is_le a b le = grind (arith, nat_tests)

not_not : (b : Bool) → not b ≡ false → b ≡ true
not_not true e = refl
not_not false e = absurd (true≢false e)

unseen_less :
    (known more : Known) (i : ItemId) (state : ItemState) (u : ℕ)
    → ((r : ℕ) → tick_at known (At i) u r ≤ tick_at more (At i) u r)
    → is_unseen_at known i state u ≡ false → is_unseen_at more i state u ≡ false
unseen_less known more i state u grows seen = by_version (version_at state u) seen
  where
    by_version :
        (o : Option Version)
        → option_map_or (λ v. not (knows_version known i u v)) o false ≡ false
        → option_map_or (λ v. not (knows_version more i u v)) o false ≡ false
    by_version None e = refl
    by_version (Some v) e =
        let low : v.tick ≤ tick_at known (At i) u v.replica = le_is v.tick (tick_at known (At i) u v.replica) (not_not (knows_version known i u v) e) in
        ap not (is_le v.tick (tick_at more (At i) u v.replica) (le_trans low (grows v.replica)))

some_none : (test : ℕ → Bool) (units : ℕ) → ((u : ℕ) → u < units → test u ≡ false) → some_unit test units ≡ false
some_none test zero each = refl
some_none test (suc n) each = rw (each n (omega arith)) (some_none test n (λ u small. each u (omega (arith, small))))

-- The second member knows of the item all that the first knows.
abbrev pub GrowsAt : ℕ → ItemId → Member → Member → Type 0
GrowsAt units i m n = (u r : ℕ) → u < units → vector_at m (At i) u r ≤ vector_at n (At i) u r

laid_grows :
    (units : ℕ) (i : ItemId) (m n : Member) (u r : ℕ)
    → IsOrderly units m → IsOrderly units n → GrowsAt units i m n → u < units
    → tick_at (laid_known units m) (At i) u r ≤ tick_at (laid_known units n) (At i) u r
laid_grows units i m n u r first second grows small =
    let a = laid_has units m (in_form units m first) (At i) u r tt small in
    let b = laid_has units n (in_form units n second) (At i) u r tt small in
    let le = grows u r small in
    omega (arith, a, b, le)

pub unit_on :
    (units : ℕ) (i : ItemId) (state : ItemState) (u : ℕ) (m n : Member)
    → IsOrderly units m → IsOrderly units n → GrowsAt units i m n → u < units
    → KnowsUnit units m i state u → KnowsUnit units n i state u
unit_on units i state u m n first second grows small knows =
    unseen_less (laid_known units m) (laid_known units n) i state u (λ r. laid_grows units i m n u r first second grows small) knows

pub state_on :
    (units : ℕ) (i : ItemId) (state : ItemState) (m n : Member)
    → IsOrderly units m → IsOrderly units n → GrowsAt units i m n
    → KnowsState units m i state → KnowsState units n i state
state_on units i state m n first second grows knows =
    some_none (is_unseen_at (laid_known units n) i state) units (λ u small.
    unit_on units i state u m n first second grows small (none_at (is_unseen_at (laid_known units m) i state) units u knows small))

-- A source knows its own items.
pub source_knows :
    (units : ℕ) (source : Member) (i : ItemId) (seen : ItemState)
    → IsConsistent units source → state_of source.items i ≡ Some seen → KnowsState units source i seen
source_knows units source i seen ok at =
    some_none (is_unseen_at (laid_known units source) i seen) units (λ u small. by_version u small (version_at seen u) refl)
  where
    by_version :
        (u : ℕ) → u < units → (o : Option Version)
        → version_at seen u ≡ o → option_map_or (λ v. not (knows_version (laid_known units source) i u v)) o false ≡ false
    by_version u small None e = refl
    by_version u small (Some v) e =
        let contained : v.tick ≤ vector_at source (At i) u v.replica = (ok.items i seen at).versions u v small e in
        let same = laid_has units source (in_form units source (orderly units source ok)) (At i) u v.replica tt small in
        ap not (is_le v.tick (tick_at (laid_known units source) (At i) u v.replica) (subst (λ (t : ℕ). v.tick ≤ t) (sym same) contained))

-- ---- items changed once

once_known :
    (units : ℕ) (source m : Member) (i : ItemId) (seen here : ItemState)
    → KnowsState units m i seen → IsChangedOnce units source m i seen here
once_known units source m i (Live cells) (Live own) knows =
    λ u small. inl (none_at (is_unseen_at (laid_known units m) i (Live cells)) units u knows small)
once_known units source m i (Live cells) (Dead v) knows = inl knows
once_known units source m i (Dead v) here knows = inl knows

once_on :
    (units : ℕ) (source m n : Member) (i : ItemId) (seen here : ItemState)
    → IsOrderly units m → IsOrderly units n → GrowsAt units i m n
    → IsChangedOnce units source m i seen here → IsChangedOnce units source n i seen here
once_on units source m n i (Live cells) (Live own) first second grows once = λ u small. elim (once u small) [
  | inl knows ↦ inl (unit_on units i (Live cells) u m n first second grows small knows)
  | inr theirs ↦ inr theirs
]
once_on units source m n i (Live cells) (Dead v) first second grows once = elim once [
  | inl knows ↦ inl (state_on units i (Live cells) m n first second grows knows)
  | inr theirs ↦ inr theirs
]
once_on units source m n i (Dead v) here first second grows once = elim once [
  | inl knows ↦ inl (state_on units i (Dead v) m n first second grows knows)
  | inr theirs ↦ inr theirs
]

-- ---- items that the source does not list

within_on :
    (units : ℕ) (forgotten : Forgets) (i : ItemId) (m n : Member)
    → IsOrderly units m → IsOrderly units n → GrowsAt units i m n
    → is_forgotten_within units forgotten (laid_known units m) i ≡ true → is_forgotten_within units forgotten (laid_known units n) i ≡ true
within_on units forgotten i m n first second grows within =
    (forgotten_within_decided units forgotten (laid_known units n) i).1 (λ u r small.
    le_trans ((forgotten_within_decided units forgotten (laid_known units m) i).0 within u r small)
    (laid_grows units i m n u r first second grows small))

drops_on :
    (units : ℕ) (made_with : Known) (forgotten : Forgets) (i : ItemId) (here : ItemState) (m n : Member)
    → IsOrderly units m → IsOrderly units n → GrowsAt units i m n
    → absent_class_of units (laid_known units m) made_with forgotten (item_with i here) ≢ Conflict
    → absent_class_of units (laid_known units n) made_with forgotten (item_with i here) ≢ Conflict
unfolding absent_class_of
drops_on units made_with forgotten i here m n first second grows none =
    by_tests _ (is_forgotten_within units forgotten (laid_known units m) i) (is_forgotten_within units forgotten (laid_known units n) i)
    (within_on units forgotten i m n first second grows) none
  where
    by_tests :
        (c : Absent) (a b : Bool)
        → (a ≡ true → b ≡ true) → (let x : Absent = if a then absents.Keep else c in x) ≢ Conflict → (let x : Absent = if b then absents.Keep else c in x) ≢ Conflict
    by_tests c a true up calm = λ is. absurd (cc)
    by_tests c true false up calm = absurd (true≢false (sym (up refl)))
    by_tests c false false up calm = calm

-- ---- a step of a session

-- What a step from one state of the destination to another does: it makes nothing, learns of an item nothing
-- or all that the source knows, and an item's state comes of what both sides had.
pub record Passes (units : ℕ) (source m n : Member) : Type 0 where
  pub id : n.id ≡ m.id
  pub clock : n.clock ≡ m.clock
  pub knowledge : IsKnowledge units n.knowledge
  pub forms : AreForgets n.forgotten
  pub ascending : AreAscending n.items
  pub grows : (i : ItemId) → GrowsAt units i m n
  pub either : (i : ItemId) → GrowsAt units i n m ⊎ GrowsAt units i source n
  pub forgotten : (i : ItemId) (r : ℕ) → tick_of (fvec n.forgotten (At i)) r ≤ max (tick_of (fvec m.forgotten (At i)) r) (tick_of (fvec source.forgotten (At i)) r)
  pub states : (i : ItemId) → (state_of n.items i ≡ state_of m.items i) ⊎ (GrowsAt units i source n × ComesOf (state_of source.items i) (state_of m.items i) (state_of n.items i))

-- What holds of the destination from entry to entry.
pub record IsCalm (units : ℕ) (source m : Member) : Type 0 where
  pub orderly : IsOrderly units m
  pub undisturbed : IsUndisturbed units source m
  pub cells : (i : ItemId) → HasCell (state_of m.items i)
  pub made : KnowsMadeAlone units source m

name_on :
    (units : ℕ) (source m n : Member) (i : ItemId) (a : List ℕ)
    → Passes units source m n → IsNameOf source n i a → IsNameOf source m i a
name_on units source m n i a passes of = elim of [
  | inl theirs ↦ inl theirs
  | inr ours ↦ elim (passes.states i) [
    | inl same ↦ inr (subst (λ (o : Option ItemState). IsCalled o a) same ours)
    | inr comes ↦ comes.1.name a ours
  ]
]

called : (items : List ItemData) (i : ItemId) (state : ItemState) (a : List ℕ) → state_of items i ≡ Some state → live_name state ≡ Some a → IsCalled (state_of items i) a
called items i state a at live = ap (λ (o : Option ItemState). option_and_then live_name o) at ∙ live

apart_on : (units : ℕ) (source m n : Member) → IsCalm units source m → Passes units source m n → AreApart n.items
apart_on units source m n calm passes i j x y a b other at_i at_j live_i live_j =
    calm.undisturbed.names i j a b other
    (name_on units source m n i a passes (inr (called n.items i x a at_i live_i)))
    (name_on units source m n j b passes (inr (called n.items j y b at_j live_j)))

orderly_on : (units : ℕ) (source m n : Member) → IsCalm units source m → Passes units source m n → IsOrderly units n
orderly_on units source m n calm passes =
    let was = calm.orderly in
    let id = was.id in
    let clock = was.clock in
    record {
      some = was.some;
      id = rw passes.id id;
      clock = rw passes.clock clock;
      knowledge = passes.knowledge;
      forgotten = passes.forms;
      ascending = passes.ascending;
      names = apart_on units source m n calm passes;
    }

-- A version that was not known before, and of whose item nothing was learned, is not known after.
lacks_on :
    (units : ℕ) (i : ItemId) (m n : Member)
    → IsOrderly units m → IsOrderly units n → GrowsAt units i n m
    → knows_version (laid_known units m) i 0 (creation_of i) ≡ false → knows_version (laid_known units n) i 0 (creation_of i) ≡ false
lacks_on units i m n first second shrinks lacks =
    by_test (knows_version (laid_known units n) i 0 (creation_of i)) refl
  where
    by_test : (b : Bool) → knows_version (laid_known units n) i 0 (creation_of i) ≡ b → b ≡ false
    by_test false e = refl
    by_test true e =
        let some = first.some in
        let low : (creation_of i).tick ≤ tick_at (laid_known units n) (At i) 0 (creation_of i).replica =
        le_is (creation_of i).tick (tick_at (laid_known units n) (At i) 0 (creation_of i).replica) e in
        let up = laid_grows units i n m 0 (creation_of i).replica second first shrinks (omega (arith, some)) in
        absurd (true≢false (sym (is_le (creation_of i).tick (tick_at (laid_known units m) (At i) 0 (creation_of i).replica) (le_trans low up)) ∙ lacks))

deletions_on :
    (units : ℕ) (source m n : Member) (i : ItemId) (seen : ItemState)
    → IsConsistent units source → IsCalm units source m → Passes units source m n → state_of source.items i ≡ Some seen
    → IsNotDeleted units source m i seen → IsNotDeleted units source n i seen
deletions_on units source m n i seen ok calm passes at was = elim (passes.either i) [
  | inr covers ↦ inl (state_on units i seen source n (orderly units source ok) now covers (source_knows units source i seen ok at))
  | inl shrinks ↦ elim was [
    | inl knows ↦ inl (state_on units i seen m n calm.orderly now (passes.grows i) knows)
    | inr rest ↦ elim rest [
      | inl lacks ↦ inr (inl (lacks_on units i m n calm.orderly now shrinks lacks))
      | inr deletions ↦ inr (inr (record {
        theirs = deletions.theirs;
        ours = λ u r small. both u r small deletions (passes.forgotten i r);
      }))
    ]
  ]
]
  where
    now : IsOrderly units n
    now = orderly_on units source m n calm passes

    both :
        (u r : ℕ) → u < units → KnowsDeletions units source m i
        → tick_of (fvec n.forgotten (At i)) r ≤ max (tick_of (fvec m.forgotten (At i)) r) (tick_of (fvec source.forgotten (At i)) r)
        → tick_of (fvec n.forgotten (At i)) r ≤ tick_at (laid_known units source) (At i) u r
    both u r small deletions le =
        let a = deletions.theirs u r small in
        let b = deletions.ours u r small in
        omega (arith, a, b, le)

-- It stays so.
pub calm_on :
    (units : ℕ) (source m n : Member)
    → IsConsistent units source → IsCalm units source m → Passes units source m n → IsCalm units source n
calm_on units source m n ok calm passes = record {
  orderly = now;
  undisturbed = record {
    changes = λ i seen here at_source at_n. elim (passes.states i) [
      | inl same ↦ once_on units source m n i seen here calm.orderly now (passes.grows i) (calm.undisturbed.changes i seen here at_source (sym same ∙ at_n))
      | inr comes ↦ once_known units source n i seen here (state_on units i seen source n (orderly units source ok) now comes.0 (source_knows units source i seen ok at_source))
    ];
    deletions = λ i seen at_source at_n. elim (passes.states i) [
      | inl same ↦ deletions_on units source m n i seen ok calm passes at_source (calm.undisturbed.deletions i seen at_source (sym same ∙ at_n))
      | inr comes ↦ inl (state_on units i seen source n (orderly units source ok) now comes.0 (source_knows units source i seen ok at_source))
    ];
    drops = λ i here at_source at_n.
        drops_on units (laid_known units source) source.forgotten i here m n calm.orderly now (passes.grows i)
        (calm.undisturbed.drops i here at_source (before i here at_source at_n));
    names = λ i j a b other first second.
        calm.undisturbed.names i j a b other (name_on units source m n i a passes first) (name_on units source m n j b passes second);
  };
  cells = λ i. elim (passes.states i) [
    | inl same ↦ subst HasCell (sym same) (calm.cells i)
    | inr comes ↦ comes.1.cell
  ];
  made = λ place u at small.
      subst (λ (c : ℕ). vector_at source place u n.id ≤ c) (sym passes.clock)
      (subst (λ (r : ℕ). vector_at source place u r ≤ m.clock) (sym passes.id) (calm.made place u at small));
}
  where
    now : IsOrderly units n
    now = orderly_on units source m n calm passes

    before : (i : ItemId) (here : ItemState) → state_of source.items i ≡ None → state_of n.items i ≡ Some here → state_of m.items i ≡ Some here
    before i here at_source at_n = elim (passes.states i) [
      | inl same ↦ sym same ∙ at_n
      | inr comes ↦ comes.1.stays at_source here at_n
    ]
