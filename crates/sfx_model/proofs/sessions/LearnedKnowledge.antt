-- What learning makes of the lists of a member, in the words of what an event owes of it.
use Rattle.std.proofs.Common.{◌≡◌, ◌≢◌, ◌↔◌, ℕ, ◌<◌, max, not, ◌&&◌, Bool, true, false, true≢false, if◌then◌else◌, nat_eq, List, inl, inr, refl, sym, ◌∙◌, ap, subst}
use Rattle.std.proofs.lemmas.Bool.{eq-eqb, ne_eqb, cases_eq}
use Rattle.sfx_ids.specs.declared.cut.Cut.{Cut}
use Rattle.sfx_ids.specs.declared.cut.Cut.TheVariants.{Start, At, After, End}
use Rattle.sfx_ids.specs.declared.item_id.ItemId.{ItemId}
use Rattle.sfx_ids.specs.Cut.{cut_le, is_between}
use Rattle.sfx_ids.proofs.CutLemmas.{start-le, le-self, at-lt-after, alone}
use Rattle.sfx_vector.specs.Clocks.{tick_of}
use Rattle.sfx_segments.specs.Segments.{IsPlace}
use Rattle.sfx_segments.proofs.PlaceValues.{lt-end}
use Rattle.sfx_knowledge.specs.Skips.{is_skipped, is_skipped_at}
use Rattle.sfx_knowledge.specs.Knowledge.{Known, Ticks, HasTicks, tick_at, learned_ticks, laid_over}
use Rattle.sfx_knowledge.specs.Forgotten.{Forgets, ForgotBoth, fvec}
use Rattle.sfx_model.specs.world.Events.{UnitMark, Keeps, Takes, Stamps, Leaves, Drops, same_item}
use Rattle.sfx_model.specs.members.Members.{Member, shown, vector_at}
use Rattle.sfx_model.specs.members.Results.{LearnResult, ForgetResult, SameVectors, SkipsLeft, is_place_of, is_left_at, joined_by, joined_at}
use Rattle.sfx_model.proofs.world.StepKeepsWorld.{same_item_is, same_item_self}

-- The entry of a replica in ticks with an own one laid over them.
laid_own : (own tick : ℕ) (a : Ticks) (place : Cut) (u r : ℕ) → r ≡ own → laid_over own tick a place u r ≡ tick
laid_own own tick a place u r is = rw (eq-eqb r own is) refl

pub laid_other : (own tick : ℕ) (a : Ticks) (place : Cut) (u r : ℕ) → r ≢ own → laid_over own tick a place u r ≡ a place u r
laid_other own tick a place u r other = rw (ne_eqb r own other) refl

-- The own tick laid over a list that has these ticks.
pub ticks_laid :
    (units own tick : ℕ) (ticks : Ticks) (k n : Known)
    → HasTicks units k ticks → HasTicks units n (laid_over own tick (tick_at k)) → HasTicks units n (laid_over own tick ticks)
ticks_laid units own tick ticks k n has over place u r there small =
    over place u r there small ∙ ap (λ (t : ℕ). if nat_eq r own then tick else t) (has place u r there small)

-- What was laid over beforehand does not matter once the own tick is laid over what was learned_ticks.
pub laid_learned :
    (units own clock tick : ℕ) (lo hi : Cut) (skipped : List (ItemId × ℕ)) (here there : Ticks) (k n : Known)
    → HasTicks units k (learned_ticks lo hi skipped (laid_over own clock here) there)
    → HasTicks units n (laid_over own tick (tick_at k))
    → HasTicks units n (laid_over own tick (learned_ticks lo hi skipped here there))
laid_learned units own clock tick lo hi skipped here there k n has over place u r at small =
    elim (cases_eq r own) [
      | inl is ↦
          over place u r at small ∙ laid_own own tick (tick_at k) place u r is
          ∙ sym (laid_own own tick (learned_ticks lo hi skipped here there) place u r is)
      | inr other ↦
          over place u r at small ∙ laid_other own tick (tick_at k) place u r other ∙ has place u r at small
          ∙ ap (λ (t : ℕ). if is_between lo hi place && not (is_skipped_at skipped place u) then max t (there place u r) else t)
          (laid_other own clock here place u r other)
          ∙ sym (laid_other own tick (learned_ticks lo hi skipped here there) place u r other)
    ]

-- The places of an item's range are its place alone.
pub place_alone : (i : ItemId) (place : Cut) → is_between (At i) (After i) place ≡ is_place_of i place
place_alone i Start = refl
place_alone i End = by_test (cut_le (At i) End)
  where
    by_test : (b : Bool) → (b && false) ≡ false
    by_test true = refl
    by_test false = refl
place_alone i (After j) = by_test (is_between (At i) (After i) (After j)) (alone i (After j))
  where
    by_test : (b : Bool) → (b ≡ true → After j ≡ At i) → b ≡ false
    by_test true same = absurd (let bad = same refl in cc)
    by_test false same = refl
place_alone i (At j) = by_tests (is_between (At i) (After i) (At j)) (same_item j i) refl (alone i (At j)) refl
  where
    by_tests :
        (b c : Bool)
        → is_between (At i) (After i) (At j) ≡ b → (b ≡ true → At j ≡ At i) → same_item j i ≡ c → b ≡ c
    by_tests true true e same f = refl
    by_tests false false e same f = refl
    by_tests true false e same f =
        let is : j ≡ i = let at : At j ≡ At i = same refl in cc in
        absurd (true≢false (sym (subst (λ (k : ItemId). same_item j k ≡ true) is (same_item_self j)) ∙ f))
    by_tests false true e same f =
        let is : j ≡ i = same_item_is j i f in
        let here : is_between (At i) (After i) (At i) ≡ true = rw (le-self (At i), at-lt-after i) refl in
        absurd (true≢false (sym (subst (λ (k : ItemId). is_between (At i) (After i) (At k) ≡ true) (sym is) here) ∙ e))

-- What is left out of a range by a test is what is listed.
pub left_skipped : (skipped : List (ItemId × ℕ)) (place : Cut) (u : ℕ) → is_left_at (is_skipped skipped) place u ≡ is_skipped_at skipped place u
left_skipped skipped Start u = refl
left_skipped skipped (At i) u = refl
left_skipped skipped (After i) u = refl
left_skipped skipped End u = refl

-- A tick joined by a mark: with both, but where the unit is left alone.
joined_left : (mark : UnitMark) (a b : ℕ) (skip : Bool) → ((skip ≡ true) ↔ (mark ≡ Leaves)) → (if not skip then max a b else a) ≡ joined_by mark a b
joined_left Leaves a b true is = refl
joined_left Leaves a b false is = absurd (true≢false (sym (is.1 refl)))
joined_left Keeps a b true is = absurd (let bad : Keeps ≡ Leaves = is.0 refl in cc)
joined_left Keeps a b false is = refl
joined_left Takes a b true is = absurd (let bad : Takes ≡ Leaves = is.0 refl in cc)
joined_left Takes a b false is = refl
joined_left (Stamps c) a b true is = absurd (let bad : Stamps c ≡ Leaves = is.0 refl in cc)
joined_left (Stamps c) a b false is = refl
joined_left Drops a b true is = absurd (let bad : Drops ≡ Leaves = is.0 refl in cc)
joined_left Drops a b false is = refl

-- Learning one item but for the units that are left alone is joining it by the marks.
pub learned_joined :
    (units : ℕ) (i : ItemId) (marks : ℕ → UnitMark) (skipped : List (ItemId × ℕ)) (here there : Ticks) (place : Cut) (u r : ℕ)
    → SkipsLeft units i marks skipped → u < units
    → learned_ticks (At i) (After i) skipped here there place u r ≡ joined_at i marks here there place u r
learned_joined units i marks skipped here there place u r skips small =
    ap (λ (b : Bool). if b && not (is_skipped_at skipped place u) then max (here place u r) (there place u r) else here place u r) (place_alone i place)
    ∙ by_place place
  where
    by_item :
        (j : ItemId) (b : Bool)
        → same_item j i ≡ b
        → (if b && not (is_skipped skipped j u) then max (here (At j) u r) (there (At j) u r) else here (At j) u r)
        ≡ (if b then joined_by (marks u) (here (At j) u r) (there (At j) u r) else here (At j) u r)
    by_item j true e =
        joined_left (marks u) (here (At j) u r) (there (At j) u r) (is_skipped skipped j u)
        (subst (λ (k : ItemId). (is_skipped skipped k u ≡ true) ↔ (marks u ≡ Leaves)) (sym (same_item_is j i e)) (skips u small))
    by_item j false e = refl

    by_place :
        (q : Cut)
        → (if is_place_of i q && not (is_skipped_at skipped q u) then max (here q u r) (there q u r) else here q u r)
        ≡ joined_at i marks here there q u r
    by_place Start = refl
    by_place (After j) = refl
    by_place End = refl
    by_place (At j) = by_item j (same_item j i) refl

-- A member's vector but for its own entry.
pub vector_other : (m : Member) (place : Cut) (u r : ℕ) → r ≢ m.id → vector_at m place u r ≡ tick_at m.knowledge place u r
vector_other m place u r other = rw (ne_eqb r m.id other) refl

-- The vectors after learning that are stored without the own entry, as a change of vectors.
pub stored_vectors :
    (units : ℕ) (m n : Member) (step : Cut → ℕ → ℕ → ℕ → ℕ) (ticks : Ticks)
    → n.id ≡ m.id → HasTicks units n.knowledge (laid_over m.id 0 ticks)
    → ((place : Cut) (u r : ℕ) → IsPlace place → u < units → ticks place u r ≡ step place u r (tick_at m.knowledge place u r))
    → SameVectors units (vector_at n) (laid_over n.id n.clock (λ place u r. step place u r (vector_at m place u r)))
stored_vectors units m n step ticks same has each place u r at small =
    elim (cases_eq r n.id) [
      | inl own ↦ rw (eq-eqb r n.id own) refl
      | inr other ↦
          let apart : r ≢ m.id = λ e. other (e ∙ sym same) in
          vector_other n place u r other ∙ has place u r at small ∙ laid_other m.id 0 ticks place u r apart
          ∙ each place u r at small
          ∙ ap (step place u r) (sym (vector_other m place u r apart))
          ∙ sym (rw (ne_eqb r n.id other) refl)
    ]

-- The vectors of an entry.
pub learned_item :
    (units : ℕ) (m n : Member) (i : ItemId) (marks : ℕ → UnitMark) (skipped : List (ItemId × ℕ)) (there : Ticks)
    → n.id ≡ m.id → SkipsLeft units i marks skipped
    → HasTicks units n.knowledge (laid_over m.id 0 (learned_ticks (At i) (After i) skipped (tick_at m.knowledge) there))
    → SameVectors units (vector_at n) (laid_over n.id n.clock (joined_at i marks (vector_at m) there))
learned_item units m n i marks skipped there same skips has =
    stored_vectors units m n (λ place u r t. if is_place_of i place then joined_by (marks u) t (there place u r) else t)
    (learned_ticks (At i) (After i) skipped (tick_at m.knowledge) there) same has
    (λ place u r at small. learned_joined units i marks skipped (tick_at m.knowledge) there place u r skips small)

-- A learned_ticks range.
pub learned_range :
    (units : ℕ) (m n : Member) (lo hi : Cut) (skipped : List (ItemId × ℕ)) (there : Ticks)
    → n.id ≡ m.id → n.clock ≡ m.clock → n.forgotten ≡ m.forgotten → n.items ≡ m.items
    → HasTicks units n.knowledge (laid_over m.id 0 (learned_ticks lo hi skipped (tick_at m.knowledge) there))
    → LearnResult units lo hi (is_skipped skipped) there (shown m) (shown n)
learned_range units m n lo hi skipped there id clock forgotten items has = record {
  id = id;
  clock = clock;
  vectors =
      stored_vectors units m n
      (λ place u r t. if is_between lo hi place && not (is_left_at (is_skipped skipped) place u) then max t (there place u r) else t)
      (learned_ticks lo hi skipped (tick_at m.knowledge) there) id has
      (λ place u r at small. ap (λ (b : Bool). if is_between lo hi place && not b then max (tick_at m.knowledge place u r) (there place u r) else tick_at m.knowledge place u r)
      (sym (left_skipped skipped place u)));
  forgotten = λ place r at. rw forgotten refl;
  items = λ j. rw items refl;
}

-- Every place is in the range from the start to the end.
pub everywhere : (place : Cut) → IsPlace place → is_between Start End place ≡ true
everywhere place at = rw (start-le place, lt-end place at) refl

-- Forgotten deletions joined at every place.
pub forgot_both :
    (units : ℕ) (m n : Member) (other : Forgets)
    → n.id ≡ m.id → n.clock ≡ m.clock → n.knowledge ≡ m.knowledge → n.items ≡ m.items
    → ForgotBoth m.forgotten other n.forgotten
    → ForgetResult units (λ place r. tick_of (fvec other place) r) Start End (shown m) (shown n)
forgot_both units m n other id clock knowledge items both = record {
  id = id;
  clock = clock;
  vectors = λ place u r at small. rw (id, clock, knowledge) refl;
  forgotten = λ place r at. both place r at ∙ sym (rw (everywhere place at) refl);
  items = λ j. rw items refl;
}
