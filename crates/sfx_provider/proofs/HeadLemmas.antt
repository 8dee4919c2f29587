-- The commit of a state's head, with items put or dropped.
use Rattle.std.proofs.Common.{◌≡◌, ℕ, ◌<◌, Bool, true, false, if◌then◌else◌, nat_eq, List, [], ◌∷◌, Some, None, inl, inr, refl, sym, ◌∙◌, ap, subst, arith}
use Rattle.std.specs.Prelude.{IsSome}
use Rattle.std.proofs.lemmas.Bool.{eq-eqb, eqb-true}
use Rattle.sfx_ids.specs.declared.cut.Cut.{Cut}
use Rattle.sfx_ids.specs.declared.item_id.ItemId.{ItemId}
use Rattle.sfx_segments.specs.Segments.{IsPlace}
use Rattle.sfx_knowledge.specs.Knowledge.{HasTicks, Known, laid_over, tick_at}
use Rattle.sfx_knowledge.specs.Forms.{with_own}
use Rattle.sfx_knowledge.proofs.KnowledgeLemmas.{one_knowledge}
use Rattle.sfx_knowledge.proofs.FormsLemmas.{IsKnowledge-with_own, ticks-with_own}
use Rattle.sfx_model.specs.members.Consistent.{AreApart, IsConsistent}
use Rattle.sfx_model.specs.world.Events.{same_item}
use Rattle.sfx_item.specs.Item.{ItemState, ItemData}
use Rattle.sfx_model.specs.members.Members.{Member, AreIdsAscending, AreAscending, state_of}
use Rattle.sfx_model.specs.world.Sets.{Has}
use Rattle.sfx_model.proofs.members.AscendingItems.{before_differs, ids_compared}
use Rattle.sfx_model.proofs.world.StepKeepsWorld.{same_item_is}
use Rattle.sfx_model.specs.members.ItemLists.{drop_all, drop_item, put_all, put_item}
use Rattle.sfx_provider.specs.Commit.{commit_of, after_commit}
use Rattle.sfx_provider.specs.Fits.{FitsMember, IsKnownItem}
use Rattle.sfx_provider.specs.Head.{head_of}
use Rattle.sfx_items.proofs.ItemListLemmas.{drops_gone, drops_others}

-- The ticks of the head's knowledge: the clock is laid over.
pub head_ticks : (units : ℕ) (m : Member) → IsConsistent units m → HasTicks units (head_of units m).knowledge (laid_over m.id m.clock (tick_at m.knowledge))
head_ticks units m good = ticks-with_own units m.id m.clock m.knowledge good.knowledge good.clock good.id

-- What is left to show of a commit that has all but the items from the head.
head_fits :
    (units : ℕ) (m : Member) (puts : List ItemData) (drops : List ItemId)
    → IsConsistent units m → AreAscending puts
    → ((i : ItemId) (state : ItemState) → state_of puts i ≡ Some state → IsKnownItem units (head_of units m).knowledge i state)
    → AreIdsAscending drops → ((i : ItemId) → Has i drops → IsSome (state_of m.items i))
    → ((i : ItemId) → Has i drops → state_of puts i ≡ None)
    → AreApart (drop_all drops (put_all puts m.items))
    → FitsMember units (record (commit_of (head_of units m)) { puts = puts; drops = drops }) m
head_fits units m puts drops good ascending known falling present apart names = record {
  clock = omega arith;
  knowledge = λ place u r is small.
      let same = head_ticks units m good place u r is small in
      omega (arith, same);
  forgotten = λ place r is. omega arith;
  most = good.clock;
  own = λ place u is small.
      head_ticks units m good place u m.id is small ∙ own_tick m.id m.clock (tick_at m.knowledge place u m.id);
  forgets = good.forgets;
  made = good.forgotten;
  puts = ascending;
  items = known;
  drops = falling;
  present = present;
  apart = apart;
  names = names;
}
  where
    own_tick : (r tick other : ℕ) → (if nat_eq r r then tick else other) ≡ tick
    own_tick r tick other = rw (eq-eqb r r refl) refl

pub unchanged_fits : (units : ℕ) (m : Member) → IsConsistent units m → FitsMember units (commit_of (head_of units m)) m
unchanged_fits units m good =
    head_fits units m [] [] good tt (λ i state is. absurd (cc)) tt (λ i has. absurd has) (λ i has. absurd has) good.names

-- What is stored of the head's knowledge is the state's.
stored_back : (units : ℕ) (m : Member) → IsConsistent units m → with_own units m.id 0 (head_of units m).knowledge ≡ m.knowledge
stored_back units m good =
    let head = (head_of units m).knowledge in
    let form = IsKnowledge-with_own units m.id m.clock m.knowledge good.knowledge good.clock good.id in
    let back = ticks-with_own units m.id 0 head form (omega arith) good.id in
    one_knowledge units (with_own units m.id 0 head) m.knowledge good.some
    (IsKnowledge-with_own units m.id 0 head form (omega arith) good.id) good.knowledge
    (λ place u r is small. back place u r is small ∙ alike place u r is small (nat_eq r m.id) refl)
  where
    alike :
        (place : Cut) (u r : ℕ) → IsPlace place → u < units → (b : Bool) → nat_eq r m.id ≡ b
        → (if nat_eq r m.id then 0 else tick_at (head_of units m).knowledge place u r) ≡ tick_at m.knowledge place u r
    alike place u r is small true own =
        rw own (subst (λ (x : ℕ). 0 ≡ tick_at m.knowledge place u x) (sym (eqb-true r m.id own)) (sym (good.unstored place u is small)))
    alike place u r is small false other =
        rw other (head_ticks units m good place u r is small ∙ ap (λ (b : Bool). if b then m.clock else tick_at m.knowledge place u r) other)

abbrev knowing : Member → Known → Member
knowing m known = record { id = m.id; clock = m.clock; knowledge = known; forgotten = m.forgotten; items = m.items }

pub unchanged_same :
    (units : ℕ) (m : Member) → IsConsistent units m → after_commit units (commit_of (head_of units m)) m ≡ m
unchanged_same units m good =
    let e : knowing m (with_own units m.id 0 (head_of units m).knowledge) ≡ knowing m m.knowledge =
    ap (knowing m) (stored_back units m good) in
    e

pub put_fits :
    (units : ℕ) (m : Member) (x : ItemData)
    → IsConsistent units m → IsKnownItem units (head_of units m).knowledge x.id x.state → AreApart (put_item x m.items)
    → FitsMember units (record (commit_of (head_of units m)) { puts = x ∷ [] }) m
put_fits units m x good known names =
    head_fits units m (x ∷ []) [] good ((λ y has. absurd has), tt) (λ i state is. by_test i state (same_item x.id i) refl is) tt
    (λ i has. absurd has) (λ i has. absurd has) names
  where
    by_test :
        (i : ItemId) (state : ItemState) (b : Bool) → same_item x.id i ≡ b → (if b then Some x.state else None) ≡ Some state
        → IsKnownItem units (head_of units m).knowledge i state
    by_test i state true test is =
        let id : x.id ≡ i = same_item_is x.id i test in
        let same : x.state ≡ state = cc in
        subst (λ (j : ItemId). IsKnownItem units (head_of units m).knowledge j state) id
        (subst (λ (s : ItemState). IsKnownItem units (head_of units m).knowledge x.id s) same known)
    by_test i state false test is = absurd (cc)

-- An item that is left after a drop was there.
left_there :
    (i : ItemId) (xs : List ItemData) (j : ItemId) (state : ItemState)
    → AreAscending xs → state_of (drop_item i xs) j ≡ Some state → state_of xs j ≡ Some state
left_there i xs j state ascending is =
    elim (ids_compared i j) [
      | inl same ↦
          let gone : state_of (drop_item i xs) j ≡ None = drops_gone (i ∷ []) xs j ascending (inl (sym same)) in
          let bad : None ≡ Some state = sym gone ∙ is in
          absurd (cc)
      | inr apart ↦
          let other : ¬ Has j (i ∷ []) = λ has. elim has [
            | inl same ↦ elim apart [
              | inl below ↦ before_differs i j below (sym same)
              | inr above ↦ before_differs j i above same
            ]
            | inr none ↦ none
          ] in
          sym (drops_others (i ∷ []) xs j other) ∙ is
    ]

pub drop_fits :
    (units : ℕ) (m : Member) (i : ItemId)
    → IsConsistent units m → IsSome (state_of m.items i)
    → FitsMember units (record (commit_of (head_of units m)) { drops = i ∷ [] }) m
drop_fits units m i good there =
    head_fits units m [] (i ∷ []) good tt (λ j state is. absurd (cc)) ((λ j has. absurd has), tt)
    (λ j has. elim has [ inl same ↦ subst (λ (k : ItemId). IsSome (state_of m.items k)) (sym same) there | inr none ↦ absurd none ])
    (λ j has. refl)
    (λ j k x y a b apart at_j at_k. good.names j k x y a b apart (left_there i m.items j x good.ascending at_j) (left_there i m.items k y good.ascending at_k))
