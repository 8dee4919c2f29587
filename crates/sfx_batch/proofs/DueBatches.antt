-- The batch that is due from a place, of a consistent source, is a right one.
use Rattle.std.proofs.Common.{◌≡◌, ◌⊎◌, ℕ, ◌<◌, Bool, true, false, if◌then◌else◌, nat_lt, List, [], ◌∷◌, length, Some, inl, inr, arith, refl, sym, ◌∙◌, ap, subst}
use Rattle.std.proofs.lemmas.Bool.Decides.{nat_tests}
use Rattle.std.specs.List.{filter}
use Rattle.sfx_ids.specs.declared.cut.Cut.{Cut}
use Rattle.sfx_ids.specs.declared.cut.Cut.TheVariants.{Start, At, After, End}
use Rattle.sfx_ids.specs.declared.item_id.ItemId.{ItemId}
use Rattle.sfx_ids.specs.declared.version.Version.{Version}
use Rattle.sfx_ids.specs.Cut.{cut_le, cut_lt}
use Rattle.sfx_ids.specs.ItemId.{creation_of}
use Rattle.sfx_ids.proofs.CutLemmas.{at-lt-after, le_lt_trans, lt_trans}
use Rattle.sfx_segments.specs.Segments.{IsPlace}
use Rattle.sfx_knowledge.specs.Forgotten.{AreForgets}
use Rattle.sfx_knowledge.specs.Knowledge.{Known, KnowsVersion}
use Rattle.sfx_knowledge.proofs.FormsLemmas.{IsKnowledge-with_own, ticks-with_own}
use Rattle.sfx_model.specs.declared.mode.Mode.{Mode}
use Rattle.sfx_model.specs.declared.mode.Mode.TheVariants.{Normal, Recover}
use Rattle.sfx_model.proofs.sessions.SessionsEnd.{EndsAt, ends_at, has_due, has_filtered}
use Rattle.sfx_model.specs.sessions.Batch.{BatchData, IsBatch, IsListing, IsSent, batch_from, due, due_end, listed_ids, place_behind}
use Rattle.sfx_model.specs.members.Consistent.{IsConsistent}
use Rattle.sfx_model.specs.world.Events.{is_in}
use Rattle.sfx_model.specs.sessions.MemberKnowledge.{laid_known}
use Rattle.sfx_item.specs.Item.{ItemState, ItemData}
use Rattle.sfx_model.specs.members.Members.{Member, AreAscending, IsIdBelow, state_of, vector_at}
use Rattle.sfx_model.specs.members.Readings.{is_unseen, items_from, unseen}
use Rattle.sfx_model.specs.world.Sets.{Has}
use Rattle.sfx_model.specs.world.World.{IsContained}
use Rattle.sfx_provider.specs.Head.{HeadData, head_of}
use Rattle.sfx_batch.proofs.PickedItems.{has_filter, has_id, has_state, id_has, ids_ascending, ascending_filter, ascending_take, state_has}

-- ---- places

before_id : (i j : ItemId) → IsIdBelow i j → cut_lt (At i) (At j) ≡ true
before_id i j below = elim below [ inl less ↦ grind (arith, nat_tests) | inr (same, less) ↦ grind (arith, nat_tests) ]

place-lt-end : (a : Cut) → IsPlace a → cut_lt a End ≡ true
place-lt-end Start is = refl
place-lt-end (At x) is = refl
place-lt-end (After x) is = refl
place-lt-end End is = absurd is

-- Behind the last of items in order is behind each of them.
behind_all :
    (place : Cut) (xs : List ItemData) (x : ItemData)
    → AreAscending xs → Has x xs → cut_lt (At x.id) (place_behind place xs) ≡ true
behind_all place [] x ascending has = absurd has
behind_all place (y ∷ ys) x ascending has = elim has [
  | inl same ↦ subst (λ (z : ItemData). cut_lt (At z.id) (place_behind (After y.id) ys) ≡ true) (sym same) (here (ends_at (After y.id) ys))
  | inr there ↦ behind_all (After y.id) ys x ascending.1 there
]
  where
    here :
        (place_behind (After y.id) ys ≡ After y.id) ⊎ EndsAt (place_behind (After y.id) ys) ys
        → cut_lt (At y.id) (place_behind (After y.id) ys) ≡ true
    here ends = elim ends [
      | inl none ↦ subst (λ (c : Cut). cut_lt (At y.id) c ≡ true) (sym none) (at-lt-after y.id)
      | inr at ↦ subst (λ (c : Cut). cut_lt (At y.id) c ≡ true) (sym at.behind)
          (lt_trans (At y.id) (At at.item.id) (After at.item.id) (before_id y.id at.item.id (ascending.0 at.item at.there)) (at-lt-after at.item.id))
    ]

-- ---- the items that are due

due_ascending :
    (units size : ℕ) (known : Known) (from : Cut) (items : List ItemData)
    → AreAscending items → AreAscending (due units size known from items)
due_ascending units size known from items ascending =
    ascending_take size (unseen units known from items)
    (ascending_filter (is_unseen units known) (items_from from items)
    (ascending_filter (λ x. cut_le from (At x.id)) items ascending))

-- Each of them is one of the items, from the place on.
due_found :
    (units size : ℕ) (known : Known) (from : Cut) (items : List ItemData) (x : ItemData)
    → Has x (due units size known from items) → (cut_le from (At x.id) ≡ true) × Has x items
due_found units size known from items x has =
    has_filtered (λ y. cut_le from (At y.id)) x items (has_due units size known from items x has)

-- Each is before the end of the range.
due_before :
    (units size : ℕ) (known : Known) (from : Cut) (items : List ItemData) (x : ItemData)
    → AreAscending items → Has x (due units size known from items)
    → cut_lt (At x.id) (due_end units size known from items) ≡ true
due_before units size known from items x ascending has = by_test (nat_lt size (length (unseen units known from items)))
  where
    by_test :
        (b : Bool) → cut_lt (At x.id) (if b then place_behind End (due units size known from items) else End) ≡ true
    by_test true =
        behind_all End (due units size known from items) x (due_ascending units size known from items ascending) has
    by_test false = refl

due_within :
    (units size : ℕ) (known : Known) (from : Cut) (items : List ItemData) (x : ItemData)
    → AreAscending items → Has x (due units size known from items)
    → is_in from (due_end units size known from items) x.id ≡ true
due_within units size known from items x ascending has =
    rw (due_before units size known from items x ascending has, (due_found units size known from items x has).0) refl

-- The range is not empty.
due_behind :
    (units size : ℕ) (known : Known) (from : Cut) (items : List ItemData)
    → IsPlace from → cut_lt from (due_end units size known from items) ≡ true
due_behind units size known from items is =
    by_test (nat_lt size (length (unseen units known from items))) (ends_at End (due units size known from items))
  where
    by_test :
        (b : Bool)
        → (place_behind End (due units size known from items) ≡ End) ⊎ EndsAt (place_behind End (due units size known from items)) (due units size known from items)
        → cut_lt from (if b then place_behind End (due units size known from items) else End) ≡ true
    by_test true ends = elim ends [
      | inl none ↦ subst (λ (c : Cut). cut_lt from c ≡ true) (sym none) (place-lt-end from is)
      | inr at ↦ subst (λ (c : Cut). cut_lt from c ≡ true) (sym at.behind)
          (le_lt_trans from (At at.item.id) (After at.item.id) (due_found units size known from items at.item at.there).0 (at-lt-after at.item.id))
    ]
    by_test false ends = place-lt-end from is

-- An item that is due is in the state that it has with the source.
due_state :
    (units size : ℕ) (known : Known) (from : Cut) (items : List ItemData) (i : ItemId) (state : ItemState)
    → AreAscending items → state_of (due units size known from items) i ≡ Some state
    → (is_in from (due_end units size known from items) i ≡ true) × (state_of items i ≡ Some state)
due_state units size known from items i state ascending is =
    let at = state_has i state (due units size known from items) is in
    let within = due_within units size known from items at.0 ascending at.1 in
    let there = has_state at.0 items ascending (due_found units size known from items at.0 at.1).1 in (
      subst (λ (j : ItemId). is_in from (due_end units size known from items) j ≡ true) at.2 within,
      subst (λ (j : ItemId). state_of items j ≡ Some state) at.2 (there ∙ ap Some at.3),
    )

-- ---- the batch

-- What the source knows of a version, the made-with knowledge contains.
laid :
    (units : ℕ) (m : Member) (i : ItemId) (u : ℕ) (v : Version)
    → IsConsistent units m → u < units → IsContained (vector_at m (At i) u) v
    → KnowsVersion (laid_known units m) i u v
laid units m i u v good small known =
    let ticks = ticks-with_own units m.id m.clock m.knowledge good.knowledge good.clock good.id (At i) u v.replica tt small in
    rw ticks known

sent :
    (units size : ℕ) (m : Member) (mode : Mode) (known : Known) (from : Cut) (i : ItemId) (state : ItemState)
    → IsConsistent units m → state_of (due units size known from m.items) i ≡ Some state
    → IsSent units (batch_from units m mode size known from) i state
unfolding batch_from
sent units size m mode known from i state good is =
    let at = due_state units size known from m.items i state good.ascending is in
    let owned = good.items i state at.1 in record {
      whole = owned.whole;
      within = at.0;
      creation = λ u small. laid units m i u (creation_of i) good small (owned.creation u small);
      versions = λ u v small has. laid units m i u v good small (owned.versions u v small has);
    }

listing :
    (units size : ℕ) (m : Member) (mode : Mode) (known : Known) (from : Cut)
    → IsConsistent units m → IsListing mode (batch_from units m mode size known from)
unfolding batch_from
listing units size m Normal known from good = refl
listing units size m Recover known from good =
    let to = due_end units size known from m.items in
    let there = filter (λ (x : ItemData). is_in from to x.id) m.items in (
      ids_ascending there (ascending_filter (λ x. is_in from to x.id) m.items good.ascending),
      λ i has.
          let at = has_id i there has in
          subst (λ (j : ItemId). is_in from to j ≡ true) (sym at.2)
          (has_filtered (λ x. is_in from to x.id) at.0 m.items at.1).0,
      λ x has.
          id_has x there
          (has_filter (λ y. is_in from to y.id) x m.items (due_within units size known from m.items x good.ascending has)
          (due_found units size known from m.items x has).1),
    )

pub batch_is :
    (units size : ℕ) (m : Member) (mode : Mode) (known : Known) (from : Cut)
    → IsConsistent units m → AreForgets m.forgotten → IsPlace from
    → IsBatch units (batch_from units m mode size known from)
unfolding batch_from
batch_is units size m mode known from good forgets place = record {
  source = good.id;
  from = place;
  to = due_behind units size known from m.items place;
  made_with = IsKnowledge-with_own units m.id m.clock m.knowledge good.knowledge good.clock good.id;
  forgotten = forgets;
  ascending = due_ascending units size known from m.items good.ascending;
  changes = λ i state is. sent units size m mode known from i state good is;
  here = listing units size m mode known from good;
}

-- The same of a batch that was made part by part.
abbrev pub made_of : HeadData → Mode → Cut → Cut → List ItemData → List ItemId → BatchData
made_of head mode from to changes here = record {
  source = head.id;
  mode = mode;
  from = from;
  to = to;
  made_with = head.knowledge;
  forgotten = head.forgotten;
  changes = changes;
  here = here;
}

made_is :
    (units size : ℕ) (m : Member) (mode : Mode) (known : Known) (from : Cut)
    → batch_from units m mode size known from
    ≡ made_of (head_of units m) mode from (due_end units size known from m.items) (due units size known from m.items) (listed_ids mode from (due_end units size known from m.items) m.items)
unfolding batch_from
made_is units size m mode known from = refl

pub made_batch :
    (units size : ℕ) (m : Member) (mode : Mode) (known : Known) (from : Cut)
    (head : HeadData) (to : Cut) (changes : List ItemData) (here : List ItemId)
    → head ≡ head_of units m → to ≡ due_end units size known from m.items
    → changes ≡ due units size known from m.items → here ≡ listed_ids mode from to m.items
    → made_of head mode from to changes here ≡ batch_from units m mode size known from
made_batch units size m mode known from head to changes here is ends are lists =
    rw (made_is units size m mode known from, lists, are, ends, is) refl

pub right_batch :
    (units size : ℕ) (m : Member) (mode : Mode) (known : Known) (from : Cut)
    (head : HeadData) (to : Cut) (changes : List ItemData) (here : List ItemId)
    → IsConsistent units m → IsPlace from
    → head ≡ head_of units m → to ≡ due_end units size known from m.items
    → changes ≡ due units size known from m.items → here ≡ listed_ids mode from to m.items
    → IsBatch units (made_of head mode from to changes here)
right_batch units size m mode known from head to changes here good place is ends are lists =
    subst (λ (b : BatchData). IsBatch units b)
    (sym (made_batch units size m mode known from head to changes here is ends are lists))
    (batch_is units size m mode known from good good.forgets place)
