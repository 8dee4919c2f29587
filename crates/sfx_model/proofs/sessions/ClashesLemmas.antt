-- Live names that do not clash, and what an entry and its rule make of them.
use Rattle.std.proofs.Common.{◌≡◌, ◌≢◌, ℕ, not, Bool, true, false, true≢false, if◌then◌else◌, List, [], ◌∷◌, Option, Some, None, inl, inr, refl, sym, ◌∙◌, ap, subst}
use Rattle.std.specs.Option.{option_map_or}
use Rattle.std.proofs.lemmas.Bool.{and_parts, not-true}
use Rattle.sfx_ids.specs.declared.item_id.ItemId.{ItemId}
use Rattle.sfx_item.specs.declared.cell.Cell.{Cell}
use Rattle.sfx_item.specs.Clash.{Clash}
use Rattle.sfx_item.specs.Decided.{is_clash}
use Rattle.sfx_item.proofs.NamesAreDecided.{clash_decided, clash_symmetric}
use Rattle.sfx_segments.proofs.StandardFacts.{Tested, yes_it, not_it, tested}
use Rattle.sfx_model.specs.world.Sets.{Has}
use Rattle.sfx_model.specs.members.Consistent.{live_name, AreApart}
use Rattle.sfx_model.specs.world.Events.{same_item}
use Rattle.sfx_item.specs.Item.{ItemState, Live, Dead, ItemData}
use Rattle.sfx_model.specs.members.Members.{AreAscending, state_of}
use Rattle.sfx_model.specs.members.Readings.{is_clashing, is_excepted, is_in_the_way, clashing_with}
use Rattle.sfx_model.proofs.members.AscendingItems.{before_differs, other_item, state_here, state_behind}
use Rattle.sfx_model.proofs.world.StepKeepsWorld.{same_item_is, same_item_self}

-- ---- the list of items whose names clash with one

-- The item is live under this name.
pub record IsNamed (items : List ItemData) (j : ItemId) (name : List ℕ) : Type 0 where
  pub state : ItemState
  pub there : state_of items j ≡ Some state
  pub live : live_name state ≡ Some name

pub named_cells : (items : List ItemData) (j : ItemId) (name : List ℕ) → IsNamed items j name → (cells : List Cell) × (state_of items j ≡ Some (Live cells))
named_cells items j name is = by_state is.state is.there is.live
  where
    by_state : (state : ItemState) → state_of items j ≡ Some state → live_name state ≡ Some name → (cells : List Cell) × (state_of items j ≡ Some (Live cells))
    by_state (Live cells) there live = (cells, there)
    by_state (Dead v) there live = absurd (cc)

-- An item of the list is live under a name that clashes.
pub record IsClashing (items : List ItemData) (i : ItemId) (name : List ℕ) (j : ItemId) : Type 0 where
  pub other : j ≢ i
  pub own : List ℕ
  pub named : IsNamed items j own
  pub clash : is_clash name own ≡ true
  pub item : (x : ItemData) × Has x items × (x.id ≡ j)

clashing_name : (name : List ℕ) (o : Option (List ℕ)) → option_map_or (λ own. is_clash name own) o false ≡ true → (own : List ℕ) × (o ≡ Some own) × (is_clash name own ≡ true)
clashing_name name None e = absurd (true≢false (sym e))
clashing_name name (Some own) e = (own, refl, e)

pub clash_listed :
    (items : List ItemData) (i : ItemId) (name : List ℕ) (j : ItemId)
    → AreAscending items → Has j (clashing_with name (Some i) items) → IsClashing items i name j
clash_listed [] i name j ascending has = absurd has
clash_listed (x ∷ xs) i name j ascending has =
    by_test (clash_listed xs i name j ascending.1) (is_in_the_way name (Some i) x) refl has
  where
    behind : IsClashing xs i name j → IsClashing (x ∷ xs) i name j
    behind found =
        let (y, there, is) = found.item in
        let apart : x.id ≢ j = λ same. before_differs x.id y.id (ascending.0 y there) (same ∙ sym is) in
        record {
          other = found.other;
          own = found.own;
          named = record { state = found.named.state; there = state_behind x xs j apart ∙ found.named.there; live = found.named.live };
          clash = found.clash;
          item = (y, inr there, is);
        }

    here : j ≡ x.id → is_in_the_way name (Some i) x ≡ true → IsClashing (x ∷ xs) i name j
    here same e =
        let parts = and_parts (not (is_excepted (Some i) x.id)) (is_clashing name x.state) e in
        let (own, live, clash) = clashing_name name (live_name x.state) parts.1 in
        record {
          other = λ is. true≢false (sym (subst (λ (k : ItemId). same_item k x.id ≡ true) (sym same ∙ is) (same_item_self x.id))
              ∙ not-true (same_item i x.id) parts.0);
          own = own;
          named = record {
            state = x.state;
            there = subst (λ (k : ItemId). state_of (x ∷ xs) k ≡ Some x.state) (sym same) (state_here x xs);
            live = live;
          };
          clash = clash;
          item = (x, inl refl, sym same);
        }

    by_test :
        (Has j (clashing_with name (Some i) xs) → IsClashing xs i name j)
        → (b : Bool) → is_in_the_way name (Some i) x ≡ b
        → Has j (if b then x.id ∷ clashing_with name (Some i) xs else clashing_with name (Some i) xs)
        → IsClashing (x ∷ xs) i name j
    by_test rest true e h = elim h [ inl same ↦ here same e | inr there ↦ behind (rest there) ]
    by_test rest false e h = behind (rest h)

-- A live item whose name clashes is listed.
pub clash_lists :
    (items : List ItemData) (i : ItemId) (name : List ℕ) (j : ItemId) (own : List ℕ)
    → j ≢ i → IsNamed items j own → is_clash name own ≡ true → Has j (clashing_with name (Some i) items)
clash_lists [] i name j own other named clash = let bad : None ≡ Some named.state = named.there in absurd (cc)
clash_lists (x ∷ xs) i name j own other named clash =
    by_same (λ is. clash_lists xs i name j own other is clash) (same_item x.id j) refl named.there
  where
    place : (b : Bool) → Has j (clashing_with name (Some i) xs) → Has j (if b then x.id ∷ clashing_with name (Some i) xs else clashing_with name (Some i) xs)
    place true has = inr has
    place false has = has

    in_the_way : x.id ≡ j → x.state ≡ named.state → is_in_the_way name (Some i) x ≡ true
    in_the_way same is =
        let free : same_item i x.id ≡ false = other_item i x.id (λ e. other (sym (e ∙ same))) in
        let live : live_name x.state ≡ Some own = ap live_name is ∙ named.live in
        rw (free, live, clash) refl

    by_same :
        (IsNamed xs j own → Has j (clashing_with name (Some i) xs))
        → (b : Bool) → same_item x.id j ≡ b → (if b then Some x.state else state_of xs j) ≡ Some named.state
        → Has j (clashing_with name (Some i) (x ∷ xs))
    by_same rest true e there =
        let same : x.id ≡ j = same_item_is x.id j e in
        let is : x.state ≡ named.state = cc in
        rw (in_the_way same is) (inl (sym same))
    by_same rest false e there =
        place (is_in_the_way name (Some i) x) (rest (record { state = named.state; there = there; live = named.live }))

-- No item is listed twice.
abbrev pub AreOnce : List ItemId → Type 0
AreOnce [] = Unit {0}
AreOnce (j ∷ js) = ((k : ItemId) → Has k js → j ≢ k) × AreOnce js

pub clash_once : (items : List ItemData) (i : ItemId) (name : List ℕ) → AreAscending items → AreOnce (clashing_with name (Some i) items)
clash_once [] i name ascending = tt
clash_once (x ∷ xs) i name ascending = by_test (is_in_the_way name (Some i) x) (clash_once xs i name ascending.1)
  where
    by_test : (b : Bool) → AreOnce (clashing_with name (Some i) xs) → AreOnce (if b then x.id ∷ clashing_with name (Some i) xs else clashing_with name (Some i) xs)
    by_test true rest = (
      λ k has.
          let (y, there, is) = (clash_listed xs i name k ascending.1 has).item in
          λ same. before_differs x.id y.id (ascending.0 y there) (same ∙ sym is),
      rest,
    )
    by_test false rest = rest

-- ---- names that do not clash

-- The name clashes with that of no other live item.
abbrev pub IsFree : List ItemData → ItemId → List ℕ → Type 0
IsFree items i name = (j : ItemId) (own : List ℕ) → j ≢ i → IsNamed items j own → is_clash name own ≡ false

-- Names of any two items do not clash, but for those of one item and of these others.
abbrev pub AreApartBut : ItemId → List ItemId → List ItemData → Type 0
AreApartBut i js items =
    (j k : ItemId) (a b : List ℕ) → j ≢ k → IsNamed items j a → IsNamed items k b
    → ((j ≡ i) → Has k js → ⊥) → ((k ≡ i) → Has j js → ⊥) → is_clash a b ≡ false

not_clash : (a b : List ℕ) → is_clash a b ≡ false → ¬ Clash a b
not_clash a b e clash = true≢false (sym ((clash_decided a b).1 clash) ∙ e)

no_clash : (a b : List ℕ) → ¬ Clash a b → is_clash a b ≡ false
no_clash a b apart = by_test (tested (is_clash a b))
  where
    by_test : Tested (is_clash a b) → is_clash a b ≡ false
    by_test (yes_it e) = absurd (apart ((clash_decided a b).0 e))
    by_test (not_it e) = e

pub apart_tests : (items : List ItemData) → AreApart items → (j k : ItemId) (a b : List ℕ) → j ≢ k → IsNamed items j a → IsNamed items k b → is_clash a b ≡ false
apart_tests items apart j k a b other first second =
    no_clash a b (apart j k first.state second.state a b other first.there second.there first.live second.live)

pub tests_apart : (items : List ItemData) → ((j k : ItemId) (a b : List ℕ) → j ≢ k → IsNamed items j a → IsNamed items k b → is_clash a b ≡ false) → AreApart items
tests_apart items tests j k x y a b other at_j at_k live_j live_k =
    not_clash a b (tests j k a b other (record { state = x; there = at_j; live = live_j }) (record { state = y; there = at_k; live = live_k }))

-- With no other left out, the names are apart.
pub apart_all : (i : ItemId) (items : List ItemData) → AreApartBut i [] items → AreApart items
apart_all i items but = tests_apart items (λ j k a b other first second. but j k a b other first second (λ is has. has) (λ is has. has))

-- The items are as before but for one.
abbrev pub KeepItems : ItemId → List ItemData → List ItemData → Type 0
KeepItems i old new = (j : ItemId) → i ≢ j → state_of new j ≡ state_of old j

named_before : (i : ItemId) (old new : List ItemData) (j : ItemId) (name : List ℕ) → KeepItems i old new → i ≢ j → IsNamed new j name → IsNamed old j name
named_before i old new j name keeps other is =
    record { state = is.state; there = sym (keeps j other) ∙ is.there; live = is.live }

apart_id : (i x : ItemId) → same_item x i ≡ false → i ≢ x
apart_id i x e same = true≢false (sym (subst (λ (y : ItemId). same_item x y ≡ true) (sym same) (same_item_self x)) ∙ e)

-- One item changes, and its name, if it has one, clashes with those of no others but the listed ones.
pub apart_changed :
    (i : ItemId) (js : List ItemId) (old new : List ItemData)
    → AreApart old → KeepItems i old new
    → ((name : List ℕ) → IsNamed new i name → (k : ItemId) (own : List ℕ) → k ≢ i → IsNamed old k own → (Has k js → ⊥) → is_clash name own ≡ false)
    → AreApartBut i js new
apart_changed i js old new apart keeps free j k a b other first second not_first not_second =
    by_item (tested (same_item j i)) (tested (same_item k i))
  where
    by_item : Tested (same_item j i) → Tested (same_item k i) → is_clash a b ≡ false
    by_item (yes_it e) second_is =
        let is : j ≡ i = same_item_is j i e in
        let apart_k : i ≢ k = λ same. other (is ∙ same) in
        free a (subst (λ (x : ItemId). IsNamed new x a) is first) k b (λ same. apart_k (sym same))
        (named_before i old new k b keeps apart_k second) (λ has. not_first is has)
    by_item (not_it e) (yes_it f) =
        let is : k ≡ i = same_item_is k i f in
        let apart_j : i ≢ j = apart_id i j e in
        clash_symmetric a b
        ∙ free b (subst (λ (x : ItemId). IsNamed new x b) is second) j a (λ same. apart_j (sym same))
        (named_before i old new j a keeps apart_j first) (λ has. not_second is has)
    by_item (not_it e) (not_it f) =
        apart_tests old apart j k a b other (named_before i old new j a keeps (apart_id i j e) first)
        (named_before i old new k b keeps (apart_id i k f) second)

-- One of the others changes, and its name, if it has one, is free.
pub apart_other :
    (i j : ItemId) (js : List ItemId) (old new : List ItemData)
    → AreApartBut i (j ∷ js) old → KeepItems j old new → ((name : List ℕ) → IsNamed new j name → IsFree old j name)
    → AreApartBut i js new
apart_other i j js old new but keeps free x y a b other first second not_first not_second =
    by_item (tested (same_item x j)) (tested (same_item y j))
  where
    by_item : Tested (same_item x j) → Tested (same_item y j) → is_clash a b ≡ false
    by_item (yes_it e) second_is =
        let is : x ≡ j = same_item_is x j e in
        let apart_y : j ≢ y = λ same. other (is ∙ same) in
        free a (subst (λ (z : ItemId). IsNamed new z a) is first) y b (λ same. apart_y (sym same))
        (named_before j old new y b keeps apart_y second)
    by_item (not_it e) (yes_it f) =
        let is : y ≡ j = same_item_is y j f in
        let apart_x : j ≢ x = apart_id j x e in
        clash_symmetric a b
        ∙ free b (subst (λ (z : ItemId). IsNamed new z b) is second) x a (λ same. apart_x (sym same))
        (named_before j old new x a keeps apart_x first)
    by_item (not_it e) (not_it f) =
        but x y a b other (named_before j old new x a keeps (apart_id j x e) first)
        (named_before j old new y b keeps (apart_id j y f) second)
        (λ is has. elim has [ inl same ↦ apart_id j y f (sym same) | inr there ↦ not_first is there ])
        (λ is has. elim has [ inl same ↦ apart_id j x e (sym same) | inr there ↦ not_second is there ])
