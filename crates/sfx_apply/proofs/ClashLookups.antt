-- Items whose names clash, as they are looked up.
use Rattle.std.proofs.Common.{◌≡◌, ◌≢◌, Bool, true, false, true≢false, if◌then◌else◌, ◌&&◌, ◌||◌, nat_eq, is_some, length, ℕ, List, [], ◌∷◌, Option, Some, None, inl, inr, refl, sym, ◌∙◌, ap, subst, arith}
use Rattle.std.specs.List.{list_all, list_any}
use Rattle.std.proofs.lemmas.Bool.{ne_eqb}
use Rattle.std.specs.Option.{option_or}
use Rattle.sfx_ids.specs.declared.item_id.ItemId.{ItemId}
use Rattle.sfx_item.specs.Clash.{Clash}
use Rattle.sfx_item.specs.Decided.{is_clash}
use Rattle.sfx_item.proofs.NamesAreDecided.{clash_decided, other_way}
use Rattle.sfx_model.specs.members.Consistent.{AreApart, live_name}
use Rattle.sfx_model.specs.world.Events.{same_item}
use Rattle.sfx_item.specs.Item.{ItemState, ItemData}
use Rattle.sfx_model.specs.members.Members.{AreAscending, state_of}
use Rattle.sfx_model.specs.members.ItemLists.{drop_all, put_all, put_item}
use Rattle.sfx_model.specs.members.Readings.{clashing_with, is_clashing, is_in_the_way}
use Rattle.sfx_model.specs.sessions.NewName.{is_free}
use Rattle.sfx_model.specs.world.Sets.{Has}
use Rattle.sfx_model.proofs.members.AscendingItems.{before_differs, other_item, state_behind, state_below, state_here}
use Rattle.sfx_model.proofs.world.StepKeepsWorld.{same_item_is, same_item_self}
use Rattle.sfx_apply.proofs.UnitLists.{or_first, or_second}
use Rattle.sfx_items.proofs.ItemListLemmas.{ids_differ, look_up, look_up_one, puts_ascending}
use Rattle.sfx_apply.proofs.SkippingPlans.{IsFree}

abbrev item_in : ItemId → ItemState → ItemData
item_in i state = record { id = i; state = state }

-- No item is in the way.
pub none_in_the_way :
    (name : List ℕ) (except : Option ItemId) (items : List ItemData) (j : ItemId) (y : ItemState)
    → clashing_with name except items ≡ [] → state_of items j ≡ Some y → is_in_the_way name except (item_in j y) ≡ false
none_in_the_way name except [] j y none at = absurd (cc)
none_in_the_way name except (x ∷ xs) j y none at =
    by_way (λ free here. none_in_the_way name except xs j y free here)
    (is_in_the_way name except x) refl none (same_item x.id j) refl at
  where
    by_way :
        (clashing_with name except xs ≡ [] → state_of xs j ≡ Some y → is_in_the_way name except (item_in j y) ≡ false)
        → (way : Bool) → is_in_the_way name except x ≡ way
        → (if way then x.id ∷ clashing_with name except xs else clashing_with name except xs) ≡ []
        → (same : Bool) → same_item x.id j ≡ same → (if same then Some x.state else state_of xs j) ≡ Some y
        → is_in_the_way name except (item_in j y) ≡ false
    by_way rest true is free same e here = absurd (cc)
    by_way rest false is free true e here =
        let state : x.state ≡ y = cc in
        let id : x.id ≡ j = same_item_is x.id j e in
        let whole : item_in x.id x.state ≡ item_in j y = rw (id, state) refl in
        ap (is_in_the_way name except) (sym whole) ∙ is
    by_way rest false is free false e here = rest free here

-- Where none that is looked up is in the way, there is none.
pub clear_all :
    (name : List ℕ) (except : Option ItemId) (items : List ItemData)
    → AreAscending items
    → ((j : ItemId) (y : ItemState) → state_of items j ≡ Some y → is_in_the_way name except (item_in j y) ≡ false)
    → clashing_with name except items ≡ []
clear_all name except [] ascending none = refl
clear_all name except (x ∷ xs) ascending none =
    let first : is_in_the_way name except x ≡ false = none x.id x.state (rw (same_item_self x.id) refl) in
    rw first
    (clear_all name except xs ascending.1
    (λ j y at. none j y (by_test j y at (same_item x.id j) refl)))
  where
    by_test : (j : ItemId) (y : ItemState) → state_of xs j ≡ Some y → (b : Bool) → same_item x.id j ≡ b → (if b then Some x.state else state_of xs j) ≡ Some y
    by_test j y at true e =
        let bad : state_of xs j ≡ None = subst (λ (i : ItemId). state_of xs i ≡ None) (same_item_is x.id j e) (state_below xs x.id ascending.0) in
        absurd (cc)
    by_test j y at false e = at

-- Then no other live item's name clashes.
none_clashes :
    (name : List ℕ) (i : ItemId) (items : List ItemData) (j : ItemId) (y : ItemState) (b : List ℕ)
    → clashing_with name (Some i) items ≡ [] → state_of items j ≡ Some y → i ≢ j
    → live_name y ≡ Some b → Clash name b → ⊥
none_clashes name i items j y b none at other named clashes =
    let free : is_in_the_way name (Some i) (item_in j y) ≡ false = none_in_the_way name (Some i) items j y none at in
    let apart : same_item i j ≡ false = other_item i j other in
    let clashing : is_clash name b ≡ true = (clash_decided name b).1 clashes in
    let found : is_clashing name y ≡ true = rw named clashing in
    true≢false (sym (rw (apart, found) refl) ∙ free)

-- Live names do not clash with one more item whose name is free.
pub put_apart :
    (x : ItemData) (items : List ItemData)
    → AreApart items → IsFree items x.id x.state → AreApart (put_item x items)
put_apart x items apart free p q s t a b differ at_p at_q named_p named_q clashes =
    by_ids (same_item x.id p) refl (same_item x.id q) refl
  where
    new : (k : ItemId) (y : ItemState) → same_item x.id k ≡ true → state_of (put_item x items) k ≡ Some y → x.state ≡ y
    new k y e at =
        let found : state_of (put_item x items) k ≡ Some x.state =
        look_up_one x items k ∙ ap (λ (c : Bool). option_or (if c then Some x.state else None) (state_of items k)) e in
        cc

    old : (k : ItemId) (y : ItemState) → same_item x.id k ≡ false → state_of (put_item x items) k ≡ Some y → state_of items k ≡ Some y
    old k y e at =
        let kept : state_of (put_item x items) k ≡ state_of items k =
        look_up_one x items k ∙ ap (λ (c : Bool). option_or (if c then Some x.state else None) (state_of items k)) e in
        sym kept ∙ at

    by_ids : (e : Bool) → same_item x.id p ≡ e → (f : Bool) → same_item x.id q ≡ f → ⊥
    by_ids true e true f = differ (sym (same_item_is x.id p e) ∙ same_item_is x.id q f)
    by_ids true e false f =
        none_clashes a x.id items q t b (free a (ap live_name (new p s e at_p) ∙ named_p)) (old q t f at_q) (ids_differ x.id q f) named_q clashes
    by_ids false e true f =
        none_clashes b x.id items p s a (free b (ap live_name (new q t f at_q) ∙ named_q)) (old p s e at_p) (ids_differ x.id p e) named_p (other_way a b clashes)
    by_ids false e false f = apart p q s t a b differ (old p s e at_p) (old q t f at_q) named_p named_q clashes

-- ---- the name among those that wait and those of the provider

some_passes : {A : Type 0} (test : A → Bool) (xs : List A) → list_any test xs ≡ true → (x : A) × Has x xs × (test x ≡ true)
some_passes test [] e = absurd (cc)
some_passes {A} test (x ∷ xs) e = by_test (some_passes test xs) (test x) refl e
  where
    by_test :
        (list_any test xs ≡ true → (y : A) × Has y xs × (test y ≡ true))
        → (b : Bool) → test x ≡ b → (b || list_any test xs) ≡ true → (y : A) × Has y (x ∷ xs) × (test y ≡ true)
    by_test rest true e f = (x, inl refl, e)
    by_test rest false e f = let (y, has, passes) = rest f in (y, inr has, passes)

none_passes : {A : Type 0} (test : A → Bool) (xs : List A) (x : A) → list_any test xs ≡ false → Has x xs → test x ≡ false
none_passes test [] x e has = absurd has
none_passes test (y ∷ ys) x e has =
    elim has [
      | inl same ↦ ap test same ∙ or_first (test y) (list_any test ys) e
      | inr there ↦ none_passes test ys x (or_second (test y) (list_any test ys) e) there
    ]

one_fails : {A : Type 0} (test : A → Bool) (xs : List A) → list_all test xs ≡ false → (x : A) × Has x xs × (test x ≡ false)
one_fails test [] e = absurd (cc)
one_fails {A} test (x ∷ xs) e = by_test (one_fails test xs) (test x) refl e
  where
    by_test :
        (list_all test xs ≡ false → (y : A) × Has y xs × (test y ≡ false))
        → (b : Bool) → test x ≡ b → (b && list_all test xs) ≡ false → (y : A) × Has y (x ∷ xs) × (test y ≡ false)
    by_test rest true e f = let (y, has, fails) = rest f in (y, inr has, fails)
    by_test rest false e f = (x, inl refl, e)

all_pass : {A : Type 0} (test : A → Bool) (xs : List A) (x : A) → list_all test xs ≡ true → Has x xs → test x ≡ true
all_pass test [] x e has = absurd has
all_pass {A} test (y ∷ ys) x e has = by_test (all_pass test ys x) (test y) refl e has
  where
    by_test :
        (list_all test ys ≡ true → Has x ys → test x ≡ true)
        → (b : Bool) → test y ≡ b → (b && list_all test ys) ≡ true → Has x (y ∷ ys) → test x ≡ true
    by_test rest true e f h = elim h [ inl same ↦ ap test same ∙ e | inr there ↦ rest f there ]
    by_test rest false e f h = absurd (cc)

-- An item of the list is found by its id.
pub state_has : (xs : List ItemData) (x : ItemData) → AreAscending xs → Has x xs → state_of xs x.id ≡ Some x.state
state_has [] x ascending has = absurd has
state_has (y ∷ ys) x ascending has =
    elim has [
      | inl same ↦ subst (λ (z : ItemData). state_of (y ∷ ys) z.id ≡ Some z.state) (sym same) (state_here y ys)
      | inr there ↦
          state_behind y ys x.id (before_differs y.id x.id (ascending.0 x there)) ∙ state_has ys x ascending.1 there
    ]

-- An id that is listed is that of an item in the way.
clashing_found :
    (name : List ℕ) (except : Option ItemId) (items : List ItemData) (j : ItemId)
    → AreAscending items → Has j (clashing_with name except items)
    → (x : ItemData) × Has x items × (x.id ≡ j) × (is_in_the_way name except x ≡ true)
clashing_found name except [] j ascending has = absurd has
clashing_found name except (x ∷ xs) j ascending has = by_way (clashing_found name except xs j ascending.1) (is_in_the_way name except x) refl has
  where
    by_way :
        (Has j (clashing_with name except xs) → (y : ItemData) × Has y xs × (y.id ≡ j) × (is_in_the_way name except y ≡ true))
        → (way : Bool) → is_in_the_way name except x ≡ way
        → Has j (if way then x.id ∷ clashing_with name except xs else clashing_with name except xs)
        → (y : ItemData) × Has y (x ∷ xs) × (y.id ≡ j) × (is_in_the_way name except y ≡ true)
    by_way rest true e h = elim h [
      | inl same ↦ (x, inl refl, sym same, e)
      | inr there ↦ (let (y, at, id, way) = rest there in (y, inr at, id, way))
    ]
    by_way rest false e h = let (y, at, id, way) = rest h in (y, inr at, id, way)

clashing_has :
    (name : List ℕ) (except : Option ItemId) (items : List ItemData) (j : ItemId) (y : ItemState)
    → state_of items j ≡ Some y → is_in_the_way name except (item_in j y) ≡ true → Has j (clashing_with name except items)
clashing_has name except items j y at way = by_ids (clashing_with name except items) refl
  where
    has_any : (xs : List ItemData) → state_of xs j ≡ Some y → Has j (clashing_with name except xs)
    has_any [] is = absurd (cc)
    has_any (x ∷ xs) is = by_tests (has_any xs) (same_item x.id j) refl (is_in_the_way name except x) refl is
      where
        by_tests :
            (state_of xs j ≡ Some y → Has j (clashing_with name except xs))
            → (same : Bool) → same_item x.id j ≡ same → (b : Bool) → is_in_the_way name except x ≡ b
            → (if same then Some x.state else state_of xs j) ≡ Some y
            → Has j (if b then x.id ∷ clashing_with name except xs else clashing_with name except xs)
        by_tests rest true e true f is = inl (sym (same_item_is x.id j e))
        by_tests rest true e false f is =
            let id : x.id ≡ j = same_item_is x.id j e in
            let state : x.state ≡ y = cc in
            let whole : item_in x.id x.state ≡ item_in j y = rw (id, state) refl in
            let bad : is_in_the_way name except x ≡ true = ap (is_in_the_way name except) whole ∙ way in
            absurd (cc)
        by_tests rest false e true f is = inr (rest is)
        by_tests rest false e false f is = rest is

    by_ids : (ids : List ItemId) → clashing_with name except items ≡ ids → Has j (clashing_with name except items)
    by_ids ids e = has_any items at

-- An item that is found is listed.
state_listed : (xs : List ItemData) (j : ItemId) (y : ItemState) → state_of xs j ≡ Some y → Has (item_in j y) xs
state_listed [] j y is = absurd (cc)
state_listed (x ∷ xs) j y is = by_test (state_listed xs j y) (same_item x.id j) refl is
  where
    by_test :
        (state_of xs j ≡ Some y → Has (item_in j y) xs)
        → (same : Bool) → same_item x.id j ≡ same → (if same then Some x.state else state_of xs j) ≡ Some y
        → Has (item_in j y) (x ∷ xs)
    by_test rest true e is =
        let id : x.id ≡ j = same_item_is x.id j e in
        let state : x.state ≡ y = cc in
        let whole : item_in j y ≡ item_in x.id x.state = rw (id, state) refl in
        inl whole
    by_test rest false e is = inr (rest is)

-- A name is not free where an item is in its way.
not_free :
    (items : List ItemData) (i j : ItemId) (name : List ℕ) (y : ItemState)
    → state_of items j ≡ Some y → is_in_the_way name (Some i) (item_in j y) ≡ true → is_free items i name ≡ false
not_free items i j name y at way = by_ids (clashing_with name (Some i) items) refl
  where
    by_ids : (ids : List ItemId) → clashing_with name (Some i) items ≡ ids → nat_eq (length ids) 0 ≡ false
    by_ids [] none =
        let bad : is_in_the_way name (Some i) (item_in j y) ≡ false = none_in_the_way name (Some i) items j y none at in
        absurd (cc)
    by_ids (k ∷ ks) e = let some : length (k ∷ ks) ≢ 0 = omega arith in ne_eqb (length (k ∷ ks)) 0 some

-- Where one that waits is in the way, the name is not free.
pub one_waits :
    (puts items : List ItemData) (i : ItemId) (name : List ℕ)
    → AreAscending puts → list_any (is_in_the_way name (Some i)) puts ≡ true → is_free (put_all puts items) i name ≡ false
one_waits puts items i name ascending some =
    let (x, has, way) = some_passes (is_in_the_way name (Some i)) puts some in
    let there : state_of puts x.id ≡ Some x.state = state_has puts x ascending has in
    let now : state_of (put_all puts items) x.id ≡ Some x.state =
    look_up puts items x.id ascending ∙ ap (λ (o : Option ItemState). option_or o (state_of items x.id)) there in
    not_free (put_all puts items) i x.id name x.state now way

-- Where none is, it is free if others wait in the place of all that the provider finds.
pub others_put :
    (puts items : List ItemData) (i : ItemId) (name : List ℕ)
    → AreAscending puts → AreAscending items → list_any (is_in_the_way name (Some i)) puts ≡ false
    → is_free (put_all puts items) i name ≡ list_all (λ j. is_some (state_of puts j)) (clashing_with name (Some i) items)
others_put puts items i name ascending_puts ascending none = by_all (list_all (λ j. is_some (state_of puts j)) (clashing_with name (Some i) items)) refl
  where
    by_all :
        (b : Bool) → list_all (λ j. is_some (state_of puts j)) (clashing_with name (Some i) items) ≡ b
        → is_free (put_all puts items) i name ≡ b
    by_all true all =
        ap (λ (ids : List ItemId). nat_eq (length ids) 0)
        (clear_all name (Some i) (put_all puts items) (puts_ascending puts items ascending)
        (λ j y at. clear j y (state_of puts j) refl (sym (look_up puts items j ascending_puts) ∙ at) (is_in_the_way name (Some i) (item_in j y)) refl))
      where
        clear :
            (j : ItemId) (y : ItemState) (o : Option ItemState)
            → state_of puts j ≡ o → option_or o (state_of items j) ≡ Some y
            → (way : Bool) → is_in_the_way name (Some i) (item_in j y) ≡ way → way ≡ false
        clear j y o put at false e = refl
        clear j y (Some s) put at true e =
            let same : s ≡ y = cc in
            let waits : Has (item_in j s) puts = state_listed puts j s put in
            let bad : is_in_the_way name (Some i) (item_in j s) ≡ false = none_passes (is_in_the_way name (Some i)) puts (item_in j s) none waits in
            let good : is_in_the_way name (Some i) (item_in j s) ≡ true = ap (λ (x : ItemState). is_in_the_way name (Some i) (item_in j x)) same ∙ e in
            absurd (cc)
        clear j y None put at true e =
            let listed : Has j (clashing_with name (Some i) items) = clashing_has name (Some i) items j y at e in
            let bad : is_some (state_of puts j) ≡ true = all_pass (λ k. is_some (state_of puts k)) (clashing_with name (Some i) items) j all listed in
            let good : is_some (state_of puts j) ≡ false = ap is_some put in
            absurd (cc)
    by_all false some =
        let (j, has, fails) = one_fails (λ k. is_some (state_of puts k)) (clashing_with name (Some i) items) some in
        let (x, at, id, way) = clashing_found name (Some i) items j ascending has in
        let there : state_of items x.id ≡ Some x.state = state_has items x ascending at in
        let now : state_of (put_all puts items) x.id ≡ Some x.state =
        look_up puts items x.id ascending_puts
        ∙ ap (λ (o : Option ItemState). option_or o (state_of items x.id)) (no_state (state_of puts x.id) (ap (λ (k : ItemId). is_some (state_of puts k)) id ∙ fails))
        ∙ there in
        not_free (put_all puts items) i x.id name x.state now way
      where
        no_state : (o : Option ItemState) → is_some o ≡ false → o ≡ None
        no_state None e = refl
        no_state (Some s) e = absurd (cc)

-- The same at the destination, by what is read of it.
pub free_here :
    (drops : List ItemId) (puts items xs : List ItemData) (i : ItemId) (name : List ℕ) (found : Bool)
    → drops ≡ [] → AreAscending puts → xs ≡ puts → found ≡ list_any (is_in_the_way name (Some i)) xs → found ≡ true
    → false ≡ is_free (drop_all drops (put_all puts items)) i name
free_here drops puts items xs i name found none ascending same looked is =
    sym (ap (λ (ds : List ItemId). is_free (drop_all ds (put_all puts items)) i name) none
    ∙ one_waits puts items i name ascending (ap (list_any (is_in_the_way name (Some i))) (sym same) ∙ sym looked ∙ is))

pub free_there :
    (drops ids : List ItemId) (puts items xs : List ItemData) (i : ItemId) (name : List ℕ) (found put : Bool)
    → drops ≡ [] → AreAscending puts → AreAscending items → xs ≡ puts → found ≡ list_any (is_in_the_way name (Some i)) xs → found ≡ false
    → ids ≡ clashing_with name (Some i) items → put ≡ list_all (λ j. is_some (state_of xs j)) ids
    → put ≡ is_free (drop_all drops (put_all puts items)) i name
free_there drops ids puts items xs i name found put none ascending_puts ascending same looked is listed all =
    all
    ∙ ap (λ (ys : List ItemData). list_all (λ j. is_some (state_of ys j)) ids) same
    ∙ ap (list_all (λ j. is_some (state_of puts j))) listed
    ∙ sym (others_put puts items i name ascending_puts ascending (ap (list_any (is_in_the_way name (Some i))) (sym same) ∙ sym looked ∙ is))
    ∙ sym (ap (λ (ds : List ItemId). is_free (drop_all ds (put_all puts items)) i name) none)
