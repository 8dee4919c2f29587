-- Edits keep a replica's state consistent.
use Rattle.std.proofs.Common.{◌≡◌, ◌≢◌, ◌⊎◌, ℕ, zero, suc, ◌+◌, ◌<◌, ◌≤◌, ◌^◌, Bool, true, false, if◌then◌else◌, nat_eq, nat_lt, List, [], ◌∷◌, length, get_or, Option, Some, None, inl, inr, refl, sym, ◌∙◌, ap, subst, arith}
use Rattle.std.specs.Prelude.{slice_get, slice_set}
use Rattle.std.specs.Option.{option_map, option_or}
use Rattle.std.proofs.lemmas.Bool.{eq-eqb, ltb-true}
use Rattle.std.proofs.lemmas.List.{length-map}
use Rattle.std.proofs.Math.ListN.{length-set}
use Rattle.sfx_ids.specs.declared.cut.Cut.{Cut}
use Rattle.sfx_ids.specs.declared.cut.Cut.TheVariants.{Start, At}
use Rattle.sfx_ids.specs.declared.item_id.ItemId.{ItemId}
use Rattle.sfx_ids.specs.declared.version.Version.{Version}
use Rattle.sfx_ids.specs.Cut.{cut_le}
use Rattle.sfx_ids.specs.ItemId.{creation_of}
use Rattle.sfx_ids.specs.Tick.{max_tick}
use Rattle.sfx_vector.specs.Clocks.{tick_of}
use Rattle.sfx_item.specs.declared.cell.Cell.{Cell}
use Rattle.sfx_item.specs.Clash.{Clash}
use Rattle.sfx_item.specs.Decided.{is_clash, name_fault}
use Rattle.sfx_item.specs.Name.{IsName}
use Rattle.sfx_item.specs.Row.{IsCellRow, first_value}
use Rattle.sfx_item.proofs.NamesAreDecided.{name_decided, clash_decided, other_way}
use Rattle.sfx_knowledge.specs.Row.{row_at}
use Rattle.sfx_knowledge.specs.Forgotten.{Forgets}
use Rattle.sfx_knowledge.specs.Forms.{with_own}
use Rattle.sfx_knowledge.proofs.ForgottenLemmas.{nothing_form, none_forgotten}
use Rattle.sfx_knowledge.specs.Knowledge.{HasTicks, IsKnowledge, Known, laid_over, no_row, tick_at}
use Rattle.sfx_model.specs.members.Consistent.{IsConsistent, IsOwned, AreApart, live_name}
use Rattle.sfx_model.specs.world.Events.{same_item}
use Rattle.sfx_item.specs.Item.{version_at, ItemState, Live, Dead, ItemData}
use Rattle.sfx_model.specs.members.Members.{Member, AreAscending, state_of, vector_at}
use Rattle.sfx_model.specs.members.States.{cells_at, cells_with, next_created, next_item, next_version, with_item, with_state}
use Rattle.sfx_model.specs.world.World.{IsContained}
use Rattle.sfx_model.proofs.members.EditsAct.{set_cases}
use Rattle.sfx_model.proofs.members.StatesLemmas.{with_ascending, with_found, with_others, state_ascending, state_found, state_others}
use Rattle.sfx_model.proofs.world.StepKeepsWorld.{same_item_is, same_item_self}
use Rattle.sfx_model.specs.members.Readings.{first_clash, is_in_the_way, is_excepted}
use Rattle.sfx_model.specs.members.ItemLists.{drop_all, put_all, put_for, put_item}
use Rattle.sfx_provider.specs.Commit.{CommitData}
use Rattle.sfx_provider.specs.Fits.{FitsMember}
use Rattle.sfx_provider.proofs.CommitLemmas.{IsStored, commits_consistent}
use Rattle.sfx_replica.specs.Edits.{new_member, risen, created}
use Rattle.sfx_replica.specs.declared.edit_fault.EditFault.{EditFault}
use Rattle.sfx_replica.specs.declared.edit_fault.EditFault.TheVariants.{BadUnit, ClockFull}
use Rattle.sfx_provider.specs.Answer.{When}
use Rattle.sfx_provider.proofs.FaultLemmas.{when_then}
use Rattle.sfx_replica.specs.Refusals.{bad_name, clash, full_clock, name_refusal, first_name_refusal, create_refusal, refuses_edit, write_refusal}

-- Where neither refuses, each of them does not.
pub both_none : (a b : Option EditFault) → option_or a b ≡ None → (a ≡ None) × (b ≡ None)
both_none None b none = (refl, none)
both_none (Some fault) b none = let bad : Some fault ≡ None = none in absurd (cc)

-- What is made of nothing alone is nothing.
pub map_none : {A B : Type 0} (f : A → B) (o : Option A) → option_map f o ≡ None → o ≡ None
map_none f None none = refl
map_none f (Some x) none = let bad : Some (f x) ≡ None = none in absurd (cc)

-- The clock can rise where it is not refused.
pub can_rise : (m : Member) → full_clock m ≡ None → m.clock < max_tick
can_rise m none = by_test (nat_lt m.clock max_tick) refl none
  where
    by_test :
        (b : Bool) → nat_lt m.clock max_tick ≡ b → (if b then None else Some (ClockFull m.clock)) ≡ None
        → m.clock < max_tick
    by_test true less e = ltb-true m.clock max_tick less
    by_test false more e = let bad : Some (ClockFull m.clock) ≡ None = e in absurd (cc)

-- A name that is not refused: it is one, and no item but the excepted one is in its way.
pub free_name :
    (m : Member) (except : Option ItemId) (name : List ℕ)
    → name_refusal m except name ≡ None → IsName name × (first_clash name except m.items ≡ None)
free_name m except name none =
    let (good, free) = both_none (bad_name name) (clash m except name) none in (
      (name_decided name).0 (map_none (λ at. EditFault.BadName at) (name_fault name) good),
      map_none (λ i. EditFault.Clash i) (first_clash name except m.items) free,
    )

-- Where no item is in the way, no live item but the excepted one has a name that clashes.
pub none_clashes :
    (name : List ℕ) (except : Option ItemId) (items : List ItemData) (j : ItemId) (y : ItemState) (b : List ℕ)
    → first_clash name except items ≡ None → state_of items j ≡ Some y → is_excepted except j ≡ false
    → live_name y ≡ Some b → Clash name b → ⊥
none_clashes name except [] j y b none at other named clashes = let bad : None ≡ Some y = at in cc
none_clashes name except (x ∷ xs) j y b none at other named clashes =
    by_way (λ free here. none_clashes name except xs j y b free here other named clashes)
    (is_in_the_way name except x) refl none (same_item x.id j) refl at
  where
    in_the_way : same_item x.id j ≡ true → x.state ≡ y → is_in_the_way name except x ≡ true
    in_the_way same is =
        let id : x.id ≡ j = same_item_is x.id j same in
        let kept : is_excepted except x.id ≡ false = subst (λ (i : ItemId). is_excepted except i ≡ false) (sym id) other in
        let found : live_name x.state ≡ Some b = ap live_name is ∙ named in
        let clashing : is_clash name b ≡ true = (clash_decided name b).1 clashes in
        rw (kept, found, clashing) refl

    by_way :
        (first_clash name except xs ≡ None → state_of xs j ≡ Some y → ⊥)
        → (way : Bool) → is_in_the_way name except x ≡ way
        → (if way then Some x.id else first_clash name except xs) ≡ None
        → (same : Bool) → same_item x.id j ≡ same → (if same then Some x.state else state_of xs j) ≡ Some y → ⊥
    by_way rest true is free same e here = let bad : Some x.id ≡ None = free in cc
    by_way rest false is free true e here =
        let state : x.state ≡ y = cc in
        let bad : true ≡ false = sym (in_the_way e state) ∙ is in
        cc
    by_way rest false is free false e here = rest free here

-- A replica whose clock rose knows all that it knew, and its next version.
pub knows_more :
    (m : Member) (items : List ItemData) (place : Cut) (u r : ℕ)
    → vector_at m place u r ≤ vector_at (risen m items) place u r
knows_more m items place u r = by_test (nat_eq r m.id) refl
  where
    by_test : (b : Bool) → nat_eq r m.id ≡ b → vector_at m place u r ≤ vector_at (risen m items) place u r
    by_test true own = rw own (omega arith)
    by_test false other = rw other (omega arith)

pub knows_next :
    (m : Member) (items : List ItemData) (place : Cut) (u : ℕ)
    → IsContained (vector_at (risen m items) place u) (next_version m)
knows_next m items place u = rw (eq-eqb m.id m.id refl) (omega arith)

-- What it owned it owns.
owned_still :
    (units : ℕ) (m : Member) (items : List ItemData) (i : ItemId) (state : ItemState)
    → IsOwned units m i state → IsOwned units (risen m items) i state
owned_still units m items i state owned = record {
  whole = owned.whole;
  creation = λ u small.
      let low = owned.creation u small in
      let more = knows_more m items (At i) u (creation_of i).replica in
      omega (arith, low, more);
  versions = λ u v small is.
      let low = owned.versions u v small is in
      let more = knows_more m items (At i) u v.replica in
      omega (arith, low, more);
}

-- The next item is none of a consistent replica.
pub next_absent :
    (units : ℕ) (m : Member)
    → IsConsistent units m → state_of m.items (next_item m) ≡ None
next_absent units m ok = by_state (state_of m.items (next_item m)) refl
  where
    by_state : (o : Option ItemState) → state_of m.items (next_item m) ≡ o → o ≡ None
    by_state None e = refl
    by_state (Some state) e =
        let low : m.clock + 1 ≤ vector_at m (At (next_item m)) 0 m.id =
        (ok.items (next_item m) state e).creation 0 ok.some in
        let own : vector_at m (At (next_item m)) 0 m.id ≡ m.clock = rw (eq-eqb m.id m.id refl) refl in
        absurd (omega (arith, low, own))

-- So putting it adds it.
pub next_put :
    (units : ℕ) (m : Member) (values : List (List ℕ))
    → IsConsistent units m → put_item (next_created m values) m.items ≡ with_item (next_created m values) m.items
next_put units m values ok =
    ap (λ (o : Option ItemState). put_for o (next_created m values) m.items) (next_absent units m ok)

-- What stays when the clock rises and the items change.
rises :
    (units : ℕ) (m : Member) (items : List ItemData)
    → IsConsistent units m → m.clock < max_tick
    → AreAscending items
    → ((i : ItemId) (state : ItemState) → state_of items i ≡ Some state → IsOwned units (risen m items) i state)
    → AreApart items
    → IsConsistent units (risen m items)
rises units m items ok room ascending owned apart = record {
  some = ok.some;
  id = ok.id;
  clock = omega arith;
  knowledge = ok.knowledge;
  unstored = ok.unstored;
  forgets = ok.forgets;
  forgotten = λ place is. let low = ok.forgotten place is in omega (arith, low);
  ascending = ascending;
  items = owned;
  names = apart;
}

-- The cells of a creation are those of a row.
pub created_row :
    (units : ℕ) (v : Version) (values : List (List ℕ)) (name : List ℕ)
    → length values ≡ units → slice_get values 0 ≡ Some name → IsName name → IsCellRow units (cells_at v values)
created_row units v values name whole first good = record {
  whole = length-map values (λ value. record { version = v; value = value }) ∙ whole;
  named = record { name = name; valid = good; first = first_cell values first };
}
  where
    first_cell : (vs : List (List ℕ)) → slice_get vs 0 ≡ Some name → first_value (cells_at v vs) ≡ Some name
    first_cell [] e = let bad : None ≡ Some name = e in absurd (cc)
    first_cell (x ∷ xs) e = e

-- A created item is whole and known.
created_owned :
    (units : ℕ) (m : Member) (values : List (List ℕ)) (name : List ℕ) (items : List ItemData)
    → length values ≡ units → slice_get values 0 ≡ Some name → IsName name
    → IsOwned units (risen m items) (next_item m) (Live (cells_at (next_version m) values))
created_owned units m values name items whole first good = record {
  whole = created_row units (next_version m) values name whole first good;
  creation = λ u small. knows_next m items (At (next_item m)) u;
  versions = λ u v small is. subst (λ (x : Version). IsContained (vector_at (risen m items) (At (next_item m)) u) x)
      (made values u v is) (knows_next m items (At (next_item m)) u);
}
  where
    made : (vs : List (List ℕ)) (u : ℕ) (v : Version) → version_at (Live (cells_at (next_version m) vs)) u ≡ Some v → next_version m ≡ v
    made [] u v e = let bad : None ≡ Some v = e in absurd (cc)
    made (x ∷ xs) zero v e = cc
    made (x ∷ xs) (suc u) v e = made xs u v e

-- The name of a created item.
pub created_name :
    (m : Member) (values : List (List ℕ)) (name a : List ℕ)
    → slice_get values 0 ≡ Some name → live_name (Live (cells_at (next_version m) values)) ≡ Some a → name ≡ a
created_name m [] name a first named = let bad : None ≡ Some name = first in absurd (cc)
created_name m (v ∷ vs) name a first named = let both : Some name ≡ Some a = sym first ∙ named in cc

-- With one more item that no other is in the way of, live names do not clash.
pub with_apart :
    (m : Member) (x : ItemData) (name : List ℕ)
    → AreApart m.items → state_of m.items x.id ≡ None → first_clash name None m.items ≡ None
    → ((a : List ℕ) → live_name x.state ≡ Some a → name ≡ a) → AreApart (with_item x m.items)
with_apart m x name apart new free is i j s t a b differ at_i at_j named_i named_j clashes =
    by_ids (same_item x.id i) refl (same_item x.id j) refl
  where
    here : state_of (with_item x m.items) x.id ≡ Some x.state
    here = with_found x m.items new

    other : (k : ItemId) → same_item x.id k ≡ false → x.id ≢ k
    other k e same =
        let bad : true ≡ false =
        sym (same_item_self x.id) ∙ subst (λ (q : ItemId). same_item x.id q ≡ false) (sym same) e in
        cc

    old : (k : ItemId) (state : ItemState) → same_item x.id k ≡ false → state_of (with_item x m.items) k ≡ Some state → state_of m.items k ≡ Some state
    old k state e at = sym (with_others x m.items k (other k e)) ∙ at

    own : (k : ItemId) (state : ItemState) (c : List ℕ) → same_item x.id k ≡ true → state_of (with_item x m.items) k ≡ Some state → live_name state ≡ Some c → name ≡ c
    own k state c e at named =
        let id : x.id ≡ k = same_item_is x.id k e in
        let both : Some x.state ≡ Some state = sym here ∙ subst (λ (q : ItemId). state_of (with_item x m.items) q ≡ Some state) (sym id) at in
        let state_is : x.state ≡ state = cc in
        is c (ap live_name state_is ∙ named)

    by_ids : (p : Bool) → same_item x.id i ≡ p → (q : Bool) → same_item x.id j ≡ q → ⊥
    by_ids true e true f = differ (sym (same_item_is x.id i e) ∙ same_item_is x.id j f)
    by_ids true e false f =
        none_clashes name None m.items j t b free (old j t f at_j) refl named_j
        (subst (λ (c : List ℕ). Clash c b) (sym (own i s a e at_i named_i)) clashes)
    by_ids false e true f =
        none_clashes name None m.items i s a free (old i s e at_i) refl named_i
        (subst (λ (c : List ℕ). Clash c a) (sym (own j t b f at_j named_j)) (other_way a b clashes))
    by_ids false e false f = apart i j s t a b differ (old i s e at_i) (old j t f at_j) named_i named_j clashes

-- A creation keeps the state consistent.
pub created_consistent :
    (units : ℕ) (m : Member) (values : List (List ℕ))
    → IsConsistent units m → length values ≡ units → create_refusal m values ≡ None
    → IsConsistent units (created m values)
created_consistent units m values ok whole none = by_first (slice_get values 0) refl none
  where
    by_first :
        (o : Option (List ℕ)) → slice_get values 0 ≡ o → option_or (first_name_refusal m o) (full_clock m) ≡ None
        → IsConsistent units (created m values)
    by_first None first free = absurd (no_first values whole first)
      where
        no_first : (vs : List (List ℕ)) → length vs ≡ units → slice_get vs 0 ≡ None → ⊥
        no_first [] e f = let some = ok.some in omega (arith, e, some)
        no_first (v ∷ vs) e f = let bad : Some v ≡ None = f in cc
    by_first (Some name) first free =
        let (named, room) = both_none (name_refusal m None name) (full_clock m) free in
        let (good, apart) = free_name m None name named in
        let x : ItemData = next_created m values in
        let new : state_of m.items (next_item m) ≡ None = next_absent units m ok in
        rises units m (with_item (next_created m values) m.items) ok (can_rise m room)
        (with_ascending (next_created m values) m.items ok.ascending new)
        (λ i state at. owned i state at (same_item (next_item m) i) refl good first)
        (with_apart m (next_created m values) name ok.names new apart
        (λ a is. created_name m values name a first is))
      where
        owned :
            (i : ItemId) (state : ItemState) → state_of (with_item (next_created m values) m.items) i ≡ Some state
            → (b : Bool) → same_item (next_item m) i ≡ b → IsName name → slice_get values 0 ≡ Some name
            → IsOwned units (created m values) i state
        owned i state at true same good first =
            let id : next_item m ≡ i = same_item_is (next_item m) i same in
            let here : state_of (with_item (next_created m values) m.items) (next_item m) ≡ Some (Live (cells_at (next_version m) values)) =
            with_found (next_created m values) m.items (next_absent units m ok) in
            let there : state_of (with_item (next_created m values) m.items) (next_item m) ≡ Some state =
            subst (λ (q : ItemId). state_of (with_item (next_created m values) m.items) q ≡ Some state) (sym id) at in
            let both : Some (Live (cells_at (next_version m) values)) ≡ Some state = sym here ∙ there in
            let is : Live (cells_at (next_version m) values) ≡ state = cc in
            subst (λ (q : ItemId). IsOwned units (created m values) q state) id
            (subst (λ (s : ItemState). IsOwned units (created m values) (next_item m) s) is
            (created_owned units m values name (with_item (next_created m values) m.items) whole first good))
        owned i state at false other good first =
            let differ : next_item m ≢ i = λ same.
            let bad : true ≡ false =
            sym (same_item_self (next_item m)) ∙ subst (λ (q : ItemId). same_item (next_item m) q ≡ false) (sym same) other in
            cc in
            let was : state_of m.items i ≡ Some state = sym (with_others (next_created m values) m.items i differ) ∙ at in
            owned_still units m (with_item (next_created m values) m.items) i state (ok.items i state was)

-- The cells of an edit: whole, and with a name.
set_row :
    (units : ℕ) (cells : List Cell) (unit : ℕ) (new : Cell)
    → IsCellRow units cells → (unit ≡ 0 → IsName new.value) → IsCellRow units (slice_set cells unit new)
set_row units [] unit new row named =
    let bad : None ≡ Some row.named.name = row.named.first in
    absurd (cc)
set_row units (c ∷ cs) zero new row named =
    record { whole = row.whole; named = record { name = new.value; valid = named refl; first = refl } }
set_row units (c ∷ cs) (suc u) new row named = record {
  whole = length-set (c ∷ cs) (suc u) new ∙ row.whole;
  named = record { name = row.named.name; valid = row.named.valid; first = row.named.first };
}

-- The name after an edit: the value written to unit 0, or the name before.
pub set_name :
    (cells : List Cell) (unit : ℕ) (new : Cell) (a : List ℕ)
    → first_value (slice_set cells unit new) ≡ Some a
    → ((unit ≡ 0) × (new.value ≡ a)) ⊎ (first_value cells ≡ Some a)
set_name [] unit new a named = let bad : None ≡ Some a = named in absurd (cc)
set_name (c ∷ cs) zero new a named = inl (refl, cc)
set_name (c ∷ cs) (suc u) new a named = inr named

-- An edited item is whole and known.
edited_owned :
    (units : ℕ) (m : Member) (i : ItemId) (unit : ℕ) (value : List ℕ) (cells : List Cell) (items : List ItemData)
    → IsOwned units m i (Live cells) → (unit ≡ 0 → IsName value)
    → IsOwned units (risen m items) i (Live (cells_with m cells unit value))
edited_owned units m i unit value cells items owned named = record {
  whole = set_row units cells unit (record { version = next_version m; value = value }) owned.whole named;
  creation = λ u small. (owned_still units m items i (Live cells) owned).creation u small;
  versions = λ u v small is. by_cell u v small (slice_get (cells_with m cells unit value) u) refl is;
}
  where
    by_cell :
        (u : ℕ) (v : Version) → u < units
        → (o : Option Cell) → slice_get (cells_with m cells unit value) u ≡ o
        → option_map (λ c. c.version) o ≡ Some v → IsContained (vector_at (risen m items) (At i) u) v
    by_cell u v small None e is = let bad : None ≡ Some v = is in absurd (cc)
    by_cell u v small (Some c) e is =
        let version : c.version ≡ v = cc in
        elim (set_cases cells unit u (record { version = next_version m; value = value }) c e) [
          | inl (same, new) ↦
              let made : next_version m ≡ v = ap (λ (x : Cell). x.version) new ∙ version in
              subst (λ (x : Version). IsContained (vector_at (risen m items) (At i) u) x) made (knows_next m items (At i) u)
          | inr (other, old) ↦
              let was : version_at (Live cells) u ≡ Some v = ap (λ (x : Option Cell). option_map (λ c. c.version) x) old ∙ ap (λ x. Some x) version in
              (owned_still units m items i (Live cells) owned).versions u v small was
        ]

-- The names of live items after another state of one of them, that no other item is in the way of.
pub state_apart :
    (m : Member) (i : ItemId) (old state : ItemState)
    → AreApart m.items → state_of m.items i ≡ Some old
    → ((a : List ℕ) → live_name state ≡ Some a → (first_clash a (Some i) m.items ≡ None) ⊎ (live_name old ≡ Some a))
    → AreApart (with_state i state m.items)
state_apart m i old state apart was named p q s t a b differ at_p at_q named_p named_q clashes =
    by_ids (same_item i p) refl (same_item i q) refl
  where
    other : (k : ItemId) → same_item i k ≡ false → i ≢ k
    other k e same =
        let bad : true ≡ false =
        sym (same_item_self i) ∙ subst (λ (r : ItemId). same_item i r ≡ false) (sym same) e in
        cc

    before : (k : ItemId) (x : ItemState) → same_item i k ≡ false → state_of (with_state i state m.items) k ≡ Some x → state_of m.items k ≡ Some x
    before k x e at = sym (state_others i state m.items k (other k e)) ∙ at

    own : (k : ItemId) (x : ItemState) (c : List ℕ) → same_item i k ≡ true → state_of (with_state i state m.items) k ≡ Some x → live_name x ≡ Some c → live_name state ≡ Some c
    own k x c e at is =
        let id : i ≡ k = same_item_is i k e in
        let both : Some state ≡ Some x =
        sym (state_found i state old m.items was) ∙ subst (λ (r : ItemId). state_of (with_state i state m.items) r ≡ Some x) (sym id) at in
        let state_is : state ≡ x = cc in
        ap live_name state_is ∙ is

    against : (k : ItemId) (x : ItemState) (c d : List ℕ) → live_name state ≡ Some c → same_item i k ≡ false → state_of m.items k ≡ Some x → live_name x ≡ Some d → Clash c d → ⊥
    against k x c d mine e at is clash_cd = elim (named c mine) [
      | inl free ↦ none_clashes c (Some i) m.items k x d free at e is clash_cd
      | inr same ↦ apart i k old x c d (other k e) was at same is clash_cd
    ]

    by_ids : (e : Bool) → same_item i p ≡ e → (f : Bool) → same_item i q ≡ f → ⊥
    by_ids true e true f = differ (sym (same_item_is i p e) ∙ same_item_is i q f)
    by_ids true e false f = against q t a b (own p s a e at_p named_p) f (before q t f at_q) named_q clashes
    by_ids false e true f = against p s b a (own q t b f at_q named_q) e (before p s e at_p) named_p (other_way a b clashes)
    by_ids false e false f = apart p q s t a b differ (before p s e at_p) (before q t f at_q) named_p named_q clashes

-- What a write to a unit that is not refused has: the unit is one, the clock can rise, and a value for unit 0
-- is a name that no other item is in the way of.
pub record MayWrite (units : ℕ) (m : Member) (i : ItemId) (unit : ℕ) (value : List ℕ) : Type 0 where
  pub inside : unit < units
  pub room : m.clock < max_tick
  pub named : unit ≡ 0 → IsName value × (first_clash value (Some i) m.items ≡ None)

pub may_write_unit :
    (units : ℕ) (m : Member) (i : ItemId) (unit : ℕ) (value : List ℕ)
    → unit < units → option_or (if nat_eq unit 0 then name_refusal m (Some i) value else None) (full_clock m) ≡ None
    → MayWrite units m i unit value
may_write_unit units m i unit value small none =
    let (named, room) = both_none (if nat_eq unit 0 then name_refusal m (Some i) value else None) (full_clock m) none in
    record { inside = small; room = can_rise m room; named = name_free (nat_eq unit 0) refl named }
  where
    name_free :
        (b : Bool) → nat_eq unit 0 ≡ b → (if b then name_refusal m (Some i) value else None) ≡ None → unit ≡ 0
        → IsName value × (first_clash value (Some i) m.items ≡ None)
    name_free true e free zeroth = free_name m (Some i) value free
    name_free false e free zeroth = let bad : true ≡ false = sym (eq-eqb unit 0 zeroth) ∙ e in absurd (cc)

pub may_write :
    (units : ℕ) (m : Member) (i : ItemId) (unit : ℕ) (value : List ℕ)
    → write_refusal units m i unit value ≡ None → MayWrite units m i unit value
may_write units m i unit value none = by_unit (nat_lt unit units) refl none
  where
    by_unit :
        (b : Bool) → nat_lt unit units ≡ b
        → (if b then option_or (if nat_eq unit 0 then name_refusal m (Some i) value else None) (full_clock m) else Some (BadUnit unit units)) ≡ None
        → MayWrite units m i unit value
    by_unit true less free = may_write_unit units m i unit value (ltb-true unit units less) free
    by_unit false more free = let bad : Some (BadUnit unit units) ≡ None = free in absurd (cc)

-- Another state of one item keeps a replica consistent, where that state is whole and known, and no other live name
-- is in the way of its name.
state_consistent :
    (units : ℕ) (m : Member) (i : ItemId) (old new : ItemState)
    → IsConsistent units m → state_of m.items i ≡ Some old → m.clock < max_tick
    → IsOwned units (risen m (with_state i new m.items)) i new
    → ((a : List ℕ) → live_name new ≡ Some a → (first_clash a (Some i) m.items ≡ None) ⊎ (live_name old ≡ Some a))
    → IsConsistent units (risen m (with_state i new m.items))
state_consistent units m i old new ok at room owned names =
    rises units m (with_state i new m.items) ok room
    (state_ascending i new m.items ok.ascending)
    (λ j state there. each j state there (same_item i j) refl)
    (state_apart m i old new ok.names at names)
  where
    each :
        (j : ItemId) (state : ItemState) → state_of (with_state i new m.items) j ≡ Some state
        → (b : Bool) → same_item i j ≡ b → IsOwned units (risen m (with_state i new m.items)) j state
    each j state there true same =
        let id : i ≡ j = same_item_is i j same in
        let both : Some new ≡ Some state =
        sym (state_found i new old m.items at) ∙ subst (λ (r : ItemId). state_of (with_state i new m.items) r ≡ Some state) (sym id) there in
        let is : new ≡ state = cc in
        subst (λ (r : ItemId). IsOwned units (risen m (with_state i new m.items)) r state) id
        (subst (λ (s : ItemState). IsOwned units (risen m (with_state i new m.items)) i s) is owned)
    each j state there false other =
        let differ : i ≢ j = λ same.
        let bad : true ≡ false =
        sym (same_item_self i) ∙ subst (λ (r : ItemId). same_item i r ≡ false) (sym same) other in
        cc in
        let was : state_of m.items j ≡ Some state = sym (state_others i new m.items j differ) ∙ there in
        owned_still units m (with_state i new m.items) j state (ok.items j state was)

-- An edit keeps the state consistent.
pub edited_consistent :
    (units : ℕ) (m : Member) (i : ItemId) (cells : List Cell) (unit : ℕ) (value : List ℕ)
    → IsConsistent units m → state_of m.items i ≡ Some (Live cells) → MayWrite units m i unit value
    → IsConsistent units (risen m (with_state i (Live (cells_with m cells unit value)) m.items))
edited_consistent units m i cells unit value ok at may =
    let new : ItemState = Live (cells_with m cells unit value) in
    state_consistent units m i (Live cells) new ok at may.room
    (edited_owned units m i unit value cells (with_state i new m.items) (ok.items i (Live cells) at) (λ zeroth. (may.named zeroth).0))
    (λ a is. elim (set_name cells unit (record { version = next_version m; value = value }) a is) [
      | inl (zeroth, same) ↦ inl (subst (λ (n : List ℕ). first_clash n (Some i) m.items ≡ None) same (may.named zeroth).1)
      | inr before ↦ inr before
    ])

-- So does a deletion.
pub deleted_consistent :
    (units : ℕ) (m : Member) (i : ItemId) (cells : List Cell)
    → IsConsistent units m → state_of m.items i ≡ Some (Live cells) → m.clock < max_tick
    → IsConsistent units (risen m (with_state i (Dead (next_version m)) m.items))
deleted_consistent units m i cells ok at room =
    let items = with_state i (Dead (next_version m)) m.items in
    state_consistent units m i (Live cells) (Dead (next_version m)) ok at room
    (record {
      whole = tt;
      creation = (owned_still units m items i (Live cells) (ok.items i (Live cells) at)).creation;
      versions = λ u v small is.
          let same : next_version m ≡ v = cc in
          subst (λ (x : Version). IsContained (vector_at (risen m items) (At i) u) x) same (knows_next m items (At i) u);
    })
    (λ a is. let bad : None ≡ Some a = is in absurd (cc))

-- Nothing is known and nothing forgotten, at any place.
nowhere_known : (b : Bool) (u r : ℕ) → tick_of (row_at (if b then no_row else no_row) u) r ≡ 0
nowhere_known true u r = refl
nowhere_known false u r = refl

-- A new replica is consistent.
pub new_consistent : (units id : ℕ) → 1 ≤ units → id < 2 ^ 128 → IsConsistent units (new_member id)
new_consistent units id some fits = record {
  some = some;
  id = fits;
  clock = omega arith;
  knowledge = record { segments = (refl, tt); rows = (record { base = tt; others = tt }, tt) };
  unstored = λ place u is small. nowhere_known (cut_le Start place) u id;
  forgets = nothing_form;
  forgotten = λ place is. let none = none_forgotten place id in omega (arith, none);
  ascending = tt;
  items = λ i state at. let bad : None ≡ Some state = at in absurd (cc);
  names = λ i j x y a b differ at_i at_j named_i named_j clashes. let bad : None ≡ Some x = at_i in cc;
}

-- A name that is refused for itself, and for another item.
pub refused_name :
    (m : Member) (except : Option ItemId) (name : List ℕ) (at : ℕ)
    → name_fault name ≡ Some at → name_refusal m except name ≡ Some (EditFault.BadName at)
refused_name m except name at bad = rw bad refl

pub refused_clash :
    (m : Member) (except : Option ItemId) (name : List ℕ) (i : ItemId)
    → IsName name → first_clash name except m.items ≡ Some i → name_refusal m except name ≡ Some (EditFault.Clash i)
refused_clash m except name i good found = rw ((name_decided name).1 good, found) refl

pub accepted_name :
    (m : Member) (except : Option ItemId) (name : List ℕ)
    → IsName name → first_clash name except m.items ≡ None → name_refusal m except name ≡ None
accepted_name m except name good none = rw ((name_decided name).1 good, none) refl

-- The value that stands first, where one is read there.
pub first_value_there :
    (values : List (List ℕ)) (value : List ℕ)
    → 0 < length values → value ≡ get_or values 0 value → slice_get values 0 ≡ Some value
first_value_there [] value some is = absurd (omega (arith, some))
first_value_there (v ∷ vs) value some is = ap (λ (x : List ℕ). Some x) (sym is)

-- A creation is not refused where its first value and the clock are not.
pub not_refused :
    (m : Member) (values : List (List ℕ)) (name : List ℕ)
    → slice_get values 0 ≡ Some name → name_refusal m None name ≡ None → full_clock m ≡ None
    → create_refusal m values ≡ None
not_refused m values name first free room = rw (first, free, room) refl

-- A commit that the state takes leaves it consistent.
pub installed_consistent :
    (units : ℕ) (c : CommitData) (m : Member) (known : Known) (forgotten : Forgets) (items : List ItemData)
    → IsConsistent units m → FitsMember units c m
    → IsKnowledge units known → HasTicks units known (laid_over m.id 0 (tick_at c.knowledge))
    → known ≡ with_own units m.id 0 c.knowledge → forgotten ≡ c.forgotten
    → items ≡ drop_all c.drops (put_all c.puts m.items)
    → IsConsistent units (record { id = m.id; clock = c.clock; knowledge = known; forgotten = forgotten; items = items })
installed_consistent units c m known forgotten items good fits form ticks own forgets holds =
    let stored : IsStored units c m = record {
      form = subst (λ (k : Known). IsKnowledge units k) own form;
      ticks = subst (λ (k : Known). HasTicks units k (laid_over m.id 0 (tick_at c.knowledge))) own ticks;
    } in
    rw (own, forgets, holds) (commits_consistent units c m good stored fits)

-- What refuses the first value, or where nothing does the next version, refuses a creation.
first_refuses :
    (m : Member) (values : List (List ℕ)) (name : List ℕ) (fault : EditFault)
    → slice_get values 0 ≡ Some name → name_refusal m None name ≡ Some fault → create_refusal m values ≡ Some fault
first_refuses m values name fault first refused = rw (first, refused) refl

next_refuses :
    (m : Member) (values : List (List ℕ)) (name : List ℕ) (fault : EditFault)
    → slice_get values 0 ≡ Some name → name_refusal m None name ≡ None → full_clock m ≡ Some fault
    → create_refusal m values ≡ Some fault
next_refuses m values name fault first free refused = rw (first, free, refused) refl

pub refused_first :
    (m : Member) (values : List (List ℕ)) (name : List ℕ) (fault : EditFault)
    → slice_get values 0 ≡ Some name → When (refuses_edit fault) (name_refusal m None name ≡ Some fault)
    → When (refuses_edit fault) (create_refusal m values ≡ Some fault)
refused_first m values name fault first refused = when_then (refuses_edit fault) (first_refuses m values name fault first) refused

pub refused_next :
    (m : Member) (values : List (List ℕ)) (name : List ℕ) (fault : EditFault)
    → slice_get values 0 ≡ Some name → name_refusal m None name ≡ None → When (refuses_edit fault) (full_clock m ≡ Some fault)
    → When (refuses_edit fault) (create_refusal m values ≡ Some fault)
refused_next m values name fault first free refused = when_then (refuses_edit fault) (next_refuses m values name fault first free) refused
