-- The lines of a script keep the lists of all members in order.
use Rattle.std.specs.Option.{option_or}
use Rattle.std.proofs.Common.{◌≡◌, ◌⊎◌, ℕ, ◌<◌, ◌≤◌, ◌^◌, Bool, true, false, if◌then◌else◌, Option, Some, None, List, [], ◌∷◌, ◌++◌, length, inl, inr, refl, sym, ap, subst, slice_get, arith}
use Rattle.std.specs.Str.{bytes_eq}
use Rattle.sfx_ids.specs.declared.cut.Cut.TheVariants.{Start}
use Rattle.sfx_ids.specs.declared.item_id.ItemId.{ItemId}
use Rattle.sfx_ids.specs.Cut.{cut_le}
use Rattle.sfx_ids.specs.Tick.{max_tick}
use Rattle.sfx_item.specs.declared.cell.Cell.{Cell}
use Rattle.sfx_vector.specs.Clocks.{AreClocks}
use Rattle.sfx_knowledge.specs.Forgotten.{AreForgets, nothing_forgotten}
use Rattle.sfx_knowledge.proofs.KnowledgeLemmas.{IsKnowledge-nothing}
use Rattle.sfx_model.specs.sessions.Acts.{IsOrderly}
use Rattle.sfx_model.specs.members.Consistent.{AreApart, live_name}
use Rattle.sfx_item.specs.Item.{Live, Dead, ItemData}
use Rattle.sfx_model.specs.members.Members.{Community, Member, NamedMember, AreAscending, state_of}
use Rattle.sfx_model.specs.members.StandsIn.{StateStandsIn}
use Rattle.sfx_model.specs.members.Readings.{first_clash}
use Rattle.sfx_model.specs.world.Sets.{Has}
use Rattle.sfx_model.specs.members.States.{ChangesMember, cells_with, next_created, next_item, next_version, with_item, with_member, with_state}
use Rattle.sfx_model.specs.world.World.{World, WellFormed}
use Rattle.sfx_model.proofs.members.EditsAct.{next_unused}
use Rattle.sfx_model.proofs.members.StateStands.{changing_stands}
use Rattle.sfx_model.proofs.world.SiteLemmas.{found}
use Rattle.sfx_model.proofs.members.StatesLemmas.{state_ascending, with_ascending}
use Rattle.sfx_replica.specs.Edits.{created, new_member, risen}
use Rattle.sfx_replica.specs.Refusals.{create_refusal, first_name_refusal, full_clock, name_refusal}
use Rattle.sfx_replica.proofs.EditsKeepConsistency.{MayWrite, both_none, can_rise, created_name, free_name, set_name, state_apart, with_apart}
use Rattle.sfx_community.specs.History.{AreOrderly}

-- what becomes of the others where a member is changed or added
changed_has : (name : List ℕ) (n : Member) (ms : List NamedMember) (x : NamedMember) → Has x (with_member name n ms) → (x.member ≡ n) ⊎ Has x ms
changed_has name n [] x has = absurd has
changed_has name n (m ∷ ms) x has = by_name (changed_has name n ms x) (bytes_eq m.name name) has where
  by_name : (Has x (with_member name n ms) → (x.member ≡ n) ⊎ Has x ms) → (b : Bool)
      → Has x (if b then record { name = m.name; member = n } ∷ ms else m ∷ with_member name n ms) → (x.member ≡ n) ⊎ Has x (m ∷ ms)
  by_name rest true h = elim h [
    | inl is ↦ inl (ap (λ (y : NamedMember). y.member) is)
    | inr there ↦ inr (inr there)
  ]
  by_name rest false h = elim h [
    | inl is ↦ inr (inl is)
    | inr there ↦ elim (rest there) [ inl new ↦ inl new | inr old ↦ inr (inr old) ]
  ]

pub changed_orderly : (c : Community) (name : List ℕ) (n : Member) → AreOrderly c → IsOrderly c.units n
    → AreOrderly (record { units = c.units; members = with_member name n c.members })
changed_orderly c name n orderly new x has = elim (changed_has name n c.members x has) [
  | inl is ↦ subst (IsOrderly c.units) (sym is) new
  | inr old ↦ orderly x old
]

added_has : (ms : List NamedMember) (m x : NamedMember) → Has x (ms ++ m ∷ []) → (x ≡ m) ⊎ Has x ms
added_has [] m x has = has
added_has (y ∷ ys) m x has = elim has [
  | inl is ↦ inr (inl is)
  | inr there ↦ elim (added_has ys m x there) [ inl new ↦ inl new | inr old ↦ inr (inr old) ]
]

pub added_orderly : (c : Community) (m : NamedMember) → AreOrderly c → IsOrderly c.units m.member
    → AreOrderly (record { units = c.units; members = c.members ++ m ∷ [] })
added_orderly c m orderly new x has = elim (added_has c.members m x has) [
  | inl is ↦ subst (λ (y : NamedMember). IsOrderly c.units y.member) (sym is) new
  | inr old ↦ orderly x old
]

-- a new member
no_clocks : (b : Bool) → AreClocks (if b then [] else [])
no_clocks true = tt
no_clocks false = tt

none_forgotten : AreForgets nothing_forgotten
none_forgotten = record { segments = (refl, tt); clocks = λ place there. no_clocks (cut_le Start place) }

none_apart : AreApart []
none_apart i j x y a b differ at_i at_j named_i named_j clashes = let bad : None ≡ Some x = at_i in cc

pub new_orderly : (units id : ℕ) → 1 ≤ units → id < 2 ^ 128 → IsOrderly units (new_member id)
new_orderly units id some fits = record {
  some = some;
  id = fits;
  clock = omega arith;
  knowledge = IsKnowledge-nothing units;
  forgotten = none_forgotten;
  ascending = tt;
  names = none_apart;
}

-- a member whose clock rises
risen_orderly : (units : ℕ) (m : Member) (items : List ItemData) → IsOrderly units m → m.clock < max_tick → AreAscending items → AreApart items
    → IsOrderly units (risen m items)
risen_orderly units m items old room ascending apart = record {
  some = old.some;
  id = old.id;
  clock = omega (arith, room);
  knowledge = old.knowledge;
  forgotten = old.forgotten;
  ascending = ascending;
  names = apart;
}

pub created_orderly : (w : World) (c d : Community) (m n : Member) (values : List (List ℕ)) → WellFormed w → StateStandsIn w c → ChangesMember m n c d
    → IsOrderly c.units m → length values ≡ c.units → create_refusal m values ≡ None → IsOrderly c.units (created m values)
created_orderly w c d m n values ok stands changes old whole none =
    let (s, at, rep) = (changing_stands w c d m n stands changes).represents in
    by_first (next_unused w s m ok (found w.sites m.id s at).0 rep) (slice_get values 0) refl none where
      no_first : (vs : List (List ℕ)) → length vs ≡ c.units → slice_get vs 0 ≡ None → ⊥
      no_first [] e f = let some = old.some in omega (arith, e, some)
      no_first (v ∷ vs) e f = let bad : Some v ≡ None = f in cc

      by_first : state_of m.items (next_item m) ≡ None → (o : Option (List ℕ)) → slice_get values 0 ≡ o
          → option_or (first_name_refusal m o) (full_clock m) ≡ None → IsOrderly c.units (created m values)
      by_first new None first free = absurd (no_first values whole first)
      by_first new (Some name) first free =
          let (named, room) = both_none (name_refusal m None name) (full_clock m) free in
          let (good, apart) = free_name m None name named in
          risen_orderly c.units m (with_item (next_created m values) m.items) old (can_rise m room)
          (with_ascending (next_created m values) m.items old.ascending new)
          (with_apart m (next_created m values) name old.names new apart (λ a at. created_name m values name a first at))

pub deleted_orderly : (units : ℕ) (m : Member) (i : ItemId) (cells : List Cell) → IsOrderly units m
    → state_of m.items i ≡ Some (Live cells) → m.clock < max_tick
    → IsOrderly units (risen m (with_state i (Dead (next_version m)) m.items))
deleted_orderly units m i cells old at room =
    risen_orderly units m (with_state i (Dead (next_version m)) m.items) old room
    (state_ascending i (Dead (next_version m)) m.items old.ascending)
    (state_apart m i (Live cells) (Dead (next_version m)) old.names at (λ a is. let bad : None ≡ Some a = is in absurd (cc)))

pub edited_orderly : (units : ℕ) (m : Member) (i : ItemId) (cells : List Cell) (unit : ℕ) (value : List ℕ) → IsOrderly units m
    → state_of m.items i ≡ Some (Live cells) → MayWrite units m i unit value
    → IsOrderly units (risen m (with_state i (Live (cells_with m cells unit value)) m.items))
edited_orderly units m i cells unit value old at may =
    risen_orderly units m (with_state i (Live (cells_with m cells unit value)) m.items) old may.room
    (state_ascending i (Live (cells_with m cells unit value)) m.items old.ascending)
    (state_apart m i (Live cells) (Live (cells_with m cells unit value)) old.names at names) where
      names : (a : List ℕ) → live_name (Live (cells_with m cells unit value)) ≡ Some a
          → (first_clash a (Some i) m.items ≡ None) ⊎ (live_name (Live cells) ≡ Some a)
      names a is = elim (set_name cells unit (record { version = next_version m; value = value }) a is) [
        | inl (zeroth, same) ↦ inl (subst (λ (n : List ℕ). first_clash n (Some i) m.items ≡ None) same (may.named zeroth).1)
        | inr before ↦ inr before
      ]
