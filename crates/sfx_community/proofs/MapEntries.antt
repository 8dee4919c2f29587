-- The replicas of the program, as they stand in the map.
use Rattle.std.proofs.Common.{◌≡◌, ℕ, suc, ◌<◌, ◌||◌, Bool, true, false, cond, Option, Some, None, List, [], ◌∷◌, inl, inr, refl, sym, ap, ◌∙◌, length, slice_get, get_or, drop, position, is_some, option_map, subst, arith, ◌+◌}
use Rattle.std.specs.List.{position_from}
use Rattle.std.specs.Map.{keys_of, lookup, values_of}
use Rattle.std.specs.Borrow.{Bor}
use Rattle.std.specs.Option.{option_copied, option_map_or}
use Rattle.std.specs.Str.{bytes_eq}
use Rattle.std.proofs.lemmas.Bool.Decides.{same_from_decides}
use Rattle.std.proofs.lemmas.Slice.Eq.{bytes_eq-Decides}
use Rattle.indexmap.specs.IndexMap.{set_value_at}
use Rattle.std.proofs.lemmas.List.{drop_more, length-map}
use Rattle.std.proofs.lemmas.Option.{slice_get_cases, slice_get-map, slice_get-get_or}
use Rattle.std.proofs.lemmas.Iterator.Adapters.{position_from-zero}
use Rattle.sfx_model.specs.members.Members.{Member}
use Rattle.sfx_model.specs.sessions.MemberKnowledge.{names_id}
use Rattle.sfx_community.specs.State.{KeptData, KeptMember, is_id_taken, has_name, kept_as, member_of, members_view, members_with}

abbrev pub Entries : Type 0
Entries = List (List ℕ × KeptData)

-- a replica in another state, kept as it was
abbrev pub with_replica : KeptData → Member → KeptData
with_replica k member = record { kind = k.kind; seq = k.seq; member = member; pending = k.pending }

pub turned : (a b : List ℕ) → bytes_eq a b ≡ bytes_eq b a
turned a b = same_from_decides (bytes_eq a b) (bytes_eq b a) (bytes_eq-Decides a b)
    ((λ is. sym ((bytes_eq-Decides b a).0 is)), (λ same. (bytes_eq-Decides b a).1 (sym same)))

-- what is found under a name is the member with it
pub found_member : (es : Entries) (name : List ℕ)
    → option_map (λ m. kept_as name m) (lookup (bytes_eq name) es) ≡ member_of (members_view es) name
found_member [] name = refl
found_member (e ∷ es) name = by_test (found_member es name) (bytes_eq name e.0) refl where
  by_test : option_map (λ m. kept_as name m) (lookup (bytes_eq name) es) ≡ member_of (members_view es) name
      → (b : Bool) → bytes_eq name e.0 ≡ b
      → option_map (λ m. kept_as name m) (lookup (bytes_eq name) (e ∷ es)) ≡ member_of (members_view (e ∷ es)) name
  by_test rest true is = rw (sym (turned name e.0) ∙ is, is) (ap (λ n. Some (kept_as n e.1)) ((bytes_eq-Decides name e.0).0 is))
  by_test rest false is = rw (sym (turned name e.0) ∙ is, is) rest

-- a name that is among the keys is a member's
pub name_taken : (es : Entries) (name : List ℕ) → is_some (lookup (bytes_eq name) es) ≡ has_name name (members_view es)
name_taken [] name = refl
name_taken (e ∷ es) name = by_test (name_taken es name) (bytes_eq name e.0) refl where
  by_test : is_some (lookup (bytes_eq name) es) ≡ has_name name (members_view es) → (b : Bool) → bytes_eq name e.0 ≡ b
      → is_some (lookup (bytes_eq name) (e ∷ es)) ≡ has_name name (members_view (e ∷ es))
  by_test rest true is = rw (sym (turned name e.0) ∙ is, is) refl
  by_test rest false is = rw (sym (turned name e.0) ∙ is, is) rest

-- Where a name stands among the entries: its member is the one with that name, and the same replica in another
-- state is put in its place.
pub record StandsAt (es : Entries) (name : List ℕ) (i : ℕ) : Type 0 where
  pub within : i < length es
  pub member : (k : KeptData) → slice_get (values_of es) i ≡ Some k → member_of (members_view es) name ≡ Some (kept_as name k)
  pub put : (k : KeptData) (n : Member) → slice_get (values_of es) i ≡ Some k
      → members_view (set_value_at es i (with_replica k n)) ≡ members_with name n (members_view es)

stands_from : (es : Entries) (name : List ℕ) (n k : ℕ) → position_from (bytes_eq name) n (keys_of es) ≡ Some k → (j : ℕ) × (k ≡ n + j) × StandsAt es name j
stands_from [] name n k found = absurd (cc)
stands_from (e ∷ es) name n k found = by_test (stands_from es name (n + 1) k) (bytes_eq name e.0) refl found where
  by_test : (position_from (bytes_eq name) (n + 1) (keys_of es) ≡ Some k → (j : ℕ) × (k ≡ n + 1 + j) × StandsAt es name j)
      → (b : Bool) → bytes_eq name e.0 ≡ b → cond b (Some n) (position_from (bytes_eq name) (n + 1) (keys_of es)) ≡ Some k
      → (j : ℕ) × (k ≡ n + j) × StandsAt (e ∷ es) name j
  by_test rest true test at =
      let here : n ≡ k = cc in
      let back : bytes_eq e.0 name ≡ true = sym (turned name e.0) ∙ test in (
        0,
        omega (arith, here),
        record {
          within = omega arith;
          member = λ m is. let same : e.1 ≡ m = cc in
              rw back (ap (λ x. Some (kept_as e.0 x)) same ∙ ap (λ x. Some (kept_as x m)) (sym ((bytes_eq-Decides name e.0).0 test)));
          put = λ k n at. let same : e.1 ≡ k = cc in
              rw back (ap (λ x. kept_as e.0 (with_replica x n) ∷ members_view es) (sym same));
        },
      )
  by_test rest false test at =
      let found = rest at in
      let place = found.1 in
      let is = found.2 in
      let back : bytes_eq e.0 name ≡ false = sym (turned name e.0) ∙ test in (
        suc found.0,
        omega (arith, place),
        record {
          within = let low = is.within in omega (arith, low);
          member = λ m at. rw back (is.member m at);
          put = λ k n at. rw back (ap (λ ms. kept_as e.0 e.1 ∷ ms) (is.put k n at));
        },
      )

none_from : (es : Entries) (name : List ℕ) (n : ℕ) → position_from (bytes_eq name) n (keys_of es) ≡ None → member_of (members_view es) name ≡ None
none_from [] name n none = refl
none_from (e ∷ es) name n none = by_test (none_from es name (n + 1)) (bytes_eq name e.0) refl none where
  by_test : (position_from (bytes_eq name) (n + 1) (keys_of es) ≡ None → member_of (members_view es) name ≡ None)
      → (b : Bool) → bytes_eq name e.0 ≡ b → cond b (Some n) (position_from (bytes_eq name) (n + 1) (keys_of es)) ≡ None
      → member_of (members_view (e ∷ es)) name ≡ None
  by_test rest true test at = absurd (cc)
  by_test rest false test at = rw (sym (turned name e.0) ∙ test) (rest at)

pub stands_at : (es : Entries) (name : List ℕ) (i : ℕ) → position (bytes_eq name) (keys_of es) ≡ Some i → StandsAt es name i
stands_at es name i found =
    let there = stands_from es name 0 i (sym (position_from-zero (bytes_eq name) (keys_of es)) ∙ found) in
    let at : there.0 ≡ i = let e = there.1 in omega (arith, e) in
    subst (StandsAt es name) at there.2

pub stands_nowhere : (es : Entries) (name : List ℕ) → position (bytes_eq name) (keys_of es) ≡ None → member_of (members_view es) name ≡ None
stands_nowhere es name none = none_from es name 0 (sym (position_from-zero (bytes_eq name) (keys_of es)) ∙ none)

-- the same of a reference to what is found
pub found_copied : (es : Entries) (name : List ℕ) (r : Option (Bor KeptData)) → option_copied r ≡ lookup (bytes_eq name) es
    → option_map (λ m. kept_as name m.now) r ≡ member_of (members_view es) name
found_copied es name None is = ap (λ o. option_map (λ m. kept_as name m) o) is ∙ found_member es name
found_copied es name (Some m) is = ap (λ o. option_map (λ m. kept_as name m) o) is ∙ found_member es name

-- the member at an index comes first among those from it on
pub members_from : (ms : List KeptMember) (i : ℕ) (m : KeptMember) → slice_get ms i ≡ Some m → drop i ms ≡ m ∷ drop (i + 1) ms
members_from ms i m at = elim (slice_get_cases ms i).1 [
  | inl (value, lt, is, get) ↦
      let same : get_or ms i m ≡ m = let both = sym (slice_get-get_or ms i m lt) ∙ at in cc in
      drop_more ms i m lt ∙ ap (λ x. x ∷ drop (i + 1) ms) same
  | inr (past, is) ↦ absurd (let both = sym is ∙ at in cc)
]

-- the entry at an index of the map
pub entry_member : (es : Entries) (i : ℕ) (e : List ℕ × KeptData) → slice_get es i ≡ Some e → slice_get (members_view es) i ≡ Some (kept_as e.0 e.1)
entry_member es i e at = slice_get-map (λ e. kept_as e.0 e.1) es i ∙ ap (λ o. option_map (λ e. kept_as e.0 e.1) o) at

-- one more member asked for its id
pub id_asked : (id : ℕ) (ms : List KeptMember) (i : ℕ) → i < length ms
    → is_id_taken id (drop i ms) ≡ (option_map_or (λ m. names_id id m.member) (slice_get ms i) false || is_id_taken id (drop (i + 1) ms))
id_asked id ms i within = elim (slice_get_cases ms i).1 [
  | inl (m, lt, at, get) ↦ rw at (ap (λ xs. is_id_taken id xs) (members_from ms i m at))
  | inr (past, none) ↦ absurd (omega (arith, past, within))
]

pub no_entry : (es : Entries) (i : ℕ) → slice_get es i ≡ None → slice_get (members_view es) i ≡ None
no_entry es i none = slice_get-map (λ e. kept_as e.0 e.1) es i ∙ ap (λ o. option_map (λ e. kept_as e.0 e.1) o) none

pub entries_len : (es : Entries) → length (members_view es) ≡ length es
entries_len es = length-map es (λ e. kept_as e.0 e.1)
