-- What a state says of a world: its members, without how they are kept.
use Rattle.std.proofs.Common.{◌≡◌, ◌≢◌, ◌⊎◌, ℕ, Bool, true, false, ◌||◌, if◌then◌else◌, Some, List, [], ◌∷◌, ◌++◌, map, inl, inr, refl, sym, ap, ◌∙◌, subst, nat_eq}
use Rattle.std.specs.Str.{bytes_eq}
use Rattle.std.proofs.lemmas.Bool.{eq-eqb}
use Rattle.std.proofs.lemmas.Slice.Eq.{bytes_eq-Decides}
use Rattle.sfx_model.specs.sessions.Acts.{IsOrderly}
use Rattle.sfx_model.specs.members.Members.{Community, Member, NamedMember}
use Rattle.sfx_model.specs.world.Sets.{Has}
use Rattle.sfx_model.specs.members.States.{ChangesMember, member_named, with_added, with_changed, with_member}
use Rattle.sfx_model.proofs.members.StateStands.{changes_named}
use Rattle.sfx_community.specs.History.{AreOrderly}
use Rattle.sfx_model.specs.sessions.MemberKnowledge.{names_id}
use Rattle.sfx_community.specs.State.{KeptMember, State, as_record, become, community_of, is_id_taken, kept_as, member_of, members_with, named_member, state_added, state_with}
use Rattle.sfx_community.proofs.OrderlyMembers.{added_orderly, changed_orderly}

-- a member of the state is one of the world's
pub named_has : (ms : List KeptMember) (m : KeptMember) → Has m ms → Has (named_member m) (map named_member ms)
named_has [] m has = absurd has
named_has (x ∷ xs) m has = elim has [
  | inl is ↦ inl (ap (λ (y : KeptMember). named_member y) is)
  | inr there ↦ inr (named_has xs m there)
]

-- the member that was found has the name, and is the first that has
pub found_named : (ms : List KeptMember) (name : List ℕ) (m : KeptMember) → member_of ms name ≡ Some m
    → (m.name ≡ name) × (member_named name (map named_member ms) ≡ Some m.member)
found_named [] name m e = absurd (cc)
found_named (x ∷ xs) name m e = by_name (found_named xs name m) (bytes_eq x.name name) refl e where
  by_name : (member_of xs name ≡ Some m → (m.name ≡ name) × (member_named name (map named_member xs) ≡ Some m.member))
      → (b : Bool) → bytes_eq x.name name ≡ b → (if b then Some x else member_of xs name) ≡ Some m
      → (m.name ≡ name) × (member_named name (map named_member (x ∷ xs)) ≡ Some m.member)
  by_name others true called e =
      let is : x ≡ m = cc in
      let same : x.name ≡ name = (bytes_eq-Decides x.name name).0 called in
      (ap (λ (y : KeptMember). y.name) (sym is) ∙ same, rw called (ap (λ (y : KeptMember). Some y.member) is))
  by_name others false called e =
      let found = others e in
      (found.0, rw called found.1)

pub member_has : (ms : List KeptMember) (name : List ℕ) (m : KeptMember) → member_of ms name ≡ Some m → Has m ms
member_has [] name m e = absurd (cc)
member_has (x ∷ xs) name m e = by_name (member_has xs name m) (bytes_eq x.name name) e where
  by_name : (member_of xs name ≡ Some m → Has m xs) → (b : Bool) → (if b then Some x else member_of xs name) ≡ Some m → Has m (x ∷ xs)
  by_name rest true e = let same : x ≡ m = cc in inl (sym same)
  by_name rest false e = inr (rest e)

-- a replica in another state
named_with : (name : List ℕ) (n : Member) (ms : List KeptMember) → map named_member (members_with name n ms) ≡ with_member name n (map named_member ms)
named_with name n [] = refl
named_with name n (m ∷ ms) = by_name (named_with name n ms) (bytes_eq m.name name) where
  by_name : map named_member (members_with name n ms) ≡ with_member name n (map named_member ms) → (b : Bool)
      → map named_member (if b then become n m ∷ ms else m ∷ members_with name n ms)
      ≡ (if b then record { name = m.name; member = n } ∷ map named_member ms else named_member m ∷ with_member name n (map named_member ms))
  by_name rest true = refl
  by_name rest false = ap (λ xs. named_member m ∷ xs) rest

pub community_with : (name : List ℕ) (n : Member) (s : State) → community_of (state_with name n s) ≡ with_changed name n (community_of s)
community_with name n s = ap (λ (ms : List NamedMember). record { units = s.units; members = ms }) (named_with name n s.members)

pub changes : (s : State) (name : List ℕ) (m : KeptMember) (n : Member) → member_of s.members name ≡ Some m
    → ChangesMember m.member n (community_of s) (community_of (state_with m.name n s))
changes s name m n found =
    let named = found_named s.members name m found in
    let first : member_named m.name (map named_member s.members) ≡ Some m.member = rw named.0 named.1 in
    subst (λ (c : Community). ChangesMember m.member n (community_of s) c) (sym (community_with m.name n s))
    (changes_named m.name m.member n s.units (map named_member s.members) first)

-- one more replica
named_added : (ms : List KeptMember) (m : KeptMember) → map named_member (ms ++ m ∷ []) ≡ map named_member ms ++ named_member m ∷ []
named_added [] m = refl
named_added (x ∷ xs) m = ap (λ ys. named_member x ∷ ys) (named_added xs m)

pub community_added : (name : List ℕ) (m : Member) (s : State) → community_of (state_added name m s) ≡ with_added name m (community_of s)
community_added name m s =
    ap (λ (ms : List NamedMember). record { units = s.units; members = ms }) (named_added s.members (kept_as name (as_record m)))

-- an id that no member has
pub id_untaken : (id : ℕ) (ms : List KeptMember) (m : NamedMember) → is_id_taken id ms ≡ false → Has m (map named_member ms) → m.member.id ≢ id
id_untaken id [] m none has same = absurd has
id_untaken id (x ∷ xs) m none has same = by_first (id_untaken id xs m) (names_id id x.member) refl none has where
  by_first : (is_id_taken id xs ≡ false → Has m (map named_member xs) → m.member.id ≢ id) → (b : Bool) → names_id id x.member ≡ b → (b || is_id_taken id xs) ≡ false
      → (m ≡ named_member x) ⊎ Has m (map named_member xs) → ⊥
  by_first rest true test e h = let bad : true ≡ false = e in cc
  by_first rest false test e (inl is) =
      let there : nat_eq x.member.id id ≡ true = eq-eqb x.member.id id (sym (ap (λ (y : NamedMember). y.member.id) is) ∙ same) in
      let named : names_id id x.member ≡ true = rw there refl in
      let bad : true ≡ false = sym named ∙ test in
      cc
  by_first rest false test e (inr there) = rest e there same

-- lists that stay in order
pub with_orderly : (s : State) (name : List ℕ) (n : Member) → AreOrderly (community_of s) → IsOrderly s.units n → AreOrderly (community_of (state_with name n s))
with_orderly s name n orderly new =
    subst AreOrderly (sym (community_with name n s)) (changed_orderly (community_of s) name n orderly new)

pub also_orderly : (s : State) (name : List ℕ) (m : Member) → AreOrderly (community_of s) → IsOrderly s.units m → AreOrderly (community_of (state_added name m s))
also_orderly s name m orderly new =
    subst AreOrderly (sym (community_added name m s)) (added_orderly (community_of s) (record { name = name; member = m }) orderly new)
