-- The state of the program as plain data: what stands between a run and the replicas that its script works on.
use Rattle.std.specs.Prelude.{ℕ, Bool, if◌then◌else◌, Option, Some, None, List, [], ◌∷◌, ◌++◌, map}
use Rattle.std.specs.List.{list_any}
use Rattle.std.specs.Str.{bytes_eq}
use Rattle.sfx_model.specs.sessions.MemberKnowledge.{names_id}
use Rattle.sfx_model.specs.members.Members.{Member, NamedMember, Community}
use Rattle.sfx_community.specs.declared.kind.Kind.{Kind}
use Rattle.sfx_community.specs.declared.kind.Kind.TheVariants.{Record}
use Rattle.sfx_community.specs.declared.pending.Pending.{Pending}

-- A replica as it is kept: the kind, the number of its last commit, its own state, and the files that still
-- have to follow, in order.
pub record KeptData : Type 0 where
  pub kind : Kind
  pub seq : ℕ
  pub member : Member
  pub pending : List Pending

-- The same under the replica's name.
pub record KeptMember : Type 0 where
  pub name : List ℕ
  pub kind : Kind
  pub seq : ℕ
  pub member : Member
  pub pending : List Pending

-- The state of the program: how many change units each item has, 0 while that is not said, and the replicas in
-- the order in which they were added.
pub record State : Type 0 where
  pub units : ℕ
  pub members : List KeptMember

-- The member under its name, without how it is kept.
abbrev pub named_member : KeptMember → NamedMember
named_member m = record { name = m.name; member = m.member }

-- What the state says of a world: the members under their names, without how they are kept.
abbrev pub community_of : State → Community
community_of s = record { units = s.units; members = map named_member s.members }

-- The state of these members, whose items have so many units.
abbrev pub state_among : ℕ → List KeptMember → State
state_among units members = record { units = units; members = members }

-- A replica kept as a record, with no commit and no file that has to follow.
abbrev pub as_record : Member → KeptData
as_record member = record { kind = Record; seq = 0; member = member; pending = [] }

-- What is kept, under this name.
abbrev pub kept_as : List ℕ → KeptData → KeptMember
kept_as name k = record { name = name; kind = k.kind; seq = k.seq; member = k.member; pending = k.pending }

-- The members that the entries of the map are, in order.
abbrev pub members_view : List (List ℕ × KeptData) → List KeptMember
members_view entries = map (λ e. kept_as e.0 e.1) entries

-- The member with this name.
abbrev pub member_of : List KeptMember → List ℕ → Option KeptMember
member_of [] name = None
member_of (m ∷ ms) name = if bytes_eq m.name name then Some m else member_of ms name

-- A member has this name.
abbrev pub has_name : List ℕ → List KeptMember → Bool
has_name name members = list_any (λ m. bytes_eq m.name name) members

-- The id is taken: a member has it, or knows or has forgotten something that a replica with this id made.
abbrev pub is_id_taken : ℕ → List KeptMember → Bool
is_id_taken id members = list_any (λ m. names_id id m.member) members

-- The replica in this state; how it is kept stays.
abbrev pub become : Member → KeptMember → KeptMember
become member m = record { name = m.name; kind = m.kind; seq = m.seq; member = member; pending = m.pending }

-- The members with the replica of this name in this state.
abbrev pub members_with : List ℕ → Member → List KeptMember → List KeptMember
members_with name member [] = []
members_with name member (m ∷ ms) =
    if bytes_eq m.name name then become member m ∷ ms else m ∷ members_with name member ms

-- The state with the replica of this name in this state.
abbrev pub state_with : List ℕ → Member → State → State
state_with name member s = record { units = s.units; members = members_with name member s.members }

-- The state with one more replica behind the others, kept as a record.
abbrev pub state_added : List ℕ → Member → State → State
state_added name member s =
    record { units = s.units; members = s.members ++ kept_as name (as_record member) ∷ [] }
