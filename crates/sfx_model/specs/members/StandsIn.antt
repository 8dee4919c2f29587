-- What it means that a state stands in a world. Its members are some of the world's replicas; the others are
-- kept elsewhere, as on other machines.
use Rattle.std.specs.Prelude.{◌≡◌, ◌≢◌, ℕ, max, ◌⊎◌, List, [], ◌∷◌, ◌++◌}
use Rattle.sfx_model.specs.world.Sets.{Has}
use Rattle.sfx_model.specs.world.World.{Site, Snapshot, World}
use Rattle.sfx_model.specs.world.Events.{Deed, seen_by}
use Rattle.sfx_model.specs.members.Members.{Member, NamedMember, Community, AreAscending, shown}
use Rattle.sfx_model.specs.members.Replica.{RepresentsReplica, IsOfOthers}

-- The member has a site in the world and represents it, and its items are in order.
pub record StandsIn (w : World) (m : Member) : Type 0 where
  pub represents : RepresentsReplica w m.id (shown m)
  pub ascending : AreAscending m.items

-- Any two of the members have different ids.
abbrev pub AreIdsApart : List NamedMember → Type 0
AreIdsApart [] = Unit {0}
AreIdsApart (m ∷ ms) = ((n : NamedMember) → Has n ms → n.member.id ≢ m.member.id) × AreIdsApart ms

-- The unit count of the state is the world's, or it has none yet, and no members.
abbrev pub FitsUnits : World → Community → Type 0
FitsUnits w c = (c.units ≡ w.units) ⊎ ((c.units ≡ 0) × (c.members ≡ []))

-- The state stands in the world: each of its members has a site of its own there, which it represents. The
-- world may have other sites, of replicas that are kept elsewhere.
pub record StateStandsIn (w : World) (c : Community) : Type 0 where
  pub units : FitsUnits w c
  pub apart : AreIdsApart c.members
  pub members : (m : NamedMember) → Has m c.members → StandsIn w m.member

-- A member of the state has this id.
abbrev pub HasMember : Community → ℕ → Type 0
HasMember c id = (m : NamedMember) × Has m c.members × (m.member.id ≡ id)

-- The state is whole: each replica of the world has a member in it, and none is kept elsewhere.
abbrev pub IsWhole : World → Community → Type 0
IsWhole w c = (s : Site) → Has s w.sites → HasMember c s.id

-- The member is kept elsewhere: none of the state has its id.
abbrev pub IsElsewhere : Member → Community → Type 0
IsElsewhere m c = (n : NamedMember) → Has n c.members → n.member.id ≢ m.id

-- No replica has a member in both states.
abbrev pub AreDisjoint : Community → Community → Type 0
AreDisjoint c d = (m : NamedMember) → Has m c.members → IsElsewhere m.member d

-- Both states put together. A unit count that is not said yet gives way to one that is.
abbrev pub together : Community → Community → Community
together c d = record { units = max c.units d.units; members = c.members ++ d.members }

-- The world has no other unit count than this: none is said yet, or this one.
abbrev pub HasNoOtherUnits : World → ℕ → Type 0
HasNoOtherUnits w units = (w.units ≡ 0) ⊎ (w.units ≡ units)

-- The deed is not of this replica, whatever the snapshot of its source is.
abbrev pub IsDeedOfOthers : Deed → ℕ → Type 0
IsDeedOfOthers d r = (snapshot : Snapshot) → IsOfOthers (seen_by snapshot d) r

-- None of the deeds is of a member of the state.
abbrev pub AreOfOthers : List Deed → Community → Type 0
AreOfOthers ds c = (d : Deed) (m : NamedMember) → Has d ds → Has m c.members → IsDeedOfOthers d m.member.id
