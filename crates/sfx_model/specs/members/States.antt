use Rattle.std.specs.Prelude.{◌≡◌, ◌≢◌, ℕ, ◌<◌, ◌+◌, Bool, if◌then◌else◌, nat_eq, nat_lt, ◌&&◌, ◌||◌, List, [], ◌∷◌, ◌++◌, map, Option, Some, None, slice_get, slice_set}
use Rattle.std.specs.Option.{option_map}
use Rattle.std.specs.Str.{bytes_eq}
use Rattle.sfx_ids.specs.declared.cut.Cut.{Cut}
use Rattle.sfx_ids.specs.declared.item_id.ItemId.{ItemId}
use Rattle.sfx_ids.specs.declared.version.Version.{Version}
use Rattle.sfx_item.specs.declared.cell.Cell.{Cell}
use Rattle.sfx_model.specs.world.World.{Content, Written, Deleted, Snapshot, World, WellFormed}
use Rattle.sfx_model.specs.world.Events.{Event, Units, Widen, Join, Make, Clean, Forget, Apply, Learn, Deed, seen_by, after, Legal, same_item}
use Rattle.sfx_item.specs.Item.{ItemState, Live, ItemData}
use Rattle.sfx_model.specs.members.Members.{Member, NamedMember, Community}
use Rattle.sfx_model.specs.members.StandsIn.{StateStandsIn}
use Rattle.sfx_vector.specs.Clocks.{tick_of}
use Rattle.sfx_segments.specs.Segments.{IsPlace}
use Rattle.sfx_knowledge.specs.Knowledge.{tick_at}
use Rattle.sfx_knowledge.specs.Forgotten.{fvec}

-- The event may happen in the world, the world after it is well-formed, and the state stands there.
pub record Continues (w : World) (event : Event) (c : Community) : Type 0 where
  pub legal : Legal w event
  pub well_formed : WellFormed (after w event)
  pub stands : StateStandsIn (after w event) c

-- The event is one that this replica does at its own site.
abbrev pub IsOf : Event → ℕ → Type 0
IsOf (Units units) r = ⊥
IsOf (Widen more) r = ⊥
IsOf (Join id) r = ⊥
IsOf (Make maker i v contents) r = maker ≡ r
IsOf (Clean cleaner i v lo hi) r = cleaner ≡ r
IsOf (Forget forgetter snapshot lo hi) r = forgetter ≡ r
IsOf (Apply receiver snapshot i v marks) r = receiver ≡ r
IsOf (Learn learner snapshot lo hi left) r = learner ≡ r

-- The deed is one that this replica does at its own site, whatever the snapshot of its source is.
abbrev pub IsDeedOf : Deed → ℕ → Type 0
IsDeedOf d r = (snapshot : Snapshot) → IsOf (seen_by snapshot d) r

-- The state c becomes d as its member m becomes n: the name and the place in the list stay, and so
-- does every other member.
pub record ChangesMember (m n : Member) (c d : Community) : Type 0 where
  pub front : List NamedMember
  pub name : List ℕ
  pub back : List NamedMember
  pub units : d.units ≡ c.units
  pub before : c.members ≡ front ++ record { name = name; member = m } ∷ back
  pub now : d.members ≡ front ++ record { name = name; member = n } ∷ back

-- The member with this name.
abbrev pub member_named : List ℕ → List NamedMember → Option Member
member_named name [] = None
member_named name (x ∷ xs) = if bytes_eq x.name name then Some x.member else member_named name xs

-- The members with this one under the name.
abbrev pub with_member : List ℕ → Member → List NamedMember → List NamedMember
with_member name m [] = []
with_member name m (x ∷ xs) =
    if bytes_eq x.name name then record { name = x.name; member = m } ∷ xs
    else x ∷ with_member name m xs

-- The state with one more member, behind the others.
abbrev pub with_added : List ℕ → Member → Community → Community
with_added name m c = record {
  units = c.units;
  members = c.members ++ record { name = name; member = m } ∷ [];
}

-- The state with this member under the name.
abbrev pub with_changed : List ℕ → Member → Community → Community
with_changed name m c = record { units = c.units; members = with_member name m c.members }

-- The version that the member makes next.
abbrev pub next_version : Member → Version
next_version m = record { replica = m.id; tick = m.clock + 1 }

-- The id of the item that the member creates next.
abbrev pub next_item : Member → ItemId
next_item m = record { tick = m.clock + 1; replica = m.id }

-- A cell for each value, all of one version.
abbrev pub cells_at : Version → List (List ℕ) → List Cell
cells_at v values = map (λ value. record { version = v; value = value }) values

-- Both members have the same knowledge at every place and unit, but for the entries of their own replica,
-- over which the clock is laid.
abbrev pub KnowsOthersAlike : ℕ → Member → Member → Type 0
KnowsOthersAlike units m n =
    (place : Cut) (u r : ℕ) → IsPlace place → u < units → r ≢ m.id →
    tick_at n.knowledge place u r ≡ tick_at m.knowledge place u r

-- The member m becomes n as its replica makes a version: its clock rises by one, what it knows of
-- others and has forgotten stays, and these are its items.
pub record Rises (units : ℕ) (m n : Member) (items : List ItemData) : Type 0 where
  pub id : n.id ≡ m.id
  pub clock : n.clock ≡ m.clock + 1
  pub knowledge : KnowsOthersAlike units m n
  pub forgotten : n.forgotten ≡ m.forgotten
  pub holds : n.items ≡ items

-- Whether the first id comes before the second.
abbrev pub is_id_below : ItemId → ItemId → Bool
is_id_below i j = nat_lt i.tick j.tick || (nat_eq i.tick j.tick && nat_lt i.replica j.replica)

-- The items with one more, in its place by id.
abbrev pub with_item : ItemData → List ItemData → List ItemData
with_item item [] = item ∷ []
with_item item (x ∷ xs) = if is_id_below x.id item.id then x ∷ with_item item xs else item ∷ x ∷ xs

-- The items with this state for the one with this id.
abbrev pub with_state : ItemId → ItemState → List ItemData → List ItemData
with_state i state [] = []
with_state i state (x ∷ xs) =
    if same_item x.id i then record { id = x.id; state = state } ∷ xs else x ∷ with_state i state xs

-- The item that the member creates next, with these values.
abbrev pub next_created : Member → List (List ℕ) → ItemData
next_created m values = record { id = next_item m; state = Live (cells_at (next_version m) values) }

-- The cells with the value written to one unit, at the version that the member makes next.
abbrev pub cells_with : Member → List Cell → ℕ → List ℕ → List Cell
cells_with m cells unit value = slice_set cells unit
    (record { version = next_version m; value = value })

-- The contents of a creation with these values, one for each unit.
abbrev pub created_contents : List (List ℕ) → ℕ → Option Content
created_contents values u = option_map Written (slice_get values u)

-- The contents of an edit of one unit.
abbrev pub edited_contents : ℕ → List ℕ → ℕ → Option Content
edited_contents unit value u = if nat_eq u unit then Some (Written value) else None

-- The contents of a deletion, at each of the units.
abbrev pub deleted_contents : ℕ → ℕ → Option Content
deleted_contents units u = if nat_lt u units then Some Deleted else None

-- A member of a replica that just joined, where items have this many units: its clock is 0, and it knows,
-- holds and has forgotten nothing.
pub record IsNewState (units id : ℕ) (m : Member) : Type 0 where
  pub id_is : m.id ≡ id
  pub clock : m.clock ≡ 0
  pub knowledge : (place : Cut) (u r : ℕ) → IsPlace place → u < units → r ≢ id → tick_at m.knowledge place u r ≡ 0
  pub forgotten : (place : Cut) (r : ℕ) → IsPlace place → tick_of (fvec m.forgotten place) r ≡ 0
  pub items : m.items ≡ []
