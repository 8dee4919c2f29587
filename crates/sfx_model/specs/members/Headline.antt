use Rattle.std.specs.Prelude.{◌≡◌, ℕ, ◌<◌, ◌↔◌, List, [], ◌∷◌, Option, Some, None, slice_get}
use Rattle.sfx_ids.specs.declared.cut.Cut.{Cut}
use Rattle.sfx_ids.specs.declared.cut.Cut.TheVariants.{At}
use Rattle.sfx_ids.specs.declared.item_id.ItemId.{ItemId}
use Rattle.sfx_ids.specs.declared.version.Version.{Version}
use Rattle.sfx_segments.specs.Segments.{IsPlace}
use Rattle.sfx_model.specs.world.Sets.{Has}
use Rattle.sfx_model.specs.world.World.{Record, World, IsAt, Made, IsDeletion, Precedes, IsContained}
use Rattle.sfx_item.specs.declared.cell.Cell.{Cell}
use Rattle.sfx_item.specs.Item.{ItemState, Live, Dead, ItemData, version_at}
use Rattle.sfx_model.specs.members.Members.{Shown, shown, NamedMember, Community, state_of}

-- The member has another version of the unit, which was made knowing this one, or has just this one.
abbrev pub IsHeldVersion : World → ItemId → ℕ → Version → ItemState → Type 0
IsHeldVersion w i u v state = (held : Version) × (version_at state u ≡ Some held) × Precedes w.records i u v held

-- The version gave way to a deletion that the member knows, and has forgotten.
abbrev pub IsCleanedVersion : World → Shown → ItemId → ℕ → Version → Type 0
IsCleanedVersion w m i u v =
    (d : Version) × Precedes w.records i u v d × IsDeletion w.records i u d
    × IsContained (m.vector_at (At i) u) d × IsContained (m.forgotten (At i)) d

-- The member holds the version or one made knowing it; or the item is gone, and the version gave way to a
-- deletion that was cleaned away.
abbrev pub IsHeldOrCleaned : World → Shown → ItemId → ℕ → Version → Option ItemState → Type 0
IsHeldOrCleaned w m i u v (Some state) = IsHeldVersion w i u v state
IsHeldOrCleaned w m i u v None = IsCleanedVersion w m i u v

-- Exact knowledge: the member's knowledge of a cell contains a made version exactly if the member holds
-- it or one made knowing it, cleaned deletions included.
abbrev pub KnowledgeIsExact : World → Shown → Type 0
KnowledgeIsExact w m =
    (i : ItemId) (u : ℕ) (v : Version) → Made w.records i u v
    → IsContained (m.vector_at (At i) u) v ↔ IsHeldOrCleaned w m i u v (state_of m.items i)

-- The two members know the same at every place and unit.
abbrev pub HaveEqualKnowledge : ℕ → Shown → Shown → Type 0
HaveEqualKnowledge units m n =
    (place : Cut) (u r : ℕ) → IsPlace place → u < units → m.vector_at place u r ≡ n.vector_at place u r

-- The item alone, where its state is live.
abbrev pub live_item : ItemId → ItemState → List ItemData → List ItemData
live_item i (Live cells) rest = record { id = i; state = Live cells } ∷ rest
live_item i (Dead v) rest = rest

-- The live items among these.
abbrev pub live_items : List ItemData → List ItemData
live_items [] = []
live_items (x ∷ xs) = live_item x.id x.state (live_items xs)

-- Equal knowledge means equal items: if both members know the same, they have the same live items, with
-- the same versions and values.
abbrev pub EqualKnowledgeMeansEqualItems : World → Shown → Shown → Type 0
EqualKnowledgeMeansEqualItems w m n = HaveEqualKnowledge w.units m n → live_items m.items ≡ live_items n.items

-- Deletions are respected: the version of a unit of a live item was made knowing every deletion of that
-- unit that the member knows.
abbrev pub DeletionsAreRespected : World → Shown → Type 0
DeletionsAreRespected w m =
    (i : ItemId) (u : ℕ) (cells : List Cell) (c : Cell) (d : Version) (r : Record)
    → state_of m.items i ≡ Some (Live cells) → slice_get cells u ≡ Some c
    → IsDeletion w.records i u d → IsContained (m.vector_at (At i) u) d
    → Has r w.records → IsAt r i u c.version → Has d r.made_knowing

-- The three facts, of all members of a state.
pub record FactsHold (w : World) (c : Community) : Type 0 where
  pub exact : (m : NamedMember) → Has m c.members → KnowledgeIsExact w (shown m.member)
  pub equal : (m n : NamedMember) → Has m c.members → Has n c.members → EqualKnowledgeMeansEqualItems w (shown m.member) (shown n.member)
  pub deletions : (m : NamedMember) → Has m c.members → DeletionsAreRespected w (shown m.member)
