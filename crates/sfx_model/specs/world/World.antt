use Rattle.std.specs.Prelude.{◌≡◌, ◌≢◌, ℕ, ◌<◌, ◌≤◌, Bool, true, false, ◌⊎◌, List, [], ◌∷◌}
use Rattle.sfx_ids.specs.declared.cut.Cut.{Cut}
use Rattle.sfx_ids.specs.declared.cut.Cut.TheVariants.{At}
use Rattle.sfx_ids.specs.declared.item_id.ItemId.{ItemId}
use Rattle.sfx_ids.specs.declared.version.Version.{Version}
use Rattle.sfx_ids.specs.ItemId.{creation_of}
use Rattle.sfx_model.specs.world.Sets.{Has, IsPart}

-- What a version put into its cell: bytes, or the deletion of the item.
pub data Content : Type 0 where
  Written : (bytes : List ℕ) → Content
  Deleted : Content

-- One version made at one cell, a cell being an item and one of its units. `made_knowing` lists the
-- versions of this cell that the maker knew then: the version stands for all of them.
pub record Record : Type 0 where
  pub item : ItemId
  pub unit : ℕ
  pub version : Version
  pub content : Content
  pub made_knowing : List Version

-- What the world tells of one replica: its id and clock; for each cell the versions known of it, for each
-- item whether it is present, and for each place the forgotten deletions as a clock vector, which has a
-- tick for each replica.
pub record Site : Type 0 where
  pub id : ℕ
  pub clock : ℕ
  pub known : ItemId → ℕ → List Version
  pub present : ItemId → Bool
  pub forgotten : Cut → ℕ → ℕ

-- A site as it stood at some moment.
abbrev pub Snapshot : Type 0
Snapshot = Site

-- The history of all replicas: how many units an item has, 0 while that is not said; all records, the
-- latest first; and a site for each replica, in the order in which they joined.
pub record World : Type 0 where
  pub units : ℕ
  pub records : List Record
  pub sites : List Site

-- What a site has of one item.
pub record Holding : Type 0 where
  pub known : ℕ → List Version
  pub present : Bool
  pub forgotten : ℕ → ℕ

-- What the site has of the item, the forgotten deletions being those at the item's place.
abbrev pub holding : Site → ItemId → Holding
holding s i = record { known = s.known i; present = s.present i; forgotten = s.forgotten (At i) }

-- The record is of this version at this cell.
pub record IsAt (r : Record) (i : ItemId) (u : ℕ) (v : Version) : Type 0 where
  pub item : r.item ≡ i
  pub unit : r.unit ≡ u
  pub version : r.version ≡ v

-- The version was made at the cell.
abbrev pub Made : List Record → ItemId → ℕ → Version → Type 0
Made rs i u v = (r : Record) × Has r rs × IsAt r i u v

-- The version was made at the cell, and deletes the item there.
abbrev pub IsDeletion : List Record → ItemId → ℕ → Version → Type 0
IsDeletion rs i u v = (r : Record) × Has r rs × IsAt r i u v × (r.content ≡ Deleted)

-- The causal order at a cell: both versions are the same, or the second was made knowing the first.
abbrev pub Precedes : List Record → ItemId → ℕ → Version → Version → Type 0
Precedes rs i u a b = (a ≡ b) ⊎ ((r : Record) × Has r rs × IsAt r i u b × Has a r.made_knowing)

-- The latest of these versions of a cell: one of them that all of them precede.
abbrev pub IsLatest : List Record → ItemId → ℕ → List Version → Version → Type 0
IsLatest rs i u vs latest = Has latest vs × ((v : Version) → Has v vs → Precedes rs i u v latest)

-- These versions of a cell have a latest one, and it does not delete.
abbrev pub HasLiveLatest : List Record → ItemId → ℕ → List Version → Type 0
HasLiveLatest rs i u vs = (v : Version) × IsLatest rs i u vs v × (IsDeletion rs i u v → ⊥)

-- At each unit the known versions have a latest one that does not delete.
abbrev pub IsLive : ℕ → List Record → ItemId → (ℕ → List Version) → Type 0
IsLive units rs i known = (u : ℕ) → u < units → HasLiveLatest rs i u (known u)

-- The version is the latest known one of every unit, and deletes each.
abbrev pub IsDeadAt : ℕ → List Record → ItemId → (ℕ → List Version) → Version → Type 0
IsDeadAt units rs i known v = (u : ℕ) → u < units → IsLatest rs i u (known u) v × IsDeletion rs i u v

-- One version is the latest known one of every unit, and deletes each.
abbrev pub IsDead : ℕ → List Record → ItemId → (ℕ → List Version) → Type 0
IsDead units rs i known = (v : Version) × IsDeadAt units rs i known v

-- The item is present, and live at each unit.
pub record IsLiveHolding (units : ℕ) (rs : List Record) (i : ItemId) (h : Holding) : Type 0 where
  pub is_present : h.present ≡ true
  pub live : IsLive units rs i h.known

-- The clock vector contains the version: its tick is at most the vector's entry for its replica.
abbrev pub IsContained : (ℕ → ℕ) → Version → Type 0
IsContained clocks v = v.tick ≤ clocks v.replica

-- The version gave way to a deletion that is among these versions of the cell, and that the vector
-- contains.
abbrev pub IsForgotten : List Record → ItemId → ℕ → List Version → (ℕ → ℕ) → Version → Type 0
IsForgotten rs i u vs clocks v =
    (d : Version) × Has d vs × Precedes rs i u v d × IsDeletion rs i u d × IsContained clocks d

-- These versions of a cell were made, and with each of them the list has all that its maker knew.
pub record IsClosed (rs : List Record) (i : ItemId) (u : ℕ) (vs : List Version) : Type 0 where
  pub made : (v : Version) → Has v vs → Made rs i u v
  pub closed : (v : Version) (r : Record) → Has v vs → Has r rs → IsAt r i u v → IsPart r.made_knowing vs

-- What holds of one item at a sound site.
pub record IsSoundItem (units : ℕ) (rs : List Record) (i : ItemId) (h : Holding) : Type 0 where
  -- the known versions of each cell are closed
  pub cells : (u : ℕ) → IsClosed rs i u (h.known u)
  -- a present item is live at each unit, or dead by one version
  pub held : h.present ≡ true → IsLive units rs i h.known ⊎ IsDead units rs i h.known
  -- each known version of an absent item gave way to a forgotten deletion
  pub cleaned : h.present ≡ false → (u : ℕ) (v : Version) → Has v (h.known u) → IsForgotten rs i u (h.known u) h.forgotten v
  -- where a version of the item is known at all, its creation is known at every unit
  pub creation : (u : ℕ) (v : Version) → Has v (h.known u) → (x : ℕ) → x < units → Has (creation_of i) (h.known x)

-- A sound site or snapshot: so is each of its items.
abbrev pub IsSound : World → Site → Type 0
IsSound w s = (i : ItemId) → IsSoundItem w.units w.records i (holding s i)

-- The record could come next, when there were these: its version was not made at its cell before, and
-- what its maker knew of the cell is closed.
pub record IsNextRecord (r : Record) (rs : List Record) : Type 0 where
  pub first : Made rs r.item r.unit r.version → ⊥
  pub knew : IsClosed rs r.item r.unit r.made_knowing

-- Each record could come next after those that were made before it.
abbrev pub IsHistory : List Record → Type 0
IsHistory [] = Unit {0}
IsHistory (r ∷ rs) = IsNextRecord r rs × IsHistory rs

-- The replica made a version of this tick: the tick is from 1 to its clock.
pub record IsMaker (s : Site) (v : Version) : Type 0 where
  pub replica : s.id ≡ v.replica
  pub least : 1 ≤ v.tick
  pub most : v.tick ≤ s.clock

-- The record is one of this world.
pub record IsOfWorld (w : World) (r : Record) : Type 0 where
  -- a replica of the world made the version
  pub maker : (s : Site) × Has s w.sites × IsMaker s r.version
  -- the unit is one that items have
  pub unit : r.unit < w.units
  -- all records of the version are of one item
  pub one_item : (q : Record) → Has q w.records → q.version ≡ r.version → q.item ≡ r.item
  -- the creation of the item was made at each unit
  pub creation : (u : ℕ) → u < w.units → Made w.records r.item u (creation_of r.item)

-- Any two of the sites have different ids.
abbrev pub AreDistinct : List Site → Type 0
AreDistinct [] = Unit {0}
AreDistinct (s ∷ ss) = ((x : Site) → Has x ss → x.id ≢ s.id) × AreDistinct ss

-- A well-formed world.
pub record WellFormed (w : World) : Type 0 where
  -- a world with a replica has units
  pub counted : (s : Site) → Has s w.sites → 1 ≤ w.units
  -- ids of replicas differ
  pub distinct : AreDistinct w.sites
  -- each record could come next when it was made
  pub history : IsHistory w.records
  -- each record is of this world
  pub records : (r : Record) → Has r w.records → IsOfWorld w r
  -- each site is sound
  pub sound : (s : Site) → Has s w.sites → IsSound w s
  -- each replica knows what it made
  pub own : (r : Record) (s : Site) → Has r w.records → Has s w.sites → s.id ≡ r.version.replica → Has r.version (s.known r.item r.unit)

-- The world before anything happened: no units, no records, no replicas.
abbrev pub empty_world : World
empty_world = record { units = 0; records = []; sites = [] }
