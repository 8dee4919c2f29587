use Rattle.std.specs.Prelude.{◌≡◌, ◌≢◌, ℕ, ◌<◌, true, ◌⊎◌}
use Rattle.sfx_ids.specs.declared.item_id.ItemId.{ItemId}
use Rattle.sfx_model.specs.world.World.{Content, Deleted, Site, Snapshot, World, IsLiveHolding, holding}
use Rattle.sfx_model.specs.world.Events.{UnitMark, Stamps, Drops, stamps, AllMarked, AllBring}

-- Both marks do the same; stamps are alike, whatever their contents.
abbrev pub IsSameKind : UnitMark → UnitMark → Type 0
IsSameKind m k = (m ≡ k) ⊎ ((stamps m ≡ true) × (stamps k ≡ true))

-- Two units have different marks.
abbrev pub MarksDiffer : ℕ → (ℕ → UnitMark) → Type 0
MarksDiffer units marks = (u : ℕ) × (x : ℕ) × (u < units) × (x < units) × (IsSameKind (marks u) (marks x) → ⊥)

-- No unit is stamped with a deletion.
abbrev pub NoneDeletes : ℕ → (ℕ → UnitMark) → Type 0
NoneDeletes units marks = (u : ℕ) → u < units → marks u ≢ Stamps Deleted

-- Each unit that is stamped is stamped with a deletion.
abbrev pub StampsDelete : ℕ → (ℕ → UnitMark) → Type 0
StampsDelete units marks = (u : ℕ) (c : Content) → u < units → marks u ≡ Stamps c → c ≡ Deleted

-- No unit is dropped.
abbrev pub NoneDrops : ℕ → (ℕ → UnitMark) → Type 0
NoneDrops units marks = (u : ℕ) → u < units → marks u ≢ Drops

-- What is asked of all marks of an entry together, said of any two units.
pub record AgreesAcrossUnits (w : World) (s : Site) (snapshot : Snapshot) (i : ItemId) (marks : ℕ → UnitMark) : Type 0 where
  -- where two units have different marks, the snapshot's item is live,
  pub there : MarksDiffer w.units marks → IsLiveHolding w.units w.records i (holding snapshot i)
  -- and so is the result,
  pub result : MarksDiffer w.units marks → NoneDeletes w.units marks
  -- and the local item is live, or each unit is taken or stamped
  pub here : MarksDiffer w.units marks → IsLiveHolding w.units w.records i (holding s i) ⊎ AllBring w.units marks
  -- stamped contents delete at all units or at none
  pub deletions : NoneDeletes w.units marks ⊎ StampsDelete w.units marks
  -- all units are dropped or none is
  pub drops : NoneDrops w.units marks ⊎ AllMarked w.units marks Drops
