use Rattle.std.specs.Prelude.{◌≡◌, ℕ, ◌<◌, ◌≤◌, Option, Some}
use Rattle.sfx_ids.specs.declared.cut.Cut.{Cut}
use Rattle.sfx_ids.specs.declared.cut.Cut.TheVariants.{At}
use Rattle.sfx_ids.specs.declared.item_id.ItemId.{ItemId}
use Rattle.sfx_ids.specs.declared.version.Version.{Version}
use Rattle.sfx_model.specs.world.Sets.{Has}
use Rattle.sfx_model.specs.world.World.{World, Site, Snapshot, IsSound, IsContained, holding}
use Rattle.sfx_item.specs.Item.{version_at, ItemState}
use Rattle.sfx_model.specs.members.Members.{Shown, Represents, ItemRepresents}
use Rattle.sfx_model.specs.members.Results.{Backs}

-- A snapshot that is carried through a world, as by a letter: it is sound, its made-with knowledge
-- is exact at the item, and it has this state of the item.
pub record Carried (w : World) (snapshot : Snapshot) (i : ItemId) (made_with : Cut → ℕ → ℕ → ℕ)
    (seen : Option ItemState) : Type 0 where
  pub sound : IsSound w snapshot
  pub backs : Backs w snapshot i made_with
  pub state : ItemRepresents w.units w.records i (holding snapshot i) seen

-- A member that represents its site meets a carried snapshot.
pub record Meets (w : World) (s : Site) (m : Shown) (snapshot : Snapshot) (i : ItemId)
    (made_with : Cut → ℕ → ℕ → ℕ) (seen : Option ItemState) : Type 0 where
  pub here : Has s w.sites
  pub represents : Represents w s m
  pub carried : Carried w snapshot i made_with seen

-- The state has a version of the unit that this vector contains.
abbrev pub HasContained : ItemState → ℕ → (ℕ → ℕ) → Type 0
HasContained state u clocks = (v : Version) × (version_at state u ≡ Some v) × IsContained clocks v

-- These forgotten deletions at the item are within the knowledge of it, at every unit.
abbrev pub AreWithin : ℕ → ItemId → (Cut → ℕ → ℕ) → (Cut → ℕ → ℕ → ℕ) → Type 0
AreWithin units i forgotten vectors = (u r : ℕ) → u < units →
    forgotten (At i) r ≤ vectors (At i) u r
