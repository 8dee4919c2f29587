-- Items as plain data.
use Rattle.std.specs.Prelude.{ℕ, List, Option, Some, option_map, slice_get}
use Rattle.sfx_ids.specs.declared.item_id.ItemId.{ItemId}
use Rattle.sfx_ids.specs.declared.version.Version.{Version}
use Rattle.sfx_item.specs.declared.cell.Cell.{Cell}
use Rattle.sfx_item.specs.declared.state.State.{State}
use Rattle.sfx_item.specs.declared.state.State.TheVariants as states

-- What a replica holds of a present item: a cell for each unit of a live one, and the version of the
-- deletion for a dead one, a tombstone.
pub data ItemState : Type 0 where
  Live : (cells : List Cell) → ItemState
  Dead : (version : Version) → ItemState

-- A present item of a replica.
pub record ItemData : Type 0 where
  pub id : ItemId
  pub state : ItemState

-- The version of a unit: that of its cell in a live item, and the one version of a tombstone.
abbrev pub version_at : ItemState → ℕ → Option Version
version_at (Live cells) unit = option_map (λ c. c.version) (slice_get cells unit)
version_at (Dead version) unit = Some version

-- The state of an item as plain data.
abbrev pub state_view : {U : ℕ} → State U → ItemState
state_view (states.Live cells) = Live cells
state_view (states.Dead version) = Dead version
