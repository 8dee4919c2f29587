use Rattle.std.specs.Prelude.{◌<◌, ◌^◌}
use Rattle.sfx_ids.specs.declared.item_id.ItemId.{ItemId}
use Rattle.sfx_ids.specs.declared.version.Version.{Version}
use Rattle.sfx_ids.specs.Tick.{IsTick}

-- the version at which an item was created
abbrev pub creation_of : ItemId → Version
creation_of x = record { replica = x.replica; tick = x.tick }

-- an item id as the program has it: its tick and its replica are in range
pub record IsItemId (x : ItemId) : Type 0 where
  pub tick : IsTick x.tick
  pub replica : x.replica < 2 ^ 128
