use Rattle.std.specs.Prelude.{◌<◌, ◌^◌}
use Rattle.sfx_ids.specs.declared.version.Version.{Version}
use Rattle.sfx_ids.specs.Tick.{IsTick}

-- a version as the program has it: its tick and its replica are in range
pub record IsVersion (v : Version) : Type 0 where
  pub tick : IsTick v.tick
  pub replica : v.replica < 2 ^ 128
