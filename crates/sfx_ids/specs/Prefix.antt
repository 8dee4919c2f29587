use Rattle.std.specs.Prelude.{◌≡◌, ℕ, ◌^◌, ◌<◌, ◌≤◌, List, ◌++◌, length, take, decimal}
use Rattle.sfx_ids.specs.Tick.{IsTick}
use Rattle.sfx_ids.specs.declared.item_id.ItemId.{ItemId}
use Rattle.sfx_ids.specs.declared.version.Version.{Version}
use Rattle.sfx_ids.specs.ItemId.{IsItemId}
use Rattle.sfx_ids.specs.Version.{IsVersion}
use Rattle.sfx_ids.specs.Text.{item_text, version_text, pair_text, replica_text}

-- some item's text begins so
pub record BeginsItem (text : List ℕ) : Type 0 where
  pub item : ItemId
  pub rest : List ℕ
  pub valid : IsItemId item
  pub spelled : item_text item ≡ text ++ rest

-- some version's text begins so
pub record BeginsVersion (text : List ℕ) : Type 0 where
  pub version : Version
  pub rest : List ℕ
  pub valid : IsVersion version
  pub spelled : version_text version ≡ text ++ rest

-- of the prefixes of the text that have the property, the longest has this many bytes
pub record IsLongestPrefix (Begins : List ℕ → Type 0) (text : List ℕ) (at : ℕ) : Type 0 where
  pub within : at ≤ length text
  pub begins : Begins (take at text)
  pub longest : (n : ℕ) → n ≤ length text → Begins (take n text) → n ≤ at

-- some tick's digits begin so
pub record BeginsTick (text : List ℕ) : Type 0 where
  pub tick : ℕ
  pub rest : List ℕ
  pub valid : IsTick tick
  pub spelled : decimal tick ≡ text ++ rest

-- some replica's text begins so
pub record BeginsReplica (text : List ℕ) : Type 0 where
  pub replica : ℕ
  pub rest : List ℕ
  pub valid : replica < 2 ^ 128
  pub spelled : replica_text replica ≡ text ++ rest

-- the text of some tick and some replica, with this separator, begins so
pub record BeginsPair (separator : ℕ) (text : List ℕ) : Type 0 where
  pub tick : ℕ
  pub replica : ℕ
  pub rest : List ℕ
  pub is_tick : IsTick tick
  pub is_replica : replica < 2 ^ 128
  pub spelled : pair_text separator tick replica ≡ text ++ rest
