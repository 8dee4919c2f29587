use Rattle.std.specs.Prelude.{ℕ, List, ◌∷◌, ◌++◌, ◌<◌, codes, decimal}
use Rattle.std.specs.Int.{to_be_bytes, w128}
use Rattle.uuid.specs.Text.{hyphenated_text, lower}
use Rattle.sfx_ids.specs.declared.cut.Cut.{Cut}
use Rattle.sfx_ids.specs.declared.cut.Cut.TheVariants.{Start, At, After, End}
use Rattle.sfx_ids.specs.declared.item_id.ItemId.{ItemId}
use Rattle.sfx_ids.specs.declared.version.Version.{Version}

-- the text of a replica: its 128 bits as a UUID, in 36 lower-case hyphenated characters (RFC 9562)
unfoldable pub replica_text : ℕ → List ℕ
replica_text replica = hyphenated_text lower (to_be_bytes w128 replica)

-- a byte that may stand between a tick and a replica: an ASCII one behind the digits
abbrev pub IsSeparator : ℕ → Type 0
IsSeparator byte = (57 < byte) × (byte < 128)

-- the code of `:`, which separates the parts of an item
abbrev pub colon : ℕ
colon = 58

-- the code of `@`, which separates the parts of a version
abbrev pub at_sign : ℕ
at_sign = 64

-- the text of a tick and a replica: the tick in decimal digits, the separator, the replica
abbrev pub pair_text : ℕ → ℕ → ℕ → List ℕ
pair_text separator tick replica = decimal tick ++ separator ∷ replica_text replica

-- the text of an item: the tick and the replica of its creation
unfoldable pub item_text : ItemId → List ℕ
item_text x = pair_text colon x.tick x.replica

-- the text of a version: its tick and its replica
unfoldable pub version_text : Version → List ℕ
version_text v = pair_text at_sign v.tick v.replica

-- the text of a cut
unfoldable pub cut_text : Cut → List ℕ
cut_text Start = codes "start"
cut_text (At x) = codes "at " ++ item_text x
cut_text (After x) = codes "after " ++ item_text x
cut_text End = codes "end"
