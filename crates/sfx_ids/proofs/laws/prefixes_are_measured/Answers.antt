use Rattle.sfx_ids.proofs.PrefixLens.{item_measured, version_measured}
use Rattle.sfx_ids.proofs.laws.prefixes_are_measured.Goals as goal

pub returns : goal.returns
returns c = record { item = item_measured; version = version_measured }
