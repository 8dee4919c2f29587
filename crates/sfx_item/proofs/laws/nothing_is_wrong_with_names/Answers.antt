use Rattle.sfx_item.proofs.NameLemmas.{nothing_wrong}
use Rattle.sfx_item.proofs.laws.nothing_is_wrong_with_names.Goals as goal

pub returns : goal.returns
returns c = nothing_wrong
