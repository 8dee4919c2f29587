use Rattle.std.proofs.Common.{◌∙◌}
use Rattle.sfx_ids.specs.declared.cut.Cut.TheVariants.{Start}
use Rattle.sfx_provider.proofs.WalkLemmas.{from_start, items_walk, walk_gives}
use Rattle.sfx_provider.proofs.laws.walks_list_items.Goals as goal

pub returns : goal.returns
returns c = record {
  all = λ items ascending. items_walk items Start items ascending (from_start items);
  only = λ items walked ascending walk. walk_gives walked Start items ascending walk ∙ from_start items;
}
