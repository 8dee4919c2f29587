use Rattle.std.proofs.Common.{◌∙◌}
use Rattle.sfx_items.proofs.ItemListLemmas.{among}
use Rattle.sfx_items.proofs.many.is_among.Goals as goal

pub returns : goal.returns
returns c ascending =
    c.is_ok.ensures.value
    ∙ among c.args.ids.now c.args.id.now c.binary_search.result ascending c.binary_search.ensures.bound c.binary_search.ensures.position
