use Rattle.std.proofs.Common.{◌∙◌, ap}
use Rattle.std.specs.Prelude.{slice_get}
use Rattle.sfx_items.proofs.ItemListLemmas.{first_at, item_got}
use Rattle.sfx_items.proofs.finding.first_from.Goals as goal

pub returns : goal.returns
returns g c =
    item_got (λ x. x.now) c.args.items.now c.place_from.result c.get.result c.get.ensures.lookup.3
    ∙ ap (slice_get c.args.items.now) c.place_from.ensures ∙ first_at c.args.from.now c.args.items.now
