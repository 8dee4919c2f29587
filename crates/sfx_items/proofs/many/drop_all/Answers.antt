use Rattle.std.proofs.Common.{◌∙◌, rules}
use Rattle.std.proofs.lemmas.Fn.{filter_same}
use Rattle.sfx_items.proofs.ItemListLemmas.{drops_stay, stays}
use Rattle.sfx_items.proofs.many.drop_all.Goals as goal

pub returns : goal.returns
returns g c =
    let drops = c.requires.drops in
    (filter_same _ (stays c.args.drops.now) _ (λ x b f' k. search (rules, drops)) c.args.items.now.items c.retain.new.self.items c.retain.ensures.filtered)
    ∙ drops_stay c.args.drops.now c.args.items.now.items c.requires.ascending
