use Rattle.std.proofs.Common.{sym, ◌∙◌}
use Rattle.sfx_ids.proofs.PrefixLens.{item_decided}
use Rattle.sfx_ids.proofs.ItemTexts.{read_item, same_item, pair_of_item, longest_item}
use Rattle.std.proofs.lemmas.Option.{none-some}
use Rattle.sfx_ids.proofs.item_text.parse_item.Goals as goal

pub returns-in-Some-clause-ok : goal.returns-in-Some-clause-ok
returns-in-Some-clause-ok c = read_item c.in-Some.pair.0 c.in-Some.pair.1 c.args.text.now c.in-Some.ensures.some

pub returns-in-Some-clause-only : goal.returns-in-Some-clause-only
returns-in-Some-clause-only c id valid is_text =
    let read = c.read_pair.ensures.only id.tick id.replica valid.tick valid.replica (pair_of_item id c.args.text.now is_text) in
    same_item c.in-Some.pair.0 c.in-Some.pair.1 id (sym c.in-Some.is ∙ read)

pub returns-in-None-clause-only : goal.returns-in-None-clause-only
returns-in-None-clause-only c id valid is_text =
    let read = c.read_pair.ensures.only id.tick id.replica valid.tick valid.replica (pair_of_item id c.args.text.now is_text) in
    absurd (none-some _ (sym c.in-None.is ∙ read))

pub returns-in-None-clause-err : goal.returns-in-None-clause-err
returns-in-None-clause-err c = longest_item c.args.text.now c.prefix_len.result (rw c.as_bytes.ensures.value at c.prefix_len.ensures.longest)

pub returns-in-None-clause-place : goal.returns-in-None-clause-place
returns-in-None-clause-place c = item_decided c.args.text.now c.prefix_len.result (rw c.as_bytes.ensures.value at c.prefix_len.ensures.decided)
