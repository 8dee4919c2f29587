use Rattle.std.proofs.Common.{sym, ◌∙◌}
use Rattle.sfx_ids.proofs.PrefixLens.{version_decided}
use Rattle.sfx_ids.proofs.VersionTexts.{read_version, same_version, pair_of_version, longest_version}
use Rattle.std.proofs.lemmas.Option.{none-some}
use Rattle.sfx_ids.proofs.version_text.parse_version.Goals as goal

pub returns-in-Some-clause-ok : goal.returns-in-Some-clause-ok
returns-in-Some-clause-ok c = read_version c.in-Some.pair.0 c.in-Some.pair.1 c.args.text.now c.in-Some.ensures.some

pub returns-in-Some-clause-only : goal.returns-in-Some-clause-only
returns-in-Some-clause-only c version valid is_text =
    let read = c.read_pair.ensures.only version.tick version.replica valid.tick valid.replica (pair_of_version version c.args.text.now is_text) in
    same_version c.in-Some.pair.0 c.in-Some.pair.1 version (sym c.in-Some.is ∙ read)

pub returns-in-None-clause-only : goal.returns-in-None-clause-only
returns-in-None-clause-only c version valid is_text =
    let read = c.read_pair.ensures.only version.tick version.replica valid.tick valid.replica (pair_of_version version c.args.text.now is_text) in
    absurd (none-some _ (sym c.in-None.is ∙ read))

pub returns-in-None-clause-err : goal.returns-in-None-clause-err
returns-in-None-clause-err c = longest_version c.args.text.now c.prefix_len.result (rw c.as_bytes.ensures.value at c.prefix_len.ensures.longest)

pub returns-in-None-clause-place : goal.returns-in-None-clause-place
returns-in-None-clause-place c = version_decided c.args.text.now c.prefix_len.result (rw c.as_bytes.ensures.value at c.prefix_len.ensures.decided)
