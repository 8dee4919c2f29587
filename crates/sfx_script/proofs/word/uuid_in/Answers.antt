use Rattle.std.proofs.Common.{ap, option_map, sym, ◌∙◌}
use Rattle.sfx_script.specs.Word.{uuid_of}
use Rattle.sfx_script.proofs.WordPrefixes.{printed_text}
use Rattle.sfx_script.proofs.word.uuid_in.Goals as goal

pub returns : goal.returns
returns c =
    let text = sym (ap (option_map (λ t. t.now)) c.in_ok-text_of.was) ∙ c.text_of.ensures in
    c.parse_replica.ensures ∙ sym (printed_text uuid_of c.args.word.now _ text)
