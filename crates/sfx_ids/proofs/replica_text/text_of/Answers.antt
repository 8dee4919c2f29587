use Rattle.std.proofs.Common.{ap, ◌∙◌}
use Rattle.std.specs.Int.{to_be_bytes, w128}
use Rattle.uuid.specs.Text.{hyphenated_text, lower}
use Rattle.sfx_ids.specs.Text.{replica_text}
use Rattle.sfx_ids.proofs.replica_text.text_of.Goals as goal

pub returns : goal.returns
unfolding replica_text
returns c =
    let same = c.hyphenated.ensures ∙ c.from_u128-uuid.ensures ∙ ap (to_be_bytes w128) c.number.ensures.value in
    c.encode_lower.ensures.text ∙ ap (hyphenated_text lower) same
