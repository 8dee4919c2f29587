use Rattle.std.proofs.Common.{Some, refl, sym}
use Rattle.sfx_script.proofs.WordPrefixes.{spelled_whole, too_short}
use Rattle.sfx_script.proofs.word.text_of.Goals as goal

pub returns-then-prefix-word : goal.returns-then-prefix-word
returns-then-prefix-word c = sym (spelled_whole (λ x. Some x) c.args.word.now _ _ c.printable_prefix-prefix.ensures c.if-prefix-word.true refl)

pub returns-else-prefix-word : goal.returns-else-prefix-word
returns-else-prefix-word c = sym (too_short (λ x. Some x) c.args.word.now _ c.printable_prefix-prefix.ensures c.if-prefix-word.false)
