use Rattle.std.proofs.Common.{arith, refl}
use Rattle.std.proofs.lemmas.List.{take_rest}
use Rattle.sfx_script.proofs.WordPlaces.{word_left}
use Rattle.sfx_script.proofs.words.Words.peek.Goals as goal

pub returns-clause-word : goal.returns-clause-word
returns-clause-word c =
    let line = c.self.inside.line.now in
    let at = c.self.inside.at in
    rw (← c.self.view_is, word_left line at (omega arith), c.word_len.ensures.value, take_rest line at) refl
