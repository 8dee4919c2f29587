use Rattle.std.proofs.Common.{ap, ◌∙◌}
use Rattle.sfx_script.specs.Reading.{behind_next, first_of, placed_word}
use Rattle.sfx_script.proofs.WordPlaces.{is_next}
use Rattle.sfx_script.proofs.words.Words.pass.Goals as goal

pub invariant_of-self : goal.invariant_of-self
invariant_of-self c =
    (is_next c.self.inside.line.now c.self.inside.at (placed_word c.args.word.now) (ap (λ w. first_of w.left) c.self.view_is ∙ c.requires)).within

pub returns : goal.returns
returns c =
    (is_next c.self.inside.line.now c.self.inside.at (placed_word c.args.word.now) (ap (λ w. first_of w.left) c.self.view_is ∙ c.requires)).behind
    ∙ ap behind_next c.self.view_is
