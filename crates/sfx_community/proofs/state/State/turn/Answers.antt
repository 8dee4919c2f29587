use Rattle.std.proofs.Common.{ap, refl, ◌∙◌, Err}
use Rattle.sfx_script.specs.Reading.{reading_of}
use Rattle.sfx_community.proofs.JoinTurns.{read_turn, wrong_turn}
use Rattle.sfx_community.proofs.state.State.turn.Goals as goal

pub returns-in-Ok-clause-reply : goal.returns-in-Ok-clause-reply
returns-in-Ok-clause-reply c =
    rw (read_turn c.args.self.now (reading_of c.args.line.now) c.in-Ok.line c.in-Ok.ensures.ok) c.run_read_line.ensures.reply

pub returns-in-Ok-clause-after : goal.returns-in-Ok-clause-after
returns-in-Ok-clause-after c =
    rw (read_turn c.args.self.now (reading_of c.args.line.now) c.in-Ok.line c.in-Ok.ensures.ok) c.run_read_line.ensures.after

pub returns-in-Err-Syntax-clause-reply : goal.returns-in-Err-Syntax-clause-reply
returns-in-Err-Syntax-clause-reply c =
    let wrong = c.parse_line.ensures.place c.in-Err-Syntax.at (c.in-Err-Syntax.is ∙ ap (λ f. Err f) c.in-Err-Syntax.field-0-is) in
    let turned = wrong_turn c.args.self.now (reading_of c.args.line.now) c.in-Err-Syntax.at wrong in
    rw (turned, c.in-Err-Syntax.at-is) refl

pub returns-in-Err-Syntax-clause-after : goal.returns-in-Err-Syntax-clause-after
returns-in-Err-Syntax-clause-after c =
    let wrong = c.parse_line.ensures.place c.in-Err-Syntax.at (c.in-Err-Syntax.is ∙ ap (λ f. Err f) c.in-Err-Syntax.field-0-is) in
    let turned = wrong_turn c.args.self.now (reading_of c.args.line.now) c.in-Err-Syntax.at wrong in
    rw turned refl
