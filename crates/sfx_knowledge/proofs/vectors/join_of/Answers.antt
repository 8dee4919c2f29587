use Rattle.std.proofs.Common.{ap, ◌∙◌, max}
use Rattle.sfx_vector.specs.Clocks.{tick_of}
use Rattle.sfx_knowledge.proofs.VectorsLemmas.{joined_is}
use Rattle.sfx_knowledge.proofs.vectors.join_of.Goals as goal

pub returns-clause-value : goal.returns-clause-value
returns-clause-value c =
    joined_is c.args.a.now c.args.b.now c.join.new.self c.vector_in_form.ensures c.vector_in_form-2.ensures c.vector_in_form-3.ensures
    (λ r. c.in_ok-join.ensures.ok r ∙ ap (λ x. max (tick_of x r) (tick_of c.args.b.now r)) c.in_ok-made.ensures)
