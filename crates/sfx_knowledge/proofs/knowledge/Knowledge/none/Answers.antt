use Rattle.std.proofs.Common.{[], sym, ap, ◌∙◌, subst}
use Rattle.sfx_segments.specs.Segments.{HaveEverywhere}
use Rattle.sfx_knowledge.specs.Knowledge.{IsKnowledge}
use Rattle.sfx_knowledge.proofs.RowLemmas.{made}
use Rattle.sfx_knowledge.proofs.KnowledgeLemmas.{nothing_is, IsKnowledge-nothing}
use Rattle.sfx_knowledge.proofs.knowledge.Knowledge.none.Goals as goal

pub invariant_of-result : goal.invariant_of-result
invariant_of-result g c =
    subst (IsKnowledge g.row.U)
    (sym (nothing_is c.in_ok-segments.segments c.in_ok-segments.ensures.form
    (subst (HaveEverywhere c.in_ok-segments.segments) (c.new-row.ensures ∙ ap (λ base. made base []) c.new.ensures) c.in_ok-segments.ensures.everywhere)))
    (IsKnowledge-nothing g.row.U)

pub returns-clause-value : goal.returns-clause-value
returns-clause-value g c =
    nothing_is c.in_ok-segments.segments c.in_ok-segments.ensures.form
    (subst (HaveEverywhere c.in_ok-segments.segments) (c.new-row.ensures ∙ ap (λ base. made base []) c.new.ensures) c.in_ok-segments.ensures.everywhere)

pub returns-clause-form : goal.returns-clause-form
returns-clause-form g c = invariant_of-result g c
