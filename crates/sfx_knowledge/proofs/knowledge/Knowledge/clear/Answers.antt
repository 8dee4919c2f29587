use Rattle.std.proofs.Common.{◌≡◌, [], ap, ◌∙◌, subst}
use Rattle.sfx_segments.specs.Segments.{SetsRange}
use Rattle.sfx_knowledge.specs.Knowledge.{no_row}
use Rattle.sfx_knowledge.proofs.RowLemmas.{made}
use Rattle.sfx_knowledge.proofs.KnowledgeLemmas.{IsRow-no_row}
use Rattle.sfx_knowledge.proofs.PlacesLemmas.{form-set}
use Rattle.sfx_knowledge.proofs.knowledge.Knowledge.clear.Goals as goal

pub invariant_of-self-2 : goal.invariant_of-self-2
invariant_of-self-2 g c =
    let none : c.new-nothing.result ≡ no_row = c.new-nothing.ensures ∙ ap (λ base. made base []) c.new.ensures in
    form-set g.row.U c.self.inside.segments c.set_range.new.self c.args.lo.now c.args.hi.now no_row
    c.self.invariant (IsRow-no_row g.row.U) c.in_ok-set_range.ensures.form
    (subst (SetsRange c.self.inside.segments c.set_range.new.self c.args.lo.now c.args.hi.now) none c.in_ok-set_range.ensures.ok)

pub returns-clause-ok : goal.returns-clause-ok
returns-clause-ok g c =
    let none : c.new-nothing.result ≡ no_row = c.new-nothing.ensures ∙ ap (λ base. made base []) c.new.ensures in
    rw (← c.self.view_is)
    (subst (SetsRange c.self.inside.segments c.set_range.new.self c.args.lo.now c.args.hi.now) none c.in_ok-set_range.ensures.ok)

pub returns-clause-form : goal.returns-clause-form
returns-clause-form g c = invariant_of-self-2 g c
