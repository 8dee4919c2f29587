use Rattle.std.proofs.Common.{sym, ◌∙◌, subst}
use Rattle.sfx_ids.specs.declared.cut.Cut.TheVariants.{At, After}
use Rattle.sfx_segments.proofs.PlaceValues.{segment_at-value_at}
use Rattle.sfx_knowledge.specs.Row.{ChangesUnit}
use Rattle.sfx_knowledge.specs.Knowledge.{no_row}
use Rattle.sfx_knowledge.specs.Places.{Restores}
use Rattle.sfx_knowledge.proofs.PlacesLemmas.{form-set, restored}
use Rattle.sfx_knowledge.proofs.knowledge.Knowledge.restore.Goals as goal

pub invariant_of-self-2 : goal.invariant_of-self-2
invariant_of-self-2 g c =
    let i = c.args.id.now in
    form-set g.row.U c.self.inside.segments c.set_range.new.self (At i) (After i) c.put.new.self
    c.self.invariant c.in_ok-put.ensures.form c.in_ok-set_range.ensures.form c.in_ok-set_range.ensures.ok

pub returns-clause-ok : goal.returns-clause-ok
returns-clause-ok g c =
    let units = g.row.U in
    let i = c.args.id.now in
    let unit = c.args.unit in
    let other = c.args.other.now in
    subst (λ k. Restores units k c.set_range.new.self other i unit) c.self.view_is
    (restored units c.self.inside.segments c.set_range.new.self other i unit c.in_ok-row.row c.put.new.self
    c.self.invariant.segments
    (c.in_ok-row.ensures ∙ sym (segment_at-value_at c.self.inside.segments no_row c.get.result.now (At i) c.get.ensures.value))
    (subst (ChangesUnit units c.in_ok-row.row c.put.new.self unit) c.at.ensures.value c.in_ok-put.ensures.ok)
    c.in_ok-set_range.ensures.ok)

pub returns-clause-form : goal.returns-clause-form
returns-clause-form g c = invariant_of-self-2 g c
