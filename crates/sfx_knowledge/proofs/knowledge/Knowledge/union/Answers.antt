use Rattle.std.proofs.Common.{subst}
use Rattle.sfx_knowledge.specs.Knowledge.{HasTicks, tick_at, joined}
use Rattle.sfx_knowledge.proofs.KnowledgeLemmas.{rows-joined, ticks-joined}
use Rattle.sfx_knowledge.proofs.knowledge.Knowledge.union.Goals as goal

pub invariant_of-result : goal.invariant_of-result
invariant_of-result g c =
    rows-joined g.row.U c.self.inside.segments c.other.inside.segments c.in_ok-segments.segments
    c.self.invariant c.other.invariant c.in_ok-segments.ensures.form c.in_ok-segments.ensures.everywhere

pub returns-clause-ticks : goal.returns-clause-ticks
returns-clause-ticks g c =
    let units = g.row.U in
    let k = c.in_ok-segments.segments in
    subst (λ a. HasTicks units k (joined (tick_at a) (tick_at c.args.other.now))) c.self.view_is
    (subst (λ b. HasTicks units k (joined (tick_at c.self.inside.segments) (tick_at b))) c.other.view_is
    (ticks-joined units c.self.inside.segments c.other.inside.segments k c.self.invariant c.other.invariant c.in_ok-segments.ensures.everywhere))

pub returns-clause-form : goal.returns-clause-form
returns-clause-form g c = invariant_of-result g c
