use Rattle.std.proofs.Common.{◌≡◌, subst}
use Rattle.sfx_knowledge.specs.Knowledge.{HasTicks, tick_at, laid_over}
use Rattle.sfx_knowledge.specs.Forms.{with_own}
use Rattle.sfx_knowledge.specs.Vectors.{clock_of}
use Rattle.sfx_knowledge.proofs.KnowledgeLemmas.{rows-own, ticks-own}
use Rattle.sfx_knowledge.proofs.FormsLemmas.{own_known_is}
use Rattle.sfx_knowledge.proofs.knowledge.Knowledge.with_tick.Goals as goal

pub invariant_of-result : goal.invariant_of-result
invariant_of-result g c =
    rows-own g.row.U c.args.id.now (clock_of c.args.tick) c.self.inside.segments c.in_ok-segments.segments
    c.replica_in_range.ensures c.clock_in_range.ensures c.self.invariant c.in_ok-segments.ensures.form c.in_ok-segments.ensures.everywhere

pub returns-clause-ticks : goal.returns-clause-ticks
returns-clause-ticks g c =
    let units = g.row.U in
    let own = c.args.id.now in
    let tick = clock_of c.args.tick in
    subst (λ a. HasTicks units c.in_ok-segments.segments (laid_over own tick (tick_at a))) c.self.view_is
    (ticks-own units own tick c.self.inside.segments c.in_ok-segments.segments c.replica_in_range.ensures c.clock_in_range.ensures c.self.invariant c.in_ok-segments.ensures.everywhere)

pub returns-clause-list : goal.returns-clause-list
returns-clause-list g c =
    let units = g.row.U in
    let own = c.args.id.now in
    let tick = clock_of c.args.tick in
    subst (λ a. c.in_ok-segments.segments ≡ with_own units own tick a) c.self.view_is
    (own_known_is units own tick c.self.inside.segments c.in_ok-segments.segments c.self.invariant c.clock_in_range.ensures c.replica_in_range.ensures c.in_ok-segments.ensures.form c.in_ok-segments.ensures.everywhere)

pub returns-clause-form : goal.returns-clause-form
returns-clause-form g c = invariant_of-result g c
