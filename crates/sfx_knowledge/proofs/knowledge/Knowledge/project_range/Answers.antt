use Rattle.std.proofs.Common.{subst}
use Rattle.sfx_knowledge.specs.Knowledge.{HasTicks, projected, tick_at}
use Rattle.sfx_knowledge.proofs.PlacesLemmas.{ticks-projected}
use Rattle.sfx_knowledge.proofs.knowledge.Knowledge.project_range.Goals as goal

pub returns-clause-ticks : goal.returns-clause-ticks
returns-clause-ticks g c =
    let units = g.row.U in
    subst (λ k. HasTicks units c.clear-2.new.self (projected c.args.lo.now c.args.hi.now (tick_at k))) c.in_ok-range.ensures.value
    (ticks-projected units c.in_ok-range.range c.clear.new.self c.clear-2.new.self c.args.lo.now c.args.hi.now
    c.in_ok-range.ensures.form.segments c.in_ok-clear.ensures.form.segments c.in_ok-clear.ensures.ok c.in_ok-clear-2.ensures.ok)
