use Rattle.std.proofs.Common.{◌≡◌, ◌+◌, sym, ap, ◌∙◌, subst, take, [], ◌∷◌, ◌++◌}
use Rattle.std.proofs.lemmas.List.{take_more, take_all}
use Rattle.sfx_knowledge.specs.Knowledge.{Known, IsKnowledge, HasTicks, tick_at, learned_ticks}
use Rattle.sfx_knowledge.proofs.PlacesLemmas.{learned_none, learned_restored, learned_outside}
use Rattle.sfx_knowledge.proofs.knowledge.Knowledge.learn.Goals as goal
use Rattle.sfx_knowledge.proofs.knowledge.Knowledge.learn.Goals.{then-in_range+in_ok-restore, else-in_range}

pub loop-cell-init : goal.loop-cell-init
loop-cell-init g c = record {
  form = c.in_ok-learned.ensures.form;
  ticks =
      learned_none g.row.U c.in_ok-learned.learned c.args.self.now c.args.from.now c.in_ok-range.range c.args.lo.now c.args.hi.now
      c.in_ok-learned.ensures.ticks c.in_ok-range.ensures.ticks;
}

pub loop-cell-preserved : goal.loop-cell-preserved
loop-cell-preserved g c =
    let units = g.row.U in
    let lo = c.args.lo.now in
    let hi = c.args.hi.now in
    let here = c.args.self.now in
    let there = tick_at c.args.from.now in
    let items = c.cells-cell-items.result.now in
    let i = c.loop-cell.cell-index in
    let cell = c.cell-item.result in
    let more : take (i + 1) items ≡ take i items ++ cell ∷ [] =
    take_more items i cell c.loop-cell-test.true ∙ ap (λ s. take i items ++ s ∷ []) (sym c.cell-item.is) in
    elim c.if-in_range.branch [
      | then-in_range+in_ok-restore w ↦ record {
        form = subst (IsKnowledge units) (sym w.learned-is) w.in_ok-restore.ensures.form;
        ticks =
            subst (λ (k : Known). HasTicks units k (learned_ticks lo hi (take (i + 1) items) (tick_at here) there)) (sym w.learned-is)
            (subst (λ ss. HasTicks units w.restore.new.self (learned_ticks lo hi ss (tick_at here) there)) (sym more)
            (learned_restored units c.loop-cell.learned w.restore.new.self here there lo hi (take i items) cell c.loop-cell.invariant.ticks w.in_ok-restore.ensures.ok));
      }
      | else-in_range w ↦ record {
        form = subst (IsKnowledge units) (sym w.learned-is) c.loop-cell.invariant.form;
        ticks =
            subst (λ (k : Known). HasTicks units k (learned_ticks lo hi (take (i + 1) items) (tick_at here) there)) (sym w.learned-is)
            (subst (λ ss. HasTicks units c.loop-cell.learned (learned_ticks lo hi ss (tick_at here) there)) (sym more)
            (learned_outside units c.loop-cell.learned here there lo hi (take i items) cell (sym c.in_range.ensures ∙ w.if-in_range.false) c.loop-cell.invariant.ticks));
      }
    ]

pub returns-clause-ticks : goal.returns-clause-ticks
returns-clause-ticks g c =
    let items = c.cells-cell-items.result.now in
    let all : take c.loop-cell.cell-index items ≡ c.args.skipped.now =
    take_all c.loop-cell.cell-index items c.loop-cell-test.false ∙ c.cells-cell-items.ensures.value in
    subst (λ ss. HasTicks g.row.U c.loop-cell.learned (learned_ticks c.args.lo.now c.args.hi.now ss (tick_at c.args.self.now) (tick_at c.args.from.now))) all
    c.loop-cell.invariant.ticks
