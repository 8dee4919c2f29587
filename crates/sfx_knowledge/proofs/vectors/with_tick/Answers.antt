use Rattle.std.proofs.Common.{◌≡◌, ◌≤◌, ◌∙◌, sym, ap, subst, arith}
use Rattle.sfx_ids.specs.Tick.{max_tick}
use Rattle.sfx_vector.specs.Clocks.{tick_of}
use Rattle.sfx_knowledge.specs.Vectors.{clock_of, own_clocks}
use Rattle.sfx_knowledge.proofs.VectorsLemmas.{own_is, ticks_with, ticks_without}
use Rattle.sfx_knowledge.proofs.vectors.with_tick.Goals as goal
use Rattle.sfx_knowledge.proofs.vectors.with_tick.Goals.{in-Some+in_ok-raise, in_default}

pub returns-clause-value : goal.returns-clause-value
returns-clause-value c =
    let a = c.args.vector.now in
    let own = c.args.id.now in
    let made = c.match-tick.made in
    elim c.match-tick.branch [
      | in-Some+in_ok-raise w ↦
          subst (λ o. made ≡ own_clocks own (clock_of o) a) (sym w.in-Some.is)
          (own_is own w.in-Some.tick a made c.replica_in_range.ensures w.tick_in_range.ensures.most c.vector_in_form.ensures c.vector_in_form-2.ensures
          (λ r. ap (λ x. tick_of x r) w.made-is ∙ ticks_with a c.in_ok-made.made c.without.new.self w.raise.new.self own w.in-Some.tick c.in_ok-made.ensures c.without.ensures w.in_ok-raise.ensures.ok r))
      | in_default w ↦
          subst (λ o. made ≡ own_clocks own (clock_of o) a) (sym w.in_default.is)
          (let most : 0 ≤ max_tick = omega arith in
          own_is own 0 a made c.replica_in_range.ensures most c.vector_in_form.ensures c.vector_in_form-2.ensures
          (λ r. ap (λ x. tick_of x r) w.made-is ∙ ticks_without a c.in_ok-made.made c.without.new.self own c.in_ok-made.ensures c.without.ensures r))
    ]
