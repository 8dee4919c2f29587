use Rattle.std.proofs.Common.{◌∙◌, sym, true≢false}
use Rattle.std.proofs.lemmas.List.{append-nil}
use Rattle.std.proofs.lemmas.Result.{on_ok_weaker}
use Rattle.sfx_knowledge.proofs.VectorsLemmas.{same_clocks-true, same_clocks-false}
use Rattle.sfx_knowledge.proofs.vectors.push_other.Goals as goal

pub returns-then-same : goal.returns-then-same
returns-then-same g c =
    rw (same_clocks-true c.args.vector c.args.base.now (c.same.ensures.0 c.if-same.true))
    (sym (append-nil c.args.others.now.items))

pub returns : goal.returns
returns g c =
    on_ok_weaker c.push_unit.result
    (λ is. rw (same_clocks-false c.args.vector c.args.base.now (λ same. true≢false (sym (c.same.ensures.1 same) ∙ c.if-same.false))) is)
    c.push_unit.ensures
