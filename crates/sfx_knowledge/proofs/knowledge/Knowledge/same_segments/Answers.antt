use Rattle.std.proofs.Common.{◌≡◌, ◌∙◌, refl, sym, ap, arith, length}
use Rattle.sfx_knowledge.proofs.SegmentStarts.{same_by_index}
use Rattle.sfx_knowledge.proofs.knowledge.Knowledge.same_segments.Goals as goal

pub returns-clause-list : goal.returns-clause-list
returns-clause-list g c =
    let a = c.args.self.now in
    let b = c.args.other.now in
    let long : length a ≡ c.len-len.result = sym (ap length c.self.view_is) ∙ sym c.len-len.ensures.count in
    let lengths : length a ≡ length b = long ∙ c.if-len.false ∙ c.len.ensures.count ∙ ap length c.other.view_is in
    (λ yes. same_by_index a b lengths (λ k within. c.loop-i.invariant k (omega (arith, within, long, c.loop-i-test.false))), λ is. refl)
