use Rattle.std.proofs.Common.{◌≤◌, ap, subst, arith, length}
use Rattle.sfx_segments.specs.Segments.{AreSegments}
use Rattle.sfx_knowledge.proofs.SegmentStarts.{most_all}
use Rattle.sfx_knowledge.proofs.knowledge.Knowledge.most.Goals as goal

pub returns-clause-value : goal.returns-clause-value
returns-clause-value g c =
    let known = c.args.self.now in
    let end : length known ≤ c.loop-i.i = omega (arith, c.loop-i-test.false, c.len-i-end.ensures.count, ap length c.self.view_is) in
    most_all g.row.U c.loop-i.i known c.args.id.now c.loop-i.most c.requires (subst AreSegments c.self.view_is c.self.invariant.segments) end c.loop-i.invariant
