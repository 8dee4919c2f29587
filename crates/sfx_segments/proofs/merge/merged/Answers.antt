use Rattle.std.proofs.Common.{get_or, subst}
use Rattle.sfx_segments.specs.Merge.{Extends}
use Rattle.sfx_segments.proofs.MergeLemmas.{merge_begins, merge_goes_on, merge_shorter, merge_ends, not_at_end, at_end}
use Rattle.sfx_segments.proofs.PassedSegments.{not_empty}
use Rattle.sfx_segments.proofs.merge.merged.Goals as goal

pub merge-init : goal.merge-init
merge-init g c =
    merge_begins (g.J.Join.meaning c.args.how.now) c.args.xs.now c.args.ys.now
    (get_or c.args.xs.now 0 c.index-xs-0.result).1 (get_or c.args.ys.now 0 c.index-ys-0.result).1
    c.next_place-next.result c.new-items.result.items
    c.requires.left c.requires.right c.next_place-next.ensures c.new-items.ensures.items

pub merge-smaller : goal.merge-smaller
merge-smaller g c =
    merge_shorter c.merge.a.now c.merge.left.now c.merge.b.now c.merge.right.now c.merge.next
    (c.pass.result.0.now, c.pass.result.1.now) (c.pass-in-merge.result.0.now, c.pass-in-merge.result.1.now)
    (not_at_end c.ne.result c.merge.next c.ne.ensures c.merge-test.true) c.merge.invariant.is_next c.pass.ensures c.pass-in-merge.ensures

pub merge-preserved : goal.merge-preserved
merge-preserved g c =
    merge_goes_on (g.J.Join.meaning c.args.how.now) c.args.xs.now c.args.ys.now
    c.merge.a.now c.merge.left.now c.merge.b.now c.merge.right.now c.merge.next c.merge.items.items
    (c.pass.result.0.now, c.pass.result.1.now) (c.pass-in-merge.result.0.now, c.pass-in-merge.result.1.now)
    c.next_place-next-in-merge.result c.push_segment.new.items.items
    c.merge.invariant (not_at_end c.ne.result c.merge.next c.ne.ensures c.merge-test.true) c.pass.ensures c.pass-in-merge.ensures
    (subst (λ v. Extends c.merge.items.items c.push_segment.new.items.items c.merge.next v) c.in_ok-value.ensures c.in_ok-push_segment.ensures)
    c.next_place-next-in-merge.ensures

pub returns : goal.returns
returns g c =
    merge_ends (g.J.Join.meaning c.args.how.now) c.args.xs.now c.args.ys.now
    c.merge.a.now c.merge.left.now c.merge.b.now c.merge.right.now c.merge.next c.merge.items.items
    c.merge.invariant (at_end c.ne.result c.merge.next c.ne.ensures c.merge-test.false)

pub bounds-xs-0 : goal.bounds-xs-0
bounds-xs-0 g c = not_empty c.args.xs.now c.requires.left

pub bounds-ys-0 : goal.bounds-ys-0
bounds-ys-0 g c = not_empty c.args.ys.now c.requires.right

pub push_segment-requires : goal.push_segment-requires
push_segment-requires g c = record {
  prefix = c.merge.invariant.prefix;
  place = not_at_end c.ne.result c.merge.next c.ne.ensures c.merge-test.true;
}
