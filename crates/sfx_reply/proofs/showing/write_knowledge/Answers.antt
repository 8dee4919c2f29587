use Rattle.std.proofs.Common.{ap, sym, ◌∙◌, slice_get}
use Rattle.sfx_reply.specs.Listing.{segment_text}
use Rattle.sfx_reply.proofs.ListingLemmas.{one_written, segment_of, segment_parts}
use Rattle.sfx_reply.proofs.showing.write_knowledge.Goals as goal

pub loop-i-preserved : goal.loop-i-preserved
loop-i-preserved g c =
    let parts = segment_parts (slice_get c.segments-segments.result.now c.loop-i.i) c.start.result c.value.result.now c.start.ensures.start c.value.ensures in
    let at = ap (λ xs. slice_get xs c.loop-i.i) (sym c.segments-segments.ensures.value) ∙ parts in
    one_written segment_text c.args.knowledge.now (segment_of c.start.result c.value.result.now) c.loop-i.i c.loop-i.out.items c.write_segment.new.out.items _ at c.in_ok-write_segment.ensures c.loop-i.invariant
