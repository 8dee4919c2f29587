use Rattle.std.proofs.Common.{◌≡◌, ◌≤◌, ◌∙◌, true≢false, refl, sym, ap, subst, arith, length, slice_get, option_map}
use Rattle.sfx_segments.specs.Segments.{segment_at}
use Rattle.sfx_segments.proofs.PlaceValues.{segment_at-value_at}
use Rattle.sfx_knowledge.specs.Row.{UnitRowData, RowWithin}
use Rattle.sfx_knowledge.specs.Knowledge.{no_row}
use Rattle.sfx_knowledge.specs.Places.{WithinAt}
use Rattle.sfx_knowledge.proofs.SegmentStarts.{start_of_each, each_start}
use Rattle.sfx_knowledge.proofs.knowledge.Knowledge.within_at_starts.Goals as goal

pub returns-then-not-within-clause-value : goal.returns-then-not-within-clause-value
returns-then-not-within-clause-value g c =
    let units = g.row.U in
    let known = c.args.starts.now in
    let place = c.start-place.result in
    let here : segment_at no_row c.args.self.now place ≡ c.get.result.now =
    ap (λ xs. segment_at no_row xs place) (sym c.self.view_is) ∙ segment_at-value_at c.self.inside.segments no_row c.get.result.now place c.get.ensures.value in
    let there : segment_at no_row c.args.other.now place ≡ c.get-in-loop-i.result.now =
    ap (λ xs. segment_at no_row xs place) (sym c.other.view_is) ∙ segment_at-value_at c.other.inside.segments no_row c.get-in-loop-i.result.now place c.get-in-loop-i.ensures.value in (
      λ no. absurd (true≢false (sym no)),
      λ all. absurd (true≢false (sym (c.within.ensures.1
          (subst (λ (row : UnitRowData). RowWithin units row c.get-in-loop-i.result.now) here
          (subst (λ (row : UnitRowData). RowWithin units (segment_at no_row c.args.self.now place) row) there
          (start_of_each known c.loop-i.i place (WithinAt units c.args.self.now c.args.other.now)
          (ap (λ xs. option_map (λ s. s.0) (slice_get xs c.loop-i.i)) (sym c.starts.view_is) ∙ c.start-place.ensures.start) all)))) ∙ c.if-not-within.true)),
    )

pub returns-clause-value : goal.returns-clause-value
returns-clause-value g c =
    let known = c.args.starts.now in
    let end : length known ≤ c.loop-i.i = omega (arith, c.loop-i-test.false, c.len-i-end.ensures.count, ap length c.starts.view_is) in
    (λ yes. each_start known c.loop-i.i (WithinAt g.row.U c.args.self.now c.args.other.now) end c.loop-i.invariant, λ all. refl)
