use Rattle.std.proofs.Common.{◌≤◌, ◌∙◌, true≢false, refl, sym, ap, subst, arith, length, slice_get, option_map}
use Rattle.sfx_segments.specs.Segments.{AreSegments}
use Rattle.sfx_knowledge.specs.Row.{VectorWithin}
use Rattle.sfx_knowledge.proofs.SegmentStarts.{row_of_every, every_row}
use Rattle.sfx_knowledge.proofs.knowledge.Knowledge.contain_everywhere.Goals as goal

pub returns-then-not-contain : goal.returns-then-not-contain
returns-then-not-contain g c =
    let known = c.args.self.now in (
      λ no. absurd (true≢false (sym no)),
      λ all. absurd (true≢false (sym (c.contain.ensures.1
          (row_of_every known c.loop-i.i c.value.result.now (VectorWithin g.row.U c.args.vector.now)
          (subst AreSegments c.self.view_is c.self.invariant.segments)
          (ap (λ xs. option_map (λ s. s.1) (slice_get xs c.loop-i.i)) (sym c.self.view_is) ∙ c.value.ensures) all)) ∙ c.if-not-contain.true)),
    )

pub returns : goal.returns
returns g c =
    let known = c.args.self.now in
    let end : length known ≤ c.loop-i.i = omega (arith, c.loop-i-test.false, c.len-i-end.ensures.count, ap length c.self.view_is) in (
      λ yes.
          every_row known c.loop-i.i (VectorWithin g.row.U c.args.vector.now)
          (subst AreSegments c.self.view_is c.self.invariant.segments) end c.loop-i.invariant,
      λ all. refl,
    )
