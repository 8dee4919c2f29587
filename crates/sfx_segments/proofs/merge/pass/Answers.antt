use Rattle.std.proofs.Common.{sym, ◌∙◌}
use Rattle.sfx_segments.proofs.PassedSegments.{pass_goes_on, pass_stops, pass_ends}
use Rattle.sfx_segments.proofs.merge.pass.Goals as goal
use Rattle.sfx_segments.proofs.merge.pass.Goals.{in_default, in-len1-up+then-lt}

pub walk-preserved : goal.walk-preserved
walk-preserved g c =
    pass_goes_on
    c.walk.value.now
    c.walk.ahead.now
    c.first-item.result
    c.args.place.now
    c.in-len1-up.len_at_least
    c.first-item.is
    (sym c.lt.ensures ∙ c.if-lt.false)
    ∙ c.walk.invariant

pub returns : goal.returns
returns g c =
    elim c.if-ahead-lt1.branch [
      | in_default w ↦ pass_ends c.walk.value.now c.walk.ahead.now c.args.place.now w.in_default.len_below ∙ c.walk.invariant
      | in-len1-up+then-lt w ↦
          pass_stops
          c.walk.value.now
          c.walk.ahead.now
          w.first-item.result
          c.args.place.now
          w.in-len1-up.len_at_least
          w.first-item.is
          (sym w.lt.ensures ∙ w.if-lt.true)
          ∙ c.walk.invariant
    ]
