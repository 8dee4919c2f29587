use Rattle.std.proofs.Common.{◌-◌, length, take, drop, sym, ◌∙◌, subst}
use Rattle.sfx_segments.specs.Segments.{AreSegments}
use Rattle.sfx_segments.proofs.ValueLookup.{get_begins, get_goes_on, get_stops, get_ends}
use Rattle.sfx_segments.proofs.segments.Segments.get.Goals as goal

pub loop-segment-init : goal.loop-segment-init
loop-segment-init g c =
    rw (← c.self.view_is, c.deref.ensures.value)
    (get_begins c.self.inside.items.items c.index.result.now c.args.at.now c.self.invariant c.index.ensures)

pub loop-segment-preserved : goal.loop-segment-preserved
loop-segment-preserved g c =
    let given = c.deref.result.now in
    get_goes_on
    c.args.self.now
    (take (length given - 1) (drop 1 given))
    c.loop-segment.found.now
    c.segment-item.result
    c.loop-segment.segment-index
    c.args.at.now
    c.loop-segment.invariant
    c.loop-segment-test.true
    c.segment-item.is
    (sym c.lt.ensures ∙ c.if-lt.false)

pub returns-then-lt : goal.returns-then-lt
returns-then-lt g c =
    let given = c.deref.result.now in
    record {
      value = get_stops
          c.args.self.now
          (take (length given - 1) (drop 1 given))
          c.loop-segment.found.now
          c.segment-item.result
          c.loop-segment.segment-index
          c.args.at.now
          c.loop-segment.invariant
          c.loop-segment-test.true
          c.segment-item.is
          (sym c.lt.ensures ∙ c.if-lt.true);
      form = subst AreSegments c.self.view_is c.self.invariant;
    }

pub returns : goal.returns
returns g c =
    let given = c.deref.result.now in
    record {
      value = get_ends
          c.args.self.now
          (take (length given - 1) (drop 1 given))
          c.loop-segment.found.now
          c.loop-segment.segment-index
          c.args.at.now
          c.loop-segment.invariant
          c.loop-segment-test.false;
      form = subst AreSegments c.self.view_is c.self.invariant;
    }
