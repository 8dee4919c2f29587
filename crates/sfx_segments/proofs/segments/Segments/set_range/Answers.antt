use Rattle.sfx_segments.proofs.LaidRanges.{covered}
use Rattle.sfx_segments.proofs.segments.Segments.set_range.Goals as goal

pub returns-clause-ok : goal.returns-clause-ok
returns-clause-ok g c =
    covered c.args.value.now c.args.lo.now c.args.hi.now c.self.inside.items.items c.deref.result.now c.args.self.now c.in_ok-items.items.items
    c.self.invariant c.deref.ensures.value c.self.view_is c.in_ok-items.ensures
