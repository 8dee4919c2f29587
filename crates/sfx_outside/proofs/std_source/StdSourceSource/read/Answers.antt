use Rattle.std.proofs.Common.{refl, arith}
use Rattle.sfx_outside.proofs.std_source.StdSourceSource.read.Goals as goal

pub read_piece-requires : goal.read_piece-requires
read_piece-requires g c = omega arith

pub slice_bounds-read_piece-end : goal.slice_bounds-read_piece-end
slice_bounds-read_piece-end g c = refl

pub invariant_of-self : goal.invariant_of-self
invariant_of-self g c = c.self.invariant

pub returns-in-Ok : goal.returns-in-Ok
returns-in-Ok g c = rw (← c.self.view_is) record {
  count = c.in-Ok.ensures.count;
  reader = c.in-Ok.ensures.bytes;
  rest = c.in-Ok.ensures.rest;
  fits = c.self.invariant;
  faults = refl;
}

pub returns-in-Err : goal.returns-in-Err
returns-in-Err g c = let a = c.saturating_add-self-inside.ensures in rw (← c.self.view_is) record {
  count = tt;
  reader = c.in-Err.ensures.bytes;
  rest = tt;
  fits = c.self.invariant;
  faults = c.saturating_add-self-inside.ensures;
}
