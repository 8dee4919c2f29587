use Rattle.std.proofs.Common.{◌≡◌, ◌+◌, ◌++◌, ◌<◌, ◌≤◌, take, length, Err, inl, inr, refl, ap, arith, length-append, length-take}
use Rattle.std.proofs.lemmas.Result.{err_from_is_err_and}
use Rattle.sfx_outside.specs.Fault.{HasRisen}
use Rattle.sfx_outside.proofs.ReadFaults.{failed_not_long, memory_not_long, memory_not_failed, long_not_failed}
use Rattle.sfx_outside.proofs.SourceLemmas.{HasRisen-before, Takes-append, Takes-all, Takes-long, Takes-none, always, never_long, never_short}
use Rattle.sfx_outside.proofs.reading.read_to_end.Goals as goal

pub returns-clause-too_long : goal.returns-clause-too_long
returns-clause-too_long g c = λ _. Takes-long
    (g.A.Source.left c.args.input.now)
    (g.A.Source.left c.loop-buffer.input)
    c.loop-buffer.bytes.items
    c.args.limit
    c.loop-buffer.invariant.taken
    (omega arith)

pub returns-clause-stopped : goal.returns-clause-stopped
returns-clause-stopped g c = λ _. (c.loop-buffer.bytes.items, omega arith, c.loop-buffer.invariant.taken)

pub returns-clause-taken : goal.returns-clause-taken
returns-clause-taken g c = (c.loop-buffer.bytes.items, omega arith, c.loop-buffer.invariant.taken)

pub returns-clause-short : goal.returns-clause-short
returns-clause-short g c = λ _. never_short
    (g.A.Source.left c.args.input.now)
    c.args.limit
    _
    (Takes-long
    (g.A.Source.left c.args.input.now)
    (g.A.Source.left c.loop-buffer.input)
    c.loop-buffer.bytes.items
    c.args.limit
    c.loop-buffer.invariant.taken
    (omega arith))

pub returns-clause-long : goal.returns-clause-long
returns-clause-long g c = λ _. always (g.A.Source.left c.args.input.now) (λ all. c.args.limit < length all) _ (inl refl)

pub returns-clause-cause : goal.returns-clause-cause
returns-clause-cause g c = λ failed. absurd (long_not_failed failed)

pub returns-then-count-eq0-clause-all : goal.returns-then-count-eq0-clause-all
returns-then-count-eq0-clause-all g c =
    let left = g.A.Source.left in
    Takes-all
    (left c.args.input.now)
    (left c.read.new.self)
    c.loop-buffer.bytes.items
    (Takes-none
    (left c.args.input.now)
    (left c.loop-buffer.input)
    (left c.read.new.self)
    c.loop-buffer.bytes.items
    c.read.new.into
    c.in_ok-count.count
    c.loop-buffer.invariant.taken
    c.if-count-eq0.true
    c.in_ok-count.ensures.taken)
    (c.in_ok-count.ensures.end
    c.if-count-eq0.true
    (omega (arith, length-take (c.min-room.result + 1) c.loop-buffer.buffer)))

pub returns-then-count-eq0-clause-end : goal.returns-then-count-eq0-clause-end
returns-then-count-eq0-clause-end g c =
    c.in_ok-count.ensures.end
    c.if-count-eq0.true
    (omega (arith, length-take (c.min-room.result + 1) c.loop-buffer.buffer))

pub returns-then-count-eq0-clause-taken : goal.returns-then-count-eq0-clause-taken
returns-then-count-eq0-clause-taken g c =
    let left = g.A.Source.left in (
      c.loop-buffer.bytes.items,
      omega arith,
      Takes-none
          (left c.args.input.now)
          (left c.loop-buffer.input)
          (left c.read.new.self)
          c.loop-buffer.bytes.items
          c.read.new.into
          c.in_ok-count.count
          c.loop-buffer.invariant.taken
          c.if-count-eq0.true
          c.in_ok-count.ensures.taken,
    )

pub returns-then-count-eq0-clause-short : goal.returns-then-count-eq0-clause-short
returns-then-count-eq0-clause-short g c = λ _. always (g.A.Source.left c.args.input.now) (λ all. length all ≤ c.args.limit) _ (inl refl)

pub returns-then-count-eq0-clause-long : goal.returns-then-count-eq0-clause-long
returns-then-count-eq0-clause-long g c = λ _.
    let left = g.A.Source.left in
    never_long
    (left c.args.input.now)
    c.loop-buffer.bytes.items
    c.args.limit
    _
    (Takes-all
    (left c.args.input.now)
    (left c.read.new.self)
    c.loop-buffer.bytes.items
    (Takes-none
    (left c.args.input.now)
    (left c.loop-buffer.input)
    (left c.read.new.self)
    c.loop-buffer.bytes.items
    c.read.new.into
    c.in_ok-count.count
    c.loop-buffer.invariant.taken
    c.if-count-eq0.true
    c.in_ok-count.ensures.taken)
    (c.in_ok-count.ensures.end
    c.if-count-eq0.true
    (omega (arith, length-take (c.min-room.result + 1) c.loop-buffer.buffer))))
    (omega arith)

pub returns-in_err-count : goal.returns-in_err-count
returns-in_err-count g c =
    let exit = err_from_is_err_and c.from_residual.result c.from_residual.ensures.1 in
    let left = g.A.Source.left in
    let rose : HasRisen (g.A.Source.faults c.args.input.now) (g.A.Source.faults c.read.new.self) =
    HasRisen-before _ _ _ c.loop-buffer.invariant.faults c.in_err-count.ensures.cause in
    rw exit.1 record {
      all = tt;
      end = tt;
      fits = tt;
      too_long = λ long. absurd (failed_not_long exit.0 exit.2 long);
      stopped = λ long. absurd (failed_not_long exit.0 exit.2 long);
      taken = (c.loop-buffer.bytes.items, omega arith, rw c.in_err-count.ensures.err c.loop-buffer.invariant.taken);
      faults = omega arith;
      cause = λ _. rose;
      short = λ calm. absurd (calm rose);
      long = λ calm. absurd (calm rose);
    }

pub returns-in_err-extend_from_slice : goal.returns-in_err-extend_from_slice
returns-in_err-extend_from_slice g c =
    let residual = c.from_residual-in_err-extend_from_slice in
    let exit = err_from_is_err_and residual.result residual.ensures.1 in
    let left = g.A.Source.left in
    rw exit.1 record {
      all = tt;
      end = tt;
      fits = tt;
      too_long = λ long. absurd (memory_not_long exit.0 exit.2 long);
      stopped = λ long. absurd (memory_not_long exit.0 exit.2 long);
      taken = (
        c.loop-buffer.bytes.items ++ take c.in_ok-count.count c.read.new.into,
        omega (
          arith,
          length-append c.loop-buffer.bytes.items (take c.in_ok-count.count c.read.new.into),
          length-take c.in_ok-count.count c.read.new.into,
          length-take (c.min-room.result + 1) c.loop-buffer.buffer,
          c.in_ok-count.ensures.count,
        ),
        Takes-append
            (left c.args.input.now)
            (left c.loop-buffer.input)
            (left c.read.new.self)
            _
            _
            c.loop-buffer.invariant.taken
            c.in_ok-count.ensures.taken,
      );
      faults = omega arith;
      cause = λ failed. absurd (memory_not_failed exit.0 exit.2 failed);
      short = λ _. always (left c.args.input.now) (λ all. length all ≤ c.args.limit) _ (inr (ap Err exit.2));
      long = λ _. always (left c.args.input.now) (λ all. c.args.limit < length all) _ (inr (ap Err exit.2));
    }
