use Rattle.std.proofs.Common.{◌≡◌, ◌==◌, ◌+◌, false, get_or, arith}
use Rattle.std.proofs.lemmas.Bool.Decides.{nat_tests}
use Rattle.std.proofs.lemmas.List.{take_rest}
use Rattle.std.proofs.lemmas.List.Elements.{All-more}
use Rattle.sfx_run.proofs.PartlyPlayed.{lines_of-first, lines_of-one}
use Rattle.sfx_run.proofs.lines.next_line.Goals as goal

pub loop-place-preserved : goal.loop-place-preserved
loop-place-preserved c =
    let other : (get_or c.args.script.now c.loop-place.place 0 == 10) ≡ false = let h = c.if-byte-eq10.false in grind (arith, nat_tests) in
    All-more (λ b. (b == 10) ≡ false) c.args.script.now c.loop-place.place 0 c.loop-place-test.true c.loop-place.invariant other

pub returns-then-byte-eq10-clause-split : goal.returns-then-byte-eq10-clause-split
returns-then-byte-eq10-clause-split c =
    rw (take_rest c.args.script.now (c.loop-place.place + 1))
    (lines_of-first c.args.script.now c.loop-place.place c.loop-place-test.true c.loop-place.invariant c.if-byte-eq10.true)

pub returns-clause-split : goal.returns-clause-split
returns-clause-split c = lines_of-one c.args.script.now c.loop-place.place c.loop-place-test.false c.loop-place.invariant
