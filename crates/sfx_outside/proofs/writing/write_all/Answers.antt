use Rattle.std.proofs.Common.{rules}
use Rattle.std.proofs.lemmas.List.{take_rest}
use Rattle.std.proofs.lemmas.Result.{err_from_is_err_and}
use Rattle.sfx_outside.proofs.SinkLemmas.{Adds-take, AddsPrefix-drop}
use Rattle.sfx_outside.proofs.writing.write_all.Goals as goal

pub returns-in_err-done-clause-err : goal.returns-in_err-done-clause-err
returns-in_err-done-clause-err g c =
    let held = g.B.Sink.held in
    let exit = err_from_is_err_and c.from_residual.result c.from_residual.ensures.1 in
    rw exit.1
    (AddsPrefix-drop
    (held c.args.out.now)
    (held c.loop-done.out)
    (held c.write.new.self)
    c.args.piece.now
    c.loop-done.done
    c.loop-done.invariant.added
    (rw take_rest at c.in_err-done.ensures.err))

pub loop-done-preserved : goal.loop-done-preserved
loop-done-preserved g c =
    let held = g.B.Sink.held in
    record {
      within = search rules;
      added = Adds-take
          (held c.args.out.now)
          (held c.loop-done.out)
          (held c.write.new.self)
          c.args.piece.now
          c.loop-done.done
          c.in_ok-done.field-0
          c.loop-done.invariant.added
          (rw take_rest at c.in_ok-done.ensures.added);
      faults = search rules;
    }
