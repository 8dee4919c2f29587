use Rattle.std.proofs.Common.{◌≡◌, ◌∷◌, ap, ◌∙◌, arith}
use Rattle.std.proofs.lemmas.Result.{err_from_is_err_and}
use Rattle.sfx_run.proofs.PartlyPlayed.{so_far-broke, so_far-memory, so_far-refused, so_far-start, so_far-state, so_far-step, so_far-text}
use Rattle.sfx_run.specs.Run.{lines_left}
use Rattle.sfx_run.proofs.lines.play.Goals as goal

pub lines-init : goal.lines-init
lines-init g c = record {
  so_far = so_far-start c.args.state.now c.args.script.now (g.B.Sink.held c.args.out.now);
  faults = omega arith;
}

pub lines-preserved : goal.lines-preserved
lines-preserved g c =
    let split : lines_left c.lines.rest ≡ c.next_line.result.0.now ∷ lines_left c.next_line.result.1 =
    ap (λ r. lines_left r) c.in-Some.is ∙ c.next_line.ensures.split in
    let so = rw split at c.lines.invariant.so_far in
    let earlier = c.lines.invariant.faults in
    let later = c.answer.ensures.faults in
    record {
      so_far = so_far-step _ _ _ _ (g.B.Sink.held c.answer.new.out) c.lines.has_refusal c.in_ok-is_refused.is_refused c.lines.state c.answer.new.state c.next_line.result.0.now (lines_left c.next_line.result.1) so c.in_ok-is_refused.ensures.text c.in_ok-is_refused.ensures.refusal c.in_ok-is_refused.ensures.after;
      faults = omega (arith, earlier, later);
    }

pub returns-clause-text : goal.returns-clause-text
returns-clause-text g c = so_far-text _ _ _ _ c.lines.has_refusal c.lines.state (rw c.in_default.is at c.lines.invariant.so_far)

pub returns-clause-after : goal.returns-clause-after
returns-clause-after g c = so_far-state _ _ _ _ c.lines.has_refusal c.lines.state (rw c.in_default.is at c.lines.invariant.so_far)

pub returns-clause-refusal : goal.returns-clause-refusal
returns-clause-refusal g c = so_far-refused _ _ _ _ c.lines.has_refusal c.lines.state (rw c.in_default.is at c.lines.invariant.so_far)

pub returns-in_err-is_refused-clause-failed : goal.returns-in_err-is_refused-clause-failed
returns-in_err-is_refused-clause-failed g c =
    let split : lines_left c.lines.rest ≡ c.next_line.result.0.now ∷ lines_left c.next_line.result.1 =
    ap (λ r. lines_left r) c.in-Some.is ∙ c.next_line.ensures.split in
    let so = rw split at c.lines.invariant.so_far in
    let exit = err_from_is_err_and c.from_residual.result c.from_residual.ensures.1 in
    rw (exit.1, exit.2)
    (λ is. so_far-broke _ _ _ _ (g.B.Sink.held c.answer.new.out) c.lines.has_refusal c.lines.state c.answer.new.state c.next_line.result.0.now (lines_left c.next_line.result.1) so
    (c.in_err-is_refused.ensures.failed is))

pub returns-in_err-is_refused-clause-memory : goal.returns-in_err-is_refused-clause-memory
returns-in_err-is_refused-clause-memory g c =
    let split : lines_left c.lines.rest ≡ c.next_line.result.0.now ∷ lines_left c.next_line.result.1 =
    ap (λ r. lines_left r) c.in-Some.is ∙ c.next_line.ensures.split in
    let so = rw split at c.lines.invariant.so_far in
    let exit = err_from_is_err_and c.from_residual.result c.from_residual.ensures.1 in
    rw (exit.1, exit.2)
    (λ is. so_far-memory _ _ _ _ (g.B.Sink.held c.answer.new.out) c.lines.has_refusal c.lines.state c.answer.new.state c.next_line.result.0.now (lines_left c.next_line.result.1) so
    (c.in_err-is_refused.ensures.memory is))
