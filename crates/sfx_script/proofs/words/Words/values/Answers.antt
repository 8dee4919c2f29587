use Rattle.std.proofs.Common.{ap, arith, length, length-append, subst, sym, ◌∙◌}
use Rattle.std.proofs.lemmas.Result.{err_from_is_err_and}
use Rattle.sfx_script.specs.Reading.{Answers, Fails, some_values}
use Rattle.sfx_script.proofs.ValueWords.{values_off, values_on}
use Rattle.sfx_script.proofs.words.Words.values.Goals as goal

pub returns-in_err-value_in : goal.returns-in_err-value_in
returns-in_err-value_in c =
    let exit = err_from_is_err_and c.from_residual-in_err-value_in.result c.from_residual-in_err-value_in.ensures.1 in
    let first = sym c.in-Some.ensures.word in
    subst (λ a. Answers a (some_values c.args.self.now)) (sym exit.1)
    (subst (Fails exit.0) c.more.invariant.read
    (values_off c.more.items.items exit.0 c.in_err-value_in.field-0.0 c.more.self.left _ (omega arith) first (sym exit.2) c.in_err-value_in.ensures))

pub more-preserved : goal.more-preserved
more-preserved c =
    let prefix = c.more.items.items in
    let first = sym c.in-Some.ensures.word in
    let items = c.in_ok-push-2.ensures.items in
    let left = ap (λ w. w.left) c.pass.ensures in
    let len = ap length items ∙ length-append prefix _ in
    record {
      some = omega (arith, len);
      most = omega (arith, len, c.if-len-ge-MAX_VALUES.false);
      read = rw (items, left) (values_on prefix c.more.self.left _ _ (omega arith) first c.in_ok-value_in.ensures) ∙ c.more.invariant.read;
    }
