use Rattle.std.proofs.Common.{◌≡◌, Some, nat_le, true, arith, refl, sym, ◌∙◌}
use Rattle.std.proofs.lemmas.Bool.Decides.{nat_tests}
use Rattle.sfx_script.specs.Word.{number_of}
use Rattle.sfx_script.proofs.SettingWords.{setting_none, setting_some}
use Rattle.sfx_script.proofs.word.setting_of.Goals as goal

pub returns-in_err-strip_prefix : goal.returns-in_err-strip_prefix
returns-in_err-strip_prefix c = c.from_residual.ensures ∙ sym (setting_none c.args.key.now c.args.text.now c.args.most c.in_err-strip_prefix.ensures.cases)

pub returns-then-number-most : goal.returns-then-number-most
returns-then-number-most c =
    let k = c.in_ok-strip_prefix.ensures.cases in
    let n = c.in_ok-number.number in
    let read : number_of c.in_ok-strip_prefix.field-0.now ≡ Some n = sym c.number_of.ensures ∙ c.in_ok-number.was in
    let low : nat_le 1 n ≡ true = grind (arith, nat_tests, c.if-number-ge1.true) in
    let high : nat_le n c.args.most ≡ true = grind (arith, nat_tests, c.if-number-most.true) in
    sym (setting_some c.args.key.now c.args.text.now c.in_ok-strip_prefix.field-0.now c.args.most k.0 k.1.0 k.1.1 k.2 ∙ rw (read, low, high) refl)
