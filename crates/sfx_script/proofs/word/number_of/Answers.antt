use Rattle.std.proofs.Common.{◌≡◌, Some, None, sym, ◌∙◌, ap}
use Rattle.std.proofs.lemmas.Fmt.{parse-decimal}
use Rattle.std.proofs.lemmas.Slice.Eq.{bytes_eq-Decides}
use Rattle.std.specs.Result.{result_ok}
use Rattle.sfx_script.proofs.OneReading.{none_where, number_sound, number_whole, parsed_small}
use Rattle.sfx_script.specs.Word.{number_of}
use Rattle.sfx_script.proofs.word.number_of.Goals as goal

pub returns-in_err-number : goal.returns-in_err-number
returns-in_err-number c =
    c.from_residual.ensures ∙ sym (none_where (number_of c.args.text.now) (λ n e.
    let read = number_sound c.args.text.now n e in
    let parsed = parse-decimal 64 n c.args.text.now c.parse.result read.0 read.0 read.1 c.parse.ensures.value.0 in
    let bad : None ≡ Some n = sym c.in_err-number.was ∙ (c.ok.ensures.value ∙ ap result_ok parsed) in
    cc))

pub returns-then-eq : goal.returns-then-eq
returns-then-eq c =
    let n = c.in_ok-number.number in
    let spelled = (bytes_eq-Decides c.format.result.now c.args.text.now).0 (sym c.eq.ensures ∙ c.if-eq.true) in
    let read : result_ok c.parse.result ≡ Some n = sym c.ok.ensures.value ∙ c.in_ok-number.was in
    let small = parsed_small c.args.text.now c.parse.result n c.parse.ensures.value.0 read in
    sym (number_whole c.args.text.now n small (sym spelled ∙ c.format.ensures.text))

pub returns-else-eq : goal.returns-else-eq
returns-else-eq c =
    sym (none_where (number_of c.args.text.now) (λ n e.
    let read = number_sound c.args.text.now n e in
    let parsed = parse-decimal 64 n c.args.text.now c.parse.result read.0 read.0 read.1 c.parse.ensures.value.0 in
    let same : Some n ≡ Some c.in_ok-number.number =
    sym (ap result_ok parsed) ∙ (sym c.ok.ensures.value ∙ c.in_ok-number.was) in
    let value : n ≡ c.in_ok-number.number = cc in
    let text : c.format.result.now ≡ c.args.text.now = c.format.ensures.text ∙ (rw (← value) (sym read.1)) in
    let bad = sym c.if-eq.false ∙ (c.eq.ensures ∙ (bytes_eq-Decides c.format.result.now c.args.text.now).1 text) in
    cc))
