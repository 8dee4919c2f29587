use Rattle.std.proofs.Common.{◌<◌, ◌^◌, true≢false, not, sym, ◌∙◌, ap, arith, decimal}
use Rattle.std.proofs.lemmas.Fmt.{parse-decimal}
use Rattle.std.proofs.lemmas.Option.{same_Some}
use Rattle.std.specs.Result.{result_ok}
use Rattle.sfx_ids.proofs.Canonical.{made, is_own, is_equal}
use Rattle.sfx_ids.proofs.pair_text.parse_tick.Goals as goal

pub returns-in_err-count-clause-only : goal.returns-in_err-count-clause-only
returns-in_err-count-clause-only c tick is_tick is_text =
    let fits : tick < 2 ^ 64 = omega arith in
    let read = parse-decimal 64 tick c.args.text.now c.parse.result fits fits is_text c.parse.ensures.value.0 in
    let never = sym c.in_err-count.was ∙ c.ok.ensures.value ∙ ap result_ok read in
    c.from_residual.ensures ∙ never

pub returns-then-ne-clause-only : goal.returns-then-ne-clause-only
returns-then-ne-clause-only c tick is_tick is_text =
    let fits : tick < 2 ^ 64 = omega arith in
    let read = parse-decimal 64 tick c.args.text.now c.parse.result fits fits is_text c.parse.ensures.value.0 in
    let is_count = sym c.in_ok-count.was ∙ c.ok.ensures.value ∙ ap result_ok read in
    let own = is_own decimal c.args.text.now c.format.result.now c.in_ok-count.count tick is_count c.format.ensures.text is_text in
    let equal = is_equal _ _ own in
    absurd (true≢false (sym c.if-ne.true ∙ c.ne.ensures ∙ ap not equal))

pub returns-clause-only : goal.returns-clause-only
returns-clause-only c tick is_tick is_text =
    let fits : tick < 2 ^ 64 = omega arith in
    let read = parse-decimal 64 tick c.args.text.now c.parse.result fits fits is_text c.parse.ensures.value.0 in
    let is_count = sym c.in_ok-count.was ∙ c.ok.ensures.value ∙ ap result_ok read in
    made c.new-2.result c.in_ok-count.count tick c.new-2.ensures.valid c.new-2.ensures.value (same_Some c.in_ok-count.count tick is_count) is_tick
