use Rattle.std.proofs.Common.{sym, ◌∙◌}
use Rattle.std.proofs.lemmas.Option.{same_Some, none-some}
use Rattle.sfx_ids.proofs.PairTexts.{cut_at_separator, same_pair}
use Rattle.sfx_ids.proofs.pair_text.read_pair.Goals as goal

pub returns-in_err-tick-clause-only : goal.returns-in_err-tick-clause-only
returns-in_err-tick-clause-only c tick replica is_tick is_replica is_text =
    let split = rw c.from.ensures at c.split_once.ensures.cases in
    let parts = cut_at_separator c.args.separator c.args.text.now c.split_once.result split c.requires tick replica is_tick is_text in
    absurd (rw c.in_err-tick.was at parts)

pub returns-in_err-parse_tick-clause-only : goal.returns-in_err-parse_tick-clause-only
returns-in_err-parse_tick-clause-only c tick replica is_tick is_replica is_text =
    let split = rw c.from.ensures at c.split_once.ensures.cases in
    let cut = cut_at_separator c.args.separator c.args.text.now c.split_once.result split c.requires tick replica is_tick is_text in
    let parts = rw c.in_ok-tick.was at cut in
    let read = c.parse_tick.ensures.only tick is_tick parts.0 in
    absurd (none-some tick (sym c.in_err-parse_tick.was ∙ read))

pub returns-in_err-parse_replica_exact-clause-only : goal.returns-in_err-parse_replica_exact-clause-only
returns-in_err-parse_replica_exact-clause-only c tick replica is_tick is_replica is_text =
    let split = rw c.from.ensures at c.split_once.ensures.cases in
    let cut = cut_at_separator c.args.separator c.args.text.now c.split_once.result split c.requires tick replica is_tick is_text in
    let parts = rw c.in_ok-tick.was at cut in
    let read = c.parse_replica_exact.ensures.only replica is_replica parts.1 in
    absurd (none-some replica (sym c.in_err-parse_replica_exact.was ∙ read))

pub returns-clause-only : goal.returns-clause-only
returns-clause-only c tick replica is_tick is_replica is_text =
    let split = rw c.from.ensures at c.split_once.ensures.cases in
    let cut = cut_at_separator c.args.separator c.args.text.now c.split_once.result split c.requires tick replica is_tick is_text in
    let parts = rw c.in_ok-tick.was at cut in
    let read_tick = sym c.in_ok-parse_tick.was ∙ c.parse_tick.ensures.only tick is_tick parts.0 in
    let read_replica = sym c.in_ok-parse_replica_exact.was ∙ c.parse_replica_exact.ensures.only replica is_replica parts.1 in
    same_pair c.in_ok-parse_tick.field-0 c.in_ok-parse_replica_exact.field-0 tick replica
    (same_Some c.in_ok-parse_tick.field-0 tick read_tick) (same_Some c.in_ok-parse_replica_exact.field-0 replica read_replica)
