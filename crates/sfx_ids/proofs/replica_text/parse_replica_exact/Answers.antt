use Rattle.std.proofs.Common.{true≢false, sym, ◌∙◌}
use Rattle.sfx_ids.specs.Text.{replica_text}
use Rattle.sfx_ids.proofs.Canonical.{is_own, is_equal}
use Rattle.sfx_ids.proofs.ReplicaTexts.{reads_replica}
use Rattle.sfx_ids.proofs.replica_text.parse_replica_exact.Goals as goal

pub returns-in_err-id-clause-only : goal.returns-in_err-id-clause-only
returns-in_err-id-clause-only c id fits is_text =
    let read = reads_replica _ c.args.text.now c.parse_replica.ensures id fits is_text in
    c.from_residual.ensures ∙ sym c.in_err-id.was ∙ read

pub returns-then-eq-clause-only : goal.returns-then-eq-clause-only
returns-then-eq-clause-only c id fits is_text =
    let read = reads_replica _ c.args.text.now c.parse_replica.ensures id fits is_text in
    sym c.in_ok-id.was ∙ read

pub returns-else-eq-clause-only : goal.returns-else-eq-clause-only
returns-else-eq-clause-only c id fits is_text =
    let read = reads_replica _ c.args.text.now c.parse_replica.ensures id fits is_text in
    let own = is_own replica_text c.args.text.now c.text_of.result.now c.in_ok-id.id id (sym c.in_ok-id.was ∙ read) c.text_of.ensures is_text in
    let equal = is_equal c.args.text.now _ (sym own) in
    absurd (true≢false (sym equal ∙ sym c.eq.ensures ∙ c.if-eq.false))
