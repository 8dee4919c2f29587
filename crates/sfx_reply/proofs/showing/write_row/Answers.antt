use Rattle.std.proofs.Common.{◌++◌, ap, ◌∙◌}
use Rattle.std.specs.List.{flat_map}
use Rattle.sfx_knowledge.specs.Row.{row_at}
use Rattle.sfx_knowledge.proofs.RowLemmas.{row_at-first}
use Rattle.sfx_script.specs.Printed.{vector_text}
use Rattle.sfx_reply.specs.Listing.{exception_text, unit_text}
use Rattle.sfx_reply.proofs.ListingLemmas.{row_printed, unit_printed}
use Rattle.sfx_reply.proofs.showing.write_row.Goals as goal

pub loop-k-preserved : goal.loop-k-preserved
loop-k-preserved g c =
    let unit = rw c.unwrap-in-loop-k.ensures at c.new-in-loop-k.ensures.value in
    let zeroth = rw c.unwrap.ensures at c.new.ensures.value in
    let vector = c.get.ensures.value ∙ ap (λ u. row_at c.args.row.now u) unit in
    let first = c.get-first.ensures.value ∙ ap (λ u. row_at c.args.row.now u) zeroth in
    let is = c.in_ok-write_unit.ensures ∙ ap (λ b. c.loop-k.out.items ++ unit_text b (c.loop-k.k, c.get.result.now)) first ∙ ap (λ v. c.loop-k.out.items ++ unit_text (row_at c.args.row.now 0) (c.loop-k.k, v)) vector in
    unit_printed (row_at c.args.row.now 0) (λ u. row_at c.args.row.now u) c.loop-k.k g.row.U c.loop-k.out.items c.write_unit.new.out.items _ c.loop-k-test.true is c.loop-k.invariant

pub returns : goal.returns
returns g c =
    let end = c.loop-k-test.false in
    let printed = row_printed g.row.U c.loop-k.k c.args.row.now c.loop-k.out.items c.args.out.now.items (vector_text (row_at c.args.row.now 0)) c.requires end c.get-first.ensures.form c.loop-k.invariant in
    printed ∙ ap (λ b. c.args.out.now.items ++ vector_text b ++ flat_map exception_text c.args.row.now.others) (row_at-first g.row.U c.args.row.now c.get-first.ensures.form)
