use Rattle.std.proofs.Common.{sym, ◌∙◌, append-nil}
use Rattle.sfx_reply.proofs.ListingLemmas.{same_tested}
use Rattle.sfx_reply.proofs.showing.write_unit.Goals as goal

pub returns-then-same : goal.returns-then-same
returns-then-same c =
    let test = sym (same_tested c.args.vector.now c.args.first.now c.same.result c.same.ensures) ∙ c.if-same.true in
    rw test (sym (append-nil c.args.out.now.items))

pub returns : goal.returns
returns c =
    let test = sym (same_tested c.args.vector.now c.args.first.now c.same.result c.same.ensures) ∙ c.if-same.false in
    rw test c.write_other.ensures
