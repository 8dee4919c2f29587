use Rattle.std.proofs.Common.{◌<◌, sym, subst}
use Rattle.sfx_knowledge.specs.Row.{ChangesUnit}
use Rattle.sfx_knowledge.proofs.RowLemmas.{put_is}
use Rattle.sfx_knowledge.proofs.unit_row.UnitRow.put.Goals as goal

pub returns-clause-ok : goal.returns-clause-ok
returns-clause-ok g c =
    let units = g.row.U in
    let old = c.args.self.now in
    let vector = c.args.vector.now in
    let within : c.get.result < units = subst (λ n. n < units) (sym c.get.ensures.value) c.get.ensures.valid in
    subst (λ row. ChangesUnit units old row c.args.unit vector) (sym c.drop.view_is)
    (subst (λ n. ChangesUnit units old c.in_ok-changed.changed n vector) c.get.ensures.value
    (put_is units old c.in_ok-changed.changed c.get.result vector within c.in_ok-changed.ensures))
