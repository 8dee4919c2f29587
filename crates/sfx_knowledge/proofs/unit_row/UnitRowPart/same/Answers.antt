use Rattle.std.proofs.Common.{sym, ap, ◌∙◌, subst, refl, arith}
use Rattle.sfx_knowledge.specs.Row.{IsClockRow}
use Rattle.sfx_knowledge.proofs.RowLemmas.{same_rows}
use Rattle.sfx_knowledge.proofs.unit_row.UnitRowPart.same.Goals as goal

pub returns : goal.returns
returns g c =
    let units = g.row.U in
    let a = c.args.self.now in
    let b = c.args.other.now in (
      λ yes. same_rows units a b
          (subst (IsClockRow units) c.self.view_is c.self.invariant)
          (subst (IsClockRow units) c.other.view_is c.other.invariant)
          (sym (ap (λ row. row.base) c.self.view_is) ∙ c.same.ensures.0 c.if-not-same.false ∙ ap (λ row. row.base) c.other.view_is)
          (λ u within. c.loop-unit.invariant u (omega arith)),
      λ is. refl,
    )
