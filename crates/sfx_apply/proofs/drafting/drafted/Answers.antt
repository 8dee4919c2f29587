use Rattle.std.proofs.Common.{subst, sym, lit<}
use Rattle.std.specs.Option.{option_map}
use Rattle.sfx_model.specs.sessions.Class.{ClassData}
use Rattle.sfx_apply.specs.Work.{FitsSides}
use Rattle.sfx_apply.proofs.DecidedDrafts.{class_fits}
use Rattle.sfx_apply.proofs.drafting.drafted.Goals as goal

pub draft_of-requires : goal.draft_of-requires
draft_of-requires g c =
    let here = option_map (λ x. x.now.state) c.args.local in
    let change = c.args.change.now in (
      lit< tt,
      (
        lit< tt,
        (
          lit< tt,
          subst (λ (class : ClassData). FitsSides class change.state here) (sym c.in_ok-class.ensures)
              (class_fits g.row.U c.args.work.now.pending.knowledge c.args.batch.now.made_with c.args.work.now.pending.forgotten change here),
        ),
      ),
    )
