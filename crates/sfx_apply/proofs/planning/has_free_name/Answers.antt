use Rattle.std.proofs.Common.{◌≡◌, ℕ, List, Option, subst, sym, ◌∙◌}
use Rattle.std.specs.Prelude.{IfOk}
use Rattle.sfx_apply.specs.Turns.{destination, is_free_or_none}
use Rattle.sfx_apply.proofs.planning.has_free_name.Goals as goal

pub returns-in-Some-clause-value : goal.returns-in-Some-clause-value
returns-in-Some-clause-value g c =
    let items = (destination g.row.U c.args.work.now (g.P.Provider.state c.args.provider.now)).items in
    subst (λ (o : Option (List ℕ)). IfOk c.is_free.result (λ free. free ≡ is_free_or_none items c.args.id.now o))
    (sym c.in-Some.is ∙ c.in_ok-drafted.ensures) c.is_free.ensures.value
