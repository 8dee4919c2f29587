use Rattle.std.proofs.Common.{Some, ap, sym, ◌∙◌, option_map}
use Rattle.sfx_community.specs.State.{kept_as}
use Rattle.sfx_community.proofs.SamenessLemmas.{compared, compared_items}
use Rattle.sfx_community.proofs.members.Members.equal.Goals as goal

pub returns : goal.returns
returns g c =
    let one = sym c.find.ensures ∙ (ap (λ o. option_map (λ k. kept_as c.args.first k.now) o) c.in-Some.is ∙ ap (λ k. Some (kept_as c.args.first k)) (sym c.one.view_is)) in
    let other = sym c.find-2.ensures ∙ (ap (λ o. option_map (λ k. kept_as c.args.second k.now) o) c.in-Some-find.is ∙ ap (λ k. Some (kept_as c.args.second k)) (sym c.other.view_is)) in
    rw (one, other)
    (compared g.row.U c.one.inside.replica c.other.inside.replica c.in_ok-knowledge.knowledge c.same_live-items.result c.in_ok-knowledge.ensures
    (compared_items c.one.inside.replica c.other.inside.replica c.same_live-items.result c.same_live-items.ensures))
