use Rattle.std.proofs.Common.{Some, ap, sym, ◌∙◌}
use Rattle.sfx_community.proofs.EditTurns.{finds, none_found}
use Rattle.sfx_community.proofs.SessionTurns.{unchanged}
use Rattle.sfx_community.proofs.members.Members.put.Goals as goal

pub returns-in-Some : goal.returns-in-Some
returns-in-Some g c =
    let found = finds c.self.inside.kept.entries c.args.self.now c.args.name.now c.in-Some.place _ c.get_index_of.result c.self.view_is c.get_index_of.ensures.index c.in-Some.is (c.index_mut.ensures.value ∙ ap Some (sym c.behind-self.view_is)) in
    found.put c.args.replica

pub returns-in_default : goal.returns-in_default
returns-in_default g c =
    let none = none_found c.self.inside.kept.entries c.args.self.now c.args.name.now c.get_index_of.result c.self.view_is c.get_index_of.ensures.index c.in_default.is in
    sym (unchanged c.args.name.now c.args.replica c.args.self.now none)
