use Rattle.std.proofs.Common.{List, ap, ◌∙◌}
use Rattle.sfx_community.specs.State.{KeptMember, member_of}
use Rattle.sfx_community.proofs.MapEntries.{found_copied}
use Rattle.sfx_community.proofs.members.Members.find.Goals as goal

pub returns : goal.returns
returns g c =
    found_copied c.self.inside.kept.entries c.args.name.now c.get.result c.get.ensures.value
    ∙ ap (λ (ms : List KeptMember). member_of ms c.args.name.now) c.self.view_is
