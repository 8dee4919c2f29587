use Rattle.std.proofs.Common.{List, [], ◌∷◌, ◌++◌, ap, ◌∙◌}
use Rattle.sfx_community.specs.State.{KeptMember, has_name, kept_as, members_view}
use Rattle.sfx_community.proofs.MapEntries.{name_taken}
use Rattle.sfx_community.proofs.JoinTurns.{insert_new}
use Rattle.sfx_community.proofs.members.Members.push.Goals as goal

pub returns : goal.returns
returns g c =
    let es = c.self.inside.kept.entries in
    let gone = name_taken es c.args.name ∙ (ap (λ (ms : List KeptMember). has_name c.args.name ms) c.self.view_is ∙ c.requires.new) in
    ap (λ x. members_view x) c.in_ok-insert.ensures.entries
    ∙ (insert_new es c.args.name c.args.kept gone ∙ ap (λ (ms : List KeptMember). ms ++ kept_as c.args.name c.args.kept ∷ []) c.self.view_is)
