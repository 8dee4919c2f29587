use Rattle.std.proofs.Common.{List, slice_get, refl, ap, sym, ◌∙◌}
use Rattle.sfx_model.specs.sessions.MemberKnowledge.{names_id}
use Rattle.sfx_community.specs.State.{KeptData, KeptMember}
use Rattle.sfx_community.proofs.MapEntries.{entry_member, no_entry}
use Rattle.sfx_community.proofs.members.Members.names_at.Goals as goal

pub returns-in-Some : goal.returns-in-Some
returns-in-Some g c =
    let at = sym (rw c.in-Some.is at c.get_index.ensures.entry) in
    let there = entry_member c.self.inside.kept.entries c.args.i (c.in-Some.field-0-0.now, c.in-Some.kept.now) at in
    let here = ap (λ (ms : List KeptMember). slice_get ms c.args.i) (sym c.self.view_is) ∙ there in
    rw here (c.names.ensures ∙ ap (λ (k : KeptData). names_id c.args.id.now k.member) c.kept.view_is)

pub returns-in-None : goal.returns-in-None
returns-in-None g c =
    let at = sym (rw c.in-None.is at c.get_index.ensures.entry) in
    let there = no_entry c.self.inside.kept.entries c.args.i at in
    let here = ap (λ (ms : List KeptMember). slice_get ms c.args.i) (sym c.self.view_is) ∙ there in
    rw here refl
