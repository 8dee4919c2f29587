use Rattle.std.proofs.Common.{Some, refl, sym, ap, ◌∙◌}
use Rattle.sfx_reply.specs.declared.reply.Reply.TheVariants.{Changed}
use Rattle.sfx_community.specs.State.{members_with, state_among}
use Rattle.sfx_community.specs.Turn.{Turn}
use Rattle.sfx_community.proofs.EditTurns.{edited_turn, err_anyhow, finds, none_found, refusal_after, refusal_reply, rests, unedited_turn}
use Rattle.sfx_community.proofs.members.Members.set.Goals as goal

pub returns-in_default-clause-reply : goal.returns-in_default-clause-reply
returns-in_default-clause-reply g c =
    let none = none_found c.self.inside.kept.entries c.args.self.now c.args.name c.get_index_of.result c.self.view_is c.get_index_of.ensures.index c.in_default.is in
    rw none c.no_replica.ensures

pub returns-in_default-clause-after : goal.returns-in_default-clause-after
returns-in_default-clause-after g c =
    let none = none_found c.self.inside.kept.entries c.args.self.now c.args.name c.get_index_of.result c.self.view_is c.get_index_of.ensures.index c.in_default.is in
    rw none refl

pub returns-in-Ok-clause-reply : goal.returns-in-Ok-clause-reply
returns-in-Ok-clause-reply g c =
    let found = finds c.self.inside.kept.entries c.args.self.now c.args.name c.in-Some.place _ c.get_index_of.result c.self.view_is c.get_index_of.ensures.index c.in-Some.is (c.index_mut.ensures.value ∙ ap Some (sym c.behind-self.view_is)) in
    let turn = edited_turn g.row.U c.args.self.now c.args.name _ c.args.item.now c.args.unit c.args.value found.member c.in-Ok.ensures.refused in
    ap (λ v. Changed v) c.in-Ok.ensures.made ∙ sym (ap (λ (t : Turn). t.reply) turn)

pub returns-in-Ok-clause-after : goal.returns-in-Ok-clause-after
returns-in-Ok-clause-after g c =
    let found = finds c.self.inside.kept.entries c.args.self.now c.args.name c.in-Some.place _ c.get_index_of.result c.self.view_is c.get_index_of.ensures.index c.in-Some.is (c.index_mut.ensures.value ∙ ap Some (sym c.behind-self.view_is)) in
    let turn = edited_turn g.row.U c.args.self.now c.args.name _ c.args.item.now c.args.unit c.args.value found.member c.in-Ok.ensures.refused in
    ap (state_among g.row.U) (found.put c.set.new.self ∙ ap (λ n. members_with c.args.name n c.args.self.now) c.in-Ok.ensures.after) ∙ sym (ap (λ (t : Turn). t.state) turn)

pub returns-clause-reply : goal.returns-clause-reply
returns-clause-reply g c =
    let found = finds c.self.inside.kept.entries c.args.self.now c.args.name c.in-Some.place _ c.get_index_of.result c.self.view_is c.get_index_of.ensures.index c.in-Some.is (c.index_mut.ensures.value ∙ ap Some (sym c.behind-self.view_is)) in
    refusal_reply c.refusal.result c.in-Err.fault _ _ c.refusal.ensures c.in-Err.ensures.refused
    (unedited_turn g.row.U c.args.self.now c.args.name _ c.args.item.now c.args.unit c.args.value c.in-Err.fault found.member)

pub returns-clause-after : goal.returns-clause-after
returns-clause-after g c =
    let value = c.index_mut.ensures.value ∙ ap Some (sym c.behind-self.view_is) in
    let found = finds c.self.inside.kept.entries c.args.self.now c.args.name c.in-Some.place _ c.get_index_of.result c.self.view_is c.get_index_of.ensures.index c.in-Some.is value in
    refusal_after c.refusal.result c.in-Err.fault _ _ _ c.refusal.ensures c.in-Err.ensures.refused
    (unedited_turn g.row.U c.args.self.now c.args.name _ c.args.item.now c.args.unit c.args.value c.in-Err.fault found.member)
    (ap (state_among g.row.U) (rests c.self.inside.kept.entries c.args.self.now c.in-Some.place _ c.set.new.self c.self.view_is value c.in-Err.ensures.err))

pub returns-clause-err : goal.returns-clause-err
returns-clause-err g c =
    let value = c.index_mut.ensures.value ∙ ap Some (sym c.behind-self.view_is) in
    err_anyhow c.refusal.result (rests c.self.inside.kept.entries c.args.self.now c.in-Some.place _ c.set.new.self c.self.view_is value c.in-Err.ensures.err)
