use Rattle.std.proofs.Common.{Some, refl, sym, ap, ◌∙◌}
use Rattle.sfx_reply.specs.declared.reply.Reply.TheVariants.{Changed}
use Rattle.sfx_community.specs.State.{members_with, state_among}
use Rattle.sfx_community.specs.Turn.{Turn}
use Rattle.sfx_community.proofs.EditTurns.{deleted_turn, finds, none_found, rests, undeleted_turn}
use Rattle.sfx_community.proofs.members.Members.delete.Goals as goal

pub returns-in_default-clause-reply : goal.returns-in_default-clause-reply
returns-in_default-clause-reply g c =
    let none = none_found c.self.inside.kept.entries c.args.self.now c.args.name c.get_index_of.result c.self.view_is c.get_index_of.ensures.index c.in_default.is in
    rw none c.no_replica.ensures

pub returns-in_default-clause-after : goal.returns-in_default-clause-after
returns-in_default-clause-after g c =
    let none = none_found c.self.inside.kept.entries c.args.self.now c.args.name c.get_index_of.result c.self.view_is c.get_index_of.ensures.index c.in_default.is in
    rw none refl

pub returns-in-Ok-clause-reply : goal.returns-in-Ok-clause-reply
returns-in-Ok-clause-reply g c =
    let found = finds c.self.inside.kept.entries c.args.self.now c.args.name c.in-Some.place _ c.get_index_of.result c.self.view_is c.get_index_of.ensures.index c.in-Some.is (c.index_mut.ensures.value ∙ ap Some (sym c.behind-self.view_is)) in
    let turn = deleted_turn g.row.U c.args.self.now c.args.name _ c.args.item.now found.member (sym c.in-Ok.ensures.refused) in
    ap (λ v. Changed v) c.in-Ok.ensures.made ∙ sym (ap (λ (t : Turn). t.reply) turn)

pub returns-in-Ok-clause-after : goal.returns-in-Ok-clause-after
returns-in-Ok-clause-after g c =
    let found = finds c.self.inside.kept.entries c.args.self.now c.args.name c.in-Some.place _ c.get_index_of.result c.self.view_is c.get_index_of.ensures.index c.in-Some.is (c.index_mut.ensures.value ∙ ap Some (sym c.behind-self.view_is)) in
    let turn = deleted_turn g.row.U c.args.self.now c.args.name _ c.args.item.now found.member (sym c.in-Ok.ensures.refused) in
    ap (state_among g.row.U) (found.put c.delete.new.self ∙ ap (λ n. members_with c.args.name n c.args.self.now) c.in-Ok.ensures.after) ∙ sym (ap (λ (t : Turn). t.state) turn)

pub returns-clause-reply : goal.returns-clause-reply
returns-clause-reply g c =
    let found = finds c.self.inside.kept.entries c.args.self.now c.args.name c.in-Some.place _ c.get_index_of.result c.self.view_is c.get_index_of.ensures.index c.in-Some.is (c.index_mut.ensures.value ∙ ap Some (sym c.behind-self.view_is)) in
    sym (ap (λ (t : Turn). t.reply) (undeleted_turn g.row.U c.args.self.now c.args.name _ c.args.item.now c.in-Err.fault found.member (sym c.in-Err.ensures.refused)))

pub returns-clause-after : goal.returns-clause-after
returns-clause-after g c =
    let value = c.index_mut.ensures.value ∙ ap Some (sym c.behind-self.view_is) in
    let found = finds c.self.inside.kept.entries c.args.self.now c.args.name c.in-Some.place _ c.get_index_of.result c.self.view_is c.get_index_of.ensures.index c.in-Some.is value in
    ap (state_among g.row.U) (rests c.self.inside.kept.entries c.args.self.now c.in-Some.place _ c.delete.new.self c.self.view_is value c.in-Err.ensures.err)
    ∙ sym (ap (λ (t : Turn). t.state) (undeleted_turn g.row.U c.args.self.now c.args.name _ c.args.item.now c.in-Err.fault found.member (sym c.in-Err.ensures.refused)))
