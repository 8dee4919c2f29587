use Rattle.std.proofs.Common.{◌≡◌, Some, length, refl, sym, ap, ◌∙◌}
use Rattle.sfx_reply.specs.declared.reason.Reason.TheVariants.{BadCount}
use Rattle.sfx_reply.specs.declared.reply.Reply.TheVariants.{Created, Refused}
use Rattle.sfx_community.specs.State.{members_with, state_among}
use Rattle.sfx_community.specs.Turn.{Turn}
use Rattle.sfx_community.proofs.EditTurns.{created_turn, err_anyhow, finds, none_found, refusal_after, refusal_reply, rests, uncounted, uncreated_turn}
use Rattle.sfx_community.proofs.members.Members.create.Goals as goal

pub returns-in_default-clause-reply : goal.returns-in_default-clause-reply
returns-in_default-clause-reply g c =
    let none = none_found c.self.inside.kept.entries c.args.self.now c.args.name c.get_index_of.result c.self.view_is c.get_index_of.ensures.index c.in_default.is in
    rw none c.no_replica.ensures

pub returns-in_default-clause-after : goal.returns-in_default-clause-after
returns-in_default-clause-after g c =
    let none = none_found c.self.inside.kept.entries c.args.self.now c.args.name c.get_index_of.result c.self.view_is c.get_index_of.ensures.index c.in_default.is in
    rw none refl

pub returns-then-given-clause-reply : goal.returns-then-given-clause-reply
returns-then-given-clause-reply g c =
    let count : length c.as_slice-given.result.now ≡ length c.args.values = ap length c.as_slice-given.ensures in
    let turn = uncounted c.self.inside.kept.entries c.args.self.now g.row.U c.args.name c.in-Some.place c.args.values c.get_index_of.result c.self.view_is c.get_index_of.ensures.index c.in-Some.is
    (λ same. c.if-given.true (count ∙ same)) in
    ap (λ n. Refused (BadCount n g.row.U)) count ∙ sym (ap (λ (t : Turn). t.reply) turn)

pub returns-then-given-clause-after : goal.returns-then-given-clause-after
returns-then-given-clause-after g c =
    let count : length c.as_slice-given.result.now ≡ length c.args.values = ap length c.as_slice-given.ensures in
    let turn = uncounted c.self.inside.kept.entries c.args.self.now g.row.U c.args.name c.in-Some.place c.args.values c.get_index_of.result c.self.view_is c.get_index_of.ensures.index c.in-Some.is
    (λ same. c.if-given.true (count ∙ same)) in
    sym (ap (λ (t : Turn). t.state) turn)

pub returns-in-Ok-clause-reply : goal.returns-in-Ok-clause-reply
returns-in-Ok-clause-reply g c =
    let found = finds c.self.inside.kept.entries c.args.self.now c.args.name c.in-Some.place _ c.get_index_of.result c.self.view_is c.get_index_of.ensures.index c.in-Some.is (c.index_mut.ensures.value ∙ ap Some (sym c.behind-self.view_is)) in
    let whole : length c.args.values ≡ g.row.U = ap length (sym c.as_slice-given.ensures) ∙ c.if-given.false in
    let turn = created_turn g.row.U c.args.self.now c.args.name _ c.args.values found.member whole (rw c.into_vec.ensures at c.in-Ok.ensures.refused) in
    ap (λ v. Created v) c.in-Ok.ensures.made ∙ sym (ap (λ (t : Turn). t.reply) turn)

pub returns-in-Ok-clause-after : goal.returns-in-Ok-clause-after
returns-in-Ok-clause-after g c =
    let found = finds c.self.inside.kept.entries c.args.self.now c.args.name c.in-Some.place _ c.get_index_of.result c.self.view_is c.get_index_of.ensures.index c.in-Some.is (c.index_mut.ensures.value ∙ ap Some (sym c.behind-self.view_is)) in
    let whole : length c.args.values ≡ g.row.U = ap length (sym c.as_slice-given.ensures) ∙ c.if-given.false in
    let turn = created_turn g.row.U c.args.self.now c.args.name _ c.args.values found.member whole (rw c.into_vec.ensures at c.in-Ok.ensures.refused) in
    let after = rw c.into_vec.ensures at c.in-Ok.ensures.after in
    ap (state_among g.row.U) (found.put c.create.new.self ∙ ap (λ n. members_with c.args.name n c.args.self.now) after) ∙ sym (ap (λ (t : Turn). t.state) turn)

pub returns-clause-reply : goal.returns-clause-reply
returns-clause-reply g c =
    let found = finds c.self.inside.kept.entries c.args.self.now c.args.name c.in-Some.place _ c.get_index_of.result c.self.view_is c.get_index_of.ensures.index c.in-Some.is (c.index_mut.ensures.value ∙ ap Some (sym c.behind-self.view_is)) in
    let whole : length c.args.values ≡ g.row.U = ap length (sym c.as_slice-given.ensures) ∙ c.if-given.false in
    refusal_reply c.refusal.result c.in-Err.fault _ _ c.refusal.ensures (rw c.into_vec.ensures at c.in-Err.ensures.refused)
    (uncreated_turn g.row.U c.args.self.now c.args.name _ c.args.values c.in-Err.fault found.member whole)

pub returns-clause-after : goal.returns-clause-after
returns-clause-after g c =
    let value = c.index_mut.ensures.value ∙ ap Some (sym c.behind-self.view_is) in
    let found = finds c.self.inside.kept.entries c.args.self.now c.args.name c.in-Some.place _ c.get_index_of.result c.self.view_is c.get_index_of.ensures.index c.in-Some.is value in
    let whole : length c.args.values ≡ g.row.U = ap length (sym c.as_slice-given.ensures) ∙ c.if-given.false in
    refusal_after c.refusal.result c.in-Err.fault _ _ _ c.refusal.ensures (rw c.into_vec.ensures at c.in-Err.ensures.refused)
    (uncreated_turn g.row.U c.args.self.now c.args.name _ c.args.values c.in-Err.fault found.member whole)
    (ap (state_among g.row.U) (rests c.self.inside.kept.entries c.args.self.now c.in-Some.place _ c.create.new.self c.self.view_is value c.in-Err.ensures.err))

pub returns-clause-err : goal.returns-clause-err
returns-clause-err g c =
    let value = c.index_mut.ensures.value ∙ ap Some (sym c.behind-self.view_is) in
    err_anyhow c.refusal.result (rests c.self.inside.kept.entries c.args.self.now c.in-Some.place _ c.create.new.self c.self.view_is value c.in-Err.ensures.err)
