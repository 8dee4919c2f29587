use Rattle.std.proofs.Common.{List, [], ◌∷◌, ◌++◌, ap, sym, ◌∙◌}
use Rattle.sfx_replica.specs.Edits.{new_member}
use Rattle.sfx_community.specs.State.{KeptMember, as_record, kept_as, members_view, state_among}
use Rattle.sfx_community.specs.Turn.{Turn}
use Rattle.sfx_community.proofs.JoinTurns.{asked_name, id_turn, insert_new, joined_turn, name_turn}
use Rattle.sfx_community.proofs.members.Members.add.Goals as goal

pub returns-then-contains_key-clause-reply : goal.returns-then-contains_key-clause-reply
returns-then-contains_key-clause-reply g c =
    let taken = asked_name c.self.inside.kept.entries c.args.self.now c.args.name _ _ c.self.view_is c.contains_key.ensures c.if-contains_key.true in
    sym (ap (λ (t : Turn). t.reply) (name_turn g.row.U c.args.self.now c.args.name c.args.id c.requires taken))

pub returns-then-contains_key-clause-after : goal.returns-then-contains_key-clause-after
returns-then-contains_key-clause-after g c =
    let taken = asked_name c.self.inside.kept.entries c.args.self.now c.args.name _ _ c.self.view_is c.contains_key.ensures c.if-contains_key.true in
    sym (ap (λ (t : Turn). t.state) (name_turn g.row.U c.args.self.now c.args.name c.args.id c.requires taken))

pub returns-then-is_taken-clause-reply : goal.returns-then-is_taken-clause-reply
returns-then-is_taken-clause-reply g c =
    let free = asked_name c.self.inside.kept.entries c.args.self.now c.args.name _ _ c.self.view_is c.contains_key.ensures c.if-contains_key.false in
    let taken = sym c.is_taken.ensures ∙ c.if-is_taken.true in
    sym (ap (λ (t : Turn). t.reply) (id_turn g.row.U c.args.self.now c.args.name c.args.id c.requires free taken))

pub returns-then-is_taken-clause-after : goal.returns-then-is_taken-clause-after
returns-then-is_taken-clause-after g c =
    let free = asked_name c.self.inside.kept.entries c.args.self.now c.args.name _ _ c.self.view_is c.contains_key.ensures c.if-contains_key.false in
    let taken = sym c.is_taken.ensures ∙ c.if-is_taken.true in
    sym (ap (λ (t : Turn). t.state) (id_turn g.row.U c.args.self.now c.args.name c.args.id c.requires free taken))

pub returns-clause-reply : goal.returns-clause-reply
returns-clause-reply g c =
    let free = asked_name c.self.inside.kept.entries c.args.self.now c.args.name _ _ c.self.view_is c.contains_key.ensures c.if-contains_key.false in
    let other = sym c.is_taken.ensures ∙ c.if-is_taken.false in
    sym (ap (λ (t : Turn). t.reply) (joined_turn g.row.U c.args.self.now c.args.name c.args.id c.requires free other))

pub returns-clause-after : goal.returns-clause-after
returns-clause-after g c =
    let free = asked_name c.self.inside.kept.entries c.args.self.now c.args.name _ _ c.self.view_is c.contains_key.ensures c.if-contains_key.false in
    let gone = sym c.contains_key.ensures ∙ c.if-contains_key.false in
    let other = sym c.is_taken.ensures ∙ c.if-is_taken.false in
    let new = insert_new c.self.inside.kept.entries c.args.name c.in_ok-kept.kept gone in
    let entries = ap (λ es. members_view es) c.in_ok-insert.ensures.entries ∙ (new
    ∙ (ap (λ k. members_view c.self.inside.kept.entries ++ kept_as c.args.name k ∷ []) c.in_ok-kept.ensures
    ∙ ap (λ (ms : List KeptMember). ms ++ kept_as c.args.name (as_record (new_member c.args.id)) ∷ []) c.self.view_is)) in
    ap (state_among g.row.U) entries ∙ sym (ap (λ (t : Turn). t.state) (joined_turn g.row.U c.args.self.now c.args.name c.args.id c.requires free other))
