use Rattle.std.proofs.Common.{◌<◌, ◌||◌, ◌+◌, List, length, ap, sym, ◌∙◌, arith, drop}
use Rattle.sfx_community.specs.State.{KeptMember, is_id_taken}
use Rattle.sfx_community.proofs.MapEntries.{entries_len, id_asked}
use Rattle.sfx_community.proofs.members.Members.is_taken.Goals as goal

pub returns-then-names_at : goal.returns-then-names_at
returns-then-names_at g c =
    let members = ap (λ (ms : List KeptMember). length ms) (sym c.self.view_is) ∙ entries_len c.self.inside.kept.entries in
    let within : c.loop-i.i < length c.args.self.now = let less = c.loop-i-test.true in let len = c.len-i-end.ensures.len in omega (arith, less, len, members) in
    let asked = id_asked c.args.id.now c.args.self.now c.loop-i.i within in
    let found = sym c.names_at.ensures ∙ c.if-names_at.true in
    sym (c.loop-i.invariant ∙ asked ∙ ap (λ b. b || is_id_taken c.args.id.now (drop (c.loop-i.i + 1) c.args.self.now)) found)

pub loop-i-preserved : goal.loop-i-preserved
loop-i-preserved g c =
    let members = ap (λ (ms : List KeptMember). length ms) (sym c.self.view_is) ∙ entries_len c.self.inside.kept.entries in
    let within : c.loop-i.i < length c.args.self.now = let less = c.loop-i-test.true in let len = c.len-i-end.ensures.len in omega (arith, less, len, members) in
    let asked = id_asked c.args.id.now c.args.self.now c.loop-i.i within in
    let other = sym c.names_at.ensures ∙ c.if-names_at.false in
    c.loop-i.invariant ∙ asked ∙ ap (λ b. b || is_id_taken c.args.id.now (drop (c.loop-i.i + 1) c.args.self.now)) other
