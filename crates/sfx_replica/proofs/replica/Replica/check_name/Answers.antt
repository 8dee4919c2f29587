use Rattle.std.proofs.Common.{ap, sym, ◌∙◌}
use Rattle.std.specs.Option.{option_copied}
use Rattle.sfx_item.proofs.NamesAreDecided.{fault_decided}
use Rattle.sfx_model.specs.members.Members.{Member}
use Rattle.sfx_replica.proofs.EditsKeepConsistency.{refused_name, refused_clash, accepted_name}
use Rattle.sfx_replica.proofs.replica.Replica.check_name.Goals as goal

pub returns-in-Err-BadName : goal.returns-in-Err-BadName
returns-in-Err-BadName g c =
    let wrong = rw c.in-Err-BadName.field-0-is at c.in-Err-BadName.ensures.err in
    let fault = (fault_decided c.args.name.now c.in-Err-BadName.at).1 wrong in
    rw c.in-Err-BadName.at-is (refused_name c.args.self.now (option_copied c.args.except) c.args.name.now c.in-Err-BadName.at fault)

pub returns-in-Some : goal.returns-in-Some
returns-in-Some g c =
    let except = option_copied c.args.except in
    let items = ap (λ (m : Member). m.items) c.self.view_is in
    let found = sym c.first_clash.ensures ∙ c.in-Some.is in
    let there = rw (c.as_slice.ensures.value, c.in-Ok.ensures.ok.1, items) at found in
    refused_clash c.args.self.now except c.args.name.now c.in-Some.id c.in-Ok.ensures.ok.0 there

pub returns : goal.returns
returns g c =
    let except = option_copied c.args.except in
    let items = ap (λ (m : Member). m.items) c.self.view_is in
    let found = sym c.first_clash.ensures ∙ c.in-None.is in
    let there = rw (c.as_slice.ensures.value, c.in-Ok.ensures.ok.1, items) at found in
    accepted_name c.args.self.now except c.args.name.now c.in-Ok.ensures.ok.0 there
