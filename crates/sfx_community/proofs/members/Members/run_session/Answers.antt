use Rattle.std.proofs.Common.{Err, ap}
use Rattle.sfx_community.proofs.SessionTurns.{both_there, met_after, met_reply, unmet_after, unmet_reply}
use Rattle.sfx_community.proofs.members.Members.run_session.Goals as goal

pub returns-in-Ok-clause-reply : goal.returns-in-Ok-clause-reply
returns-in-Ok-clause-reply g c =
    let meets = both_there c.args.self.now c.args.source c.args.destination c.in-Some.from.now c.in-Some-find.to.now _ _ c.in-Some.ensures c.in-Some-find.ensures c.from.view_is c.to.view_is in
    met_reply g.row.U c.args.self.now c.args.source c.args.destination _ _ c.args.options.now c.in-Ok.met.report c.take.result
    meets c.in-Ok.ensures.refused c.in-Ok.ensures.report c.take.ensures.reply

pub returns-in-Ok-clause-after : goal.returns-in-Ok-clause-after
returns-in-Ok-clause-after g c =
    let meets = both_there c.args.self.now c.args.source c.args.destination c.in-Some.from.now c.in-Some-find.to.now _ _ c.in-Some.ensures c.in-Some-find.ensures c.from.view_is c.to.view_is in
    met_after g.row.U c.args.self.now c.take.new.self c.args.source c.args.destination _ _ c.in-Ok.met.destination c.args.options.now c.take.result
    meets c.in-Ok.ensures.refused c.in-Ok.ensures.destination c.take.ensures.after

pub returns-clause-reply : goal.returns-clause-reply
returns-clause-reply g c =
    let meets = both_there c.args.self.now c.args.source c.args.destination c.in-Some.from.now c.in-Some-find.to.now _ _ c.in-Some.ensures c.in-Some-find.ensures c.from.view_is c.to.view_is in
    unmet_reply g.row.U c.args.self.now c.args.source c.args.destination _ _ c.args.options.now c.in-Err.fault c.session_refusal.result
    meets c.in-Err.ensures.refused (λ is. c.in-Err.ensures.source_stays (ap (λ f. Err f) is)) (λ is. c.in-Err.ensures.destination_stays (ap (λ f. Err f) is)) c.session_refusal.ensures

pub returns-clause-after : goal.returns-clause-after
returns-clause-after g c =
    let meets = both_there c.args.self.now c.args.source c.args.destination c.in-Some.from.now c.in-Some-find.to.now _ _ c.in-Some.ensures c.in-Some-find.ensures c.from.view_is c.to.view_is in
    unmet_after g.row.U c.args.self.now c.args.source c.args.destination _ _ c.args.options.now c.in-Err.fault c.session_refusal.result
    meets c.in-Err.ensures.refused (λ is. c.in-Err.ensures.source_stays (ap (λ f. Err f) is)) (λ is. c.in-Err.ensures.destination_stays (ap (λ f. Err f) is)) c.session_refusal.ensures
