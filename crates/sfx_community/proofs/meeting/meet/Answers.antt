use Rattle.std.proofs.Common.{◌≡◌, None, Some, ap}
use Rattle.std.proofs.lemmas.Result.{err_from_is_err_and}
use Rattle.sfx_provider.specs.Answer.{When}
use Rattle.sfx_session.specs.Fault.{refuses_session}
use Rattle.sfx_session.specs.Refusals.{session_refusal}
use Rattle.sfx_session.specs.Report.{report_of}
use Rattle.sfx_community.specs.Turn.{built_rules}
use Rattle.sfx_community.proofs.SessionTurns.{of_copies}
use Rattle.sfx_community.proofs.meeting.meet.Goals as goal

pub returns-in_err-report-clause-refused : goal.returns-in_err-report-clause-refused
returns-in_err-report-clause-refused g c =
    let one = ap (λ p. p.member) c.in_ok-from.ensures in
    let other = ap (λ p. p.member) c.in_ok-to.ensures in
    let (fault, is, same) = err_from_is_err_and c.from_residual-in_err-report.result c.from_residual-in_err-report.ensures.1 in
    let refused = of_copies (λ m n. When (refuses_session c.in_err-report.field-0.0) (session_refusal g.row.U m n ≡ Some c.in_err-report.field-0.0)) one other c.in_err-report.ensures.refused in
    rw (is, same) refused

pub returns-clause-refused : goal.returns-clause-refused
returns-clause-refused g c =
    let one = ap (λ p. p.member) c.in_ok-from.ensures in
    let other = ap (λ p. p.member) c.in_ok-to.ensures in
    of_copies (λ m n. session_refusal g.row.U m n ≡ None) one other c.in_ok-report.ensures.refused

pub returns-clause-report : goal.returns-clause-report
returns-clause-report g c =
    let one = ap (λ p. p.member) c.in_ok-from.ensures in
    let other = ap (λ p. p.member) c.in_ok-to.ensures in
    of_copies (λ m n. c.in_ok-report.report ≡ report_of g.row.U m n built_rules c.args.options.now.batch c.args.options.now.cut) one other c.in_ok-report.ensures.report
