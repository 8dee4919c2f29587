use Rattle.std.proofs.Common.{◌≡◌, ◌≤◌, None, length}
use Rattle.sfx_segments.specs.Segments.{IsPlace}
use Rattle.sfx_model.specs.sessions.MemberKnowledge.{ahead_of, laid_known}
use Rattle.sfx_model.specs.members.Readings.{items_from}
use Rattle.sfx_model.specs.sessions.Session.{session_of}
use Rattle.sfx_provider.specs.Leaves.{Arrives, Rests}
use Rattle.sfx_session.proofs.TravelLemmas.{Travels}
use Rattle.sfx_session.proofs.sessions.session.Given as goal
use Rattle.sfx_settle.specs.Rules.{rules_view}

abbrev pub invariant-batches : goal.invariant-batches
invariant-batches g l =
    let p = g.P.Provider in
    let q = g.Q.Provider in
    let rules = rules_view g.M.Merger.meaning l.rules in
    let source = p.state l.fn.source in
    let first = q.state l.fn.destination in
    let now = q.state l.destination in record {
      travels : Travels (λ xs. Arrives q.state q.kept q.settled q.came l.fn.destination l.destination xs now) g.row.U source l.mode rules l.size l.group first (session_of g.row.U source first rules l.size l.fn.cut) now l.travel;
      place : IsPlace l.travel.from;
      ahead : ahead_of now (laid_known g.row.U source) source.forgotten ≡ None;
      settled : q.settled l.destination;
      source : Rests p.state p.kept p.settled p.came l.fn.source l.source;
      source_faults : p.faults l.fn.source ≤ p.faults l.source;
      faults : q.faults l.fn.destination ≤ q.faults l.destination;
    }

abbrev pub decreases-batches : goal.decreases-batches
decreases-batches g l = length (items_from l.travel.from (g.P.Provider.state l.fn.source).items)
