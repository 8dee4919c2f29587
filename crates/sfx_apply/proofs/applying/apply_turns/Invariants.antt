use Rattle.std.proofs.Common.{◌≤◌, drop}
use Rattle.sfx_model.specs.sessions.Session.{outcome_of}
use Rattle.sfx_settle.specs.Rules.{rules_view}
use Rattle.sfx_apply.specs.Turns.{seen_views}
use Rattle.sfx_apply.proofs.BatchProgress.{Arrived, Stands}
use Rattle.sfx_apply.proofs.applying.apply_turns.Given as goal

-- The work stands between the state at the beginning and what comes of the batch, and the provider came by
-- what is committed so far.
abbrev pub invariant-changes : goal.invariant-changes
invariant-changes g l =
    let p = g.P.Provider in
    let rules = rules_view g.M.Merger.meaning l.rules in
    let first = p.state l.fn.provider in record {
      stands :
          Stands (Arrived p.state p.kept p.settled p.came l.fn.provider l.provider first) g.row.U l.batch rules l.group
          (outcome_of g.row.U l.batch rules l.fn.work.budget first) (p.state l.provider) l.work (drop l.index (seen_views l.turns));
      settled : p.settled l.provider;
      faults : p.faults l.fn.provider ≤ p.faults l.provider;
    }
