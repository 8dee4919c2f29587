-- The report of a session.
use Rattle.std.specs.Prelude.{ℕ, ◌≤◌, IfSome, List, Option}
use Rattle.sfx_model.specs.declared.mode.Mode.{Mode}
use Rattle.sfx_model.specs.declared.session_end.SessionEnd.{SessionEnd}
use Rattle.sfx_model.specs.sessions.Batch.{mode_of}
use Rattle.sfx_model.specs.sessions.MemberKnowledge.{laid_known}
use Rattle.sfx_model.specs.members.Members.{Member}
use Rattle.sfx_model.specs.sessions.Rules.{RulesData}
use Rattle.sfx_model.specs.sessions.Session.{StepData, session_of}

-- A report as plain data.
pub record ReportData : Type 0 where
  pub mode : Mode
  pub steps : List StepData
  pub end : SessionEnd

-- The report of a session by these rules.
abbrev pub report_of : ℕ → Member → Member → RulesData → ℕ → Option ℕ → ReportData
report_of units source destination rules size cut = record {
  mode = mode_of units source.forgotten (laid_known units destination);
  steps = (session_of units source destination rules size cut).course.steps;
  end = (session_of units source destination rules size cut).end;
}

-- The numbers of a session are in range: it has batches of at least one change, groups of at least one entry,
-- and where it is cut at least one entry is asked for.
pub record AreLimits (size group : ℕ) (cut : Option ℕ) : Type 0 where
  pub sized : 1 ≤ size
  pub grouped : 1 ≤ group
  pub asked : IfSome cut (λ n. 1 ≤ n)
