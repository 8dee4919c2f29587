-- What a session achieves where it leaves nothing: the destination knows what both sides knew.
use Rattle.std.specs.Prelude.{◌≡◌, ℕ, List, [], ◌∷◌, None}
use Rattle.sfx_ids.specs.declared.cut.Cut.TheVariants.{Start, End}
use Rattle.sfx_knowledge.specs.Knowledge.{HasTicks, Ticks, joined, laid_over, tick_at}
use Rattle.sfx_model.specs.declared.session_end.SessionEnd.TheVariants.{Done}
use Rattle.sfx_model.specs.sessions.MemberKnowledge.{ahead_of, laid_known}
use Rattle.sfx_model.specs.members.Members.{Member}
use Rattle.sfx_model.specs.sessions.Session.{SessionResult, StepData, lefts}
use Rattle.sfx_model.specs.world.Sets.{Has}

-- No entry of the session's batches left a unit alone.
abbrev pub LeavesNoUnit : SessionResult → Type 0
LeavesNoUnit r = (s : StepData) → Has s r.course.steps → lefts s.applied.entries ≡ []

-- The session came to its end, and left no unit alone.
pub record LeavesNothing (r : SessionResult) : Type 0 where
  pub end : r.end ≡ Done
  pub lefts : LeavesNoUnit r

-- The destination after the session.
abbrev pub member_after : SessionResult → Member
member_after r = r.course.member

-- The greater of the ticks that both members know, at each place and unit for each replica, and for the
-- destination itself this clock.
abbrev pub joined_ticks : ℕ → Member → Member → ℕ → Ticks
joined_ticks units source m clock =
    laid_over m.id clock (joined (tick_at (laid_known units m)) (tick_at (laid_known units source)))

-- The destination knows at every place and unit what both members knew before, and of itself its clock.
abbrev pub KnowsBoth : ℕ → Member → Member → Member → Type 0
KnowsBoth units source m after = HasTicks units (laid_known units after) (joined_ticks units source m after.clock)

-- A session from a to b, and one back that follows at once: both leave nothing, neither is refused because a side
-- is ahead, and the one back draws no tick.
pub record GoesBothWays (units : ℕ) (a b : Member) (there back : SessionResult) : Type 0 where
  pub leaves_there : LeavesNothing there
  pub leaves_back : LeavesNothing back
  pub ahead_there : ahead_of b (laid_known units a) a.forgotten ≡ None
  pub ahead_back : ahead_of a (laid_known units (member_after there)) (member_after there).forgotten ≡ None
  pub quiet : (member_after back).clock ≡ a.clock

-- The session took one batch, which ranges over all places and has no changes.
pub record IsStill (r : SessionResult) : Type 0 where
  pub step : StepData
  pub alone : r.course.steps ≡ step ∷ []
  pub from : step.batch.from ≡ Start
  pub to : step.batch.to ≡ End
  pub changes : step.batch.changes ≡ []
