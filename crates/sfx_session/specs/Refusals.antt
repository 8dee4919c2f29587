-- When a session is refused before anything changes, and why: the first cause in the stated order.
use Rattle.std.specs.Prelude.{ℕ, if◌then◌else◌, nat_eq, Option, Some, None}
use Rattle.std.specs.Option.{option_map, option_or}
use Rattle.sfx_model.specs.declared.mode.Mode.{Mode}
use Rattle.sfx_model.specs.declared.mode.Mode.TheVariants.{Normal, Recover}
use Rattle.sfx_model.specs.sessions.Batch.{mode_of}
use Rattle.sfx_model.specs.sessions.MemberKnowledge.{laid_known, ahead_of}
use Rattle.sfx_model.specs.members.Members.{Member}
use Rattle.sfx_session.specs.declared.session_fault.SessionFault.{SessionFault}
use Rattle.sfx_session.specs.declared.session_fault.SessionFault.TheVariants.{SameReplica, Ahead, NotBuilt}

-- Source and destination are one replica.
abbrev pub same_replica : Member → Member → Option SessionFault
same_replica source destination = if nat_eq source.id destination.id then Some SameReplica else None

-- The source knows or has forgotten more of the destination than this one made.
abbrev pub ahead : ℕ → Member → Member → Option SessionFault
ahead units source destination =
    option_map (λ tick. Ahead tick destination.clock) (ahead_of destination (laid_known units source) source.forgotten)

-- A session of this mode is not built.
abbrev pub not_built : Mode → Option SessionFault
not_built Normal = None
not_built Recover = Some NotBuilt

-- The session may not begin.
abbrev pub session_refusal : ℕ → Member → Member → Option SessionFault
session_refusal units source destination =
    option_or (same_replica source destination)
    (option_or (ahead units source destination)
    (not_built (mode_of units source.forgotten (laid_known units destination))))
