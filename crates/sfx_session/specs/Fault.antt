-- Whom a session's fault blames, and which faults are refusals.
use Rattle.std.specs.Prelude.{Bool, true, false}
use Rattle.sfx_provider.specs.declared.provider_fault.ProviderFault.{ProviderFault}
use Rattle.sfx_provider.specs.declared.provider_fault.ProviderFault.TheVariants as provider_faults
use Rattle.sfx_session.specs.declared.session_fault.SessionFault.{SessionFault}
use Rattle.sfx_session.specs.declared.session_fault.SessionFault.TheVariants.{SameReplica, Ahead, NotBuilt, Source, Destination, Memory}
use Rattle.sfx_session.specs.declared.side.Side.{Side}
use Rattle.sfx_session.specs.declared.side.Side.TheVariants as sides

-- The fault is one of the source's provider.
abbrev pub blames_source : SessionFault → Bool
blames_source SameReplica = false
blames_source (Ahead tick clock) = false
blames_source NotBuilt = false
blames_source Source = true
blames_source Destination = false
blames_source Memory = false

-- The fault is one of the destination's provider.
abbrev pub blames_destination : SessionFault → Bool
blames_destination SameReplica = false
blames_destination (Ahead tick clock) = false
blames_destination NotBuilt = false
blames_destination Source = false
blames_destination Destination = true
blames_destination Memory = false

-- The fault is one of the provider on this side.
abbrev pub blames : Side → SessionFault → Bool
blames sides.Source fault = blames_source fault
blames sides.Destination fault = blames_destination fault

-- The session was refused, before anything changed.
abbrev pub refuses_session : SessionFault → Bool
refuses_session SameReplica = true
refuses_session (Ahead tick clock) = true
refuses_session NotBuilt = true
refuses_session Source = false
refuses_session Destination = false
refuses_session Memory = false

-- The session was refused because the source is ahead of the destination.
abbrev pub source_is_ahead : SessionFault → Bool
source_is_ahead SameReplica = false
source_is_ahead (Ahead tick clock) = true
source_is_ahead NotBuilt = false
source_is_ahead Source = false
source_is_ahead Destination = false
source_is_ahead Memory = false

-- The fault of a session whose provider on this side failed.
abbrev pub storage_fault : Side → SessionFault
storage_fault sides.Source = Source
storage_fault sides.Destination = Destination

-- The fault of a session whose provider on this side answered with that fault.
abbrev pub fault_at : Side → ProviderFault → SessionFault
fault_at side provider_faults.Failed = storage_fault side
fault_at side provider_faults.Memory = Memory
