-- Whom a fault of the applying of a batch blames, and when a batch is refused.
use Rattle.std.specs.Prelude.{Bool, true, false, Option, IsSome, Result}
use Rattle.std.specs.Option.{option_map}
use Rattle.sfx_model.specs.sessions.Batch.{BatchData}
use Rattle.sfx_model.specs.sessions.MemberKnowledge.{ahead_of}
use Rattle.sfx_model.specs.members.Members.{Member}
use Rattle.sfx_provider.specs.Answer.{Refuses}
use Rattle.sfx_apply.specs.declared.apply_fault.ApplyFault.{ApplyFault}
use Rattle.sfx_apply.specs.declared.apply_fault.ApplyFault.TheVariants.{Ahead, Provider, Memory}

-- The fault is one of the provider.
abbrev pub blames_provider : ApplyFault → Bool
blames_provider (Ahead tick clock) = false
blames_provider Provider = true
blames_provider Memory = false

-- The batch was refused because it is ahead of the replica.
abbrev pub batch_is_ahead : ApplyFault → Bool
batch_is_ahead (Ahead tick clock) = true
batch_is_ahead Provider = false
batch_is_ahead Memory = false

-- The batch is ahead of the replica: it knows or has forgotten more of it than this one made.
abbrev pub batch_refusal : Member → BatchData → Option ApplyFault
batch_refusal m b = option_map (λ tick. Ahead tick m.clock) (ahead_of m b.made_with b.forgotten)

-- The answer agrees with what refuses the batch, and where something does, all is as it was before.
pub record RefusesAtRest {T : Type 0} (AsBefore : Type 0) (refusal : Option ApplyFault) (answer : Result T ApplyFault) : Type 0 where
  pub refused : Refuses batch_is_ahead answer refusal
  pub rests : IsSome refusal → AsBefore
