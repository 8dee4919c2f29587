-- Whom a fault of the making of a batch blames.
use Rattle.std.specs.Prelude.{Bool, true, false}
use Rattle.sfx_batch.specs.declared.batch_fault.BatchFault.{BatchFault}
use Rattle.sfx_batch.specs.declared.batch_fault.BatchFault.TheVariants.{Provider, Memory}

-- The fault is one of the source's provider.
abbrev pub is_of_source : BatchFault → Bool
is_of_source Provider = true
is_of_source Memory = false
