-- The faults of reading to the end, told apart.
use Rattle.std.proofs.Common.{◌≡◌, Err, IsErrOf, ◌∙◌}
use Rattle.sfx_outside.specs.declared.read_fault.ReadFault.{ReadFault}
use Rattle.sfx_outside.specs.declared.read_fault.ReadFault.TheVariants.{Failed, TooLong, Memory}

-- a failed read is not too long a text
pub failed_not_long : {T : Type 0} (fault : ReadFault) → fault ≡ Failed → IsErrOf {T = T} (Err fault) TooLong → ⊥
failed_not_long fault is long = cc

-- running out of memory is not too long a text
pub memory_not_long : {T : Type 0} (fault : ReadFault) → fault ≡ Memory → IsErrOf {T = T} (Err fault) TooLong → ⊥
memory_not_long fault is long = cc

-- running out of memory is no failed read
pub memory_not_failed : {T : Type 0} (fault : ReadFault) → fault ≡ Memory → IsErrOf {T = T} (Err fault) Failed → ⊥
memory_not_failed fault is failed = cc

-- too long a text is no failed read
pub long_not_failed : {T : Type 0} → IsErrOf {T = T} (Err TooLong) Failed → ⊥
long_not_failed failed = cc
