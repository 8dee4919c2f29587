use Rattle.std.proofs.Common.{refl}
use Rattle.sfx_outside.proofs.memory_sink.MemorySinkSink.write.Goals as goal

pub returns-then-next_fails-clause-fails : goal.returns-then-next_fails-clause-fails
returns-then-next_fails-clause-fails c =
    rw (← c.self.view_is) (λ _. c.next_fails.ensures.listed.0 c.if-next_fails.true, λ _. refl)
