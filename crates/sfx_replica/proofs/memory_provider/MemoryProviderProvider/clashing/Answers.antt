use Rattle.std.proofs.lemmas.Result.{err_from_is_err_and}
use Rattle.sfx_replica.proofs.CountedCalls.{reads_failed, reads_memory, reads_ok}
use Rattle.sfx_replica.proofs.memory_provider.MemoryProviderProvider.clashing.Goals as goal

pub returns-in_err-begin-clause-call : goal.returns-in_err-begin-clause-call
returns-in_err-begin-clause-call g c =
    let (fault, is, same) = err_from_is_err_and c.from_residual.result c.from_residual.ensures.1 in
    reads_failed c.args.self.now c.begin.new.self c.from_residual.result fault c.in_err-begin.field-0.0 is same c.in_err-begin.ensures

pub returns-in_err-begin-clause-value : goal.returns-in_err-begin-clause-value
returns-in_err-begin-clause-value g c =
    let (fault, is, same) = err_from_is_err_and c.from_residual.result c.from_residual.ensures.1 in
    rw is tt

pub returns-in_err-clashing-clause-call : goal.returns-in_err-clashing-clause-call
returns-in_err-clashing-clause-call g c =
    let (fault, is, same) = err_from_is_err_and c.from_residual-in_err-clashing.result c.from_residual-in_err-clashing.ensures.1 in
    reads_memory c.args.self.now c.begin.new.self c.in_ok-begin.field-0 c.from_residual-in_err-clashing.result fault is same c.in_ok-begin.ensures

pub returns-in_err-clashing-clause-value : goal.returns-in_err-clashing-clause-value
returns-in_err-clashing-clause-value g c =
    let (fault, is, same) = err_from_is_err_and c.from_residual-in_err-clashing.result c.from_residual-in_err-clashing.ensures.1 in
    rw is tt

pub returns-clause-call : goal.returns-clause-call
returns-clause-call g c = reads_ok c.args.self.now c.begin.new.self c.in_ok-begin.field-0 c.in_ok-clashing.field-0 c.in_ok-begin.ensures
