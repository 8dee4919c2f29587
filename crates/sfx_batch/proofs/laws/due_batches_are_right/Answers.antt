use Rattle.sfx_batch.proofs.DueBatches.{batch_is}
use Rattle.sfx_batch.proofs.laws.due_batches_are_right.Goals as goal

pub returns : goal.returns
returns c = batch_is
