use Rattle.sfx_ids.proofs.ReplicaTexts.{refused}
use Rattle.sfx_ids.proofs.replica_text.parse_replica.Goals as goal

pub returns-in-Err : goal.returns-in-Err
returns-in-Err c = refused _ _ c.args.text.now c.in-Err.is c.parse_str.ensures.ok
