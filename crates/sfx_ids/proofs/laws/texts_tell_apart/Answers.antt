use Rattle.sfx_ids.proofs.CutTexts.{same_replica, same_item_text, same_version_text, same_cut_text}
use Rattle.sfx_ids.proofs.ReplicaTexts.{uuid_reads, length-replica_text}
use Rattle.sfx_ids.proofs.laws.texts_tell_apart.Goals as goal

pub returns : goal.returns
returns c = record {
  uuid = uuid_reads;
  replica_length = length-replica_text;
  replicas = same_replica;
  items = same_item_text;
  versions = same_version_text;
  cuts = same_cut_text;
}
