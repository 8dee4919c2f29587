use Rattle.sfx_model.proofs.members.SnapshotsStay.{carried_stays}
use Rattle.sfx_model.proofs.laws.snapshots.snapshots_stay.Goals as goal

pub returns : goal.returns
returns c = carried_stays
