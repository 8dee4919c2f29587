use Rattle.sfx_community.proofs.TakenIds.{taken_has_member}
use Rattle.sfx_community.proofs.laws.taken_ids_have_members.Goals as goal

pub returns : goal.returns
returns c = taken_has_member
