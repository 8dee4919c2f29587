use Rattle.std.proofs.Common.{◌≡◌, drop}
use Rattle.sfx_community.specs.State.{is_id_taken}
use Rattle.sfx_community.proofs.members.Members.is_taken.Given as goal

-- the replicas that are left give the answer
abbrev pub invariant-loop-i : goal.invariant-loop-i
invariant-loop-i g l = is_id_taken l.id l.self ≡ is_id_taken l.id (drop l.i l.self)
