-- A consistent member is orderly.
use Rattle.std.proofs.Common.{ℕ}
use Rattle.sfx_model.specs.sessions.Acts.{IsOrderly}
use Rattle.sfx_model.specs.members.Consistent.{IsConsistent}
use Rattle.sfx_model.specs.members.Members.{Member}

pub orderly : (units : ℕ) (m : Member) → IsConsistent units m → IsOrderly units m
orderly units m consistent = record {
  some = consistent.some;
  id = consistent.id;
  clock = consistent.clock;
  knowledge = consistent.knowledge;
  forgotten = consistent.forgets;
  ascending = consistent.ascending;
  names = consistent.names;
}
