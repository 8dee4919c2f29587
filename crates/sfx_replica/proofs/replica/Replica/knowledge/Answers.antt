use Rattle.std.proofs.Common.{◌≡◌, subst}
use Rattle.std.specs.Prelude.{IfOk}
use Rattle.sfx_knowledge.specs.Forms.{with_own}
use Rattle.sfx_knowledge.specs.Knowledge.{HasTicks}
use Rattle.sfx_model.specs.members.Members.{Member, vector_at}
use Rattle.sfx_replica.proofs.replica.Replica.knowledge.Goals as goal

pub returns-clause-ticks : goal.returns-clause-ticks
returns-clause-ticks g c =
    subst (λ (m : Member). IfOk c.with_own.result (λ k. HasTicks g.row.U k (vector_at m))) c.self.view_is c.with_own.ensures.ticks

pub returns-clause-list : goal.returns-clause-list
returns-clause-list g c =
    subst (λ (m : Member). IfOk c.with_own.result (λ k. k ≡ with_own g.row.U m.id m.clock m.knowledge)) c.self.view_is c.with_own.ensures.list

pub returns-clause-form : goal.returns-clause-form
returns-clause-form g c = c.with_own.ensures.form
