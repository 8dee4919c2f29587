use Rattle.sfx_knowledge.specs.Forgotten.{IsForgottenWithinAt}
use Rattle.sfx_model.specs.sessions.Class.{is_forgotten_within}
use Rattle.sfx_model.proofs.sessions.MemberKnowledgeLemmas.{forgotten_within_decided}
use Rattle.sfx_settle.proofs.UnitTests.{same_test}
use Rattle.sfx_settle.proofs.known.is_forgotten_within.Goals as goal

pub returns : goal.returns
returns g c =
    same_test c.within_item.result (is_forgotten_within g.row.U c.args.forgotten.now c.args.known.now c.args.id.now)
    (IsForgottenWithinAt g.row.U c.args.forgotten.now c.args.known.now c.args.id.now)
    c.within_item.ensures.value
    (forgotten_within_decided g.row.U c.args.forgotten.now c.args.known.now c.args.id.now)
