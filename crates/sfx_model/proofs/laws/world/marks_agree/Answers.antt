use Rattle.sfx_model.proofs.world.AgreementLemmas.{agreement_shape, shape_agrees}
use Rattle.sfx_model.proofs.laws.world.marks_agree.Goals as goal

pub returns-clause-shape : goal.returns-clause-shape
returns-clause-shape c = agreement_shape

pub returns-clause-agreement : goal.returns-clause-agreement
returns-clause-agreement c = shape_agrees
