use Rattle.sfx_model.proofs.sessions.LearnedKnowledge.{ticks_laid, laid_learned, learned_item, learned_range, forgot_both}
use Rattle.sfx_model.proofs.sessions.StoredKnowledge.{stored_form, stored_has, stored_is}
use Rattle.sfx_model.proofs.sessions.JoinedForgets.{forgot_all, forgets_form, forgets_are}
use Rattle.sfx_knowledge.specs.Knowledge.{learned_ticks}
use Rattle.sfx_model.proofs.laws.results.results_follow.Goals as goal

pub returns-clause-ticks : goal.returns-clause-ticks
returns-clause-ticks c units own tick lo hi skipped here there k n = ticks_laid units own tick (learned_ticks lo hi skipped here there) k n

pub returns-clause-laid : goal.returns-clause-laid
returns-clause-laid c = laid_learned

pub returns-clause-item : goal.returns-clause-item
returns-clause-item c = learned_item

pub returns-clause-range : goal.returns-clause-range
returns-clause-range c = learned_range

pub returns-clause-forgot : goal.returns-clause-forgot
returns-clause-forgot c = forgot_both

pub returns-clause-form : goal.returns-clause-form
returns-clause-form c = stored_form

pub returns-clause-stored : goal.returns-clause-stored
returns-clause-stored c = stored_has

pub returns-clause-known : goal.returns-clause-known
returns-clause-known c = stored_is

pub returns-clause-forgets_form : goal.returns-clause-forgets_form
returns-clause-forgets_form c = forgets_form

pub returns-clause-joined : goal.returns-clause-joined
returns-clause-joined c = forgot_all

pub returns-clause-forgets : goal.returns-clause-forgets
returns-clause-forgets c = forgets_are
