use Rattle.sfx_knowledge.proofs.SkipsLemmas.{same_skips}
use Rattle.sfx_knowledge.proofs.ForgottenLemmas.{same_forgets, none_forgotten}
use Rattle.sfx_knowledge.proofs.laws.lists_are_their_members.Goals as goal

pub returns : goal.returns
returns c = record { forgotten = same_forgets; nothing = none_forgotten; skips = same_skips }
