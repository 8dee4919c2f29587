use Rattle.sfx_provider.proofs.CommitLemmas.{commits_exact, stored}
use Rattle.sfx_provider.proofs.laws.commits_are_exact.Goals as goal

pub returns : goal.returns
returns c = λ units commit m good form fits. commits_exact units commit m good (stored units commit m good form) fits
