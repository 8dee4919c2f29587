use Rattle.sfx_provider.proofs.CommitLemmas.{commits_consistent, stored}
use Rattle.sfx_provider.proofs.laws.commits_keep_consistency.Goals as goal

pub returns : goal.returns
returns c = λ units commit m good form fits.
    commits_consistent units commit m good (stored units commit m good form) fits
