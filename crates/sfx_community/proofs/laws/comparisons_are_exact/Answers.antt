use Rattle.sfx_community.proofs.ComparisonsAreExact.{equal_exact, knows_exact, never_same_but_different}
use Rattle.sfx_community.proofs.laws.comparisons_are_exact.Goals as goal

pub returns-clause-equal : goal.returns-clause-equal
returns-clause-equal c = equal_exact

pub returns-clause-never : goal.returns-clause-never
returns-clause-never c = never_same_but_different

pub returns-clause-knows : goal.returns-clause-knows
returns-clause-knows c = knows_exact
