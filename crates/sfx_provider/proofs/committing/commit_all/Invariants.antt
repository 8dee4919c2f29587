use Rattle.std.proofs.Common.{◌≤◌, drop}
use Rattle.sfx_provider.specs.Leaves.{Arrives}
use Rattle.sfx_provider.proofs.CourseLemmas.{Stands}
use Rattle.sfx_provider.proofs.committing.commit_all.Given as goal

abbrev pub invariant-commits : goal.invariant-commits
invariant-commits g l = let p = g.P.Provider in record {
  stands : Stands g.row.U l.fn.commits (λ made. Arrives p.state p.kept p.settled p.came l.fn.provider l.provider made (p.state l.provider)) (p.state l.fn.provider) (drop l.commit-index l.commits) (p.state l.provider);
  faults : p.faults l.fn.provider ≤ p.faults l.provider;
}
