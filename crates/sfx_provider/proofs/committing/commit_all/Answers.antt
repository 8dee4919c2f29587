use Rattle.std.proofs.Common.{◌+◌, drop, arith}
use Rattle.sfx_provider.specs.Leaves.{Arrives}
use Rattle.sfx_provider.proofs.CourseLemmas.{opened, stands_off, stands_on}
use Rattle.sfx_provider.proofs.AnswerLemmas.{on_err_always}
use Rattle.sfx_provider.proofs.LeavesLemmas.{arrives_on}
use Rattle.sfx_provider.proofs.committing.commit_all.Goals as goal

pub commits-preserved : goal.commits-preserved
commits-preserved g c =
    let p = g.P.Provider in
    let first = c.args.provider.now in
    let commits = c.args.commits.now in
    let i = c.commits.commit-index in
    let done = c.in_ok-commit.ensures in
    let low = c.commits.invariant.faults in
    let risen = done.cause in record {
      stands = stands_on g.row.U commits
          (λ made. Arrives p.state p.kept p.settled p.came first c.commits.provider made (p.state c.commits.provider))
          (λ made. Arrives p.state p.kept p.settled p.came first c.commit.new.self made (p.state c.commit.new.self)) (p.state first)
          (p.state c.commits.provider) (p.state c.commit.new.self) (drop i commits) (drop (i + 1) commits) c.commit-item.result
          c.commits.invariant.stands (opened commits i c.commit-item.result c.commit-item.is c.commits-test.true) done.arrives.at
          (λ made came. rw done.arrives.at (arrives_on g.met.P.Provider.came_on came done.arrives));
      faults = omega (arith, low, risen);
    }

pub returns-in_err-commit-clause-breaks_off : goal.returns-in_err-commit-clause-breaks_off
returns-in_err-commit-clause-breaks_off g c =
    let p = g.P.Provider in
    let first = c.args.provider.now in
    let commits = c.args.commits.now in
    let i = c.commits.commit-index in
    on_err_always c.from_residual.result
    (stands_off g.row.U commits (drop i commits) (drop (i + 1) commits) c.commit-item.result (p.state first) (p.state c.commits.provider)
    g.met.P.Provider.came_on c.commits.invariant.stands (opened commits i c.commit-item.result c.commit-item.is c.commits-test.true) c.in_err-commit.ensures.breaks_off)
