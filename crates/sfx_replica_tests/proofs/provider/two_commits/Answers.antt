use Rattle.std.proofs.Common.{◌≡◌, ◌∙◌, ◌∷◌, [], ap, subst}
use Rattle.std.specs.Prelude.{IfOk}
use Rattle.sfx_provider.specs.Commit.{commit_of}
use Rattle.sfx_provider.specs.Head.{HeadData, head_of}
use Rattle.sfx_replica_tests.proofs.TombstoneCommits.{both_fit}
use Rattle.sfx_replica_tests.proofs.provider.two_commits.Goals as goal

pub returns : goal.returns
returns w c =
    let head : c.expect.result ≡ head_of 2 c.args.replica.now = subst (λ r. IfOk r (λ (h : HeadData). h ≡ head_of 2 c.args.replica.now)) c.expect.ensures c.head.ensures in
    both_fit 2 c.args.replica.now c.into_commit-unchanged.result c.dropping.result c.expect-2.result.items
    c.id.ensures.consistent (c.into_commit-unchanged.ensures ∙ ap commit_of head) c.dropping.ensures
    (subst (λ r. IfOk r (λ v. v.items ≡ c.into_commit-unchanged.result ∷ c.dropping.result ∷ [])) c.expect-2.ensures c.from_array.ensures.items)
