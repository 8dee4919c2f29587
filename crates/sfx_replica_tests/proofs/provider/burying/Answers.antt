use Rattle.std.proofs.Common.{◌≡◌, ◌∙◌, ap, refl, subst}
use Rattle.std.specs.Prelude.{IfOk}
use Rattle.sfx_provider.specs.Commit.{CommitData, commit_of}
use Rattle.sfx_provider.specs.Head.{HeadData, head_of}
use Rattle.sfx_replica_tests.proofs.TombstoneCommits.{burying_fits_by}
use Rattle.sfx_replica_tests.proofs.provider.burying.Goals as goal

pub returns : goal.returns
returns w c =
    let commit : CommitData = record { clock = c.commit.inside.clock; knowledge = c.commit.inside.knowledge; forgotten = c.commit.inside.forgotten; puts = c.commit.inside.puts.items; drops = c.commit.inside.drops.items } in
    let head : c.expect.result ≡ head_of 2 c.args.replica.now = subst (λ r. IfOk r (λ (h : HeadData). h ≡ head_of 2 c.args.replica.now)) c.expect.ensures c.head.ensures in
    let is : commit ≡ commit_of (head_of 2 c.args.replica.now) = c.commit.view_is ∙ c.into_commit-commit.ensures ∙ ap commit_of head in
    burying_fits_by 2 c.args.replica.now c.args.id.now c.in-Some.field-0.now.state commit c.push.new.self.items
    c.id.ensures.consistent c.in-Some.ensures.state is
    (rw (c.push.ensures.items, c.expect-2.ensures, c.creation.ensures) refl)
