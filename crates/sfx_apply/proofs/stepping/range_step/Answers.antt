use Rattle.std.proofs.Common.{◌∷◌, [], OnErr, OnOk, inl, lit<, refl, ap, sym, subst, ◌∙◌, le_refl}
use Rattle.sfx_model.specs.sessions.Session.{lefts}
use Rattle.sfx_provider.specs.Leaves.{Arrives, BreaksOff}
use Rattle.sfx_provider.proofs.LeavesLemmas.{breaks_still, rests_self}
use Rattle.sfx_provider.proofs.AnswerLemmas.{ok_never, ok_then, on_err_always}
use Rattle.sfx_apply.specs.Turns.{WorkData, destination}
use Rattle.sfx_apply.specs.Work.{Waits}
use Rattle.sfx_apply.proofs.FaultLemmas.{cause_memory}
use Rattle.sfx_apply.proofs.WaitingCommits.{range_waits}
use Rattle.sfx_apply.proofs.stepping.range_step.Goals as goal

pub commit_if-requires : goal.commit_if-requires
commit_if-requires g c =
    let m = g.P.Provider.state c.args.provider.now in
    let w = c.args.work.now in
    let b = c.args.batch.now in (
      lit< tt,
      (
        c.requires.settled,
        subst (λ (x : WorkData). Waits g.row.U x.pending m) (sym c.in_ok-learn.ensures)
            (range_waits g.row.U b (lefts w.entries) w.pending m c.keeps-2.ensures.consistent c.requires.waits c.keeps.ensures.batch c.requires.no_more),
      ),
    )

pub returns-in_err-learn : goal.returns-in_err-learn
returns-in_err-learn g c =
    let p = g.P.Provider in
    let now = c.args.provider.now in
    let r = c.from_residual.result in
    let is = c.from_residual.ensures.1 in record {
      entries = ok_never _ _ r is;
      arrives = ok_never _ _ r is;
      breaks_off = on_err_always r
          (breaks_still _ _ g.met.P.Provider.settled_kept c.requires.settled (rests_self g.met.P.Provider.came_self now) (inl refl));
      consistent = c.keeps-2.ensures.consistent;
      cause = cause_memory (p.faults now) (p.faults now) r is (le_refl _);
    }

pub returns : goal.returns
returns g c =
    let p = g.P.Provider in
    let old = c.args.provider.now in
    let new = c.commit_if.new.provider in
    let m = p.state old in
    let r = c.commit_if.result in
    let learned = c.in_ok-learn.ensures in
    let done = c.commit_if.ensures in record {
      entries = ok_then r (λ is. ap (λ (x : WorkData). x.entries) is ∙ ap (λ (x : WorkData). x.entries) learned) done.work;
      arrives = subst (λ (x : WorkData). OnOk r (Arrives p.state p.kept p.settled p.came old new (destination g.row.U x m ∷ []) (destination g.row.U x m))) learned done.arrives;
      breaks_off = subst (λ (x : WorkData). OnErr r (BreaksOff p.kept p.came p.broke old new (destination g.row.U x m ∷ []) (m ∷ destination g.row.U x m ∷ []))) learned done.breaks_off;
      consistent = c.keeps-2.ensures.consistent;
      cause = done.cause;
    }
