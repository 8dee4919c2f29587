-- A change at a destination where conflicts are left alone.
use Rattle.std.proofs.Common.{◌≡◌, Bor, ℕ, ◌+◌, ◌<◌, nat_lt, List, length, drop, get_or, Option, Some, None, refl, subst}
use Rattle.sfx_model.specs.declared.mode.Mode.TheVariants.{Normal}
use Rattle.sfx_model.specs.sessions.Batch.{BatchData, IsBatch, IsSent}
use Rattle.sfx_model.specs.members.Consistent.{IsConsistent}
use Rattle.sfx_item.specs.Item.{ItemState, ItemData}
use Rattle.sfx_model.specs.members.Members.{Member, state_of}
use Rattle.sfx_model.specs.sessions.Rules.{RulesData}
use Rattle.sfx_model.specs.sessions.Session.{Outcome}
use Rattle.sfx_provider.proofs.CommitLemmas.{commits_consistent, stored}
use Rattle.sfx_apply.specs.Rules.{LeavesConflicts}
use Rattle.sfx_apply.specs.Turns.{WorkData, destination, in_turn, plan_at, seen_views}
use Rattle.sfx_apply.specs.Work.{KnowsNoMore, Waits}
use Rattle.sfx_apply.proofs.SkippingDrafts.{IsWholeHere}
use Rattle.sfx_apply.proofs.WaitingCommits.{change_waits}
use Rattle.sfx_apply.proofs.LaidCommits.{Lays, change_laid}
use Rattle.sfx_apply.proofs.TurnsLemmas.{AtTurn, TurnAt, turn_at}
use Rattle.sfx_apply.proofs.SkippingPlans.{SkipsAll, change_plan}
use Rattle.sfx_apply.proofs.BatchProgress.{Stands}

-- What is known of the plan of a change at the destination.
pub plan_skips :
    (units : ℕ) (b : BatchData) (rules : RulesData) (change : ItemData) (w : WorkData) (m : Member)
    → IsConsistent units m → Waits units w.pending m → LeavesConflicts rules → IsSent units b change.id change.state
    → SkipsAll units change.id change.state (state_of (destination units w m).items change.id) (destination units w m).items
    (plan_at units b rules change (destination units w m))
plan_skips units b rules change w m good waits skip sent =
    change_plan units b rules (destination units w m) change skip good.some sent.whole (whole (state_of (destination units w m).items change.id) refl)
  where
    whole : (o : Option ItemState) → state_of (destination units w m).items change.id ≡ o → IsWholeHere units o
    whole None e = tt
    whole (Some own) e = ((commits_consistent units w.pending m good (stored units w.pending m good waits.form) waits.fits).items change.id own e).whole

-- The entry of a change is laid over as it is to be.
pub skipped_lays :
    (units : ℕ) (b : BatchData) (rules : RulesData) (change : ItemData) (w : WorkData) (m : Member)
    → IsConsistent units m → Waits units w.pending m → KnowsNoMore units m b → IsBatch units b → IsSent units b change.id change.state
    → LeavesConflicts rules → b.mode ≡ Normal
    → Lays units b rules change w m
skipped_lays units b rules change w m good waits no_more batch sent skip normal =
    let skips = plan_skips units b rules change w m good waits skip sent in record {
      laid = change_laid units b change (plan_at units b rules change (destination units w m)) w.pending m good waits batch normal skips;
      waits = change_waits units b change (plan_at units b rules change (destination units w m)) w.pending m good waits batch no_more sent skips;
    }

-- The batch has come to the change at an index.
pub at_turn :
    {U : ℕ} {Came : List Member → Type 0} {group : ℕ} {out : Outcome} {m : Member} {w : WorkData}
    (b : BatchData) (rules : RulesData) (refs : List (Bor ItemData)) (i : ℕ) (x : Bor ItemData)
    → IsBatch U b → seen_views refs ≡ in_turn b.changes → x ≡ get_or refs i x → i < length refs
    → LeavesConflicts rules → b.mode ≡ Normal → IsConsistent U m
    → Stands Came U b rules group out m w (drop i (seen_views refs))
    → AtTurn Came U b rules group out m w x.now (drop (i + 1) (seen_views refs)) (nat_lt (i + 1) (length refs))
at_turn {U} {Came} {group} {out} {m} {w} b rules refs i x batch order is inside skip normal good stands =
    let turn : TurnAt U b refs i x = turn_at b refs i x batch order is inside in record {
      stands = subst (λ (xs : List ItemData). Stands Came U b rules group out m w xs) turn.opened stands;
      good = good;
      lays = skipped_lays U b rules x.now w m good stands.waits stands.no_more batch turn.sent skip normal;
      left = turn.more;
    }
