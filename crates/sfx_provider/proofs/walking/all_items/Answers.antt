use Rattle.std.proofs.Common.{◌∙◌, ap, sym, arith}
use Rattle.std.proofs.lemmas.List.{append-nil}
use Rattle.sfx_item.specs.Item.{ItemData}
use Rattle.sfx_provider.proofs.LeavesLemmas.{rests_on, rests_self}
use Rattle.sfx_provider.proofs.WalkLemmas.{ended, fewer, from_start, walked_on}
use Rattle.sfx_provider.proofs.walking.all_items.Goals as goal

pub walk-init : goal.walk-init
walk-init g c = record {
  walked = rw c.new-items.ensures.items (from_start (g.P.Provider.state c.args.provider.now).items);
  rests = rests_self g.met.P.Provider.came_self c.args.provider.now;
  faults = omega arith;
}

pub walk-smaller : goal.walk-smaller
walk-smaller g c =
    let found = sym c.in_ok-item.ensures.value ∙ c.in-Some.is in
    let id = ap (λ (x : ItemData). x.id) c.item.view_is in
    rw id (fewer c.walk.from (g.P.Provider.state c.args.provider.now).items c.in-Some.item
    c.keeps.ensures.consistent.ascending (rw c.walk.invariant.rests.same at found))

pub walk-preserved : goal.walk-preserved
walk-preserved g c =
    let p = g.P.Provider in
    let found = sym c.in_ok-item.ensures.value ∙ c.in-Some.is in
    let id = ap (λ (x : ItemData). x.id) c.item.view_is in
    let ascending = c.keeps.ensures.consistent.ascending in
    let on = walked_on c.walk.from (p.state c.args.provider.now).items c.walk.items.items c.in-Some.item ascending
    (rw c.walk.invariant.rests.same at found) c.walk.invariant.walked in
    let fell = c.in_ok-item.ensures.cause in
    let low = c.walk.invariant.faults in record {
      walked = rw (c.in_ok-push.ensures.items, id) on;
      rests = rests_on g.met.P.Provider.came_read c.walk.invariant.rests c.in_ok-item.ensures.rests;
      faults = omega (arith, low, fell);
    }

pub returns-clause-value : goal.returns-clause-value
returns-clause-value g c =
    let p = g.P.Provider in
    let none = sym c.in_ok-item.ensures.value ∙ c.in_default.is in
    let gone = ended c.walk.from (p.state c.args.provider.now).items (rw c.walk.invariant.rests.same at none) in
    let walked = c.walk.invariant.walked in
    let all = rw (gone, append-nil) at walked in
    all
