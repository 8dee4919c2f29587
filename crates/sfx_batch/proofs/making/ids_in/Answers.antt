use Rattle.std.proofs.Common.{◌∙◌, append_assoc, sym, arith}
use Rattle.std.proofs.lemmas.List.{append-nil}
use Rattle.sfx_provider.proofs.LeavesLemmas.{rests_on}
use Rattle.sfx_batch.proofs.ListedIds.{first_is, listed_fewer, listed_on, listed_out, listed_up}
use Rattle.sfx_batch.proofs.making.ids_in.Goals as goal

pub walk-smaller : goal.walk-smaller
walk-smaller g c =
    let items = (g.P.Provider.state c.args.source.now).items in
    let found = sym c.in_ok-id.ensures.value ∙ c.in-Some.is in
    listed_fewer c.walk.place items c.in-Some.id c.keeps.ensures.consistent.ascending
    (first_is c.walk.place items c.in-Some.id (rw c.walk.invariant.rests.same at found))

pub returns-clause-value : goal.returns-clause-value
returns-clause-value g c =
    let p = g.P.Provider in
    let none = sym c.in_ok-id.ensures.value ∙ c.in_default.is in
    let gone = listed_out c.walk.place c.args.to.now (p.state c.args.source.now).items (rw c.walk.invariant.rests.same at none) in
    let listed = c.walk.invariant.listed in
    let all = rw (gone, append-nil) at listed in
    all

pub returns-then-not-in_range-clause-value : goal.returns-then-not-in_range-clause-value
returns-then-not-in_range-clause-value g c =
    let items = (g.P.Provider.state c.args.source.now).items in
    let found = sym c.in_ok-id.ensures.value ∙ c.in-Some.is in
    let first = first_is c.walk.place items c.in-Some.id (rw c.walk.invariant.rests.same at found) in
    let none = listed_up c.walk.place c.args.to.now items c.in-Some.id c.keeps.ensures.consistent.ascending first c.if-not-in_range.ensures in
    let listed = c.walk.invariant.listed in
    let all = rw (none, append-nil) at listed in
    all

pub walk-preserved : goal.walk-preserved
walk-preserved g c =
    let p = g.P.Provider in
    let items = (p.state c.args.source.now).items in
    let found = sym c.in_ok-id.ensures.value ∙ c.in-Some.is in
    let first = first_is c.walk.place items c.in-Some.id (rw c.walk.invariant.rests.same at found) in
    let on = listed_on c.walk.place c.args.to.now items c.in-Some.id c.keeps.ensures.consistent.ascending first c.if-not-in_range.ensures in
    let listed = c.walk.invariant.listed in
    let fell = c.in_ok-id.ensures.cause in
    let low = c.walk.invariant.faults in record {
      listed = rw (c.in_ok-push.ensures.items, append_assoc) (rw on at listed);
      rests = rests_on g.met.P.Provider.came_read c.walk.invariant.rests c.in_ok-id.ensures.rests;
      faults = omega (arith, low, fell);
    }
