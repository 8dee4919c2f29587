use Rattle.std.proofs.Common.{ap, sym, ◌∙◌, arith, length}
use Rattle.sfx_vector.specs.Clocks.{tick_of}
use Rattle.sfx_vector.specs.Places.{entry_place}
use Rattle.sfx_vector.proofs.ClocksLemmas.{place-within, place-taken, AreFrom-set, tick-set, AreFrom-insert, tick-insert, raised}
use Rattle.sfx_vector.proofs.clock_vector.ClockVector.raise.Goals as goal

pub index_mut-requires : goal.index_mut-requires
index_mut-requires c =
    let items = c.self.inside.entries.items in
    let replica = c.args.v.now.replica in
    let place = c.place_of-place.ensures.place ∙ ap (λ xs. entry_place xs replica) c.as_slice.ensures.value in
    let had = c.get-tick.ensures ∙ ap (λ xs. tick_of xs replica) (sym c.self.view_is) in
    omega (arith, place, place-taken items replica (omega (arith, had)), ap length c.as_slice.ensures.value)

pub invariant_of-self : goal.invariant_of-self
invariant_of-self c =
    let items = c.self.inside.entries.items in
    let replica = c.args.v.now.replica in
    let place = c.place_of-place.ensures.place ∙ ap (λ xs. entry_place xs replica) c.as_slice.ensures.value in
    let had = c.get-tick.ensures ∙ ap (λ xs. tick_of xs replica) (sym c.self.view_is) in
    rw place (AreFrom-set 0 replica c.args.v.now.tick items c.get.ensures.valid c.self.invariant (omega (arith, had)))

pub insert-requires : goal.insert-requires
insert-requires c =
    let items = c.self.inside.entries.items in
    let replica = c.args.v.now.replica in
    let place = c.place_of-place.ensures.place ∙ ap (λ xs. entry_place xs replica) c.as_slice.ensures.value in
    omega (arith, place, place-within items replica, ap length c.as_slice.ensures.value)

pub invariant_of-self-in-Continue-1 : goal.invariant_of-self-in-Continue-1
invariant_of-self-in-Continue-1 c =
    let items = c.self.inside.entries.items in
    let replica = c.args.v.now.replica in
    let place = c.place_of-place.ensures.place ∙ ap (λ xs. entry_place xs replica) c.as_slice.ensures.value in
    let had = c.get-tick.ensures ∙ ap (λ xs. tick_of xs replica) (sym c.self.view_is) in
    rw (c.in_ok-insert.ensures.items, place)
    (AreFrom-insert 0 replica c.args.v.now.tick items (omega arith) c.place_of-place.ensures.fits c.get.ensures.valid c.self.invariant (omega (arith, had)))

pub returns-then-tick-gt0-clause-ok : goal.returns-then-tick-gt0-clause-ok
returns-then-tick-gt0-clause-ok c =
    let items = c.self.inside.entries.items in
    let replica = c.args.v.now.replica in
    let tick = c.args.v.now.tick in
    let place = c.place_of-place.ensures.place ∙ ap (λ xs. entry_place xs replica) c.as_slice.ensures.value in
    let had = c.get-tick.ensures ∙ ap (λ xs. tick_of xs replica) (sym c.self.view_is) in
    rw (place, ← c.self.view_is)
    (raised items _ replica tick (omega (arith, had)) (λ q. tick-set 0 replica tick items q c.self.invariant (omega (arith, had))))

pub returns-in_ok-insert-clause-ok : goal.returns-in_ok-insert-clause-ok
returns-in_ok-insert-clause-ok c =
    let items = c.self.inside.entries.items in
    let replica = c.args.v.now.replica in
    let tick = c.args.v.now.tick in
    let place = c.place_of-place.ensures.place ∙ ap (λ xs. entry_place xs replica) c.as_slice.ensures.value in
    let had = c.get-tick.ensures ∙ ap (λ xs. tick_of xs replica) (sym c.self.view_is) in
    rw (c.in_ok-insert.ensures.items, place, ← c.self.view_is)
    (raised items _ replica tick (omega (arith, had)) (tick-insert replica tick items))
