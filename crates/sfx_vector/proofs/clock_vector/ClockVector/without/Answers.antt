use Rattle.std.proofs.Common.{ap, sym, ◌∙◌, arith, length}
use Rattle.sfx_vector.specs.Clocks.{tick_of}
use Rattle.sfx_vector.specs.Places.{entry_place}
use Rattle.sfx_vector.proofs.ClocksLemmas.{place-taken, AreFrom-remove, tick-remove, changes}
use Rattle.sfx_vector.proofs.clock_vector.ClockVector.without.Goals as goal

pub remove-requires : goal.remove-requires
remove-requires c =
    let items = c.self.inside.entries.items in
    let replica = c.args.r.now in
    let place = c.place_of-place.ensures.place ∙ ap (λ xs. entry_place xs replica) c.as_slice.ensures.value in
    let tick = c.get.ensures ∙ ap (λ xs. tick_of xs replica) (sym c.self.view_is) in
    omega (arith, place, place-taken items replica (omega (arith, tick)), ap length c.as_slice.ensures.value)

pub invariant_of-self : goal.invariant_of-self
invariant_of-self c =
    let items = c.self.inside.entries.items in
    let replica = c.args.r.now in
    let place = c.place_of-place.ensures.place ∙ ap (λ xs. entry_place xs replica) c.as_slice.ensures.value in
    let tick = c.get.ensures ∙ ap (λ xs. tick_of xs replica) (sym c.self.view_is) in
    rw (c.remove.ensures.items, place) (AreFrom-remove 0 replica items c.self.invariant (omega (arith, tick)))

pub returns-then-get-gt0 : goal.returns-then-get-gt0
returns-then-get-gt0 c =
    let items = c.self.inside.entries.items in
    let replica = c.args.r.now in
    let place = c.place_of-place.ensures.place ∙ ap (λ xs. entry_place xs replica) c.as_slice.ensures.value in
    let tick = c.get.ensures ∙ ap (λ xs. tick_of xs replica) (sym c.self.view_is) in
    rw (c.remove.ensures.items, place, ← c.self.view_is)
    (changes items _ replica 0 (λ q. tick-remove 0 replica items q c.self.invariant (omega (arith, tick))))
