use Rattle.std.proofs.Common.{length, refl, ◌<◌, subst, sym}
use Rattle.std.proofs.lemmas.Option.{slice_get_read}
use Rattle.sfx_segments.proofs.PlaceValues.{begins_at_place}
use Rattle.sfx_segments.proofs.segments.Segments.start.Goals as goal

pub returns-clause-place : goal.returns-clause-place
returns-clause-place g c =
    let items = c.self.inside.items.items in
    let within : c.args.i < length items = subst (λ xs. c.args.i < length xs) (sym c.self.view_is) c.requires in
    (begins_at_place items c.args.i c.index.result.now c.self.invariant (slice_get_read items (length items) c.args.i c.index.result.now refl within c.index.ensures)).0
