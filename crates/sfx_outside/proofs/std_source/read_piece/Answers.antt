use Rattle.std.proofs.Common.{◌≡◌, ◌≤◌, ◌++◌, take, drop, length, sym, ◌∙◌, arith, length-append, length-drop, length-take}
use Rattle.std.proofs.lemmas.List.{length-take-le, take-append-le, take_at}
use Rattle.std.proofs.lemmas.Slice.{drop-append-drop}
use Rattle.sfx_outside.proofs.std_source.read_piece.Goals as goal

pub slice_bounds-read_some-end : goal.slice_bounds-read_some-end
slice_bounds-read_some-end g c = omega arith

pub slice_bounds-copy_from_slice-end : goal.slice_bounds-copy_from_slice-end
slice_bounds-copy_from_slice-end g c = omega (arith, length-take c.min-room.result c.args.piece.now, c.in_ok-count.ensures.count)

pub returns-clause-count : goal.returns-clause-count
returns-clause-count g c = omega (arith, length-take c.min-room.result c.args.piece.now, c.in_ok-count.ensures.count)

pub returns-clause-rest : goal.returns-clause-rest
returns-clause-rest g c = drop-append-drop
    c.in_ok-count.count
    c.args.into.now
    c.copy_from_slice.new.self
    c.in_ok-count.count
    (omega arith)
    (c.copy_from_slice.ensures.len ∙ length-take-le c.in_ok-count.count c.args.into.now
    (omega (arith, length-take c.min-room.result c.args.piece.now, c.in_ok-count.ensures.count)))

pub returns-clause-bytes : goal.returns-clause-bytes
returns-clause-bytes g c =
    let count = c.in_ok-count.count in
    let given = c.read_some.new.into in
    let moved = c.copy_from_slice.new.self in
    let given_len = length-take c.min-room.result c.args.piece.now in
    let fits : count ≤ length c.args.into.now = omega (arith, given_len, c.in_ok-count.ensures.count) in
    let moved_len : length moved ≡ count = c.copy_from_slice.ensures.len ∙ length-take-le count c.args.into.now fits in
    let same : take count (moved ++ drop count c.args.into.now) ≡ take count given =
    take_at moved (drop count c.args.into.now) count moved_len ∙ c.copy_from_slice.ensures.after ∙ take-append-le count given (drop c.min-room.result c.args.piece.now) (omega (arith, c.read_some.auto.into, c.in_ok-count.ensures.count)) in (
      rw same c.in_ok-count.ensures.bytes.0,
      λ none some. c.in_ok-count.ensures.bytes.1 none
          (omega (arith, c.read_some.auto.into, given_len, length-append moved (drop count c.args.into.now), length-drop count c.args.into.now)),
    )

pub copy_from_slice-requires : goal.copy_from_slice-requires
copy_from_slice-requires g c =
    let given = c.read_some.new.into in
    let rest = drop c.min-room.result c.args.piece.now in
    length-take-le c.in_ok-count.count c.args.into.now (omega (arith, length-take c.min-room.result c.args.piece.now, c.in_ok-count.ensures.count)) ∙ sym (length-take-le c.in_ok-count.count (given ++ rest) (omega (arith, length-append given rest, c.read_some.auto.into, c.in_ok-count.ensures.count)))
