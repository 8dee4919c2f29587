use Rattle.std.proofs.Common.{◌≡◌, ◌<◌, Some, None, length, slice_get, arith}
use Rattle.std.proofs.lemmas.Result.{err_from_is_err_and}
use Rattle.sfx_item.specs.Row.{IsCellRow}
use Rattle.sfx_model.specs.members.States.{cells_at}
use Rattle.sfx_replica.proofs.EditsKeepConsistency.{created_row, free_name, first_value_there, not_refused, refused_first, refused_next}
use Rattle.sfx_replica.proofs.replica.Replica.new_item.Goals as goal

pub unwrap-row-requires : goal.unwrap-row-requires
unwrap-row-requires g c =
    let some : 0 < length c.args.values.items = let least = c.self.invariant.some in let whole = c.requires.whole in omega (arith, least, whole) in
    let first : slice_get c.args.values.items 0 ≡ Some c.index.result.now = first_value_there c.args.values.items c.index.result.now some c.index.ensures in
    let free = rw c.bytes.ensures at c.in_ok-check_name.ensures in
    let good = (free_name c.args.self.now None c.index.result.now free).0 in
    let row : IsCellRow g.row.U (cells_at c.in_ok-version.version c.args.values.items) =
    created_row g.row.U c.in_ok-version.version c.args.values.items c.index.result.now c.requires.whole first good in
    c.in_ok-new.ensures.valid.1 (rw c.in_ok-cells_at.ensures row)

pub returns-in_err-check_name-clause-refused : goal.returns-in_err-check_name-clause-refused
returns-in_err-check_name-clause-refused g c =
    let some : 0 < length c.args.values.items = let least = c.self.invariant.some in let whole = c.requires.whole in omega (arith, least, whole) in
    let first : slice_get c.args.values.items 0 ≡ Some c.index.result.now = first_value_there c.args.values.items c.index.result.now some c.index.ensures in
    let (fault, is, same) = err_from_is_err_and c.from_residual.result c.from_residual.ensures.1 in
    let refused = rw c.bytes.ensures at c.in_err-check_name.ensures in
    rw (is, same) (refused_first c.args.self.now c.args.values.items c.index.result.now c.in_err-check_name.field-0.0 first refused)

pub returns-in_err-check_name-clause-value : goal.returns-in_err-check_name-clause-value
returns-in_err-check_name-clause-value g c =
    let (fault, is, same) = err_from_is_err_and c.from_residual.result c.from_residual.ensures.1 in
    rw is tt

pub returns-in_err-version-clause-refused : goal.returns-in_err-version-clause-refused
returns-in_err-version-clause-refused g c =
    let some : 0 < length c.args.values.items = let least = c.self.invariant.some in let whole = c.requires.whole in omega (arith, least, whole) in
    let first : slice_get c.args.values.items 0 ≡ Some c.index.result.now = first_value_there c.args.values.items c.index.result.now some c.index.ensures in
    let (fault, is, same) = err_from_is_err_and c.from_residual-in_err-version.result c.from_residual-in_err-version.ensures.1 in
    let free = rw c.bytes.ensures at c.in_ok-check_name.ensures in
    rw (is, same) (refused_next c.args.self.now c.args.values.items c.index.result.now c.in_err-version.field-0.0 first free c.in_err-version.ensures.refused)

pub returns-in_err-version-clause-value : goal.returns-in_err-version-clause-value
returns-in_err-version-clause-value g c =
    let (fault, is, same) = err_from_is_err_and c.from_residual-in_err-version.result c.from_residual-in_err-version.ensures.1 in
    rw is tt

pub returns-in_err-cells_at : goal.returns-in_err-cells_at
returns-in_err-cells_at g c =
    let (fault, is, same) = err_from_is_err_and c.from_residual-in_err-cells_at.result c.from_residual-in_err-cells_at.ensures.1 in
    record { refused = rw (is, same) tt; value = rw is tt }

pub returns-in_err-new : goal.returns-in_err-new
returns-in_err-new g c =
    let (fault, is, same) = err_from_is_err_and c.from_residual-in_err-new.result c.from_residual-in_err-new.ensures.1 in
    record { refused = rw (is, same) tt; value = rw is tt }

pub returns-clause-refused : goal.returns-clause-refused
returns-clause-refused g c =
    let some : 0 < length c.args.values.items = let least = c.self.invariant.some in let whole = c.requires.whole in omega (arith, least, whole) in
    let first : slice_get c.args.values.items 0 ≡ Some c.index.result.now = first_value_there c.args.values.items c.index.result.now some c.index.ensures in
    let free = rw c.bytes.ensures at c.in_ok-check_name.ensures in
    not_refused c.args.self.now c.args.values.items c.index.result.now first free c.in_ok-version.ensures.refused
