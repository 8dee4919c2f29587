use Rattle.std.proofs.Common.{◌∙◌, arith, refl, sym}
use Rattle.std.proofs.lemmas.Result.{err_from_is_err_and}
use Rattle.sfx_replica.proofs.RefusalsLemmas.{past_from, refused_state, refused_unit}
use Rattle.sfx_model.specs.members.Members.{state_of}
use Rattle.sfx_replica.proofs.items.target.Goals as goal

pub returns-in_err-place-clause-err : goal.returns-in_err-place-clause-err
returns-in_err-place-clause-err g c =
    let (fault, is, same) = err_from_is_err_and c.from_residual.result c.from_residual.ensures.1 in
    rw (is, same) (λ m value. refused_state g.row.U m c.args.items.now c.args.id.now c.args.k value (state_of c.args.items.now c.args.id.now) c.in_err-place.field-0.0 c.in_err-place.ensures.err)

pub returns-in-Some-clause-ok : goal.returns-in-Some-clause-ok
returns-in-Some-clause-ok g c = record {
  found = c.in_ok-place.ensures.ok.found;
  live = c.in_ok-place.ensures.ok.live;
  same = c.in-Some.ensures.value;
  inside = c.in-Some.ensures.valid.0 refl;
}

pub returns-in-None-clause-err : goal.returns-in-None-clause-err
returns-in-None-clause-err g c m value =
    let live = c.in_ok-place.ensures.ok.live in
    refused_unit g.row.U m c.args.items.now c.args.id.now c.args.k value live.0 live.1 (past_from c.args.k g.row.U c.in-None.ensures.valid.1)
