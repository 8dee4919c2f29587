use Rattle.std.proofs.Common.{◌+◌, Some, None, sym, ap, ◌∙◌, if◌then◌else◌}
use Rattle.sfx_ids.specs.Prefix.{BeginsReplica}
use Rattle.sfx_ids.proofs.StepsLemmas.{run_more, longest_at_stop, longest_at_end}
use Rattle.sfx_ids.proofs.ReplicaPrefixes.{next_place, replica_prefixes}
use Rattle.sfx_ids.proofs.prefix.replica_prefix_len.Goals as goal

pub loop-place-preserved : goal.loop-place-preserved
loop-place-preserved c =
    let test = sym c.fits_place.ensures ∙ c.if-not-fits_place.false in
    run_more next_place 0 c.loop-place.place (c.loop-place.place + 1) c.args.text.now c.loop-place.place c.loop-place-test.true c.loop-place.invariant
    (ap (λ t. if t then Some (c.loop-place.place + 1) else None) test)

pub returns-then-not-fits_place : goal.returns-then-not-fits_place
returns-then-not-fits_place c =
    let test = sym c.fits_place.ensures ∙ c.if-not-fits_place.true in
    longest_at_stop next_place BeginsReplica replica_prefixes c.args.text.now c.loop-place.place c.loop-place.place c.loop-place-test.true c.loop-place.invariant
    (ap (λ t. if t then Some (c.loop-place.place + 1) else None) test)

pub returns : goal.returns
returns c =
    longest_at_end next_place BeginsReplica replica_prefixes c.args.text.now c.loop-place.place c.loop-place.place c.loop-place-test.false c.loop-place.invariant
