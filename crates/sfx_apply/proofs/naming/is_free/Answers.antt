use Rattle.std.proofs.Common.{◌∙◌}
use Rattle.sfx_apply.proofs.ClashLookups.{free_here, free_there}
use Rattle.sfx_apply.proofs.naming.is_free.Goals as goal

pub returns-then-clashes_with_one-clause-value : goal.returns-then-clashes_with_one-clause-value
returns-then-clashes_with_one-clause-value g c =
    let pending = c.args.work.now.pending in
    free_here pending.drops pending.puts (g.P.Provider.state c.args.provider.now).items c.puts-puts.result.now
    c.args.id.now c.args.name.now c.clashes_with_one.result c.requires.waits.keeps c.requires.waits.fits.puts c.puts-puts.ensures
    c.clashes_with_one.ensures c.if-clashes_with_one.true

pub returns-clause-value : goal.returns-clause-value
returns-clause-value g c =
    let pending = c.args.work.now.pending in
    free_there pending.drops c.as_slice.result.now pending.puts (g.P.Provider.state c.args.provider.now).items c.puts-puts.result.now
    c.args.id.now c.args.name.now c.clashes_with_one.result c.are_put.result c.requires.waits.keeps c.requires.waits.fits.puts
    c.keeps.ensures.consistent.ascending c.puts-puts.ensures c.clashes_with_one.ensures c.if-clashes_with_one.false
    (c.as_slice.ensures.value ∙ c.in_ok-clashing.ensures.value) c.are_put.ensures
