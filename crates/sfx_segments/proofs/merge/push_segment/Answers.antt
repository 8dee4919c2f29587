use Rattle.std.proofs.Common.{◌≡◌, Some, true≢false, sym, subst, ◌∙◌, List}
use Rattle.sfx_ids.specs.declared.cut.Cut.{Cut}
use Rattle.sfx_segments.specs.Merge.{last_value, Extends}
use Rattle.sfx_segments.proofs.PushedValues.{repeated, pushed}
use Rattle.sfx_segments.proofs.merge.push_segment.Goals as goal

pub returns-then-repeats : goal.returns-then-repeats
returns-then-repeats g c =
    repeated c.args.items.now.items c.args.place c.args.value c.requires.prefix
    (subst (λ (xs : List (Cut × g.row.T.Denot)). last_value xs ≡ Some c.args.value) c.as_slice.ensures.value (c.repeats.ensures.0 c.if-repeats.true))

pub returns : goal.returns
returns g c =
    subst (λ (xs : List (Cut × g.row.T.Denot)). Extends c.args.items.now.items xs c.args.place c.args.value) (sym c.in_ok-push.ensures.items)
    (pushed c.args.items.now.items c.args.place c.args.value c.requires.prefix c.requires.place
    (λ same. true≢false (sym (c.repeats.ensures.1 (subst (λ (xs : List (Cut × g.row.T.Denot)). last_value xs ≡ Some c.args.value) (sym c.as_slice.ensures.value) same)) ∙ c.if-repeats.false)))
