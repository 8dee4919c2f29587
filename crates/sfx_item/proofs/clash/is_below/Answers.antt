use Rattle.std.proofs.Common.{◌≡◌, ◌<◌, length, get_or, refl, sym, subst}
use Rattle.std.proofs.lemmas.Bool.Decides.{Decides-eqb}
use Rattle.std.proofs.lemmas.Slice.Eq.{slice_eq-Decides}
use Rattle.sfx_item.specs.Name.{slash}
use Rattle.sfx_item.proofs.ClashLemmas.{goes_on, below_prefix, below_rest}
use Rattle.sfx_item.proofs.clash.is_below.Goals as goal

pub returns-in-Some : goal.returns-in-Some
returns-in-Some c =
    let name = c.args.name.now in
    let other = c.args.other.now in
    let cases = c.in-Some.ensures.cases in
    let prefix = (slice_eq-Decides Decides-eqb _ other _ (sym cases.0)).0 refl in (
      λ yes.
          let says = subst (λ l. (0 < length l) × (get_or l 0 0 ≡ slash)) cases.1 (c.begins_with_slash.ensures.0 yes) in
          goes_on name other prefix says.0 says.1,
      λ below.
          c.begins_with_slash.ensures.1 (subst (λ l. (0 < length l) × (get_or l 0 0 ≡ slash)) (sym cases.1) (below_rest name other below)),
    )

pub returns-in-None : goal.returns-in-None
returns-in-None c =
    let name = c.args.name.now in
    let other = c.args.other.now in (
      λ no. cc,
      λ below. (slice_eq-Decides Decides-eqb _ other _ (sym c.in-None.ensures.cases)).1 (below_prefix name other below),
    )
