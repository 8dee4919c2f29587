use Rattle.std.proofs.Common.{◌≡◌, ◌++◌, ◌∷◌, [], refl, sym, ◌∙◌, ap, subst, List}
use Rattle.sfx_ids.specs.declared.cut.Cut.{Cut}
use Rattle.sfx_ids.specs.declared.cut.Cut.TheVariants.{Start}
use Rattle.sfx_segments.specs.Segments.{AreSegments}
use Rattle.sfx_segments.proofs.segments.Segments.new.Goals as goal

lone : {A : Type 0} (xs ys : List (Cut × A)) (value : A) → xs ≡ [] → ys ≡ xs ++ (Start, value) ∷ [] → AreSegments ys
lone {A} xs ys value none is =
    subst (λ (zs : List (Cut × A)). AreSegments zs) (ap (λ (zs : List (Cut × A)). zs ++ (Start, value) ∷ []) (sym none) ∙ sym is) (refl, tt)

pub invariant_of-result : goal.invariant_of-result
invariant_of-result g c = lone c.new-items.result.items c.push.new.self.items c.args.value c.new-items.ensures.items c.in_ok-push.ensures.items

pub returns-clause-form : goal.returns-clause-form
returns-clause-form g c = lone c.new-items.result.items c.push.new.self.items c.args.value c.new-items.ensures.items c.in_ok-push.ensures.items
