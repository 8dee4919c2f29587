-- The value of a unit that is settled, from what stands at the unit.
use Rattle.std.proofs.Common.{◌≡◌, ℕ, List, Some, slice_get, subst}
use Rattle.sfx_item.specs.declared.cell.Cell.{Cell}
use Rattle.sfx_model.specs.declared.unit_class.UnitClass.{UnitClass}
use Rattle.sfx_model.specs.declared.unit_class.UnitClass.TheVariants.{Known}
use Rattle.sfx_model.specs.sessions.Draft.{unit_value, value_in}
use Rattle.sfx_model.specs.sessions.Rules.{RulesData}
use Rattle.sfx_model.specs.world.Units.{at_unit}

pub value_found : (rules : RulesData) (u unit : ℕ) (class : UnitClass) (classes : List UnitClass) (seen here : List Cell) (x y : Cell) (made : List ℕ)
    → unit ≡ u → slice_get classes unit ≡ Some class → slice_get seen unit ≡ Some x → slice_get here unit ≡ Some y
    → made ≡ unit_value rules u class x.value y.value
    → made ≡ unit_value rules u (at_unit classes u Known) (value_in seen u) (value_in here u)
value_found rules u unit class classes seen here x y made is of there local value =
    let cs : slice_get classes u ≡ Some class = subst (λ (k : ℕ). slice_get classes k ≡ Some class) is of in
    let xs : slice_get seen u ≡ Some x = subst (λ (k : ℕ). slice_get seen k ≡ Some x) is there in
    let ys : slice_get here u ≡ Some y = subst (λ (k : ℕ). slice_get here k ≡ Some y) is local in
    rw (cs, xs, ys) value
