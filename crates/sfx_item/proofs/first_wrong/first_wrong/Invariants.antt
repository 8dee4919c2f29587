use Rattle.std.proofs.Common.{ℕ, ◌<◌}
use Rattle.sfx_item.specs.Name.{IsWrongAt}
use Rattle.sfx_item.proofs.first_wrong.first_wrong.Given as goal

abbrev pub invariant-loop-at : goal.invariant-loop-at
invariant-loop-at l = (k : ℕ) → k < l.at → IsWrongAt l.bytes k → ⊥
