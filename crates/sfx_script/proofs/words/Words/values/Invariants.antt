use Rattle.std.proofs.Common.{◌≡◌, ◌≤◌, ◌-◌, length}
use Rattle.sfx_script.specs.Reading.{some_values, values_in}
use Rattle.sfx_script.proofs.ValueWords.{with_prefix}
use Rattle.sfx_script.proofs.words.Words.values.Given as goal

abbrev pub invariant-more : goal.invariant-more
invariant-more l = record {
  some : 1 ≤ length l.items.items;
  most : length l.items.items ≤ 8;
  read : with_prefix l.items.items (values_in (8 - length l.items.items) l.self.left) ≡ some_values l.fn.self;
}

abbrev pub decreases-more : goal.decreases-more
decreases-more l = length l.self.left
