-- RulesData by what they ask of a batch.
use Rattle.std.specs.Prelude.{◌≡◌}
use Rattle.sfx_model.specs.declared.clash_rule.ClashRule.TheVariants as clash_rules
use Rattle.sfx_model.specs.declared.keep.Keep.TheVariants as keeps
use Rattle.sfx_model.specs.sessions.Rules.{RulesData}

-- The rules leave each conflict alone, of contents and of names. With them nothing is merged.
pub record LeavesConflicts (rules : RulesData) : Type 0 where
  pub keep : rules.keep ≡ keeps.Skip
  pub clash : rules.clash ≡ clash_rules.Skip
