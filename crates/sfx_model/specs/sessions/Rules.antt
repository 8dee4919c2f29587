use Rattle.std.specs.Prelude.{ℕ, List}
use Rattle.sfx_model.specs.declared.keep.Keep.{Keep}
use Rattle.sfx_model.specs.declared.keep.Keep.TheVariants as keeps
use Rattle.sfx_model.specs.declared.clash_rule.ClashRule.{ClashRule}
use Rattle.sfx_model.specs.declared.clash_rule.ClashRule.TheVariants as clash_rules

-- What a session does about conflicts: whose content of a unit is kept, what becomes of clashing names,
-- and what is made of two values of a unit, the source's first, where they are merged.
pub record RulesData : Type 0 where
  pub keep : Keep
  pub clash : ClashRule
  pub merge : ℕ → List ℕ → List ℕ → List ℕ

-- The rules that leave each conflict alone. With them nothing is merged.
abbrev pub skip_rules : RulesData
skip_rules = record { keep = keeps.Skip; clash = clash_rules.Skip; merge = λ u seen here. here }
