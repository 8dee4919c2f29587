-- The rules of a session as plain data.
use Rattle.std.specs.Prelude.{ℕ, List}
use Rattle.sfx_model.specs.sessions.Rules.{RulesData}
use Rattle.sfx_settle.specs.declared.rules.Rules.{Rules}

-- The rules, by what their merger means.
abbrev pub rules_view : {M : Type 0} → (M → ℕ → List ℕ → List ℕ → List ℕ) → Rules M → RulesData
rules_view meaning rules = record { keep = rules.keep; clash = rules.clash; merge = meaning rules.merger }
