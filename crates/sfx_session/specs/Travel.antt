-- What the code holds of a session under way, and what one more batch makes of it.
use Rattle.std.specs.Prelude.{ℕ, List, [], ◌∷◌, ◌++◌, length, Option}
use Rattle.sfx_ids.specs.declared.cut.Cut.{Cut}
use Rattle.sfx_ids.specs.declared.cut.Cut.TheVariants.{Start}
use Rattle.sfx_model.specs.declared.mode.Mode.{Mode}
use Rattle.sfx_model.specs.declared.session_end.SessionEnd.{SessionEnd}
use Rattle.sfx_model.specs.sessions.Batch.{BatchData, batch_from}
use Rattle.sfx_model.specs.sessions.MemberKnowledge.{laid_known}
use Rattle.sfx_model.specs.members.Members.{Member}
use Rattle.sfx_model.specs.sessions.Rules.{RulesData}
use Rattle.sfx_model.specs.sessions.Session.{AppliedData, Outcome, StepData, outcome_of, applied_data, ending, reduced}

-- A session under way: the place where its next batch begins, the batches so far, and how many more
-- entries were asked for.
pub record TravelData : Type 0 where
  pub from : Cut
  pub steps : List StepData
  pub budget : Option ℕ

-- The session as it begins.
abbrev pub departure : Option ℕ → TravelData
departure cut = record { from = Start; steps = []; budget = cut }

-- The batch that is due to the destination as it is now.
abbrev pub due_batch : ℕ → Member → Mode → ℕ → Member → TravelData → BatchData
due_batch units source mode size now t = batch_from units source mode size (laid_known units now) t.from

-- What comes of it, by these rules.
abbrev pub due_outcome : ℕ → Member → Mode → RulesData → ℕ → Member → TravelData → Outcome
due_outcome units source mode rules size now t =
    outcome_of units (due_batch units source mode size now t) rules t.budget now

-- The session with one more batch, which was outcome_of so.
abbrev pub travelled : BatchData → AppliedData → TravelData → TravelData
travelled b a t = record {
  from = b.to;
  steps = t.steps ++ record { batch = b; applied = a } ∷ [];
  budget = reduced t.budget (length a.entries);
}

-- Whether the session ends with the batch.
abbrev pub arrival : BatchData → AppliedData → TravelData → Option SessionEnd
arrival b a t = ending b.to a.end (reduced t.budget (length a.entries))

-- The session after the batch that is due, and whether it ends with that.
abbrev pub next_travel : ℕ → Member → Mode → RulesData → ℕ → Member → TravelData → TravelData
next_travel units source mode rules size now t =
    travelled (due_batch units source mode size now t) (applied_data (due_outcome units source mode rules size now t)) t

abbrev pub next_arrival : ℕ → Member → Mode → RulesData → ℕ → Member → TravelData → Option SessionEnd
next_arrival units source mode rules size now t =
    arrival (due_batch units source mode size now t) (applied_data (due_outcome units source mode rules size now t)) t
