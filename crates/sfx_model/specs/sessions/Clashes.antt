-- What an entry is to do with its item and, where the name of a live result clashes with those of other
-- live items, with these.
use Rattle.std.specs.Prelude.{ℕ, List, [], ◌∷◌, Option, Some, None, slice_get, slice_set}
use Rattle.std.specs.Option.{option_map, option_and_then}
use Rattle.sfx_ids.specs.declared.item_id.ItemId.{ItemId}
use Rattle.sfx_model.specs.declared.clash_rule.ClashRule.{ClashRule}
use Rattle.sfx_model.specs.declared.clash_rule.ClashRule.TheVariants.{Source, Destination, RenameSource, RenameDestination, Skip}
use Rattle.sfx_model.specs.declared.mark.Mark.TheVariants.{Stamped}
use Rattle.sfx_item.specs.Item.{ItemData}
use Rattle.sfx_model.specs.sessions.Draft.{DraftData, all_marked, all_left}
use Rattle.sfx_model.specs.members.Readings.{clashing_with}
use Rattle.sfx_model.specs.sessions.NewName.{new_name}

-- What an entry is to do.
pub record Plan : Type 0 where
  -- with its own item
  pub draft : DraftData
  -- the rule that acts, where a name clashes
  pub acts : Option ClashRule
  -- the new name of its own item
  pub name : Option (List ℕ)
  -- the other items that it changes, in order
  pub others : List ItemId

-- The draft by the rule, but for a new name: it stays; the item is deleted; its name is stamped; or it is
-- left alone.
abbrev pub clash_draft : ℕ → ClashRule → DraftData → DraftData
clash_draft units Source draft = draft
clash_draft units Destination draft = all_marked units Stamped None
clash_draft units RenameSource draft = record { marks = slice_set draft.marks 0 Stamped; values = draft.values }
clash_draft units RenameDestination draft = draft
clash_draft units Skip draft = all_left units

-- The draft with this name for the item.
abbrev pub with_name : List ℕ → DraftData → DraftData
with_name name draft = record { marks = draft.marks; values = option_map (λ values. slice_set values 0 name) draft.values }

-- The plan under the rule, where the name clashes with those of these items.
abbrev pub clash_plan : ℕ → ClashRule → ItemId → List ItemData → List ℕ → List ItemId → DraftData → Plan
clash_plan units Source i items name clashing draft =
    record { draft = clash_draft units Source draft; acts = Some Source; name = None; others = clashing }
clash_plan units Destination i items name clashing draft =
    record { draft = clash_draft units Destination draft; acts = Some Destination; name = None; others = [] }
clash_plan units RenameSource i items name clashing draft = record {
  draft = with_name (new_name items i name) (clash_draft units RenameSource draft);
  acts = Some RenameSource;
  name = Some (new_name items i name);
  others = [];
}
clash_plan units RenameDestination i items name clashing draft =
    record { draft = clash_draft units RenameDestination draft; acts = Some RenameDestination; name = None; others = clashing }
clash_plan units Skip i items name clashing draft =
    record { draft = clash_draft units Skip draft; acts = Some Skip; name = None; others = [] }

-- The plan where no name clashes.
abbrev pub plain_plan : DraftData → Plan
plain_plan draft = record { draft = draft; acts = None; name = None; others = [] }

-- The plan where the name clashes with those of these items.
abbrev pub plan_among : ℕ → ClashRule → ItemId → List ItemData → List ℕ → List ItemId → DraftData → Plan
plan_among units rule i items name [] draft = plain_plan draft
plan_among units rule i items name (j ∷ js) draft = clash_plan units rule i items name (j ∷ js) draft

-- The plan of a result with this name.
abbrev pub plan_named : ℕ → ClashRule → ItemId → List ItemData → Option (List ℕ) → DraftData → Plan
plan_named units rule i items None draft = plain_plan draft
plan_named units rule i items (Some name) draft =
    plan_among units rule i items name (clashing_with name (Some i) items) draft

-- The name of a drafted result, where that is live.
abbrev pub drafted_name : DraftData → Option (List ℕ)
drafted_name draft = option_and_then (λ values. slice_get values 0) draft.values

-- The plan of the item's draft among the destination's items.
abbrev pub plan_of : ℕ → ClashRule → ItemId → List ItemData → DraftData → Plan
plan_of units rule i items draft = plan_named units rule i items (drafted_name draft) draft
