-- The plan of a draft, by the rule on names that clash, has a draft of one of the shapes, too.
use Rattle.std.proofs.Common.{◌≡◌, ◌≢◌, ℕ, ◌≤◌, true, List, [], ◌∷◌, length, Option, Some, None, arith, inl, inr, refl, sym, ◌∙◌, ap, subst}
use Rattle.std.specs.Prelude.{slice_get, slice_set}
use Rattle.std.specs.Option.{option_map, option_and_then}
use Rattle.std.proofs.Math.ListN.{length-set}
use Rattle.std.proofs.lemmas.Bool.{cases_eq}
use Rattle.sfx_ids.specs.declared.item_id.ItemId.{ItemId}
use Rattle.sfx_model.specs.declared.clash_rule.ClashRule.{ClashRule}
use Rattle.sfx_model.specs.declared.clash_rule.ClashRule.TheVariants.{Source, Destination, RenameSource, RenameDestination, Skip}
use Rattle.sfx_model.specs.declared.mark.Mark.{Mark}
use Rattle.sfx_model.specs.declared.mark.Mark.TheVariants.{Stays, Stamped}
use Rattle.sfx_model.specs.world.World.{World, Site, Snapshot}
use Rattle.sfx_model.specs.sessions.Clashes.{clash_draft, with_name, plan_among, plan_named, drafted_name, plan_of}
use Rattle.sfx_model.specs.sessions.Draft.{DraftData}
use Rattle.sfx_item.specs.Item.{ItemState, ItemData}
use Rattle.sfx_model.specs.members.Readings.{clashing_with}
use Rattle.sfx_model.specs.sessions.NewName.{new_name}
use Rattle.sfx_model.specs.members.Results.{cell_at}
use Rattle.sfx_model.specs.world.Units.{at_unit}
use Rattle.sfx_model.proofs.world.UnitsLemmas.{at_set, at_set_other}
use Rattle.sfx_model.proofs.sessions.DraftShapes.{IsLiveUnit, brings_unit, GoTogether, IsLiveDraft, Shape, KeepsAll, LeavesAll, DropsAll, DeletesAll, TakesDead, MakesLive, MarkFits, deleted_shape, left_shape, stamped_fits, left_fits}
use Rattle.sfx_model.proofs.sessions.ClassesGiveShapes.{Fits}

-- A draft without values has no name.
pub no_name : (d : DraftData) → d.values ≡ None → drafted_name d ≡ None
no_name d none = ap (λ (o : Option (List (List ℕ))). option_and_then (λ values. slice_get values 0) o) none

-- The shape of a draft with a name.
named_live :
    (units : ℕ) (seen here : Option ItemState) (d : DraftData) (name : List ℕ)
    → drafted_name d ≡ Some name → Shape units seen here d → (values : List (List ℕ)) × IsLiveDraft units seen here d values
named_live units seen here d name named (KeepsAll all none) = let bad : None ≡ Some name = sym (no_name d none) ∙ named in absurd (cc)
named_live units seen here d name named (LeavesAll all none) = let bad : None ≡ Some name = sym (no_name d none) ∙ named in absurd (cc)
named_live units seen here d name named (DropsAll all none) = let bad : None ≡ Some name = sym (no_name d none) ∙ named in absurd (cc)
named_live units seen here d name named (DeletesAll all none) = let bad : None ≡ Some name = sym (no_name d none) ∙ named in absurd (cc)
named_live units seen here d name named (TakesDead v is all none) = let bad : None ≡ Some name = sym (no_name d none) ∙ named in absurd (cc)
named_live units seen here d name named (MakesLive values live) = (values, live)

-- The draft with another name, which is stamped.
abbrev pub stamped_name : ℕ → List ℕ → DraftData → DraftData
stamped_name units name d = with_name name (clash_draft units RenameSource d)

name_mark : (d : DraftData) (units : ℕ) (name : List ℕ) (u : ℕ) → 1 ≤ length d.marks → u ≡ 0 → at_unit (stamped_name units name d).marks u Stays ≡ Stamped
name_mark d units name u some is =
    ap (λ (x : ℕ). at_unit (slice_set d.marks 0 Stamped) x Stays) is ∙ at_set d.marks 0 Stamped Stays (omega arith)

other_mark : (d : DraftData) (units : ℕ) (name : List ℕ) (u : ℕ) → u ≢ 0 → at_unit (stamped_name units name d).marks u Stays ≡ at_unit d.marks u Stays
other_mark d units name u other = at_set_other d.marks 0 u Stamped Stays other

-- What holds of a stamped unit and of each unit as it was holds of the draft with another name.
by_unit :
    (units : ℕ) (d : DraftData) (name : List ℕ) (P : Mark → Type 0) (u : ℕ)
    → 1 ≤ length d.marks → (u ≡ 0 → P Stamped) → (u ≢ 0 → P (at_unit d.marks u Stays))
    → P (at_unit (stamped_name units name d).marks u Stays)
by_unit units d name P u some first others = elim (cases_eq u 0) [
  | inl is ↦ subst P (sym (name_mark d units name u some is)) (first is)
  | inr other ↦ subst P (sym (other_mark d units name u other)) (others other)
]

renamed_together :
    (units : ℕ) (seen here : Option ItemState) (d : DraftData) (name : List ℕ)
    → 1 ≤ length d.marks → GoTogether units seen here d → GoTogether units seen here (stamped_name units name d)
renamed_together units seen here d name some (inl (theirs, ours)) = inl (
  theirs,
  elim ours [
    | inl own ↦ inl own
    | inr all ↦ inr (λ u small. by_unit units d name (λ k. brings_unit k ≡ true) u some (λ is. refl) (λ other. all u small))
  ],
)
renamed_together units seen here d name some (inr all) =
    inr (λ u small. by_unit units d name (λ k. k ≡ Stamped) u some (λ is. refl) (λ other. all u small))

renamed_live :
    (units : ℕ) (seen here : Option ItemState) (d : DraftData) (values : List (List ℕ)) (name : List ℕ)
    → 1 ≤ length d.marks → IsLiveDraft units seen here d values
    → IsLiveDraft units seen here (stamped_name units name d) (slice_set values 0 name)
renamed_live units seen here d values name some live = record {
  are = ap (option_map (λ (vs : List (List ℕ)). slice_set vs 0 name)) live.are;
  whole = length-set values 0 name ∙ live.whole;
  each = λ u small. by_unit units d name (λ k. IsLiveUnit k (at_unit (slice_set values 0 name) u []) (cell_at seen u) (cell_at here u)) u some
      (λ is. tt)
      (λ other. subst (λ (v : List ℕ). IsLiveUnit (at_unit d.marks u Stays) v (cell_at seen u) (cell_at here u))
      (sym (at_set_other values 0 u name [] other)) (live.each u small));
  together = renamed_together units seen here d name some live.together;
}

pub renamed_fits :
    (w : World) (s : Site) (snapshot : Snapshot) (i : ItemId) (seen here : Option ItemState) (d : DraftData) (name new : List ℕ)
    → 1 ≤ w.units → Fits w s snapshot i seen here d → drafted_name d ≡ Some name
    → Fits w s snapshot i seen here (stamped_name w.units new d)
renamed_fits w s snapshot i seen here d name new some (shaped, fits) named =
    let (values, live) = named_live w.units seen here d name named shaped.shape in
    let long : 1 ≤ length d.marks = omega (arith, shaped.long) in (
      record {
        long = length-set d.marks 0 Stamped ∙ shaped.long;
        shape = MakesLive (slice_set values 0 new) (renamed_live w.units seen here d values new long live);
      },
      λ u small. by_unit w.units d new (MarkFits w s snapshot i u) u long (λ is. tt) (λ other. fits u small),
    )

-- The draft of the plan, by the rule.
rule_fits :
    (w : World) (s : Site) (snapshot : Snapshot) (i : ItemId) (seen here : Option ItemState) (d : DraftData) (name : List ℕ)
    (rule : ClashRule) (items : List ItemData) (js : List ItemId)
    → 1 ≤ w.units → Fits w s snapshot i seen here d → drafted_name d ≡ Some name
    → Fits w s snapshot i seen here (plan_among w.units rule i items name js d).draft
rule_fits w s snapshot i seen here d name rule items [] some fits named = fits
rule_fits w s snapshot i seen here d name Source items (j ∷ js) some fits named = fits
rule_fits w s snapshot i seen here d name Destination items (j ∷ js) some fits named =
    (deleted_shape w.units seen here, stamped_fits w s snapshot i None)
rule_fits w s snapshot i seen here d name RenameSource items (j ∷ js) some fits named =
    renamed_fits w s snapshot i seen here d name (new_name items i name) some fits named
rule_fits w s snapshot i seen here d name RenameDestination items (j ∷ js) some fits named = fits
rule_fits w s snapshot i seen here d name Skip items (j ∷ js) some fits named =
    (left_shape w.units seen here, left_fits w s snapshot i)

pub plan_fits :
    (w : World) (s : Site) (snapshot : Snapshot) (i : ItemId) (seen here : Option ItemState) (d : DraftData)
    (rule : ClashRule) (items : List ItemData)
    → 1 ≤ w.units → Fits w s snapshot i seen here d → Fits w s snapshot i seen here (plan_of w.units rule i items d).draft
plan_fits w s snapshot i seen here d rule items some fits = by_name (drafted_name d) refl
  where
    by_name : (o : Option (List ℕ)) → drafted_name d ≡ o → Fits w s snapshot i seen here (plan_named w.units rule i items o d).draft
    by_name None named = fits
    by_name (Some name) named =
        rule_fits w s snapshot i seen here d name rule items (clashing_with name (Some i) items) some fits named
