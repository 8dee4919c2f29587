-- The plan of an entry: the other items that it changes are live and listed once, and afterwards live names
-- do not clash.
use Rattle.std.proofs.Common.{◌≡◌, ◌≢◌, ◌⊎◌, ℕ, ◌≤◌, Bool, true, false, if◌then◌else◌, List, [], ◌∷◌, length, Option, Some, None, arith, inl, inr, refl, sym, ◌∙◌, ap, subst}
use Rattle.std.specs.Prelude.{slice_get, slice_set}
use Rattle.std.specs.List.{list_any}
use Rattle.std.specs.Option.{option_map, option_and_then}
use Rattle.sfx_ids.specs.declared.item_id.ItemId.{ItemId}
use Rattle.sfx_ids.specs.declared.version.Version.{Version}
use Rattle.sfx_ids.specs.ItemId.{IsItemId}
use Rattle.sfx_item.specs.declared.cell.Cell.{Cell}
use Rattle.sfx_item.specs.Decided.{is_clash}
use Rattle.sfx_item.specs.Row.{first_value}
use Rattle.sfx_segments.proofs.StandardFacts.{Tested, yes_it, not_it, tested}
use Rattle.sfx_model.specs.declared.clash_rule.ClashRule.{ClashRule}
use Rattle.sfx_model.specs.declared.clash_rule.ClashRule.TheVariants.{Source, Destination, RenameSource, RenameDestination, Skip}
use Rattle.sfx_model.specs.declared.mark.Mark.{Mark}
use Rattle.sfx_model.specs.declared.mark.Mark.TheVariants.{Stays, Taken, Stamped, Left, Gone}
use Rattle.sfx_model.specs.world.Sets.{Has}
use Rattle.sfx_model.specs.sessions.Clashes.{clash_draft, plan_among, plan_named, drafted_name, plan_of}
use Rattle.sfx_model.specs.members.Consistent.{live_name, AreApart}
use Rattle.sfx_model.specs.sessions.Deeds.{version_behind, name_given}
use Rattle.sfx_model.specs.sessions.Draft.{DraftData, cells_of}
use Rattle.sfx_model.specs.sessions.Entry.{Changing, is_stamped, is_taken, is_gone, cell_after, cells_after, brought, state_after, no_cell, other_name, other_state, change_other, change_others}
use Rattle.sfx_item.specs.Item.{ItemState, Live, Dead, ItemData}
use Rattle.sfx_model.specs.members.Members.{AreAscending, state_of}
use Rattle.sfx_model.specs.members.ItemLists.{with_state_of}
use Rattle.sfx_model.specs.members.Readings.{clashing_with}
use Rattle.sfx_model.specs.sessions.NewName.{new_name}
use Rattle.sfx_model.specs.members.Results.{cell_at}
use Rattle.sfx_model.specs.world.Units.{each_unit, at_unit}
use Rattle.sfx_model.proofs.world.UnitsLemmas.{get_at, get_each, any_none}
use Rattle.sfx_model.proofs.members.ItemListsLemmas.{state_given, state_kept, ascending_given}
use Rattle.sfx_model.proofs.sessions.DraftShapes.{IsLiveUnit, live_not_gone, IsLiveDraft, Shape, KeepsAll, LeavesAll, DropsAll, DeletesAll, TakesDead, MakesLive, IsShaped}
use Rattle.sfx_model.proofs.sessions.ShapedDraftsApply.{none_pass, one_passes, listed_at}
use Rattle.sfx_model.proofs.sessions.PlansHaveShapes.{stamped_name}
use Rattle.sfx_model.proofs.members.ItemIdsInRange.{AreIds, names_free, ids_given}
use Rattle.sfx_model.proofs.sessions.ClashesLemmas.{IsNamed, IsClashing, IsFree, AreOnce, AreApartBut, clash_listed, clash_lists, clash_once, apart_all, apart_tests, apart_changed, apart_other}

-- ---- the name of the state afterwards

-- What the state afterwards can be, by its shape.
data AfterDraft (units : ℕ) (v : Version) (d : DraftData) (seen here : Option ItemState) : Type 0 where
  as_before : state_after units v d seen here ≡ here → AfterDraft units v d seen here
  gone_now : state_after units v d seen here ≡ None → AfterDraft units v d seen here
  dead_now : (x : Version) → state_after units v d seen here ≡ Some (Dead x) → AfterDraft units v d seen here
  live_now :
      (values : List (List ℕ)) → IsLiveDraft units seen here d values
      → state_after units v d seen here ≡ Some (Live (cells_after units v d.marks values (cells_of seen) (cells_of here)))
      → AfterDraft units v d seen here

-- The state afterwards, by the tests of its marks.
after_by :
    (units : ℕ) (v : Version) (d : DraftData) (seen here : Option ItemState) (g t s : Bool)
    → list_any is_gone d.marks ≡ g → list_any is_taken d.marks ≡ t → list_any is_stamped d.marks ≡ s
    → state_after units v d seen here ≡ (if g then None else (if t then brought units v d.marks d.values seen here
    else (if s then brought units v d.marks d.values seen here else here)))
after_by units v d seen here g t s is_g is_t is_s =
    ap (λ (b : Bool). let r : Option ItemState = if b then None else (if list_any is_taken d.marks then brought units v d.marks d.values seen here
    else (if list_any is_stamped d.marks then brought units v d.marks d.values seen here else here)) in r) is_g
    ∙ ap (λ (b : Bool). let r : Option ItemState = if g then None else (if b then brought units v d.marks d.values seen here
    else (if list_any is_stamped d.marks then brought units v d.marks d.values seen here else here)) in r) is_t
    ∙ ap (λ (b : Bool). let r : Option ItemState = if g then None else (if t then brought units v d.marks d.values seen here
    else (if b then brought units v d.marks d.values seen here else here)) in r) is_s

brought_none :
    (units : ℕ) (v : Version) (d : DraftData) (seen here : Option ItemState) (s : Bool)
    → d.values ≡ None → list_any is_stamped d.marks ≡ s
    → brought units v d.marks d.values seen here ≡ (if s then Some (Dead v) else seen)
brought_none units v d seen here s none is =
    ap (λ (o : Option (List (List ℕ))). brought units v d.marks o seen here) none
    ∙ ap (λ (b : Bool). let r : Option ItemState = if b then Some (Dead v) else seen in r) is

after_cases :
    (units : ℕ) (v : Version) (d : DraftData) (seen here : Option ItemState)
    → 1 ≤ units → IsShaped units seen here d → AfterDraft units v d seen here
after_cases units v d seen here some shaped = by_shape shaped.shape
  where
    long : length d.marks ≡ units
    long = shaped.long

    live : (values : List (List ℕ)) → IsLiveDraft units seen here d values → AfterDraft units v d seen here
    live values is = by_tests (list_any is_taken d.marks) (list_any is_stamped d.marks) refl refl
      where
        none_gone : list_any is_gone d.marks ≡ false
        none_gone = any_none is_gone d.marks Stays (λ u small.
            live_not_gone (at_unit d.marks u Stays) (at_unit values u []) (cell_at seen u) (cell_at here u) (is.each u (omega (arith, long))))

        made : brought units v d.marks d.values seen here ≡ Some (Live (cells_after units v d.marks values (cells_of seen) (cells_of here)))
        made = ap (λ (o : Option (List (List ℕ))). brought units v d.marks o seen here) is.are

        by_tests : (t s : Bool) → list_any is_taken d.marks ≡ t → list_any is_stamped d.marks ≡ s → AfterDraft units v d seen here
        by_tests true s e f = live_now values is (after_by units v d seen here false true s none_gone e f ∙ made)
        by_tests false true e f = live_now values is (after_by units v d seen here false false true none_gone e f ∙ made)
        by_tests false false e f = as_before (after_by units v d seen here false false false none_gone e f)

    by_shape : Shape units seen here d → AfterDraft units v d seen here
    by_shape (KeepsAll all none) =
        as_before (after_by units v d seen here false false false (none_pass units d Stays is_gone long all refl)
        (none_pass units d Stays is_taken long all refl) (none_pass units d Stays is_stamped long all refl))
    by_shape (LeavesAll all none) =
        as_before (after_by units v d seen here false false false (none_pass units d Left is_gone long all refl)
        (none_pass units d Left is_taken long all refl) (none_pass units d Left is_stamped long all refl))
    by_shape (DropsAll all none) =
        gone_now (after_by units v d seen here true false false (one_passes units d Gone is_gone long some all refl)
        (none_pass units d Gone is_taken long all refl) (none_pass units d Gone is_stamped long all refl))
    by_shape (DeletesAll all none) =
        let stamped = one_passes units d Stamped is_stamped long some all refl in
        dead_now v (after_by units v d seen here false false true (none_pass units d Stamped is_gone long all refl)
        (none_pass units d Stamped is_taken long all refl) stamped ∙ brought_none units v d seen here true none stamped)
    by_shape (TakesDead x is all none) =
        let plain = none_pass units d Taken is_stamped long all refl in
        dead_now x (after_by units v d seen here false true false (none_pass units d Taken is_gone long all refl)
        (one_passes units d Taken is_taken long some all refl) plain ∙ brought_none units v d seen here false none plain ∙ is)
    by_shape (MakesLive values is) = live values is

-- The first cell of a live result has the drafted name.
first_cell :
    (v : Version) (k : Mark) (value : List ℕ) (seen here : Option ItemState)
    → IsLiveUnit k value (cell_at seen 0) (cell_at here 0)
    → (cell_after v k value (at_unit (cells_of seen) 0 no_cell) (at_unit (cells_of here) 0 no_cell)).value ≡ value
first_cell v Stays value seen here (c, is, same) = ap (λ (x : Cell). x.value) (listed_at here 0 c is) ∙ same
first_cell v Taken value seen here (c, is, same) = ap (λ (x : Cell). x.value) (listed_at seen 0 c is) ∙ same
first_cell v Stamped value seen here live = refl
first_cell v Left value seen here (c, is, same) = ap (λ (x : Cell). x.value) (listed_at here 0 c is) ∙ same
first_cell v Gone value seen here live = absurd live

live_named :
    (units : ℕ) (v : Version) (d : DraftData) (seen here : Option ItemState) (values : List (List ℕ)) (name : List ℕ)
    → 1 ≤ units → IsLiveDraft units seen here d values
    → live_name (Live (cells_after units v d.marks values (cells_of seen) (cells_of here))) ≡ Some name → drafted_name d ≡ Some name
live_named units v d seen here values name some live named =
    let made : ℕ → Cell = λ u. cell_after v (at_unit d.marks u Stays) (at_unit values u []) (at_unit (cells_of seen) u no_cell) (at_unit (cells_of here) u no_cell) in
    let value : first_value (each_unit units made) ≡ Some (at_unit values 0 []) =
    ap (option_map (λ (c : Cell). c.value)) (get_each units made 0 some)
    ∙ ap Some (first_cell v (at_unit d.marks 0 Stays) (at_unit values 0 []) seen here (live.each 0 some)) in
    ap (λ (o : Option (List (List ℕ))). option_and_then (λ vs. slice_get vs 0) o) live.are
    ∙ get_at values 0 [] (omega (arith, live.whole)) ∙ sym value ∙ named

-- The name of the state afterwards is that of the item before, where it stays, or the drafted one.
pub after_named :
    (units : ℕ) (v : Version) (d : DraftData) (seen here : Option ItemState) (state : ItemState) (name : List ℕ)
    → 1 ≤ units → IsShaped units seen here d → state_after units v d seen here ≡ Some state → live_name state ≡ Some name
    → (here ≡ Some state) ⊎ (drafted_name d ≡ Some name)
after_named units v d seen here state name some shaped is live = by_case (after_cases units v d seen here some shaped)
  where
    by_case : AfterDraft units v d seen here → (here ≡ Some state) ⊎ (drafted_name d ≡ Some name)
    by_case (as_before e) = inl (sym e ∙ is)
    by_case (gone_now e) = let bad : None ≡ Some state = sym e ∙ is in absurd (cc)
    by_case (dead_now x e) =
        let both : Some (Dead x) ≡ Some state = sym e ∙ is in
        let same : Dead x ≡ state = cc in
        let bad : None ≡ Some name = ap live_name same ∙ live in
        absurd (cc)
    by_case (live_now values made e) =
        let both : Some (Live (cells_after units v d.marks values (cells_of seen) (cells_of here))) ≡ Some state = sym e ∙ is in
        let same : Live (cells_after units v d.marks values (cells_of seen) (cells_of here)) ≡ state = cc in
        inr (live_named units v d seen here values name some made (ap live_name same ∙ live))

-- ---- the names afterwards

-- The items with the state that a draft gives one of them.
abbrev pub with_drafted : ℕ → Version → ItemId → Option ItemState → DraftData → List ItemData → List ItemData
with_drafted units v i seen d items = with_state_of i (state_after units v d seen (state_of items i)) items

drafted_apart :
    (units : ℕ) (v : Version) (i : ItemId) (seen : Option ItemState) (d : DraftData) (items : List ItemData) (js : List ItemId)
    → 1 ≤ units → AreAscending items → AreApart items → IsShaped units seen (state_of items i) d
    → ((name : List ℕ) → drafted_name d ≡ Some name → (k : ItemId) (own : List ℕ) → k ≢ i → IsNamed items k own → (Has k js → ⊥) → is_clash name own ≡ false)
    → AreApartBut i js (with_drafted units v i seen d items)
drafted_apart units v i seen d items js some ascending apart shaped free =
    apart_changed i js items (with_drafted units v i seen d items) apart
    (λ j other. state_kept i (state_after units v d seen (state_of items i)) items j other)
    (λ name is k own other named out.
    let at : state_after units v d seen (state_of items i) ≡ Some is.state =
    sym (state_given i (state_after units v d seen (state_of items i)) items ascending) ∙ is.there in
    elim (after_named units v d seen (state_of items i) is.state name some shaped at is.live) [
      | inl same ↦
          apart_tests items apart i k name own (λ e. other (sym e)) (record { state = is.state; there = same; live = is.live }) named
      | inr drafted ↦ free name drafted k own other named out
    ])

-- No other item is named so that it clashes and is not listed.
unlisted_free :
    (items : List ItemData) (i : ItemId) (name : List ℕ) (js : List ItemId) (k : ItemId) (own : List ℕ)
    → clashing_with name (Some i) items ≡ js → k ≢ i → IsNamed items k own → (Has k js → ⊥) → is_clash name own ≡ false
unlisted_free items i name js k own is other named out = by_test (tested (is_clash name own))
  where
    by_test : Tested (is_clash name own) → is_clash name own ≡ false
    by_test (yes_it e) = absurd (out (subst (λ (xs : List ItemId). Has k xs) is (clash_lists items i name k own other named e)))
    by_test (not_it e) = e

same_name : (d : DraftData) (a b : List ℕ) → drafted_name d ≡ Some a → drafted_name d ≡ Some b → a ≡ b
same_name d a b first second = let both : Some a ≡ Some b = sym first ∙ second in cc

-- The new name of a draft is its drafted one.
new_drafted : (units : ℕ) (d : DraftData) (old new name : List ℕ) → drafted_name d ≡ Some old → drafted_name (stamped_name units new d) ≡ Some name → new ≡ name
new_drafted units d old new name was is = by_values d.values refl was is
  where
    by_set :
        (vs : List (List ℕ)) → slice_get vs 0 ≡ Some old → slice_get (slice_set vs 0 new) 0 ≡ Some name → new ≡ name
    by_set [] first second = absurd (cc)
    by_set (x ∷ vs) first second = let both : Some new ≡ Some name = second in cc

    by_values :
        (o : Option (List (List ℕ)))
        → d.values ≡ o → option_and_then (λ vs. slice_get vs 0) o ≡ Some old
        → option_and_then (λ vs. slice_get vs 0) (option_map (λ vs. slice_set vs 0 new) o) ≡ Some name → new ≡ name
    by_values None e first second = absurd (cc)
    by_values (Some vs) e first second = by_set vs first second

-- Names after the plan's draft are apart, but for the others that it changes.
rule_apart :
    (units : ℕ) (v : Version) (i : ItemId) (seen : Option ItemState) (d : DraftData) (rule : ClashRule) (items : List ItemData) (name : List ℕ) (js : List ItemId)
    → AreIds items → 1 ≤ units → AreAscending items → AreApart items → IsShaped units seen (state_of items i) d
    → IsShaped units seen (state_of items i) (plan_among units rule i items name js d).draft
    → drafted_name d ≡ Some name → clashing_with name (Some i) items ≡ js
    → AreApartBut i (plan_among units rule i items name js d).others (with_drafted units v i seen (plan_among units rule i items name js d).draft items)
rule_apart units v i seen d rule items name [] ids some ascending apart shaped planned named listed =
    drafted_apart units v i seen d items [] some ascending apart shaped (λ x drafted k own other is out.
    subst (λ (n : List ℕ). is_clash n own ≡ false) (same_name d name x named drafted)
    (unlisted_free items i name [] k own listed other is out))
rule_apart units v i seen d Source items name (j ∷ js) ids some ascending apart shaped planned named listed =
    drafted_apart units v i seen d items (j ∷ js) some ascending apart shaped (λ x drafted k own other is out.
    subst (λ (n : List ℕ). is_clash n own ≡ false) (same_name d name x named drafted)
    (unlisted_free items i name (j ∷ js) k own listed other is out))
rule_apart units v i seen d RenameDestination items name (j ∷ js) ids some ascending apart shaped planned named listed =
    drafted_apart units v i seen d items (j ∷ js) some ascending apart shaped (λ x drafted k own other is out.
    subst (λ (n : List ℕ). is_clash n own ≡ false) (same_name d name x named drafted)
    (unlisted_free items i name (j ∷ js) k own listed other is out))
rule_apart units v i seen d Destination items name (j ∷ js) ids some ascending apart shaped planned named listed =
    drafted_apart units v i seen (clash_draft units Destination d) items [] some ascending apart planned
    (λ x drafted k own other is out. let bad : None ≡ Some x = drafted in absurd (cc))
rule_apart units v i seen d Skip items name (j ∷ js) ids some ascending apart shaped planned named listed =
    drafted_apart units v i seen (clash_draft units Skip d) items [] some ascending apart planned
    (λ x drafted k own other is out. let bad : None ≡ Some x = drafted in absurd (cc))
rule_apart units v i seen d RenameSource items name (j ∷ js) ids some ascending apart shaped planned named listed =
    drafted_apart units v i seen (stamped_name units (new_name items i name) d) items [] some ascending apart planned
    (λ x drafted k own other is out.
    subst (λ (n : List ℕ). is_clash n own ≡ false) (new_drafted units d name (new_name items i name) x named drafted)
    (names_free items i name ascending ids k own other is))

pub plan_apart :
    (units : ℕ) (v : Version) (i : ItemId) (seen : Option ItemState) (d : DraftData) (rule : ClashRule) (items : List ItemData)
    → AreIds items → 1 ≤ units → AreAscending items → AreApart items → IsShaped units seen (state_of items i) d
    → IsShaped units seen (state_of items i) (plan_of units rule i items d).draft
    → AreApartBut i (plan_of units rule i items d).others (with_drafted units v i seen (plan_of units rule i items d).draft items)
plan_apart units v i seen d rule items ids some ascending apart shaped planned = by_name (drafted_name d) refl planned
  where
    by_name :
        (o : Option (List ℕ))
        → drafted_name d ≡ o → IsShaped units seen (state_of items i) (plan_named units rule i items o d).draft
        → AreApartBut i (plan_named units rule i items o d).others (with_drafted units v i seen (plan_named units rule i items o d).draft items)
    by_name None e fits =
        drafted_apart units v i seen d items [] some ascending apart shaped
        (λ x drafted k own other is out. let bad : None ≡ Some x = sym e ∙ drafted in absurd (cc))
    by_name (Some name) e fits =
        rule_apart units v i seen d rule items name (clashing_with name (Some i) items) ids some ascending apart shaped fits e refl

-- ---- the other items

-- The others of a plan clash with the item's drafted name.
among_others :
    (units : ℕ) (rule : ClashRule) (i : ItemId) (items : List ItemData) (name : List ℕ) (d : DraftData) (js : List ItemId) (k : ItemId)
    → Has k (plan_among units rule i items name js d).others → Has k js
among_others units rule i items name d [] k has = absurd has
among_others units Source i items name d (j ∷ js) k has = has
among_others units Destination i items name d (j ∷ js) k has = absurd has
among_others units RenameSource i items name d (j ∷ js) k has = absurd has
among_others units RenameDestination i items name d (j ∷ js) k has = has
among_others units Skip i items name d (j ∷ js) k has = absurd has

pub plan_others :
    (units : ℕ) (rule : ClashRule) (i : ItemId) (items : List ItemData) (d : DraftData) (k : ItemId)
    → AreAscending items → Has k (plan_of units rule i items d).others
    → (name : List ℕ) × (drafted_name d ≡ Some name) × IsClashing items i name k
plan_others units rule i items d k ascending has = by_name (drafted_name d) refl has
  where
    by_name :
        (o : Option (List ℕ))
        → drafted_name d ≡ o → Has k (plan_named units rule i items o d).others
        → (name : List ℕ) × (drafted_name d ≡ Some name) × IsClashing items i name k
    by_name None e h = absurd h
    by_name (Some name) e h =
        (name, e, clash_listed items i name k ascending (among_others units rule i items name d (clashing_with name (Some i) items) k h))

among_once :
    (units : ℕ) (rule : ClashRule) (i : ItemId) (items : List ItemData) (name : List ℕ) (d : DraftData) (js : List ItemId)
    → AreOnce js → AreOnce (plan_among units rule i items name js d).others
among_once units rule i items name d [] once = tt
among_once units Source i items name d (j ∷ js) once = once
among_once units Destination i items name d (j ∷ js) once = tt
among_once units RenameSource i items name d (j ∷ js) once = tt
among_once units RenameDestination i items name d (j ∷ js) once = once
among_once units Skip i items name d (j ∷ js) once = tt

pub plan_once :
    (units : ℕ) (rule : ClashRule) (i : ItemId) (items : List ItemData) (d : DraftData)
    → AreAscending items → AreOnce (plan_of units rule i items d).others
plan_once units rule i items d ascending = by_name (drafted_name d)
  where
    by_name : (o : Option (List ℕ)) → AreOnce (plan_named units rule i items o d).others
    by_name None = tt
    by_name (Some name) = among_once units rule i items name d (clashing_with name (Some i) items) (clash_once items i name ascending)

-- A name that a rule gives is free.
given_free :
    (rule : ClashRule) (items : List ItemData) (j : ItemId) (o : Option (List ℕ)) (new : List ℕ)
    → AreAscending items → AreIds items → option_and_then (other_name rule items j) o ≡ Some new → IsFree items j new
given_free rule items j None new ascending ids is = absurd (cc)
given_free Source items j (Some name) new ascending ids is = absurd (cc)
given_free Destination items j (Some name) new ascending ids is = absurd (cc)
given_free RenameSource items j (Some name) new ascending ids is = absurd (cc)
given_free Skip items j (Some name) new ascending ids is = absurd (cc)
given_free RenameDestination items j (Some name) new ascending ids is =
    let same : new_name items j name ≡ new = let both : Some (new_name items j name) ≡ Some new = is in cc in
    subst (λ (n : List ℕ). IsFree items j n) same (names_free items j name ascending ids)

pub name_free :
    (rule : Option ClashRule) (items : List ItemData) (j : ItemId) (new : List ℕ)
    → AreAscending items → AreIds items → name_given rule items j ≡ Some new → IsFree items j new
name_free None items j new ascending ids is = absurd (cc)
name_free (Some rule) items j new ascending ids is =
    given_free rule items j (option_and_then live_name (state_of items j)) new ascending ids is

-- The name of a changed other is the new one that it was given.
other_named :
    (v : Version) (given : Option (List ℕ)) (old : Option ItemState) (state : ItemState) (name : List ℕ)
    → other_state v given old ≡ Some state → live_name state ≡ Some name → given ≡ Some name
other_named v None old state name is live =
    let same : Dead v ≡ state = let both : Some (Dead v) ≡ Some state = is in cc in
    let bad : None ≡ Some name = ap live_name same ∙ live in
    absurd (cc)
other_named v (Some new) None state name is live = absurd (cc)
other_named v (Some new) (Some (Dead x)) state name is live =
    let same : Dead x ≡ state = let both : Some (Dead x) ≡ Some state = is in cc in
    let bad : None ≡ Some name = ap live_name same ∙ live in
    absurd (cc)
other_named v (Some new) (Some (Live [])) state name is live =
    let same : Live [] ≡ state = let both : Some (Live []) ≡ Some state = is in cc in
    let bad : None ≡ Some name = ap live_name same ∙ live in
    absurd (cc)
other_named v (Some new) (Some (Live (c ∷ cells))) state name is live =
    let same : Live (slice_set (c ∷ cells) 0 (record { version = v; value = new })) ≡ state =
    let both : Some (Live (slice_set (c ∷ cells) 0 (record { version = v; value = new }))) ≡ Some state = is in cc in
    let names : Some new ≡ Some name = ap live_name same ∙ live in
    names

-- Once all others are changed, the names are apart.
pub others_apart :
    (own : ℕ) (rule : Option ClashRule) (i : ItemId) (c : Changing) (js : List ItemId)
    → AreIds c.items → ((j : ItemId) → Has j js → IsItemId j) → AreAscending c.items → AreApartBut i js c.items
    → AreApart (change_others own rule c js).items
unfolding change_others
others_apart own rule i c [] ids fit ascending but = apart_all i c.items but
others_apart own rule i c (j ∷ js) ids fit ascending but =
    others_apart own rule i (change_other own rule j c) js
    (ids_given j (other_state (version_behind own c.clock) (name_given rule c.items j) (state_of c.items j)) c.items (fit j (inl refl)) ids)
    (λ k has. fit k (inr has))
    (ascending_given j (other_state (version_behind own c.clock) (name_given rule c.items j) (state_of c.items j)) c.items ascending)
    (apart_other i j js c.items (change_other own rule j c).items but
    (λ k other. state_kept j (other_state (version_behind own c.clock) (name_given rule c.items j) (state_of c.items j)) c.items k other)
    (λ name is.
    name_free rule c.items j name ascending ids
    (other_named (version_behind own c.clock) (name_given rule c.items j) (state_of c.items j) is.state name
    (sym (state_given j (other_state (version_behind own c.clock) (name_given rule c.items j) (state_of c.items j)) c.items ascending) ∙ is.there)
    is.live)))
