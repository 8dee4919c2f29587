-- Drafts that stamp nothing and leave nothing alone, and what they make of an item.
use Rattle.std.proofs.Common.{◌≡◌, ◌≢◌, ◌⊎◌, ℕ, zero, suc, ◌+◌, ◌<◌, ◌≤◌, ◌||◌, Bool, true, false, true≢false, if◌then◌else◌, List, [], ◌∷◌, length, map, replicate, Option, Some, None, arith, inl, inr, refl, sym, ◌∙◌, ap, subst}
use Rattle.std.specs.Prelude.{slice_get}
use Rattle.std.specs.List.{list_any, list_all}
use Rattle.std.specs.Option.{option_map, option_map_or, option_and_then}
use Rattle.std.proofs.lemmas.List.{length-map}
use Rattle.std.proofs.lemmas.Option.{slice_get-map}
use Rattle.sfx_ids.specs.declared.item_id.ItemId.{ItemId}
use Rattle.sfx_ids.specs.declared.version.Version.{Version}
use Rattle.sfx_item.specs.declared.cell.Cell.{Cell}
use Rattle.sfx_item.specs.Item.{ItemState, Live, Dead}
use Rattle.sfx_model.specs.declared.keep.Keep.{Keep}
use Rattle.sfx_model.specs.declared.mark.Mark.{Mark}
use Rattle.sfx_model.specs.declared.mark.Mark.TheVariants.{Stays, Taken, Gone}
use Rattle.sfx_model.specs.declared.unit_class.UnitClass.{UnitClass}
use Rattle.sfx_model.specs.declared.unit_class.UnitClass.TheVariants.{Known, Newer, Concurrent}
use Rattle.sfx_model.specs.sessions.Clashes.{drafted_name}
use Rattle.sfx_model.specs.members.Consistent.{live_name}
use Rattle.sfx_model.specs.sessions.Draft.{DraftData, all_marked, cells_of, values_of, value_in, unit_mark, unit_marks, unit_value, unit_values, units_draft, is_left}
use Rattle.sfx_model.specs.sessions.Entry.{is_stamped, is_taken, is_gone, no_cell, cell_after, state_after, left_from}
use Rattle.sfx_model.specs.sessions.Rules.{RulesData}
use Rattle.sfx_model.specs.world.Units.{each_unit, at_unit}
use Rattle.sfx_model.proofs.world.UnitsLemmas.{get_at, length_each, at_each, get_each, at_replicate, at_map, any_none, all_at}

-- ---- what is asked of a draft

-- A live state has a cell.
abbrev pub HasCell : Option ItemState → Type 0
HasCell o = (cells : List Cell) → o ≡ Some (Live cells) → 1 ≤ length cells

-- The state has this live name.
abbrev pub IsCalled : Option ItemState → List ℕ → Type 0
IsCalled o name = option_and_then live_name o ≡ Some name

-- The state comes of what both sides had: its name is of one of them, and what the source has not is as it was.
pub record ComesOf (seen here o : Option ItemState) : Type 0 where
  pub name : (a : List ℕ) → IsCalled o a → IsCalled seen a ⊎ IsCalled here a
  pub cell : HasCell o
  pub stays : seen ≡ None → (state : ItemState) → o ≡ Some state → here ≡ Some state

-- The draft stamps nothing and leaves nothing alone, and its name and result come of what both sides had.
pub record IsQuietDraft (units : ℕ) (seen here : Option ItemState) (d : DraftData) : Type 0 where
  pub stamps : list_any is_stamped d.marks ≡ false
  pub leaves : list_any is_left d.marks ≡ false
  pub name : (a : List ℕ) → drafted_name d ≡ Some a → IsCalled seen a ⊎ IsCalled here a
  pub state : (v : Version) → ComesOf seen here (state_after units v d seen here)

-- Nothing is left of marks none of which leaves its unit alone.
pub left_none : (i : ItemId) (u : ℕ) (marks : List Mark) → list_any is_left marks ≡ false → left_from i u marks ≡ []
left_none i u [] none = refl
left_none i u (k ∷ ks) none = by_test (left_none i (u + 1) ks) (is_left k) none
  where
    by_test :
        (list_any is_left ks ≡ false → left_from i (u + 1) ks ≡ [])
        → (b : Bool) → (b || list_any is_left ks) ≡ false → (let r : List (ItemId × ℕ) = if b then (i, u) ∷ left_from i (u + 1) ks else left_from i (u + 1) ks in r) ≡ []
    by_test rest true e = absurd (true≢false e)
    by_test rest false e = rest e

-- ---- one mark for all units

any_replicate : (test : Mark → Bool) (n : ℕ) (k : Mark) → test k ≡ false → list_any test (replicate n k) ≡ false
any_replicate test zero k e = refl
any_replicate test (suc n) k e = rw e (any_replicate test n k e)

any_first : (test : Mark → Bool) (n : ℕ) (k : Mark) → 1 ≤ n → test k ≡ true → list_any test (replicate n k) ≡ true
any_first test zero k some e = absurd (omega arith)
any_first test (suc n) k some e = rw e refl

pub same_comes : (seen here : Option ItemState) → HasCell here → ComesOf seen here here
same_comes seen here cell = record { name = λ a is. inr is; cell = cell; stays = λ none state is. is }

none_comes : (seen here : Option ItemState) → ComesOf seen here None
none_comes seen here = record {
  name = λ a is. absurd (let bad : None ≡ Some a = is in cc);
  cell = λ cells is. absurd (let bad : None ≡ Some (Live cells) = is in cc);
  stays = λ none state is. absurd (let bad : None ≡ Some state = is in cc);
}

-- All units stay.
pub stays_quiet : (units : ℕ) (seen here : Option ItemState) → HasCell here → IsQuietDraft units seen here (all_marked units Stays None)
stays_quiet units seen here cell = record {
  stamps = any_replicate is_stamped units Stays refl;
  leaves = any_replicate is_left units Stays refl;
  name = λ a is. absurd (let bad : None ≡ Some a = is in cc);
  state = λ v. subst (ComesOf seen here) (sym (as_it_was v)) (same_comes seen here cell);
}
  where
    as_it_was : (v : Version) → state_after units v (all_marked units Stays None) seen here ≡ here
    as_it_was v = rw (any_replicate is_gone units Stays refl, any_replicate is_taken units Stays refl, any_replicate is_stamped units Stays refl) refl

-- All units go.
pub gone_quiet : (units : ℕ) (seen here : Option ItemState) → 1 ≤ units → IsQuietDraft units seen here (all_marked units Gone None)
gone_quiet units seen here some = record {
  stamps = any_replicate is_stamped units Gone refl;
  leaves = any_replicate is_left units Gone refl;
  name = λ a is. absurd (let bad : None ≡ Some a = is in cc);
  state = λ v. subst (ComesOf seen here) (sym (gone v)) (none_comes seen here);
}
  where
    gone : (v : Version) → state_after units v (all_marked units Gone None) seen here ≡ None
    gone v = rw (any_first is_gone units Gone some refl) refl

-- ---- cells

-- The name of cells is the value of the first.
first_named : (cells : List Cell) → 1 ≤ length cells → live_name (Live cells) ≡ Some (at_unit cells 0 no_cell).value
first_named cells some = ap (λ (o : Option Cell). option_map (λ c. c.value) o) (get_at cells 0 no_cell (omega (arith, some)))

first_value_in : (cells : List Cell) → 1 ≤ length cells → value_in cells 0 ≡ (at_unit cells 0 no_cell).value
first_value_in cells some = ap (λ (o : Option Cell). option_map_or (λ c. c.value) o []) (get_at cells 0 no_cell (omega (arith, some)))

each_named : (units : ℕ) (f : ℕ → Cell) → 1 ≤ units → live_name (Live (each_unit units f)) ≡ Some (f 0).value
each_named units f some = ap (λ (o : Option Cell). option_map (λ c. c.value) o) (get_each units f 0 (omega (arith, some)))

-- A live state whose name is that of a side comes of both.
live_comes :
    (units : ℕ) (seen : ItemState) (here : Option ItemState) (f : ℕ → Cell)
    → 1 ≤ units → IsCalled (Some seen) (f 0).value ⊎ IsCalled here (f 0).value
    → ComesOf (Some seen) here (Some (Live (each_unit units f)))
live_comes units seen here f some of = record {
  name = λ a is.
      let same : (f 0).value ≡ a = let both : Some (f 0).value ≡ Some a = sym (each_named units f some) ∙ is in cc in
      subst (λ (n : List ℕ). IsCalled (Some seen) n ⊎ IsCalled here n) same of;
  cell = λ cells is.
      let same : each_unit units f ≡ cells = let both : Some (Live (each_unit units f)) ≡ Some (Live cells) = is in cc in
      subst (λ (cs : List Cell). 1 ≤ length cs) same (subst (λ (n : ℕ). 1 ≤ n) (sym (length_each units f)) some);
  stays = λ none state is. absurd (let bad : Some seen ≡ None = none in cc);
}

dead_comes : (v : Version) (here : Option ItemState) → ComesOf (Some (Dead v)) here (Some (Dead v))
dead_comes v here = record {
  name = λ a is. inl is;
  cell = λ cells is. absurd (let bad : Some (Dead v) ≡ Some (Live cells) = is in cc);
  stays = λ none state is. absurd (let bad : Some (Dead v) ≡ None = none in cc);
}

-- ---- an item that is taken as it is

pub taken_quiet :
    (units : ℕ) (seen : ItemState) (here : Option ItemState)
    → 1 ≤ units → HasCell (Some seen) → IsQuietDraft units (Some seen) here (all_marked units Taken (values_of (Some seen)))
taken_quiet units (Dead d) here some cell = record {
  stamps = any_replicate is_stamped units Taken refl;
  leaves = any_replicate is_left units Taken refl;
  name = λ a is. absurd (let bad : None ≡ Some a = is in cc);
  state = λ v. subst (ComesOf (Some (Dead d)) here) (sym (taken v)) (dead_comes d here);
}
  where
    taken : (v : Version) → state_after units v (all_marked units Taken None) (Some (Dead d)) here ≡ Some (Dead d)
    taken v = rw (any_replicate is_gone units Taken refl, any_first is_taken units Taken some refl, any_replicate is_stamped units Taken refl) refl
taken_quiet units (Live cells) here some cell = record {
  stamps = any_replicate is_stamped units Taken refl;
  leaves = any_replicate is_left units Taken refl;
  name = λ a is. inl (sym (slice_get-map (λ (c : Cell). c.value) cells 0) ∙ is);
  state = λ v. subst (ComesOf (Some (Live cells)) here) (sym (taken v))
      (live_comes units (Live cells) here (at v) some (inl (first_named cells (cell cells refl) ∙ sym (ap (λ (c : Cell). Some c.value) (first v)))));
}
  where
    at : Version → ℕ → Cell
    at v u = cell_after v (at_unit (replicate units Taken) u Stays) (at_unit (map (λ c. c.value) cells) u []) (at_unit cells u no_cell) (at_unit (cells_of here) u no_cell)

    first : (v : Version) → at v 0 ≡ at_unit cells 0 no_cell
    first v = ap (λ (k : Mark). cell_after v k (at_unit (map (λ c. c.value) cells) 0 []) (at_unit cells 0 no_cell) (at_unit (cells_of here) 0 no_cell))
        (at_replicate units 0 Taken Stays (omega (arith, some)))

    taken : (v : Version) → state_after units v (all_marked units Taken (values_of (Some (Live cells)))) (Some (Live cells)) here ≡ Some (Live (each_unit units (at v)))
    taken v = rw (any_replicate is_gone units Taken refl, any_first is_taken units Taken some refl) refl

-- ---- an item that is live on both sides

-- A unit that is in no conflict stays or is taken.
quiet_mark : (test : Mark → Bool) (keep : Keep) (c : UnitClass) → c ≢ Concurrent → test Stays ≡ false → test Taken ≡ false → test (unit_mark keep c) ≡ false
quiet_mark test keep Known other stays taken = stays
quiet_mark test keep Newer other stays taken = taken
quiet_mark test keep Concurrent other stays taken = absurd (other refl)

quiet_marks :
    (test : Mark → Bool) (keep : Keep) (units : ℕ) (g : ℕ → UnitClass)
    → ((u : ℕ) → u < units → g u ≢ Concurrent) → test Stays ≡ false → test Taken ≡ false
    → list_any test (unit_marks keep (each_unit units g)) ≡ false
quiet_marks test keep units g none stays taken = any_none test (unit_marks keep (each_unit units g)) Stays (λ u small.
    let low : u < length (each_unit units g) = subst (λ (n : ℕ). u < n) (length-map (each_unit units g) (unit_mark keep)) small in
    let lower : u < units = subst (λ (n : ℕ). u < n) (length_each units g) low in
    let is : at_unit (unit_marks keep (each_unit units g)) u Stays ≡ unit_mark keep (g u) =
    at_map (unit_mark keep) (each_unit units g) u Known Stays low ∙ ap (unit_mark keep) (at_each units g u Known lower) in
    subst (λ (k : Mark). test k ≡ false) (sym is) (quiet_mark test keep (g u) (none u lower) stays taken))

-- The first unit's cell afterwards has the name of one side.
first_cell :
    (rules : RulesData) (v : Version) (c : UnitClass) (value : List ℕ) (seen own : Cell)
    → c ≢ Concurrent → (cell_after v (unit_mark rules.keep c) value seen own ≡ seen) ⊎ (cell_after v (unit_mark rules.keep c) value seen own ≡ own)
first_cell rules v Known value seen own other = inr refl
first_cell rules v Newer value seen own other = inl refl
first_cell rules v Concurrent value seen own other = absurd (other refl)

first_unit :
    (rules : RulesData) (c : UnitClass) (seen own : List ℕ)
    → c ≢ Concurrent → (unit_value rules 0 c seen own ≡ seen) ⊎ (unit_value rules 0 c seen own ≡ own)
first_unit rules Known seen own other = inr refl
first_unit rules Newer seen own other = inl refl
first_unit rules Concurrent seen own other = absurd (other refl)

pub units_quiet :
    (units : ℕ) (rules : RulesData) (g : ℕ → UnitClass) (cells own : List Cell)
    → 1 ≤ units → ((u : ℕ) → u < units → g u ≢ Concurrent) → 1 ≤ length cells → 1 ≤ length own
    → IsQuietDraft units (Some (Live cells)) (Some (Live own)) (units_draft units rules (each_unit units g) cells own)
units_quiet units rules g cells own some none long more = record {
  stamps = quiet_marks is_stamped rules.keep units g none refl refl;
  leaves = quiet_marks is_left rules.keep units g none refl refl;
  name = named;
  state = state;
}
  where
    classes : List UnitClass
    classes = each_unit units g

    marks : List Mark
    marks = unit_marks rules.keep classes

    first_class : at_unit classes 0 Known ≡ g 0
    first_class = at_each units g 0 Known (omega (arith, some))

    calm : at_unit classes 0 Known ≢ Concurrent
    calm e = none 0 (omega (arith, some)) (sym first_class ∙ e)

    first_mark : at_unit (unit_marks rules.keep (each_unit units g)) 0 Stays ≡ unit_mark rules.keep (at_unit (each_unit units g) 0 Known)
    first_mark = at_map (unit_mark rules.keep) (each_unit units g) 0 Known Stays (subst (λ (n : ℕ). 0 < n) (sym (length_each units g)) (omega (arith, some)))

    values : List (List ℕ)
    values = unit_values units rules classes cells own

    theirs : IsCalled (Some (Live cells)) (at_unit cells 0 no_cell).value
    theirs = first_named cells long

    ours : IsCalled (Some (Live own)) (at_unit own 0 no_cell).value
    ours = first_named own more

    not_all : list_all is_left (unit_marks rules.keep (each_unit units g)) ≡ false
    not_all = by_test (list_all is_left (unit_marks rules.keep (each_unit units g))) refl
      where
        by_test : (b : Bool) → list_all is_left (unit_marks rules.keep (each_unit units g)) ≡ b → b ≡ false
        by_test false e = refl
        by_test true e =
            let low : 0 < length (unit_marks rules.keep (each_unit units g)) =
            subst (λ (n : ℕ). 0 < n) (sym (length-map (each_unit units g) (unit_mark rules.keep) ∙ length_each units g)) (omega (arith, some)) in
            absurd (true≢false (sym (all_at is_left (unit_marks rules.keep (each_unit units g)) 0 Stays low e)
            ∙ ap is_left first_mark ∙ quiet_mark is_left rules.keep (at_unit (each_unit units g) 0 Known) calm refl refl))

    drafted : (units_draft units rules (each_unit units g) cells own).values ≡ Some (unit_values units rules (each_unit units g) cells own)
    drafted = rw not_all refl

    f : ℕ → List ℕ
    f u = unit_value rules u (at_unit (each_unit units g) u Known) (value_in cells u) (value_in own u)

    first_name : (a : List ℕ) → drafted_name (units_draft units rules (each_unit units g) cells own) ≡ Some a → f 0 ≡ a
    first_name a is =
        let one : drafted_name (units_draft units rules (each_unit units g) cells own) ≡ slice_get (each_unit units f) 0 =
        ap (λ (o : Option (List (List ℕ))). option_and_then (λ values. slice_get values 0) o) drafted in
        let two : slice_get (each_unit units f) 0 ≡ Some (f 0) = get_each units f 0 (omega (arith, some)) in
        let both : Some (f 0) ≡ Some a = sym two ∙ sym one ∙ is in
        cc

    named : (a : List ℕ) → drafted_name (units_draft units rules (each_unit units g) cells own) ≡ Some a → IsCalled (Some (Live cells)) a ⊎ IsCalled (Some (Live own)) a
    named a is =
        let same : f 0 ≡ a = first_name a is in
        elim (first_unit rules (at_unit (each_unit units g) 0 Known) (value_in cells 0) (value_in own 0) calm) [
          | inl e ↦ inl (theirs ∙ ap Some (sym (first_value_in cells long) ∙ sym e ∙ same))
          | inr e ↦ inr (ours ∙ ap Some (sym (first_value_in own more) ∙ sym e ∙ same))
        ]

    cell : Version → ℕ → Cell
    cell v u = cell_after v (at_unit (unit_marks rules.keep (each_unit units g)) u Stays) (at_unit (unit_values units rules (each_unit units g) cells own) u []) (at_unit cells u no_cell) (at_unit own u no_cell)

    first_after : (v : Version) → IsCalled (Some (Live cells)) (cell v 0).value ⊎ IsCalled (Some (Live own)) (cell v 0).value
    first_after v =
        let is : cell v 0 ≡ cell_after v (unit_mark rules.keep (at_unit (each_unit units g) 0 Known)) (at_unit (unit_values units rules (each_unit units g) cells own) 0 []) (at_unit cells 0 no_cell) (at_unit own 0 no_cell) =
        ap (λ (k : Mark). cell_after v k (at_unit (unit_values units rules (each_unit units g) cells own) 0 []) (at_unit cells 0 no_cell) (at_unit own 0 no_cell)) first_mark in
        elim (first_cell rules v (at_unit (each_unit units g) 0 Known) (at_unit (unit_values units rules (each_unit units g) cells own) 0 []) (at_unit cells 0 no_cell) (at_unit own 0 no_cell) calm) [
          | inl e ↦ inl (theirs ∙ ap (λ (c : Cell). Some c.value) (sym (is ∙ e)))
          | inr e ↦ inr (ours ∙ ap (λ (c : Cell). Some c.value) (sym (is ∙ e)))
        ]

    by_taken :
        (v : Version) (b : Bool)
        → ComesOf (Some (Live cells)) (Some (Live own)) (if b then Some (Live (each_unit units (cell v))) else Some (Live own))
    by_taken v true = live_comes units (Live cells) (Some (Live own)) (cell v) some (first_after v)
    by_taken v false = same_comes (Some (Live cells)) (Some (Live own)) (λ cs is.
        subst (λ (xs : List Cell). 1 ≤ length xs) (let both : Some (Live own) ≡ Some (Live cs) = is in let e : own ≡ cs = cc in e) more)

    after_is :
        (v : Version)
        → state_after units v (units_draft units rules (each_unit units g) cells own) (Some (Live cells)) (Some (Live own))
        ≡ (let r : Option ItemState = if list_any is_taken (unit_marks rules.keep (each_unit units g)) then Some (Live (each_unit units (cell v))) else Some (Live own) in r)
    after_is v = rw (quiet_marks is_gone rules.keep units g none refl refl, quiet_marks is_stamped rules.keep units g none refl refl, not_all) refl

    state : (v : Version) → ComesOf (Some (Live cells)) (Some (Live own)) (state_after units v (units_draft units rules (each_unit units g) cells own) (Some (Live cells)) (Some (Live own)))
    state v = subst (ComesOf (Some (Live cells)) (Some (Live own))) (sym (after_is v)) (by_taken v (list_any is_taken (unit_marks rules.keep (each_unit units g))))
