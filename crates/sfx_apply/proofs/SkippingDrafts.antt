-- What the drafts of changes are under rules that leave conflicts of contents alone.
use Rattle.std.proofs.Common.{◌≡◌, ◌⊎◌, ℕ, ◌<◌, ◌≤◌, Bool, true, false, if◌then◌else◌, List, [], ◌∷◌, length, replicate, map, Option, Some, None, slice_get, inl, inr, refl, sym, ◌∙◌, ap, subst, arith}
use Rattle.std.specs.List.{list_any, list_all}
use Rattle.std.specs.Option.{unwrap_or, option_and_then, option_map, option_map_or}
use Rattle.std.proofs.lemmas.Option.{slice_get-get_or, slice_get-map, unwrap_or-slice_get}
use Rattle.sfx_ids.specs.declared.version.Version.{Version}
use Rattle.sfx_item.specs.declared.cell.Cell.{Cell}
use Rattle.sfx_item.specs.Name.{IsName}
use Rattle.sfx_item.specs.Row.{HasName, IsCellRow, first_value}
use Rattle.sfx_model.specs.declared.keep.Keep.{Keep}
use Rattle.sfx_model.specs.declared.keep.Keep.TheVariants.{Skip}
use Rattle.sfx_model.specs.declared.mark.Mark.{Mark}
use Rattle.sfx_model.specs.declared.mark.Mark.TheVariants.{Stays, Taken, Stamped, Left, Gone}
use Rattle.sfx_model.specs.declared.unit_class.UnitClass.{UnitClass}
use Rattle.sfx_model.specs.declared.unit_class.UnitClass.TheVariants.{Known, Newer, Concurrent}
use Rattle.sfx_model.specs.sessions.Clashes.{drafted_name}
use Rattle.sfx_model.specs.sessions.Class.{WholeConflict}
use Rattle.sfx_model.specs.members.Consistent.{IsItemState, live_name}
use Rattle.sfx_model.specs.sessions.Draft.{DraftData, all_marked, cells_of, conflict_value, draft_of, is_left, unit_mark, unit_marks, unit_value, unit_values, units_draft, value_in, values_of, whole_draft}
use Rattle.sfx_model.specs.sessions.Entry.{cell_after, cells_after, is_gone, is_stamped, is_taken, no_cell, state_after}
use Rattle.sfx_item.specs.Item.{version_at, ItemState, Live, Dead}
use Rattle.sfx_model.specs.sessions.Rules.{RulesData}
use Rattle.sfx_model.specs.world.Units.{at_unit}
use Rattle.sfx_apply.specs.Work.{taken_cells, taken_state}
use Rattle.sfx_apply.proofs.UnitLists.{at_mapped, at_same, each_at, each_itself, each_same, length-each, none_at, none_mapped, none_same, not_all, some_same}

-- No unit gets a fresh version, and the item does not go.
pub record IsQuiet (marks : List Mark) : Type 0 where
  pub stamped : list_any is_stamped marks ≡ false
  pub gone : list_any is_gone marks ≡ false

-- What the draft makes of an item of which units are taken.
pub record Brings (units : ℕ) (seen : ItemState) (here : Option ItemState) (d : DraftData) : Type 0 where
  pub taken : list_any is_taken d.marks ≡ true
  pub state : (v : Version) → state_after units v d (Some seen) here ≡ Some (taken_state units d.marks seen here)
  pub whole : IsItemState units (taken_state units d.marks seen here)
  -- each unit's version is the source's where the unit is taken, and else that from here
  pub versions :
      (u : ℕ) (v : Version) → u < units → version_at (taken_state units d.marks seen here) u ≡ Some v →
      ((at_unit d.marks u Stays ≡ Taken) × (version_at seen u ≡ Some v))
      ⊎ ((own : ItemState) × (here ≡ Some own) × (version_at own u ≡ Some v))
  -- a unit is left alone only where the item is here
  pub left : (u : ℕ) → u < units → is_left (at_unit d.marks u Stays) ≡ true → (own : ItemState) × (here ≡ Some own)
  pub named : (name : List ℕ) → live_name (taken_state units d.marks seen here) ≡ Some name → drafted_name d ≡ Some name

-- The draft skips conflicts: nothing is stamped, and where units are taken it brings the item.
pub record SkipsConflicts (units : ℕ) (seen : ItemState) (here : Option ItemState) (d : DraftData) : Type 0 where
  pub quiet : IsQuiet d.marks
  pub result : (list_any is_taken d.marks ≡ false) ⊎ Brings units seen here d
  pub valid : (name : List ℕ) → drafted_name d ≡ Some name → IsName name

-- The state here, where there is one, is whole.
abbrev pub IsWholeHere : ℕ → Option ItemState → Type 0
IsWholeHere units None = Unit {0}
IsWholeHere units (Some own) = IsItemState units own

-- Drafts with one mark for all units, of which none is taken.
pub still_draft :
    (units : ℕ) (seen : ItemState) (here : Option ItemState) (k : Mark)
    → is_stamped k ≡ false → is_gone k ≡ false → is_taken k ≡ false
    → SkipsConflicts units seen here (all_marked units k None)
still_draft units seen here k stamped gone taken = record {
  quiet = record { stamped = none_same is_stamped k units stamped; gone = none_same is_gone k units gone };
  result = inl (none_same is_taken k units taken);
  valid = λ name is. absurd (cc);
}

-- The name that the cells of a row hold.
row_name : (cells : List Cell) (name : List ℕ) → HasName cells → first_value cells ≡ Some name → IsName name
row_name cells name named is =
    let same : named.name ≡ name = let both : Some named.name ≡ Some name = sym named.first ∙ is in cc in
    subst IsName same named.valid

-- An item that is taken as it is, and is not live on both sides.
abbrev pub IsOneSided : ItemState → Option ItemState → Type 0
IsOneSided (Live seen) (Some (Live here)) = ⊥
IsOneSided (Live seen) (Some (Dead v)) = Unit {0}
IsOneSided (Live seen) None = Unit {0}
IsOneSided (Dead v) here = Unit {0}

-- Then it becomes what it is at the source.
taken_whole :
    (units : ℕ) (marks : List Mark) (seen : ItemState) (here : Option ItemState)
    → IsOneSided seen here → taken_state units marks seen here ≡ seen
taken_whole units marks (Live cells) None one = refl
taken_whole units marks (Live cells) (Some (Live own)) one = absurd one
taken_whole units marks (Live cells) (Some (Dead v)) one = refl
taken_whole units marks (Dead v) here one = refl

-- The cells of units that are all taken are the source's.
all_taken :
    (units : ℕ) (v : Version) (values : List (List ℕ)) (seen here : List Cell)
    → length seen ≡ units → cells_after units v (replicate units Taken) values seen here ≡ seen
all_taken units v values seen here whole =
    each_same
    (λ u. cell_after v (at_unit (replicate units Taken) u Stays) (at_unit values u []) (at_unit seen u no_cell) (at_unit here u no_cell))
    (λ u. at_unit seen u no_cell) units
    (λ u small. ap (λ (k : Mark). cell_after v k (at_unit values u []) (at_unit seen u no_cell) (at_unit here u no_cell)) (at_same units u Taken Stays small))
    ∙ each_itself seen no_cell units whole

pub brought_whole :
    (units : ℕ) (v : Version) (seen : ItemState) (here : Option ItemState)
    → 1 ≤ units → IsItemState units seen
    → state_after units v (all_marked units Taken (values_of (Some seen))) (Some seen) here ≡ Some seen
brought_whole units v (Live cells) here some whole =
    rw (none_same is_gone Taken units refl, some_same is_taken Taken units some refl)
    (ap (λ (cs : List Cell). Some (Live cs)) (all_taken units v (map (λ c. c.value) cells) cells (cells_of here) whole.whole))
brought_whole units v (Dead d) here some whole =
    rw (none_same is_gone Taken units refl, some_same is_taken Taken units some refl, none_same is_stamped Taken units refl) refl

-- The name of an item is among its values.
first_named : (cells : List Cell) → slice_get (map (λ c. c.value) cells) 0 ≡ first_value cells
first_named cells = slice_get-map (λ c. c.value) cells 0

whole_valid :
    (units : ℕ) (seen : ItemState) (name : List ℕ)
    → IsItemState units seen → drafted_name (all_marked units Taken (values_of (Some seen))) ≡ Some name → IsName name
whole_valid units (Live cells) name whole is = row_name cells name whole.named (sym (first_named cells) ∙ is)
whole_valid units (Dead v) name whole is = absurd (cc)

whole_named :
    (units : ℕ) (seen : ItemState) (name : List ℕ)
    → live_name seen ≡ Some name → drafted_name (all_marked units Taken (values_of (Some seen))) ≡ Some name
whole_named units (Live cells) name is = first_named cells ∙ is
whole_named units (Dead v) name is = absurd (cc)

pub whole_is :
    (units : ℕ) (seen : ItemState) (here : Option ItemState)
    → 1 ≤ units → IsItemState units seen → IsOneSided seen here
    → SkipsConflicts units seen here (all_marked units Taken (values_of (Some seen)))
whole_is units seen here some whole one =
    let same : taken_state units (replicate units Taken) seen here ≡ seen = taken_whole units (replicate units Taken) seen here one in record {
      quiet = record { stamped = none_same is_stamped Taken units refl; gone = none_same is_gone Taken units refl };
      result = inr (record {
        taken = some_same is_taken Taken units some refl;
        state = λ v. brought_whole units v seen here some whole ∙ ap (λ x. Some x) (sym same);
        whole = subst (IsItemState units) (sym same) whole;
        versions = λ u v small is. inl (at_same units u Taken Stays small, subst (λ (s : ItemState). version_at s u ≡ Some v) same is);
        left = λ u small is.
            let mark : at_unit (replicate units Taken) u Stays ≡ Taken = at_same units u Taken Stays small in
            let bad : is_left Taken ≡ true = subst (λ (k : Mark). is_left k ≡ true) mark is in
            absurd (cc);
        named = λ name is. whole_named units seen name (subst (λ (s : ItemState). live_name s ≡ Some name) same is);
      });
      valid = λ name is. whole_valid units seen name whole is;
    }

-- Where conflicts are left alone, a unit stays, is taken or is left alone.
quiet_mark : (class : UnitClass) → (is_stamped (unit_mark Skip class) ≡ false) × (is_gone (unit_mark Skip class) ≡ false)
quiet_mark Known = (refl, refl)
quiet_mark Newer = (refl, refl)
quiet_mark Concurrent = (refl, refl)

units_quiet : (classes : List UnitClass) → IsQuiet (unit_marks Skip classes)
units_quiet classes = record {
  stamped = none_mapped is_stamped (unit_mark Skip) classes (λ class. (quiet_mark class).0);
  gone = none_mapped is_gone (unit_mark Skip) classes (λ class. (quiet_mark class).1);
}

-- The cell of a unit that is not stamped.
cell_unstamped :
    (v : Version) (k : Mark) (value : List ℕ) (seen here : Cell)
    → is_stamped k ≡ false → cell_after v k value seen here ≡ (if is_taken k then seen else here)
cell_unstamped v Stays value seen here quiet = refl
cell_unstamped v Taken value seen here quiet = refl
cell_unstamped v Stamped value seen here quiet = absurd (cc)
cell_unstamped v Left value seen here quiet = refl
cell_unstamped v Gone value seen here quiet = refl

cells_unstamped :
    (units : ℕ) (v : Version) (marks : List Mark) (values : List (List ℕ)) (seen here : List Cell)
    → list_any is_stamped marks ≡ false → cells_after units v marks values seen here ≡ taken_cells units marks seen here
cells_unstamped units v marks values seen here quiet =
    each_same
    (λ u. cell_after v (at_unit marks u Stays) (at_unit values u []) (at_unit seen u no_cell) (at_unit here u no_cell))
    (λ u. if is_taken (at_unit marks u Stays) then at_unit seen u no_cell else at_unit here u no_cell) units
    (λ u small.
    cell_unstamped v (at_unit marks u Stays) (at_unit values u []) (at_unit seen u no_cell) (at_unit here u no_cell)
    (none_at is_stamped marks u Stays refl quiet))

-- The cell of a unit of a row.
cell_of_unit : (cells : List Cell) (u : ℕ) → u < length cells → slice_get cells u ≡ Some (at_unit cells u no_cell)
cell_of_unit cells u small = slice_get-get_or cells u no_cell small ∙ ap (λ x. Some x) (sym (unwrap_or-slice_get cells u no_cell))

first_is : (cells : List Cell) (name : List ℕ) → first_value cells ≡ Some name → (at_unit cells 0 no_cell).value ≡ name
first_is [] name is = absurd (cc)
first_is (c ∷ cs) name is = cc

value_of_unit : (cells : List Cell) (u : ℕ) → value_in cells u ≡ (at_unit cells u no_cell).value
value_of_unit cells u = by_cell (slice_get cells u)
  where
    by_cell : (o : Option Cell) → option_map_or (λ c. c.value) o [] ≡ (unwrap_or o no_cell).value
    by_cell None = refl
    by_cell (Some c) = refl

-- The first of the cells of units that are taken in part.
taken_first :
    (units : ℕ) (marks : List Mark) (seen here : List Cell)
    → 1 ≤ units
    → first_value (taken_cells units marks seen here)
    ≡ Some (if is_taken (at_unit marks 0 Stays) then at_unit seen 0 no_cell else at_unit here 0 no_cell).value
taken_first units marks seen here some =
    ap (λ (o : Option Cell). option_map (λ c. c.value) o)
    (each_at (λ u. if is_taken (at_unit marks u Stays) then at_unit seen u no_cell else at_unit here u no_cell) units 0 (omega arith))

pub taken_row :
    (units : ℕ) (marks : List Mark) (seen here : List Cell)
    → 1 ≤ units → IsCellRow units seen → IsCellRow units here → IsCellRow units (taken_cells units marks seen here)
taken_row units marks seen here some row_seen row_here = record {
  whole = length-each (λ u. if is_taken (at_unit marks u Stays) then at_unit seen u no_cell else at_unit here u no_cell) units;
  named = by_test (is_taken (at_unit marks 0 Stays)) refl;
}
  where
    by_test : (b : Bool) → is_taken (at_unit marks 0 Stays) ≡ b → HasName (taken_cells units marks seen here)
    by_test true e = record {
      name = row_seen.named.name;
      valid = row_seen.named.valid;
      first = taken_first units marks seen here some ∙ ap (λ (b : Bool). Some (if b then at_unit seen 0 no_cell else at_unit here 0 no_cell).value) e
          ∙ ap (λ x. Some x) (first_is seen row_seen.named.name row_seen.named.first);
    }
    by_test false e = record {
      name = row_here.named.name;
      valid = row_here.named.valid;
      first = taken_first units marks seen here some ∙ ap (λ (b : Bool). Some (if b then at_unit seen 0 no_cell else at_unit here 0 no_cell).value) e
          ∙ ap (λ x. Some x) (first_is here row_here.named.name row_here.named.first);
    }

-- The mark of a unit that is taken.
taken_mark : (k : Mark) → is_taken k ≡ true → k ≡ Taken
taken_mark Stays is = absurd (cc)
taken_mark Taken is = refl
taken_mark Stamped is = absurd (cc)
taken_mark Left is = absurd (cc)
taken_mark Gone is = absurd (cc)

taken_version :
    (units : ℕ) (marks : List Mark) (seen here : List Cell) (u : ℕ) (v : Version)
    → IsCellRow units seen → IsCellRow units here → u < units → version_at (Live (taken_cells units marks seen here)) u ≡ Some v
    → ((at_unit marks u Stays ≡ Taken) × (version_at (Live seen) u ≡ Some v))
    ⊎ ((own : ItemState) × (Some (Live here) ≡ Some own) × (version_at own u ≡ Some v))
taken_version units marks seen here u v row_seen row_here small is =
    let cell : slice_get (taken_cells units marks seen here) u ≡ Some (if is_taken (at_unit marks u Stays) then at_unit seen u no_cell else at_unit here u no_cell) =
    each_at (λ x. if is_taken (at_unit marks x Stays) then at_unit seen x no_cell else at_unit here x no_cell) units u small in
    by_test (is_taken (at_unit marks u Stays)) refl (sym (ap (λ (o : Option Cell). option_map (λ c. c.version) o) cell) ∙ is)
  where
    by_test :
        (b : Bool) → is_taken (at_unit marks u Stays) ≡ b
        → Some (if b then at_unit seen u no_cell else at_unit here u no_cell).version ≡ Some v
        → ((at_unit marks u Stays ≡ Taken) × (version_at (Live seen) u ≡ Some v))
        ⊎ ((own : ItemState) × (Some (Live here) ≡ Some own) × (version_at own u ≡ Some v))
    by_test true e same =
        let inside : u < length seen = omega (arith, row_seen.whole) in
        inl (taken_mark (at_unit marks u Stays) e, ap (λ (o : Option Cell). option_map (λ c. c.version) o) (cell_of_unit seen u inside) ∙ same)
    by_test false e same =
        let inside : u < length here = omega (arith, row_here.whole) in
        inr (Live here, refl, ap (λ (o : Option Cell). option_map (λ c. c.version) o) (cell_of_unit here u inside) ∙ same)

-- The drafted name is that of the item as it becomes.
first_drafted :
    (units : ℕ) (rules : RulesData) (classes : List UnitClass) (seen here : List Cell)
    → rules.keep ≡ Skip → 1 ≤ units
    → slice_get (unit_values units rules classes seen here) 0
    ≡ first_value (taken_cells units (unit_marks Skip classes) seen here)
first_drafted units rules classes seen here skip some =
    each_at (λ u. unit_value rules u (at_unit classes u Known) (value_in seen u) (value_in here u)) units 0 (omega arith)
    ∙ ap (λ x. Some x) (by_class (at_unit classes 0 Known))
    ∙ ap (λ (k : Mark). Some (if is_taken k then at_unit seen 0 no_cell else at_unit here 0 no_cell).value)
    (sym (at_mapped (unit_mark Skip) classes 0 Known))
    ∙ sym (taken_first units (unit_marks Skip classes) seen here some)
  where
    by_class :
        (class : UnitClass)
        → unit_value rules 0 class (value_in seen 0) (value_in here 0)
        ≡ (if is_taken (unit_mark Skip class) then at_unit seen 0 no_cell else at_unit here 0 no_cell).value
    by_class Known = value_of_unit here 0
    by_class Newer = value_of_unit seen 0
    by_class Concurrent =
        ap (λ (k : Keep). conflict_value k (rules.merge 0 (value_in seen 0) (value_in here 0)) (value_in seen 0) (value_in here 0)) skip
        ∙ value_of_unit here 0

-- A unit that is taken is not left alone.
taken_not_left : (k : Mark) → is_taken k ≡ true → is_left k ≡ false
taken_not_left Stays is = refl
taken_not_left Taken is = refl
taken_not_left Stamped is = refl
taken_not_left Left is = absurd (cc)
taken_not_left Gone is = refl

-- The draft unit by unit with marks of this rule of contents.
abbrev marked_draft : ℕ → RulesData → Keep → List UnitClass → List Cell → List Cell → DraftData
marked_draft units rules keep classes seen here = record {
  marks = unit_marks keep classes;
  values = if list_all is_left (unit_marks keep classes) then None else Some (unit_values units rules classes seen here);
}

units_brings :
    (units : ℕ) (rules : RulesData) (classes : List UnitClass) (seen here : List Cell)
    → rules.keep ≡ Skip → 1 ≤ units → IsCellRow units seen → IsCellRow units here → list_any is_taken (unit_marks Skip classes) ≡ true
    → Brings units (Live seen) (Some (Live here)) (marked_draft units rules Skip classes seen here)
units_brings units rules classes seen here skip some row_seen row_here taken =
    let quiet : IsQuiet (unit_marks Skip classes) = units_quiet classes in
    let kept : list_all is_left (unit_marks Skip classes) ≡ false = not_all is_taken is_left (unit_marks Skip classes) taken_not_left taken in record {
      taken = taken;
      state = λ v.
          rw (quiet.gone, taken, kept)
          (ap (λ (cs : List Cell). Some (Live cs))
          (cells_unstamped units v (unit_marks Skip classes) (unit_values units rules classes seen here) seen here quiet.stamped));
      whole = taken_row units (unit_marks Skip classes) seen here some row_seen row_here;
      versions = λ u v small is. taken_version units (unit_marks Skip classes) seen here u v row_seen row_here small is;
      left = λ u small is. (Live here, refl);
      named = λ name is. rw kept (first_drafted units rules classes seen here skip some ∙ is);
    }

skipped_parts :
    (units : ℕ) (rules : RulesData) (classes : List UnitClass) (seen here : List Cell)
    → rules.keep ≡ Skip → 1 ≤ units → IsCellRow units seen → IsCellRow units here
    → SkipsConflicts units (Live seen) (Some (Live here)) (marked_draft units rules Skip classes seen here)
skipped_parts units rules classes seen here skip some row_seen row_here = record {
  quiet = units_quiet classes;
  result = by_test (list_any is_taken (unit_marks Skip classes)) refl;
  valid = λ name is. by_left (list_all is_left (unit_marks Skip classes)) name is;
}
  where
    by_left :
        (b : Bool) (name : List ℕ)
        → option_and_then (λ values. slice_get values 0) (if b then None else Some (unit_values units rules classes seen here)) ≡ Some name
        → IsName name
    by_left true name is = absurd (cc)
    by_left false name is =
        row_name (taken_cells units (unit_marks Skip classes) seen here) name
        (taken_row units (unit_marks Skip classes) seen here some row_seen row_here).named
        (sym (first_drafted units rules classes seen here skip some) ∙ is)

    by_test :
        (b : Bool) → list_any is_taken (unit_marks Skip classes) ≡ b
        → (list_any is_taken (unit_marks Skip classes) ≡ false)
        ⊎ Brings units (Live seen) (Some (Live here)) (marked_draft units rules Skip classes seen here)
    by_test true e = inr (units_brings units rules classes seen here skip some row_seen row_here e)
    by_test false e = inl e

pub parts_draft :
    (units : ℕ) (rules : RulesData) (classes : List UnitClass) (seen here : List Cell)
    → rules.keep ≡ Skip → 1 ≤ units → IsCellRow units seen → IsCellRow units here
    → SkipsConflicts units (Live seen) (Some (Live here)) (units_draft units rules classes seen here)
parts_draft units rules classes seen here skip some row_seen row_here =
    subst (λ (k : Keep). SkipsConflicts units (Live seen) (Some (Live here)) (marked_draft units rules k classes seen here)) (sym skip)
    (skipped_parts units rules classes seen here skip some row_seen row_here)

-- A conflict of all units is left alone.
pub left_draft :
    (units : ℕ) (rules : RulesData) (seen : ItemState) (here : Option ItemState)
    → rules.keep ≡ Skip → SkipsConflicts units seen here (draft_of units rules WholeConflict (Some seen) here)
left_draft units rules seen here skip =
    subst (λ (k : Keep). SkipsConflicts units seen here (whole_draft units k (Some seen) here)) (sym skip)
    (still_draft units seen here Left refl refl refl)
