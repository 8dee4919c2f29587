-- Rows printed unit by unit.
use Rattle.std.proofs.Common.{◌≡◌, ℕ, suc, ◌+◌, ◌-◌, ◌<◌, ◌≤◌, Bool, true, false, inl, inr, Option, Some, None, option_map, get_or, drop, List, ◌∷◌, ◌++◌, refl, sym, ap, ◌∙◌, append-nil, append_assoc, arith}
use Rattle.std.specs.List.{flat_map}
use Rattle.std.proofs.lemmas.Bool.Decides.{same_from_decides}
use Rattle.sfx_ids.specs.declared.cut.Cut.{Cut}
use Rattle.sfx_vector.specs.Clocks.{Clocks}
use Rattle.sfx_knowledge.specs.Row.{UnitRowData, IsClockRow, row_at}
use Rattle.sfx_knowledge.specs.Forms.{exceptions_of, row_of, same_clocks}
use Rattle.sfx_knowledge.proofs.RowLemmas.{IsRow-row_of, row_at-row_of, row_at-first, AreClocks-row_at, same_rows}
use Rattle.std.specs.Prelude.{slice_get}
use Rattle.std.proofs.lemmas.List.{drop_more}
use Rattle.std.proofs.lemmas.Option.{slice_get_cases, slice_get-get_or}
use Rattle.sfx_knowledge.proofs.VectorsLemmas.{same_clocks-is, same_clocks-true}
use Rattle.sfx_reply.specs.Listing.{exception_text, unit_text}

abbrev pub segment_of : Cut → UnitRowData → Cut × UnitRowData
segment_of start row = (start, row)

-- a comparison of vectors is the test
pub same_tested : (a b : Clocks) (r : Bool) → (r ≡ true → a ≡ b) × (a ≡ b → r ≡ true) → r ≡ same_clocks a b
same_tested a b r decides = same_from_decides r (same_clocks a b) decides (same_clocks-is a b, same_clocks-true a b)

-- the exceptions of a row, by its vectors
listed_exceptions : (units : ℕ) (row : UnitRowData) → 1 ≤ units → IsClockRow units row
    → exceptions_of (row_at row 0) (λ u. row_at row u) 1 (units - 1) ≡ row.others
listed_exceptions units row some form =
    let made : IsClockRow units (row_of units (λ u. row_at row u)) = IsRow-row_of units (λ u. row_at row u) (λ u within. AreClocks-row_at units row u form) in
    let same : row_of units (λ u. row_at row u) ≡ row =
    same_rows units (row_of units (λ u. row_at row u)) row made form (row_at-first units row form) (λ u small. row_at-row_of units (λ u. row_at row u) u (inl small)) in
    ap (λ (r : UnitRowData). r.others) same

-- the exceptions from a unit on are printed unit by unit
pub exceptions_text : (base : Clocks) (vector : ℕ → Clocks) (unit count : ℕ)
    → flat_map exception_text (exceptions_of base vector unit (suc count))
    ≡ unit_text base (unit, vector unit) ++ flat_map exception_text (exceptions_of base vector (unit + 1) count)
exceptions_text base vector unit count = by_test (same_clocks (vector unit) base) refl where
  by_test : (b : Bool) → same_clocks (vector unit) base ≡ b
      → flat_map exception_text (exceptions_of base vector unit (suc count))
      ≡ unit_text base (unit, vector unit) ++ flat_map exception_text (exceptions_of base vector (unit + 1) count)
  by_test true same = rw same refl
  by_test false differ = rw differ refl

-- one more unit is printed
pub unit_printed : (base : Clocks) (vector : ℕ → Clocks) (unit units : ℕ) (before after whole : List ℕ) → unit < units
    → after ≡ before ++ unit_text base (unit, vector unit)
    → before ++ flat_map exception_text (exceptions_of base vector unit (units - unit)) ≡ whole
    → after ++ flat_map exception_text (exceptions_of base vector (unit + 1) (units - (unit + 1))) ≡ whole
unit_printed base vector unit units before after whole within is so =
    let count : units - unit ≡ suc (units - (unit + 1)) = omega arith in
    let rest = flat_map exception_text (exceptions_of base vector (unit + 1) (units - (unit + 1))) in
    ap (λ xs. xs ++ rest) is
    ∙ append_assoc before (unit_text base (unit, vector unit)) rest
    ∙ ap (λ xs. before ++ xs) (sym (exceptions_text base vector unit (units - (unit + 1))) ∙ ap (λ n. flat_map exception_text (exceptions_of base vector unit n)) (sym count))
    ∙ so

-- and at the end all are
pub row_printed : (units unit : ℕ) (row : UnitRowData) (out before head : List ℕ) → 1 ≤ units → units ≤ unit → IsClockRow units row
    → out ++ flat_map exception_text (exceptions_of (row_at row 0) (λ u. row_at row u) unit (units - unit))
    ≡ before ++ head ++ flat_map exception_text (exceptions_of (row_at row 0) (λ u. row_at row u) 1 (units - 1))
    → out ≡ before ++ head ++ flat_map exception_text row.others
row_printed units unit row out before head some end form so =
    let none : units - unit ≡ 0 = omega arith in
    let others : exceptions_of (row_at row 0) (λ u. row_at row u) 1 (units - 1) ≡ row.others = listed_exceptions units row some form in
    sym (append-nil out) ∙ ap (λ n. out ++ flat_map exception_text (exceptions_of (row_at row 0) (λ u. row_at row u) unit n)) (sym none)
    ∙ so ∙ ap (λ os. before ++ head ++ flat_map exception_text os) others

-- what is written of a list so far, and one more of it
pub one_written : {A : Type 0} (text : A → List ℕ) (xs : List A) (x : A) (i : ℕ) (before after whole : List ℕ)
    → slice_get xs i ≡ Some x → after ≡ before ++ text x → before ++ flat_map text (drop i xs) ≡ whole
    → after ++ flat_map text (drop (i + 1) xs) ≡ whole
one_written text xs x i before after whole at is so = elim (slice_get_cases xs i).1 [
  | inl (value, lt, there, get) ↦
      let same : get_or xs i x ≡ x = let both = sym (slice_get-get_or xs i x lt) ∙ at in cc in
      let rest : drop i xs ≡ x ∷ drop (i + 1) xs = drop_more xs i x lt ∙ ap (λ y. y ∷ drop (i + 1) xs) same in
      ap (λ ys. ys ++ flat_map text (drop (i + 1) xs)) is ∙ append_assoc before (text x) (flat_map text (drop (i + 1) xs))
      ∙ ap (λ ys. before ++ flat_map text ys) (sym rest) ∙ so
  | inr (past, none) ↦ absurd (let both = sym none ∙ at in cc)
]

-- a segment by its two parts
pub segment_parts : (o : Option (Cut × UnitRowData)) (start : Cut) (row : UnitRowData)
    → option_map (λ p. p.0) o ≡ Some start → option_map (λ p. p.1) o ≡ Some row → o ≡ Some (segment_of start row)
segment_parts None start row first second = absurd (cc)
segment_parts (Some p) start row first second =
    let a : p.0 ≡ start = cc in
    let b : p.1 ≡ row = cc in
    let e : segment_of p.0 p.1 ≡ segment_of start row = rw (a, b) refl in
    ap (λ x. Some x) e
