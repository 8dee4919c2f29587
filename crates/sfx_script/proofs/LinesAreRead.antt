-- Bytes as a line: where they go wrong, and what their words say of it.
use Rattle.std.proofs.Common.{◌≡◌, ℕ, zero, suc, ◌+◌, ◌<◌, ◌≤◌, ◌⊎◌, inl, inr, Bool, true, false, cond, if◌then◌else◌, nat_le, Option, Some, None, IsSome, IfErr, Result, Ok, Err, List, [], ◌∷◌, length, codes, slice_index, refl, sym, ap, subst, ◌∙◌, true≢false, arith}
use Rattle.std.proofs.lemmas.Bool.{cases_Bool}
use Rattle.std.proofs.lemmas.Bool.Decides.{nat_tests}
use Rattle.std.proofs.lemmas.Option.{same_Some}
use Rattle.std.proofs.lemmas.Slice.Eq.{bytes_eq-Decides}
use Rattle.std.specs.List.{list_all, slice_split, onto_first}
use Rattle.std.specs.Str.{bytes_eq}
use Rattle.sfx_script.specs.Faults.{Placed, placed, places_of, Somewhere, Due, forms_due, behind, behind_first, kind_in, HasNoForm, GoesWrongAt, unprintable, empty_word, unknown, misformed, surplus, lacking, IsLineFault}
use Rattle.sfx_script.specs.Grammar.{Form, line_kind, shape_of}
use Rattle.sfx_script.specs.Reading.{Cause, Read, IsPlaceOf, left_at, kind_line, line_by, line_in, line_of, reading_of, Answers, Fails}
use Rattle.sfx_script.specs.Script.{is_blank, words_of}
use Rattle.sfx_script.specs.Word.{is_printable}
use Rattle.sfx_script.specs.declared.kind.Kind.{Kind}
use Rattle.sfx_script.specs.declared.kind.Kind.TheVariants as kinds
use Rattle.std.specs.Result.{result_ok}
use Rattle.sfx_script.specs.declared.line_fault.LineFault.{LineFault}
use Rattle.sfx_script.specs.declared.line_fault.LineFault.TheVariants.{Syntax, Memory}
use Rattle.sfx_script.specs.declared.line.Line.{Line}
use Rattle.sfx_script.proofs.FirstCause.{Judges, judges_kind}
use Rattle.sfx_script.proofs.FaultsLemmas.{bad_byte, breaks, no_text, no_form, too_many, BreakForms, BreaksForm, GoWrong, GoesWrongHere, HasBadByte, StandFrom, no_bad_byte}

-- ---- first words

-- the first words may stand in a line
chosen : {A : Type 0} (word literal : List ℕ) (k kind : A) (others : Option A) → list_all is_printable literal ≡ true → (others ≡ Some kind → list_all is_printable word ≡ true)
    → (if bytes_eq word literal then Some k else others) ≡ Some kind → list_all is_printable word ≡ true
chosen word literal k kind others prints rest e = elim (cases_Bool (bytes_eq word literal)) [
  | inl same ↦ subst (λ t. list_all is_printable t ≡ true) (sym ((bytes_eq-Decides word literal).0 same)) prints
  | inr other ↦ rest (subst (λ b. (if b then Some k else others) ≡ Some kind) other e)
]

pub kind_prints : (word : List ℕ) (kind : Kind) → line_kind word ≡ Some kind → list_all is_printable word ≡ true
kind_prints word kind e = chosen word (codes "units") kinds.Units kind _ refl (λ e0. chosen word (codes "replica") kinds.Replica kind _ refl (λ e1. chosen word (codes "files") kinds.Files kind _ refl (λ e2. chosen word (codes "create") kinds.Create kind _ refl (λ e3. chosen word (codes "set") kinds.Set kind _ refl (λ e4. chosen word (codes "delete") kinds.Delete kind _ refl (λ e5. chosen word (codes "clean") kinds.Clean kind _ refl (λ e6. chosen word (codes "scan") kinds.Scan kind _ refl (λ e7. chosen word (codes "sync") kinds.Sync kind _ refl (λ e8. chosen word (codes "show") kinds.Show kind _ refl (λ e9. chosen word (codes "knows") kinds.Knows kind _ refl (λ e10. chosen word (codes "equal") kinds.Equal kind _ refl (λ e11. absurd (cc)) e10) e9) e8) e7) e6) e5) e4) e3) e2) e1) e0) e

no_kind : line_kind [] ≡ None
no_kind = refl

-- ---- the words and the bytes of a line

pub stand : (at : ℕ) (line : List ℕ) → StandFrom at (placed at (words_of line)) (at + length line)
stand at [] = (refl, omega arith)
stand at (b ∷ bs) = by (is_blank b) (slice_split is_blank bs) (stand (at + 1) bs) where
  by : (t : Bool) (parts : List (List ℕ)) → StandFrom (at + 1) (placed (at + 1) parts) (at + 1 + length bs)
      → StandFrom at (placed at (cond t ([] ∷ parts) (onto_first b parts))) (at + suc (length bs))
  by true parts stands =
      let here : at + 0 + 1 ≡ at + 1 = omega arith in
      let end : at + suc (length bs) ≡ at + 1 + length bs = omega arith in
      (refl, rw (here, end) stands)
  by false [] stands = absurd (omega arith)
  by false (part ∷ parts) stands =
      let here : at + suc (length part) + 1 ≡ at + 1 + length part + 1 = omega arith in
      let end : at + suc (length bs) ≡ at + 1 + length bs = omega arith in
      (refl, rw (here, end) stands.1)

blank_prints : (b : ℕ) → is_blank b ≡ true → is_printable b ≡ true
blank_prints b e = grind (arith, nat_tests)

-- a byte that may not stand in a line is in one of its words
pub bytes_in : (at i : ℕ) (line : List ℕ) → i < length line → is_printable (slice_index line i) ≡ false → Somewhere (HasBadByte (at + i)) (placed at (words_of line))
bytes_in at i [] within bad = absurd (omega arith)
bytes_in at zero (b ∷ bs) within bad = by (is_blank b) refl (slice_split is_blank bs) where
  by : (t : Bool) → is_blank b ≡ t → (parts : List (List ℕ)) → Somewhere (HasBadByte (at + 0)) (placed at (cond t ([] ∷ parts) (onto_first b parts)))
  by true e parts = absurd (true≢false (sym (blank_prints b e) ∙ bad))
  by false e [] = inl (record { place = 0; within = omega arith; bad = bad; here = refl })
  by false e (part ∷ parts) = inl (record { place = 0; within = omega arith; bad = bad; here = refl })
bytes_in at (suc i) (b ∷ bs) within bad = by (is_blank b) (slice_split is_blank bs) (bytes_in (at + 1) i bs (omega arith) bad) where
  by : (t : Bool) (parts : List (List ℕ)) → Somewhere (HasBadByte (at + 1 + i)) (placed (at + 1) parts) → Somewhere (HasBadByte (at + suc i)) (placed at (cond t ([] ∷ parts) (onto_first b parts)))
  by true parts found =
      let here : at + 1 ≡ at + 0 + 1 = omega arith in
      let index : at + 1 + i ≡ at + suc i = omega arith in
      inr (subst (λ n. Somewhere (HasBadByte n) (placed (at + 0 + 1) parts)) index (subst (λ m. Somewhere (HasBadByte (at + 1 + i)) (placed m parts)) here found))
  by false [] found = absurd found
  by false (part ∷ parts) (inl found) = inl (record { place = suc found.place; within = omega (arith, found.within); bad = found.bad; here = omega (arith, found.here) })
  by false (part ∷ parts) (inr found) =
      let here : at + 1 + length part + 1 ≡ at + suc (length part) + 1 = omega arith in
      let index : at + 1 + i ≡ at + suc i = omega arith in
      inr (subst (λ n. Somewhere (HasBadByte n) (placed (at + suc (length part) + 1) parts)) index (subst (λ m. Somewhere (HasBadByte (at + 1 + i)) (placed m parts)) here found))

-- ---- from the causes to the words

word_by : (P : Placed → Type 0) (at : ℕ) → ((forms : List Form) (w : Placed) → P w → GoesWrongHere forms w at) → (needed further : List Form) (ws : List Placed) (end : ℕ) → Somewhere P ws → GoWrong needed further ws end at
word_by P at here needed further [] end found = absurd found
word_by P at here [] further (w ∷ ws) end (inl found) = inl (here further w found)
word_by P at here [] further (w ∷ ws) end (inr found) = inr (word_by P at here [] (behind further w.text) ws end found)
word_by P at here (f ∷ needed) further (w ∷ ws) end (inl found) = inl (here (f ∷ []) w found)
word_by P at here (f ∷ needed) further (w ∷ ws) end (inr found) = inr (word_by P at here needed further ws end found)

due_by : (Q : Due → Type 0) (at : ℕ) → ((forms : List Form) (w : Placed) → Q (record { word = w; forms = forms }) → GoesWrongHere forms w at) → (needed further : List Form) (ws : List Placed) (end : ℕ) → Somewhere Q (forms_due needed further ws) → GoWrong needed further ws end at
due_by Q at here [] further [] end found = absurd found
due_by Q at here (f ∷ needed) further [] end found = absurd found
due_by Q at here [] further (w ∷ ws) end (inl found) = inl (here further w found)
due_by Q at here [] further (w ∷ ws) end (inr found) = inr (due_by Q at here [] (behind further w.text) ws end found)
due_by Q at here (f ∷ needed) further (w ∷ ws) end (inl found) = inl (here (f ∷ []) w found)
due_by Q at here (f ∷ needed) further (w ∷ ws) end (inr found) = inr (due_by Q at here needed further ws end found)

too_few : (needed further : List Form) (ws : List Placed) (end at : ℕ) → length ws < length needed → at ≡ end → GoWrong needed further ws end at
too_few [] further ws end at less is = absurd (omega arith)
too_few (f ∷ needed) further [] end at less is = is
too_few (f ∷ needed) further (w ∷ ws) end at less is = inr (too_few needed further ws end at (omega arith) is)

-- ---- from the words to the causes

-- words break their forms by one that has none, by one too many, or by too few
data BrokenBy (needed further : List Form) (ws : List Placed) (end at : ℕ) : Type 0 where
  by_form : Somewhere (λ d. HasNoForm at d.forms d.word) (forms_due needed further ws) → BrokenBy needed further ws end at
  by_more : Somewhere (λ d. (d.forms ≡ []) × (at ≡ d.word.at)) (forms_due needed further ws) → BrokenBy needed further ws end at
  by_less : length ws < length needed → at ≡ end → BrokenBy needed further ws end at

broken_here : (forms : List Form) (w : Placed) (at : ℕ) (others : List Due) → BreaksForm forms w at
    → Somewhere (λ d. HasNoForm at d.forms d.word) (record { word = w; forms = forms } ∷ others) ⊎ Somewhere (λ d. (d.forms ≡ []) × (at ≡ d.word.at)) (record { word = w; forms = forms } ∷ others)
broken_here forms w at others (no_form h) = inl (inl h)
broken_here forms w at others (too_many none is) = inr (inl (none, is))

either_by : (needed further : List Form) (ws : List Placed) (end at : ℕ) → Somewhere (λ d. HasNoForm at d.forms d.word) (forms_due needed further ws) ⊎ Somewhere (λ d. (d.forms ≡ []) × (at ≡ d.word.at)) (forms_due needed further ws) → BrokenBy needed further ws end at
either_by needed further ws end at (inl h) = by_form h
either_by needed further ws end at (inr h) = by_more h

later_further : (further : List Form) (w : Placed) (ws : List Placed) (end at : ℕ) → BrokenBy [] (behind further w.text) ws end at → BrokenBy [] further (w ∷ ws) end at
later_further further w ws end at (by_form h) = by_form (inr h)
later_further further w ws end at (by_more h) = by_more (inr h)
later_further further w ws end at (by_less less is) = absurd (omega arith)

later_needed : (f : Form) (needed further : List Form) (w : Placed) (ws : List Placed) (end at : ℕ) → BrokenBy needed further ws end at → BrokenBy (f ∷ needed) further (w ∷ ws) end at
later_needed f needed further w ws end at (by_form h) = by_form (inr h)
later_needed f needed further w ws end at (by_more h) = by_more (inr h)
later_needed f needed further w ws end at (by_less less is) = by_less (omega arith) is

broken_by : (needed further : List Form) (ws : List Placed) (end at : ℕ) → BreakForms needed further ws end at → BrokenBy needed further ws end at
broken_by [] further [] end at h = absurd h
broken_by (f ∷ needed) further [] end at h = by_less (omega arith) h
broken_by [] further (w ∷ ws) end at (inl here) = either_by [] further (w ∷ ws) end at (broken_here further w at _ here)
broken_by [] further (w ∷ ws) end at (inr later) = later_further further w ws end at (broken_by [] (behind further w.text) ws end at later)
broken_by (f ∷ needed) further (w ∷ ws) end at (inl here) = either_by (f ∷ needed) further (w ∷ ws) end at (broken_here (f ∷ []) w at _ here)
broken_by (f ∷ needed) further (w ∷ ws) end at (inr later) = later_needed f needed further w ws end at (broken_by needed further ws end at later)

-- ---- the line

module _ (line : List ℕ) (w : Placed) (rest : List Placed) (kind : Kind) (is : places_of line ≡ w ∷ rest) (begins : line_kind w.text ≡ Some kind) where
  kind_here : kind_in (places_of line) ≡ Some kind
  kind_here = ap kind_in is ∙ begins

  same_kind : (other : Kind) → kind_in (places_of line) ≡ Some other → other ≡ kind
  same_kind other e = same_Some other kind (sym e ∙ kind_here)

  rest_here : behind_first (places_of line) ≡ rest
  rest_here = ap behind_first is

  -- where the line goes wrong, the words behind the first do
  pub to_words : (at : ℕ) → GoesWrongAt line at → GoWrong (shape_of kind).needed (shape_of kind).further rest (length line) at
  to_words at (unprintable within bad) = elim (subst (Somewhere (HasBadByte (0 + at))) is (bytes_in 0 at line within bad)) [
    | inl found ↦ absurd (no_bad_byte w (0 + at) (kind_prints w.text kind begins) found)
    | inr found ↦
        let index : 0 + at ≡ at = omega arith in
        word_by (HasBadByte at) at (λ forms v b. bad_byte b) _ _ rest (length line) (subst (λ n. Somewhere (HasBadByte n) rest) index found)
  ]
  to_words at (empty_word found) = elim (subst (Somewhere (λ v. (v.text ≡ []) × (at ≡ v.at))) is found) [
    | inl here ↦ let none : line_kind w.text ≡ None = ap line_kind here.0 ∙ no_kind in let bad = sym begins ∙ none in absurd (cc)
    | inr later ↦ word_by (λ v. (v.text ≡ []) × (at ≡ v.at)) at (λ forms v h. no_text h.0 h.1) _ _ rest (length line) later
  ]
  to_words at (unknown none zero_at) = let bad = sym kind_here ∙ none in absurd (cc)
  to_words at (misformed other e found) =
      let found' = subst (λ k. Somewhere (λ d. HasNoForm at d.forms d.word) (forms_due (shape_of k).needed (shape_of k).further (behind_first (places_of line)))) (same_kind other e) found in
      let found'' = subst (λ ws. Somewhere (λ d. HasNoForm at d.forms d.word) (forms_due (shape_of kind).needed (shape_of kind).further ws)) rest_here found' in
      due_by (λ d. HasNoForm at d.forms d.word) at (λ forms v h. breaks (no_form h)) _ _ rest (length line) found''
  to_words at (surplus other e found) =
      let found' = subst (λ k. Somewhere (λ d. (d.forms ≡ []) × (at ≡ d.word.at)) (forms_due (shape_of k).needed (shape_of k).further (behind_first (places_of line)))) (same_kind other e) found in
      let found'' = subst (λ ws. Somewhere (λ d. (d.forms ≡ []) × (at ≡ d.word.at)) (forms_due (shape_of kind).needed (shape_of kind).further ws)) rest_here found' in
      due_by (λ d. (d.forms ≡ []) × (at ≡ d.word.at)) at (λ forms v h. breaks (too_many h.0 h.1)) _ _ rest (length line) found''
  to_words at (lacking other e less end) =
      let less' = subst (λ k. length (behind_first (places_of line)) < length (shape_of k).needed) (same_kind other e) less in
      too_few _ _ rest (length line) at (subst (λ ws. length ws < length (shape_of kind).needed) rest_here less') end

  from_broken : (at : ℕ) → BrokenBy (shape_of kind).needed (shape_of kind).further rest (length line) at → GoesWrongAt line at
  from_broken at (by_form found) = misformed kind kind_here (subst (λ ws. Somewhere (λ d. HasNoForm at d.forms d.word) (forms_due (shape_of kind).needed (shape_of kind).further ws)) (sym rest_here) found)
  from_broken at (by_more found) = surplus kind kind_here (subst (λ ws. Somewhere (λ d. (d.forms ≡ []) × (at ≡ d.word.at)) (forms_due (shape_of kind).needed (shape_of kind).further ws)) (sym rest_here) found)
  from_broken at (by_less less end) = lacking kind kind_here (subst (λ ws. length ws < length (shape_of kind).needed) (sym rest_here) less) end

  -- where the words behind the first break their forms, the line goes wrong
  pub from_words : (at : ℕ) → BreakForms (shape_of kind).needed (shape_of kind).further rest (length line) at → GoesWrongAt line at
  from_words at h = from_broken at (broken_by _ _ rest (length line) at h)

-- the cause is the first for which bytes are no line
pub record IsFirstCause (line : List ℕ) (cause : Cause) : Type 0 where
  pub wrong : (at : ℕ) → IsPlaceOf cause at → GoesWrongAt line at
  pub least : (at n : ℕ) → IsPlaceOf cause at → GoesWrongAt line n → at ≤ n
  pub somewhere : ((at : ℕ) → IsPlaceOf cause at → ⊥) → ⊥

abbrev pub IsToldBy : List ℕ → Read Line → Type 0
IsToldBy line (Ok read) = (at : ℕ) → GoesWrongAt line at → ⊥
IsToldBy line (Err cause) = IsFirstCause line cause

kind_right : (line : List ℕ) (w : Placed) (rest : List Placed) (kind : Kind) (r : Read Line) → places_of line ≡ w ∷ rest → line_kind w.text ≡ Some kind
    → Judges (shape_of kind).needed (shape_of kind).further rest (length line) r → IsToldBy line r
kind_right line w rest kind (Ok read) is begins judges = λ at wrong. judges at (to_words line w rest kind is begins at wrong)
kind_right line w rest kind (Err cause) is begins judges = record {
  wrong = λ at place. from_words line w rest kind is begins at (judges.wrong at place);
  least = λ at n place wrong. judges.least at n place (to_words line w rest kind is begins n wrong);
  somewhere = judges.somewhere;
}

by_kind : (line : List ℕ) (w : Placed) (rest : List Placed) (o : Option Kind) → places_of line ≡ w ∷ rest → line_kind w.text ≡ o → StandFrom (w.at + length w.text + 1) rest (length line)
    → IsToldBy line (line_by o (record { left = rest; end = length line }))
by_kind line w rest None is none stands = record {
  wrong = λ at place. unknown (ap kind_in is ∙ none) place;
  least = λ at n place wrong. omega arith;
  somewhere = λ nowhere. nowhere 0 refl;
}
by_kind line w rest (Some kind) is begins stands =
    kind_right line w rest kind (kind_line kind (record { left = rest; end = length line })) is begins (judges_kind kind rest (length line) (w.at + length w.text + 1) stands)

by_words : (line : List ℕ) (ws : List Placed) → places_of line ≡ ws → StandFrom 0 ws (length line) → IsToldBy line (line_in (record { left = ws; end = length line }))
by_words line [] is stands = absurd (omega arith)
by_words line (w ∷ ws) is stands = by_kind line w ws (line_kind w.text) is refl (subst (λ low. StandFrom (low + length w.text + 1) ws (length line)) (sym stands.0) stands.1)

pub all_left : (line : List ℕ) → left_at line 0 ≡ record { left = places_of line; end = length line }
all_left line = let room : nat_le 0 (length line) ≡ true = grind (arith, nat_tests) in rw room refl

-- reading a line finds the line or the first cause
pub line_right : (line : List ℕ) → IsToldBy line (reading_of line)
line_right line =
    let end : 0 + length line ≡ length line = omega arith in
    subst (λ ws. IsToldBy line (line_in ws)) (sym (all_left line)) (by_words line (places_of line) refl (subst (StandFrom 0 (places_of line)) end (stand 0 line)))

-- ---- what the contracts say

never_by : (line : List ℕ) (r : Read Line) (read : Line) (at : ℕ) → IsToldBy line r → result_ok r ≡ Some read → GoesWrongAt line at → ⊥
never_by line (Ok x) read at right e wrong = right at wrong
never_by line (Err cause) read at right e wrong = absurd (cc)

pub never : (line : List ℕ) (read : Line) (at : ℕ) → line_of line ≡ Some read → GoesWrongAt line at → ⊥
never line read at e wrong = never_by line (reading_of line) read at (line_right line) e wrong

either_or : (line : List ℕ) (r : Read Line) → IsToldBy line r → ((at : ℕ) → GoesWrongAt line at → ⊥) → IsSome (result_ok r)
either_or line (Ok x) right none = refl
either_or line (Err cause) right none = absurd (right.somewhere (λ at place. none at (right.wrong at place)))

pub either : (line : List ℕ) → ((at : ℕ) → GoesWrongAt line at → ⊥) → IsSome (line_of line)
either line none = either_or line (reading_of line) (line_right line) none

fault_by : (line : List ℕ) (fault : LineFault) (r : Read Line) → IsToldBy line r → Fails fault r → IsLineFault line fault
fault_by line Memory r right fails = tt
fault_by line (Syntax at) (Ok x) right fails = absurd (cc)
fault_by line (Syntax at) (Err cause) right fails = record { wrong = right.wrong at fails; least = λ n wrong. right.least at n fails wrong }

pub faults_are : (line : List ℕ) (answer : Result Line LineFault) → Answers answer (reading_of line) → IfErr answer (λ fault. IsLineFault line fault)
faults_are line (Ok x) answers = tt
faults_are line (Err fault) answers = fault_by line fault (reading_of line) (line_right line) answers

whole_by : (fault : LineFault) (r : Read Line) → IsSome (result_ok r) → Fails fault r → fault ≡ Memory
whole_by fault (Ok x) some fails = fails
whole_by fault (Err cause) some fails = absurd (true≢false (sym some))

pub lines_are_read : (line : List ℕ) (answer : Result Line LineFault) → Answers answer (reading_of line) → IsSome (line_of line) → IfErr answer (λ fault. fault ≡ Memory)
lines_are_read line (Ok x) answers some = tt
lines_are_read line (Err fault) answers some = whole_by fault (reading_of line) some answers
