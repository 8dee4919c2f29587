-- The function that finds where bytes go wrong first finds just that.
use Rattle.std.proofs.Common.{◌≡◌, ℕ, ◌↔◌, Some, List, Result, Ok, Err, refl, sym, ap, subst, arith}
use Rattle.sfx_ids.proofs.PrefixLens.{item_measured, version_measured}
use Rattle.sfx_script.specs.Faults.{IsPlaceIn, IsFirstWrongInLine}
use Rattle.sfx_script.specs.Grammar.{Form, number, name, uuid, item, version, value, keep, clash, batch, group, cut, trace}
use Rattle.sfx_script.specs.Reading.{Cause, Unknown, Lacking, Misformed, Surplus, Read, IsPlaceOf, Fails, Answers, reading_of}
use Rattle.sfx_script.specs.Wrong.{form_place, cause_place, place_in, wrong_at}
use Rattle.sfx_script.specs.declared.line.Line.{Line}
use Rattle.sfx_script.specs.declared.line_fault.LineFault.{LineFault}
use Rattle.sfx_script.specs.declared.line_fault.LineFault.TheVariants.{Syntax}
use Rattle.sfx_script.proofs.FaultsLemmas.{place_same}
use Rattle.sfx_script.proofs.LinesAreRead.{IsToldBy, line_right}

form_place_is : (f : Form) (word : List ℕ) → IsPlaceIn f word (form_place f word)
form_place_is number word = refl
form_place_is name word = refl
form_place_is uuid word = refl
form_place_is item word = item_measured word
form_place_is version word = version_measured word
form_place_is value word = refl
form_place_is keep word = refl
form_place_is clash word = refl
form_place_is batch word = refl
form_place_is group word = refl
form_place_is cut word = refl
form_place_is trace word = refl

-- a cause has one place
place_is : (cause : Cause) → IsPlaceOf cause (cause_place cause)
place_is Unknown = refl
place_is (Lacking end) = refl
place_is (Misformed form w) = record { place = form_place form w.text; is_place = form_place_is form w.text; here = refl }
place_is (Surplus w) = refl

one_place : (cause : Cause) (at : ℕ) → IsPlaceOf cause at → at ≡ cause_place cause
one_place Unknown at is = is
one_place (Lacking end) at is = is
one_place (Misformed form w) at is =
    let up = place_same form w.text is.place (form_place form w.text) is.is_place (form_place_is form w.text) in
    let down = place_same form w.text (form_place form w.text) is.place (form_place_is form w.text) is.is_place in
    let here = is.here in
    omega (arith, up, down, here)
one_place (Surplus w) at is = is

first_by : (line : List ℕ) (r : Read Line) (at : ℕ) → IsToldBy line r → (place_in r ≡ Some at) ↔ IsFirstWrongInLine line at
first_by line (Ok read) at right = ((λ is. absurd (cc)), (λ first. absurd (right at first.wrong)))
first_by line (Err cause) at right = (
  (λ is.
      let same : cause_place cause ≡ at = cc in
      let there : IsPlaceOf cause at = subst (λ (n : ℕ). IsPlaceOf cause n) same (place_is cause) in
      record { wrong = right.wrong at there; least = λ n wrong. right.least at n there wrong }),
  (λ first.
      let up = first.least (cause_place cause) (right.wrong (cause_place cause) (place_is cause)) in
      let down = right.least (cause_place cause) at (place_is cause) first.wrong in
      let same : cause_place cause ≡ at = omega (arith, up, down) in
      ap (λ (n : ℕ). Some n) same),
)

-- the function finds the least index at which bytes go wrong, and nothing where they are a line
pub wrong_first : (line : List ℕ) (at : ℕ) → (wrong_at line ≡ Some at) ↔ IsFirstWrongInLine line at
wrong_first line at = first_by line (reading_of line) at (line_right line)

place_by : (at : ℕ) (r : Read Line) → Fails (Syntax at) r → place_in r ≡ Some at
place_by at (Ok x) fails = absurd (cc)
place_by at (Err cause) fails = ap (λ (n : ℕ). Some n) (sym (one_place cause at fails))

-- an answer tells it
pub answer_place : (line : List ℕ) (answer : Result Line LineFault) (at : ℕ) → Answers answer (reading_of line) → answer ≡ Err (Syntax at) → wrong_at line ≡ Some at
answer_place line (Ok x) at answers is = absurd (cc)
answer_place line (Err fault) at answers is =
    let same : fault ≡ Syntax at = cc in
    place_by at (reading_of line) (subst (λ (f : LineFault). Fails f (reading_of line)) same answers)
