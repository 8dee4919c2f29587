-- What goes wrong in words with the forms that are due, from the left.
use Rattle.std.proofs.Common.{◌≡◌, ℕ, zero, suc, ◌+◌, ◌<◌, ◌≤◌, ◌⊎◌, inl, inr, Bool, true, false, ◌||◌, cond, Option, is_some, List, [], ◌∷◌, length, decimal, slice_index, refl, sym, ap, subst, ◌∙◌, true≢false, arith}
use Rattle.std.proofs.lemmas.Bool.{cases_Bool}
use Rattle.std.proofs.lemmas.Fmt.{decimal_nonempty}
use Rattle.std.proofs.lemmas.Slice.Eq.{bytes_eq-Decides}
use Rattle.std.specs.Str.{bytes_eq}
use Rattle.std.specs.List.{list_all, prefix_len}
use Rattle.sfx_ids.specs.Prefix.{BeginsItem, BeginsVersion}
use Rattle.sfx_script.specs.Faults.{Placed, has_one, behind, IsPlaceIn, HasNoForm}
use Rattle.sfx_script.specs.Grammar.{Form, number, name, uuid, item, version, value, keep, clash, batch, group, cut, trace, has_form}
use Rattle.sfx_ids.specs.Text.{item_text, version_text}
use Rattle.std.proofs.lemmas.List.Sums.{AllPass-from_list_all}
use Rattle.sfx_script.specs.Word.{is_printable, printed, number_of, name_of, uuid_of, item_of, version_of, value_of, keep_of, clash_of, batch_of, group_of, cut_of, trace_of}
use Rattle.sfx_script.proofs.WordPrefixes.{prefix_within, longest_prints, item_prints, version_prints, some_longest}

-- a byte of the word that may not stand in a line, at this index
pub record HasBadByte (at : ℕ) (w : Placed) : Type 0 where
  pub place : ℕ
  pub within : place < length w.text
  pub bad : is_printable (slice_index w.text place) ≡ false
  pub here : at ≡ w.at + place

-- what goes wrong at a word by the forms of which one is due
pub data BreaksForm (forms : List Form) (w : Placed) (at : ℕ) : Type 0 where
  no_form : HasNoForm at forms w → BreaksForm forms w at
  too_many : forms ≡ [] → at ≡ w.at → BreaksForm forms w at

-- what goes wrong at a word
pub data GoesWrongHere (forms : List Form) (w : Placed) (at : ℕ) : Type 0 where
  bad_byte : HasBadByte at w → GoesWrongHere forms w at
  no_text : w.text ≡ [] → at ≡ w.at → GoesWrongHere forms w at
  breaks : BreaksForm forms w at → GoesWrongHere forms w at

-- one of the words goes wrong in this way, or they are too few
abbrev pub GoBy : (List Form → Placed → ℕ → Type 0) → List Form → List Form → List Placed → ℕ → ℕ → Type 0
GoBy Here [] further [] end at = ⊥
GoBy Here (f ∷ needed) further [] end at = at ≡ end
GoBy Here [] further (w ∷ ws) end at = Here further w at ⊎ GoBy Here [] (behind further w.text) ws end at
GoBy Here (f ∷ needed) further (w ∷ ws) end at = Here (f ∷ []) w at ⊎ GoBy Here needed further ws end at

-- what goes wrong in words of which these forms are due
abbrev pub GoWrong : List Form → List Form → List Placed → ℕ → ℕ → Type 0
GoWrong = GoBy GoesWrongHere

-- what goes wrong in them by their forms or number
abbrev pub BreakForms : List Form → List Form → List Placed → ℕ → ℕ → Type 0
BreakForms = GoBy BreaksForm

-- the words stand one behind the other, a blank between them, from an index on to the end
abbrev pub StandFrom : ℕ → List Placed → ℕ → Type 0
StandFrom low [] end = low ≡ end + 1
StandFrom low (w ∷ ws) end = (w.at ≡ low) × StandFrom (low + length w.text + 1) ws end

-- ---- what has a form may stand in a line, and is not empty

printed_prints : {A : Type 0} (of : List ℕ → Option A) (word : List ℕ) → is_some (printed of word) ≡ true → list_all is_printable word ≡ true
printed_prints of word e = elim (cases_Bool (list_all is_printable word)) [
  | inl all ↦ all
  | inr some ↦ let none : is_some (printed of word) ≡ false = rw some refl in absurd (true≢false (sym e ∙ none))
]

pub form_prints : (f : Form) (word : List ℕ) → has_form f word ≡ true → list_all is_printable word ≡ true
form_prints number word e = printed_prints number_of word e
form_prints name word e = printed_prints name_of word e
form_prints uuid word e = printed_prints uuid_of word e
form_prints item word e = printed_prints item_of word e
form_prints version word e = printed_prints version_of word e
form_prints value word e = printed_prints value_of word e
form_prints keep word e = printed_prints keep_of word e
form_prints clash word e = printed_prints clash_of word e
form_prints batch word e = printed_prints batch_of word e
form_prints group word e = printed_prints group_of word e
form_prints cut word e = printed_prints cut_of word e
form_prints trace word e = printed_prints trace_of word e

no_digits : bytes_eq (decimal 0) [] ≡ false
no_digits = elim (cases_Bool (bytes_eq (decimal 0) [])) [
  | inl same ↦ absurd (omega (arith, decimal_nonempty 0 (omega arith), ap length ((bytes_eq-Decides (decimal 0) []).0 same)))
  | inr other ↦ other
]

pub form_some : (f : Form) → has_form f [] ≡ false
form_some number = rw no_digits refl
form_some name = refl
form_some uuid = refl
form_some item = refl
form_some version = refl
form_some value = refl
form_some keep = refl
form_some clash = refl
form_some batch = refl
form_some group = refl
form_some cut = refl
form_some trace = refl

one_prints : (forms : List Form) (word : List ℕ) → has_one forms word ≡ true → list_all is_printable word ≡ true
one_prints [] word e = absurd (true≢false (sym e))
one_prints (f ∷ forms) word e = elim (cases_Bool (has_form f word)) [
  | inl has ↦ form_prints f word has
  | inr lacks ↦ one_prints forms word (subst (λ b. (b || has_one forms word) ≡ true) lacks e)
]

one_some : (forms : List Form) → has_one forms [] ≡ false
one_some [] = refl
one_some (f ∷ forms) = rw (form_some f, one_some forms) refl

-- ---- places

begins_item : BeginsItem []
begins_item = record { item = record { tick = 1; replica = 0 }; rest = item_text (record { tick = 1; replica = 0 }); valid = record { tick = record { least = omega arith; most = omega arith }; replica = omega arith }; spelled = refl }

begins_version : BeginsVersion []
begins_version = record { version = record { replica = 0; tick = 1 }; rest = version_text (record { replica = 0; tick = 1 }); valid = record { tick = record { least = omega arith; most = omega arith }; replica = omega arith }; spelled = refl }

-- a word that has not its form goes wrong somewhere
pub some_place : (f : Form) (word : List ℕ) → ((n : ℕ) → IsPlaceIn f word n → ⊥) → ⊥
some_place number word none = none 0 refl
some_place name word none = none 0 refl
some_place uuid word none = none 0 refl
some_place item word none = some_longest BeginsItem item_prints word begins_item none
some_place version word none = some_longest BeginsVersion version_prints word begins_version none
some_place value word none = none (prefix_len is_printable word) refl
some_place keep word none = none 0 refl
some_place clash word none = none 0 refl
some_place batch word none = none 0 refl
some_place group word none = none 0 refl
some_place cut word none = none 0 refl
some_place trace word none = none 0 refl

-- not behind its first byte that may not stand in a line
pub place_prints : (f : Form) (word : List ℕ) (n : ℕ) → IsPlaceIn f word n → n ≤ prefix_len is_printable word
place_prints number word n is = omega arith
place_prints name word n is = omega arith
place_prints uuid word n is = omega arith
place_prints item word n is = longest_prints BeginsItem item_prints word n is
place_prints version word n is = longest_prints BeginsVersion version_prints word n is
place_prints value word n is = omega arith
place_prints keep word n is = omega arith
place_prints clash word n is = omega arith
place_prints batch word n is = omega arith
place_prints group word n is = omega arith
place_prints cut word n is = omega arith
place_prints trace word n is = omega arith

-- at one place
pub place_same : (f : Form) (word : List ℕ) (n m : ℕ) → IsPlaceIn f word n → IsPlaceIn f word m → n ≤ m
place_same number word n m is other = omega arith
place_same name word n m is other = omega arith
place_same uuid word n m is other = omega arith
place_same item word n m is other = other.longest n is.within is.begins
place_same version word n m is other = other.longest n is.within is.begins
place_same value word n m is other = omega arith
place_same keep word n m is other = omega arith
place_same clash word n m is other = omega arith
place_same batch word n m is other = omega arith
place_same group word n m is other = omega arith
place_same cut word n m is other = omega arith
place_same trace word n m is other = omega arith

-- the form is one of those that go wrong at the begin of the word
abbrev pub at_begin : Form → Bool
at_begin number = true
at_begin name = true
at_begin uuid = true
at_begin item = false
at_begin version = false
at_begin value = false
at_begin keep = true
at_begin clash = true
at_begin batch = true
at_begin group = true
at_begin cut = true
at_begin trace = true

pub zero_place : (f : Form) (word : List ℕ) (n : ℕ) → at_begin f ≡ true → IsPlaceIn f word n → n ≡ 0
zero_place number word n begin is = is
zero_place name word n begin is = is
zero_place uuid word n begin is = is
zero_place item word n begin is = absurd (true≢false (sym begin))
zero_place version word n begin is = absurd (true≢false (sym begin))
zero_place value word n begin is = absurd (true≢false (sym begin))
zero_place keep word n begin is = is
zero_place clash word n begin is = is
zero_place batch word n begin is = is
zero_place group word n begin is = is
zero_place cut word n begin is = is
zero_place trace word n begin is = is

pub place_zero : (f : Form) (word : List ℕ) → at_begin f ≡ true → IsPlaceIn f word 0
place_zero number word begin = refl
place_zero name word begin = refl
place_zero uuid word begin = refl
place_zero item word begin = absurd (true≢false (sym begin))
place_zero version word begin = absurd (true≢false (sym begin))
place_zero value word begin = absurd (true≢false (sym begin))
place_zero keep word begin = refl
place_zero clash word begin = refl
place_zero batch word begin = refl
place_zero group word begin = refl
place_zero cut word begin = refl
place_zero trace word begin = refl

-- a bad byte stands behind all that may stand in a line
bad_beyond : (word : List ℕ) (place : ℕ) → place < length word → is_printable (slice_index word place) ≡ false → prefix_len is_printable word ≤ place
bad_beyond [] place within bad = absurd (omega arith)
bad_beyond (b ∷ bs) zero within bad = rw bad (omega arith)
bad_beyond (b ∷ bs) (suc place) within bad = by (is_printable b) (bad_beyond bs place (omega arith) bad) where
  by : (t : Bool) → prefix_len is_printable bs ≤ place → cond t (1 + prefix_len is_printable bs) 0 ≤ suc place
  by true le = omega arith
  by false le = omega arith

pub place_within : (f : Form) (word : List ℕ) (n : ℕ) → IsPlaceIn f word n → n ≤ length word
place_within f word n is = omega (arith, place_prints f word n is, prefix_within is_printable word)

-- ---- at one word

no_form_low : (forms : List Form) (w : Placed) (at : ℕ) → HasNoForm at forms w → w.at ≤ at
no_form_low [] w at h = absurd h
no_form_low (f ∷ forms) w at h = omega (arith, h.1.here)

breaks_low : (forms : List Form) (w : Placed) (at : ℕ) → BreaksForm forms w at → w.at ≤ at
breaks_low forms w at (no_form h) = no_form_low forms w at h
breaks_low forms w at (too_many none is) = omega arith

-- nothing goes wrong before the word
pub here_low : (forms : List Form) (w : Placed) (at : ℕ) → GoesWrongHere forms w at → w.at ≤ at
here_low forms w at (bad_byte b) = omega (arith, b.here)
here_low forms w at (no_text none is) = omega arith
here_low forms w at (breaks b) = breaks_low forms w at b

right_form : (forms : List Form) (w : Placed) (at : ℕ) → has_one forms w.text ≡ true → HasNoForm at forms w → ⊥
right_form [] w at has h = h
right_form (f ∷ forms) w at has h = true≢false (sym has ∙ h.0)

right_breaks : (forms : List Form) (w : Placed) (at : ℕ) → has_one forms w.text ≡ true → BreaksForm forms w at → ⊥
right_breaks forms w at has (no_form h) = right_form forms w at has h
right_breaks forms w at has (too_many none is) = true≢false (sym has ∙ ap (λ fs. has_one fs w.text) none)

-- a printed word has no bad byte
pub no_bad_byte : (w : Placed) (at : ℕ) → list_all is_printable w.text ≡ true → HasBadByte at w → ⊥
no_bad_byte w at all b =
    true≢false (sym (AllPass-from_list_all is_printable w.text all b.place 0 b.within) ∙ b.bad)

-- a word that has a form that is due does not go wrong
pub right_here : (forms : List Form) (w : Placed) (at : ℕ) → has_one forms w.text ≡ true → GoesWrongHere forms w at → ⊥
right_here forms w at has (bad_byte b) = no_bad_byte w at (one_prints forms w.text has) b
right_here forms w at has (no_text none is) = true≢false (sym has ∙ ap (has_one forms) none ∙ one_some forms)
right_here forms w at has (breaks b) = right_breaks forms w at has b

breaks_place : (f : Form) (forms : List Form) (w : Placed) (n m : ℕ) → IsPlaceIn f w.text n → BreaksForm (f ∷ forms) w m → w.at + n ≤ m
breaks_place f forms w n m is (no_form h) = omega (arith, place_same f w.text n h.1.place is h.1.is_place, h.1.here)
breaks_place f forms w n m is (too_many none at) = absurd (cc)

-- a word that has none goes wrong at its place, and no earlier
pub here_place : (f : Form) (forms : List Form) (w : Placed) (n m : ℕ) → IsPlaceIn f w.text n → GoesWrongHere (f ∷ forms) w m → w.at + n ≤ m
here_place f forms w n m is (bad_byte b) = omega (arith, place_prints f w.text n is, bad_beyond w.text b.place b.within b.bad, b.here)
here_place f forms w n m is (no_text none at) = omega (arith, place_within f w.text n is, ap length none)
here_place f forms w n m is (breaks b) = breaks_place f forms w n m is b

-- ---- in several words

-- nothing goes wrong before the words
pub go_low : (needed further : List Form) (ws : List Placed) (end low at : ℕ) → StandFrom low ws end → GoWrong needed further ws end at → low ≤ at + 1
go_low [] further [] end low at stand h = absurd h
go_low (f ∷ needed) further [] end low at stand h = omega arith
go_low [] further (w ∷ ws) end low at stand (inl here) = omega (arith, here_low further w at here, stand.0)
go_low [] further (w ∷ ws) end low at stand (inr later) = omega (arith, go_low [] (behind further w.text) ws end (low + length w.text + 1) at stand.1 later)
go_low (f ∷ needed) further (w ∷ ws) end low at stand (inl here) = omega (arith, here_low (f ∷ []) w at here, stand.0)
go_low (f ∷ needed) further (w ∷ ws) end low at stand (inr later) = omega (arith, go_low needed further ws end (low + length w.text + 1) at stand.1 later)
