-- Where a line goes wrong.
use Rattle.std.specs.Prelude.{◌≡◌, ℕ, ◌+◌, ◌<◌, ◌≤◌, ◌⊎◌, Bool, false, if◌then◌else◌, Option, Some, None, List, [], ◌∷◌, length, slice_index}
use Rattle.std.specs.List.{list_any, prefix_len}
use Rattle.sfx_ids.specs.Prefix.{BeginsItem, BeginsVersion, IsLongestPrefix}
use Rattle.sfx_script.specs.Grammar.{Form, number, name, uuid, item, version, value, keep, clash, batch, group, cut, trace, has_form, line_kind, shape_of}
use Rattle.sfx_script.specs.Script.{words_of}
use Rattle.sfx_script.specs.Word.{is_printable}
use Rattle.sfx_script.specs.declared.kind.Kind.{Kind}
use Rattle.sfx_script.specs.declared.line_fault.LineFault.{LineFault}
use Rattle.sfx_script.specs.declared.line_fault.LineFault.TheVariants.{Syntax, Memory}

-- A word of a line, with the index of its first byte.
pub record Placed : Type 0 where
  pub at : ℕ
  pub text : List ℕ

-- Words that a blank each divides, the first of them at this index.
abbrev pub placed : ℕ → List (List ℕ) → List Placed
placed at [] = []
placed at (w ∷ ws) = record { at = at; text = w } ∷ placed (at + length w + 1) ws

-- The words of a line in their places.
abbrev pub places_of : List ℕ → List Placed
places_of line = placed 0 (words_of line)

-- One of the elements has the property.
abbrev pub Somewhere : {A : Type 0} → (A → Type 0) → List A → Type 0
Somewhere P [] = ⊥
Somewhere P (x ∷ xs) = P x ⊎ Somewhere P xs

-- A word with the forms of which it must have one. Where there are none, no word may stand there.
pub record Due : Type 0 where
  pub word : Placed
  pub forms : List Form

-- The word has one of the forms.
abbrev pub has_one : List Form → List ℕ → Bool
has_one forms word = list_any (λ form. has_form form word) forms

-- The forms behind the first one that the word has.
abbrev pub behind : List Form → List ℕ → List Form
behind [] word = []
behind (form ∷ forms) word = if has_form form word then forms else behind forms word

-- The words with the forms that are forms_due: the needed ones one by one, and then any of the further ones
-- behind that of the word before.
abbrev pub forms_due : List Form → List Form → List Placed → List Due
forms_due needed further [] = []
forms_due [] further (w ∷ ws) = record { word = w; forms = further } ∷ forms_due [] (behind further w.text) ws
forms_due (form ∷ needed) further (w ∷ ws) = record { word = w; forms = form ∷ [] } ∷ forms_due needed further ws

-- The kind of line that words make, by the first of them.
abbrev pub kind_in : List Placed → Option Kind
kind_in [] = None
kind_in (w ∷ ws) = line_kind w.text

-- The words behind the first.
abbrev pub behind_first : List Placed → List Placed
behind_first [] = []
behind_first (w ∷ ws) = ws

-- The words behind the first of a line of this kind, with the forms that are forms_due.
abbrev pub due_in : Kind → List ℕ → List Due
due_in kind line = forms_due (shape_of kind).needed (shape_of kind).further (behind_first (places_of line))

-- A word that has not the form goes wrong this many bytes behind its begin: an item or a version behind
-- the longest prefix that begins some item's or version's text, a value behind the bytes that may stand in
-- a line, and each other word at its begin.
abbrev pub IsPlaceIn : Form → List ℕ → ℕ → Type 0
IsPlaceIn item word n = IsLongestPrefix BeginsItem word n
IsPlaceIn version word n = IsLongestPrefix BeginsVersion word n
IsPlaceIn value word n = n ≡ prefix_len is_printable word
IsPlaceIn number word n = n ≡ 0
IsPlaceIn name word n = n ≡ 0
IsPlaceIn uuid word n = n ≡ 0
IsPlaceIn keep word n = n ≡ 0
IsPlaceIn clash word n = n ≡ 0
IsPlaceIn batch word n = n ≡ 0
IsPlaceIn group word n = n ≡ 0
IsPlaceIn cut word n = n ≡ 0
IsPlaceIn trace word n = n ≡ 0

-- A word that goes wrong at an index by its form.
pub record IsMisformed (form : Form) (word : Placed) (at : ℕ) : Type 0 where
  pub place : ℕ
  pub is_place : IsPlaceIn form word.text place
  pub here : at ≡ word.at + place

-- The word has none of the forms that are forms_due, and by the first of them it goes wrong at this index.
abbrev pub HasNoForm : ℕ → List Form → Placed → Type 0
HasNoForm at [] word = ⊥
HasNoForm at (form ∷ forms) word = (has_one (form ∷ forms) word.text ≡ false) × IsMisformed form word at

-- What keeps bytes from being a line, by the index at which they go wrong.
pub data GoesWrongAt (line : List ℕ) (at : ℕ) : Type 0 where
  -- a byte that is neither a blank nor a printable character of ASCII, at its index
  unprintable : at < length line → is_printable (slice_index line at) ≡ false → GoesWrongAt line at
  -- an empty word, where it would stand
  empty_word : Somewhere (λ w. (w.text ≡ []) × (at ≡ w.at)) (places_of line) → GoesWrongAt line at
  -- a first word that begins no line
  unknown : kind_in (places_of line) ≡ None → at ≡ 0 → GoesWrongAt line at
  -- a word that has not its form
  misformed : (kind : Kind) → kind_in (places_of line) ≡ Some kind → Somewhere (λ d. HasNoForm at d.forms d.word) (due_in kind line) → GoesWrongAt line at
  -- a word too many, at its first byte
  surplus : (kind : Kind) → kind_in (places_of line) ≡ Some kind → Somewhere (λ d. (d.forms ≡ []) × (at ≡ d.word.at)) (due_in kind line) → GoesWrongAt line at
  -- a word too few, at the length of the line
  lacking : (kind : Kind) → kind_in (places_of line) ≡ Some kind → length (behind_first (places_of line)) < length (shape_of kind).needed → at ≡ length line → GoesWrongAt line at

-- The least of the indices at which a line goes wrong.
pub record IsFirstWrongInLine (line : List ℕ) (at : ℕ) : Type 0 where
  pub wrong : GoesWrongAt line at
  pub least : (n : ℕ) → GoesWrongAt line n → at ≤ n

-- The fault says where the line goes wrong first, or that there was no memory.
abbrev pub IsLineFault : List ℕ → LineFault → Type 0
IsLineFault line (Syntax at) = IsFirstWrongInLine line at
IsLineFault line Memory = Unit {0}
