-- A line read from left to right: the line that it is, or the first cause for which it is none.
use Rattle.std.specs.Prelude.{zero, suc, ◌≡◌, ℕ, Bool, true, false, if◌then◌else◌, Option, Some, None, Result, Ok, Err, List, [], ◌∷◌, length, drop, nat_le}
use Rattle.std.specs.Option.{unwrap_or, is_some}
use Rattle.std.specs.Result.{result_ok}
use Rattle.sfx_ids.specs.declared.item_id.ItemId.{ItemId}
use Rattle.sfx_script.specs.Faults.{behind_first, Placed, placed, IsMisformed}
use Rattle.sfx_script.specs.Grammar.{Form, number, name, uuid, item, version, value, keep, clash, line_kind}
use Rattle.sfx_script.specs.Script.{words_of}
use Rattle.sfx_script.specs.Word.{printed, name_of, number_of, uuid_of, item_of, version_of, value_of, keep_of, clash_of, batch_of, group_of, cut_of, trace_of}
use Rattle.sfx_script.specs.declared.kind.Kind.{Kind}
use Rattle.sfx_script.specs.declared.kind.Kind.TheVariants as kinds
use Rattle.sfx_script.specs.declared.line.Line.{Line}
use Rattle.sfx_script.specs.declared.line.Line.TheVariants.{Units, Replica, Files, Create, Set, Delete, Clean, Scan, Sync, Show, Knows, Equal}
use Rattle.sfx_script.specs.declared.line_fault.LineFault.{LineFault}
use Rattle.sfx_script.specs.declared.line_fault.LineFault.TheVariants.{Syntax, Memory}
use Rattle.sfx_script.specs.declared.words.Word.{Word}
use Rattle.sfx_script.specs.declared.options.Options.{Options}

-- The words of a line that are left to read, and the length of the line.
pub record WordsData : Type 0 where
  pub left : List Placed
  pub end : ℕ

-- What is left of a line at this index, where a word would begin.
abbrev pub left_at : List ℕ → ℕ → WordsData
left_at line at = record {
  left = if nat_le at (length line) then placed at (words_of (drop at line)) else [];
  end = length line;
}

-- A word as the program has it.
abbrev pub placed_word : Word → Placed
placed_word w = record { at = w.at; text = w.text.now }

-- The first of the words.
abbrev pub first_of : List Placed → Option Placed
first_of [] = None
first_of (w ∷ ws) = Some w

-- Whether no word is left.
abbrev pub is_done : List Placed → Bool
is_done [] = true
is_done (w ∷ ws) = false

-- What is left behind the first of the words.
abbrev pub behind_next : WordsData → WordsData
behind_next ws = record { left = behind_first ws.left; end = ws.end }

-- Why words are no line.
pub data Cause : Type 0 where
  Unknown : Cause
  Lacking : ℕ → Cause
  Misformed : Form → Placed → Cause
  Surplus : Placed → Cause

-- What is read, or the cause for which it cannot be.
abbrev pub Read : Type 0 → Type 0
Read A = Result A Cause

infixl 10 ◌>>=◌
abbrev pub ◌>>=◌ : {A B : Type 0} → Read A → (A → Read B) → Read B
(Ok x) >>= f = f x
(Err e) >>= f = Err e

-- What a word stands for, where it has the form.
abbrev pub formed : {A : Type 0} → Form → Placed → Option A → Read A
formed form w None = Err (Misformed form w)
formed form w (Some x) = Ok x

-- The next word.
abbrev pub next_word_of : List Placed → ℕ → Read (Placed × WordsData)
next_word_of [] end = Err (Lacking end)
next_word_of (w ∷ ws) end = Ok (w, record { left = ws; end = end })

abbrev pub next_word : WordsData → Read (Placed × WordsData)
next_word ws = next_word_of ws.left ws.end

-- What the next word stands for, where there is one with the form.
abbrev pub next : {A : Type 0} → Form → (List ℕ → Option A) → WordsData → Read (A × WordsData)
next form of ws = do
  w ← next_word ws
  x ← formed form w.0 (printed of w.0.text)
  Ok (x, w.1)

-- That no word is left.
abbrev pub end_of_line : List Placed → Read (Unit {0})
end_of_line [] = Ok (tt {0})
end_of_line (w ∷ ws) = Err (Surplus w)

abbrev pub last : WordsData → Read (Unit {0})
last ws = end_of_line ws.left

-- What the next word stands for, where it has the form, and the words behind it; else nothing and all words.
abbrev pub given_by : {A : Type 0} → Option A → WordsData → WordsData → Option A × WordsData
given_by None all rest = (None, all)
given_by (Some x) all rest = (Some x, rest)

abbrev pub given_of : {A : Type 0} → (List ℕ → Option A) → List Placed → ℕ → Option A × WordsData
given_of of [] end = (None, record { left = []; end = end })
given_of of (w ∷ ws) end = given_by (printed of w.text) (record { left = w ∷ ws; end = end }) (record { left = ws; end = end })

abbrev pub given : {A : Type 0} → (List ℕ → Option A) → WordsData → Option A × WordsData
given of ws = given_of of ws.left ws.end

-- Whether it is given.
abbrev pub is_given : {A : Type 0} → Option A × WordsData → Bool × WordsData
is_given g = (is_some g.0, g.1)

-- The options that are given, in their order. A batch has 100 entries at most and each entry is committed
-- by itself, where the words do not say otherwise.
abbrev pub options_of : WordsData → Options × WordsData
options_of ws =
    let b = given batch_of ws in
    let g = given group_of b.1 in
    let c = given cut_of g.1 in
    let t = given trace_of c.1 in
    (record { batch = unwrap_or b.0 100; group = unwrap_or g.0 1; cut = c.0; trace = is_some t.0 }, t.1)

-- Values up to the last word, of which there may be this many.
abbrev pub values_in : ℕ → List Placed → Read (List (List ℕ))
values_in most [] = Ok []
values_in zero (w ∷ ws) = Err (Surplus w)
values_in (suc most) (w ∷ ws) = do
  v ← formed value w (printed value_of w.text)
  vs ← values_in most ws
  Ok (v ∷ vs)

-- One value, and seven further ones at most.
abbrev pub some_values : WordsData → Read (List (List ℕ))
some_values ws = do
  v ← next value value_of ws
  vs ← values_in 7 v.1.left
  Ok (v.0 ∷ vs)

-- An item and no more, or nothing.
abbrev pub item_if_any_of : List Placed → ℕ → Read (Option ItemId)
item_if_any_of [] end = Ok None
item_if_any_of (w ∷ ws) end = do
  i ← next item item_of (record { left = w ∷ ws; end = end })
  _ ← last i.1
  Ok (Some i.0)

abbrev pub item_if_any : WordsData → Read (Option ItemId)
item_if_any ws = item_if_any_of ws.left ws.end

abbrev pub units_line : WordsData → Read Line
units_line ws = do
  n ← next number number_of ws
  _ ← last n.1
  Ok (Units n.0)

abbrev pub replica_line : WordsData → Read Line
replica_line ws = do
  r ← next name name_of ws
  id ← next uuid uuid_of r.1
  _ ← last id.1
  Ok (Replica r.0 id.0)

abbrev pub files_line : WordsData → Read Line
files_line ws = do
  r ← next name name_of ws
  id ← next uuid uuid_of r.1
  _ ← last id.1
  Ok (Files r.0 id.0)

abbrev pub create_line : WordsData → Read Line
create_line ws = do
  r ← next name name_of ws
  vs ← some_values r.1
  Ok (Create r.0 vs)

abbrev pub set_line : WordsData → Read Line
set_line ws = do
  r ← next name name_of ws
  i ← next item item_of r.1
  k ← next number number_of i.1
  v ← next value value_of k.1
  _ ← last v.1
  Ok (Set r.0 i.0 k.0 v.0)

abbrev pub delete_line : WordsData → Read Line
delete_line ws = do
  r ← next name name_of ws
  i ← next item item_of r.1
  _ ← last i.1
  Ok (Delete r.0 i.0)

abbrev pub clean_line : WordsData → Read Line
clean_line ws = do
  r ← next name name_of ws
  i ← item_if_any r.1
  Ok (Clean r.0 i)

abbrev pub scan_line : WordsData → Read Line
scan_line ws = do
  r ← next name name_of ws
  _ ← last r.1
  Ok (Scan r.0)

abbrev pub sync_line : WordsData → Read Line
sync_line ws = do
  a ← next name name_of ws
  b ← next name name_of a.1
  k ← next keep keep_of b.1
  c ← next clash clash_of k.1
  _ ← last (options_of c.1).1
  Ok (Sync a.0 b.0 k.0 c.0 (options_of c.1).0)

abbrev pub show_line : WordsData → Read Line
show_line ws = do
  r ← next name name_of ws
  _ ← last r.1
  Ok (Show r.0)

abbrev pub knows_line : WordsData → Read Line
knows_line ws = do
  r ← next name name_of ws
  i ← next item item_of r.1
  k ← next number number_of i.1
  v ← next version version_of k.1
  _ ← last v.1
  Ok (Knows r.0 i.0 k.0 v.0)

abbrev pub equal_line : WordsData → Read Line
equal_line ws = do
  a ← next name name_of ws
  b ← next name name_of a.1
  _ ← last b.1
  Ok (Equal a.0 b.0)

-- A line of the kind, by the words behind the first.
abbrev pub kind_line : Kind → WordsData → Read Line
kind_line kinds.Units ws = units_line ws
kind_line kinds.Replica ws = replica_line ws
kind_line kinds.Files ws = files_line ws
kind_line kinds.Create ws = create_line ws
kind_line kinds.Set ws = set_line ws
kind_line kinds.Delete ws = delete_line ws
kind_line kinds.Clean ws = clean_line ws
kind_line kinds.Scan ws = scan_line ws
kind_line kinds.Sync ws = sync_line ws
kind_line kinds.Show ws = show_line ws
kind_line kinds.Knows ws = knows_line ws
kind_line kinds.Equal ws = equal_line ws

abbrev pub line_by : Option Kind → WordsData → Read Line
line_by None ws = Err Unknown
line_by (Some kind) ws = kind_line kind ws

abbrev pub line_in : WordsData → Read Line
line_in ws = do
  w ← next_word ws
  line_by (line_kind w.0.text) w.1

-- The line that these bytes are, or the first cause for which they are none.
abbrev pub reading_of : List ℕ → Read Line
reading_of line = line_in (left_at line 0)

-- The line that these bytes are.
abbrev pub line_of : List ℕ → Option Line
line_of line = result_ok (reading_of line)

-- The index at which bytes go wrong by a cause.
abbrev pub IsPlaceOf : Cause → ℕ → Type 0
IsPlaceOf Unknown at = at ≡ 0
IsPlaceOf (Lacking end) at = at ≡ end
IsPlaceOf (Misformed form w) at = IsMisformed form w at
IsPlaceOf (Surplus w) at = at ≡ w.at

-- The fault tells the cause, or that there was no memory.
abbrev pub Tells : LineFault → Cause → Type 0
Tells Memory cause = Unit {0}
Tells (Syntax at) cause = IsPlaceOf cause at

-- The fault tells what keeps the words from being read. Where nothing does, there was no memory.
abbrev pub Fails : {A : Type 0} → LineFault → Read A → Type 0
Fails fault (Ok x) = fault ≡ Memory
Fails fault (Err cause) = Tells fault cause

-- The answer is what is read.
abbrev pub Answers : {A : Type 0} → Result A LineFault → Read A → Type 0
Answers (Ok x) read = read ≡ Ok x
Answers (Err fault) read = Fails fault read

-- The answer is what is read, and these words are left then.
abbrev pub Gives : {A : Type 0} → Result A LineFault → WordsData → Read (A × WordsData) → Type 0
Gives (Ok x) ws read = read ≡ Ok (x, ws)
Gives (Err fault) ws read = Fails fault read
