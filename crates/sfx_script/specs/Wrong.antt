-- Where bytes that are no line go wrong first, as a function of the bytes.
use Rattle.std.specs.Prelude.{ℕ, ◌+◌, Option, Some, None, List, Ok, Err}
use Rattle.std.specs.List.{prefix_len}
use Rattle.sfx_ids.specs.PrefixLen.{item_prefix, version_prefix}
use Rattle.sfx_script.specs.Grammar.{Form, number, name, uuid, item, version, value, keep, clash, batch, group, cut, trace}
use Rattle.sfx_script.specs.Reading.{Cause, Unknown, Lacking, Misformed, Surplus, Read, reading_of}
use Rattle.sfx_script.specs.Word.{is_printable}
use Rattle.sfx_script.specs.declared.line.Line.{Line}

-- How many bytes behind its begin a word without the form goes wrong.
abbrev pub form_place : Form → List ℕ → ℕ
form_place item word = item_prefix word
form_place version word = version_prefix word
form_place value word = prefix_len is_printable word
form_place number word = 0
form_place name word = 0
form_place uuid word = 0
form_place keep word = 0
form_place clash word = 0
form_place batch word = 0
form_place group word = 0
form_place cut word = 0
form_place trace word = 0

-- The index at which bytes go wrong by a cause.
abbrev pub cause_place : Cause → ℕ
cause_place Unknown = 0
cause_place (Lacking end) = end
cause_place (Misformed form w) = w.at + form_place form w.text
cause_place (Surplus w) = w.at

-- The same of what was read, where there is a cause.
abbrev pub place_in : Read Line → Option ℕ
place_in (Ok line) = None
place_in (Err cause) = Some (cause_place cause)

-- The least index at which the bytes go wrong; none where they are a line.
abbrev pub wrong_at : List ℕ → Option ℕ
wrong_at line = place_in (reading_of line)
