-- How values and clock vectors are printed.
use Rattle.std.specs.Prelude.{ℕ, ◌||◌, ◌==◌, nat_le, Bool, if◌then◌else◌, List, [], ◌∷◌, ◌++◌, codes, decimal}
use Rattle.std.specs.Str.{bytes_eq}
use Rattle.percent_encoding.specs.Percent.{percent_encode}
use Rattle.sfx_script.specs.declared.printed.TheConstants.{VALUE_SET}
use Rattle.sfx_ids.specs.Text.{replica_text}
use Rattle.sfx_vector.specs.Clocks.{Clocks}

-- The byte is not printed as itself in a value: 0x00 to 0x20, 0x25, 0x7F, and 0x80 to 0xFF.
abbrev pub is_escaped : ℕ → Bool
is_escaped b = nat_le b 32 || b == 37 || nat_le 127 b

-- The text of a value: percent-encoded, but `-` for no bytes and `%2D` for the one byte `-`.
abbrev pub value_text : List ℕ → List ℕ
value_text [] = codes "-"
value_text bytes = if bytes_eq bytes (codes "-") then codes "%2D" else percent_encode VALUE_SET bytes

-- An entry of a vector: the replica, `=` and its tick.
abbrev pub clock_text : ℕ × ℕ → List ℕ
clock_text entry = replica_text entry.0 ++ 61 ∷ decimal entry.1

-- Entries, each behind a comma.
abbrev pub further_text : Clocks → List ℕ
further_text [] = []
further_text (entry ∷ entries) = 44 ∷ clock_text entry ++ further_text entries

-- Entries with commas between them.
abbrev pub entries_text : Clocks → List ℕ
entries_text [] = []
entries_text (entry ∷ entries) = clock_text entry ++ further_text entries

-- The text of a vector: its entries with commas between them, or `-` where it has none.
abbrev pub vector_text : Clocks → List ℕ
vector_text [] = codes "-"
vector_text (entry ∷ entries) = entries_text (entry ∷ entries)
