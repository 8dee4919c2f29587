-- A script, and the lines and words that it is cut into.
use Rattle.std.specs.Prelude.{ℕ, ◌==◌, Bool, true, List, [], ◌∷◌}
use Rattle.std.specs.List.{slice_split}

-- The lines of a script, which the byte 0x0A ends; the last may lack it, and an empty one is no line.
abbrev pub lines_of : List ℕ → List (List ℕ)
lines_of script = slice_split (λ b. b == 10) script

-- The line is passed over without a reply: it is empty, or begins with `#`.
abbrev pub is_passed : List ℕ → Bool
is_passed [] = true
is_passed (b ∷ bs) = b == 35

-- The byte divides words: it is a blank.
abbrev pub is_blank : ℕ → Bool
is_blank b = b == 32

-- The words of a line, which single blanks divide. A line has a word at least, perhaps an empty one.
abbrev pub words_of : List ℕ → List (List ℕ)
words_of line = slice_split is_blank line
