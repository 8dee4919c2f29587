-- Names with a mark at the end of their first component.
use Rattle.std.specs.Prelude.{ℕ, ◌+◌, ◌-◌, Bool, false, ◌&&◌, if◌then◌else◌, nat_eq, nat_le, min, List, [], ◌∷◌, ◌++◌, length, take, drop, decimal}
use Rattle.std.specs.List.{before_first, list_all}
use Rattle.std.specs.Int.{is_in_range}
use Rattle.std.specs.Fmt.Cut.{floor_char_boundary}
use Rattle.sfx_item.specs.Name.{slash}

-- The byte `~`, with which a mark begins.
abbrev pub tilde : ℕ
tilde = 126

-- The byte is an ASCII digit.
abbrev pub is_digit : ℕ → Bool
is_digit b = is_in_range 48 57 b

-- The bytes are one or more digits.
abbrev pub are_digits : List ℕ → Bool
are_digits [] = false
are_digits (b ∷ bs) = list_all is_digit (b ∷ bs)

-- The bytes are a mark: `~` and one or more digits.
abbrev pub is_mark : List ℕ → Bool
is_mark [] = false
is_mark (b ∷ bs) = nat_eq b tilde && are_digits bs

-- The bytes without the mark at their end, where there is one.
abbrev pub without_mark : List ℕ → List ℕ
without_mark [] = []
without_mark (b ∷ bs) = if is_mark (b ∷ bs) then [] else b ∷ without_mark bs

-- The mark of this number.
abbrev pub mark_of : ℕ → List ℕ
mark_of n = tilde ∷ decimal n

-- The longest prefix of the text that ends between characters and has at most so many bytes.
abbrev pub text_prefix : ℕ → List ℕ → List ℕ
text_prefix size text = take (floor_char_boundary text (min size (length text))) text

-- The first part of a name, the mark and the rest in at most 255 bytes: the first part is cut where it is
-- too long, and where mark and rest are too long, the mark is all.
abbrev pub within_size : List ℕ → List ℕ → List ℕ → List ℕ
within_size first mark rest =
    if nat_le (length mark + length rest) 255 then
    text_prefix (255 - (length mark + length rest)) first ++ (mark ++ rest)
    else mark

-- The name with the mark of this number at the end of its first component, in place of one that is there.
unfoldable pub renamed : List ℕ → ℕ → List ℕ
renamed name n =
    let first = before_first (λ b. nat_eq b slash) name in
    within_size (without_mark first) (mark_of n) (drop (length first) name)
