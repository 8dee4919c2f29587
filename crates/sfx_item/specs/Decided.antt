-- What the relations on names say, as functions that compute it.
use Rattle.std.specs.Prelude.{ℕ, zero, suc, ◌+◌, ◌-◌, Bool, false, ◌&&◌, ◌||◌, ◌==◌, nat_lt, nat_le, nat_eq, if◌then◌else◌, Option, Some, None, List, [], ◌∷◌, ◌++◌, length, drop, slice_index, bytes_eq, codes}
use Rattle.std.specs.Int.{is_in_range}
use Rattle.std.specs.List.{before_first, starts_with}
use Rattle.std.specs.Str.Lossy.{utf8_valid_len}
use Rattle.sfx_item.specs.Name.{slash}

-- The bytes begin with a control character, as its one byte or its two.
abbrev pub is_control_prefix : List ℕ → Bool
is_control_prefix [] = false
is_control_prefix (b ∷ bytes) = nat_lt b 32 || (b == 127 || (b == 194 && is_in_range 128 159 (slice_index bytes 0)))

-- The component is empty, `.` or `..`.
abbrev pub is_improper : List ℕ → Bool
is_improper component = bytes_eq component [] || (bytes_eq component (codes ".") || bytes_eq component (codes ".."))

-- A component begins at this index: at the start, or behind a slash.
abbrev pub begins_component : List ℕ → ℕ → Bool
begins_component bytes at = at == 0 || slice_index bytes (at - 1) == slash

-- The bytes from this index up to the next slash or the end.
abbrev pub component_from : List ℕ → ℕ → List ℕ
component_from bytes at = before_first (λ b. b == slash) (drop at bytes)

-- A control character begins at this index, within the text.
abbrev pub has_control : List ℕ → ℕ → Bool
has_control bytes at = is_control_prefix (drop at bytes) && nat_lt at (utf8_valid_len bytes)

-- A component that no name has stands at this index, behind text.
abbrev pub has_improper : List ℕ → ℕ → Bool
has_improper bytes at = begins_component bytes at && (is_improper (component_from bytes at) && nat_le at (utf8_valid_len bytes))

-- The text ends at this index, and more bytes follow.
abbrev pub ends_text : List ℕ → ℕ → Bool
ends_text bytes at = nat_lt at (length bytes) && at == utf8_valid_len bytes

-- The 255 bytes that a name may have end at this index, and more bytes follow.
abbrev pub ends_size : List ℕ → ℕ → Bool
ends_size bytes at = at == 255 && nat_lt 255 (length bytes)

-- Something keeps the bytes from being a name at this index.
unfoldable pub is_wrong_at : List ℕ → ℕ → Bool
is_wrong_at bytes at = has_improper bytes at || (has_control bytes at || (ends_text bytes at || ends_size bytes at))

-- The first of so many indexes, from this one on, at which the test passes.
abbrev pub least_from : (ℕ → Bool) → ℕ → ℕ → Option ℕ
least_from test at zero = None
least_from test at (suc more) = if test at then Some at else least_from test (at + 1) more

-- The least index at which something keeps the bytes from being a name; none where they are one.
unfoldable pub name_fault : List ℕ → Option ℕ
name_fault bytes = least_from (is_wrong_at bytes) 0 (length bytes + 1)

-- The first name lies below the other: it goes on behind it with a slash.
abbrev pub is_below : List ℕ → List ℕ → Bool
is_below name other = starts_with nat_eq name (other ++ slash ∷ [])

-- The names are equal, or one lies below the other.
unfoldable pub is_clash : List ℕ → List ℕ → Bool
is_clash a b = bytes_eq a b || (is_below a b || is_below b a)
