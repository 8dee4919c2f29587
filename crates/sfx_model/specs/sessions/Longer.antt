-- The longer of two values.
use Rattle.std.specs.Prelude.{ℕ, Bool, if◌then◌else◌, ◌&&◌, ◌||◌, nat_eq, nat_lt, List, length}
use Rattle.std.specs.Ordering.{is_lt, nat_cmp}
use Rattle.std.specs.Cmp.Lexicographic.{slice_cmp}

-- The first value is longer or, of equal lengths, greater by its bytes.
abbrev pub is_longer : List ℕ → List ℕ → Bool
is_longer a b = nat_lt (length b) (length a) || (nat_eq (length a) (length b) && is_lt (slice_cmp nat_cmp b a))

-- The longer value and, of equal lengths, the greater one by its bytes.
abbrev pub longer : ℕ → List ℕ → List ℕ → List ℕ
longer unit source destination = if is_longer destination source then destination else source
