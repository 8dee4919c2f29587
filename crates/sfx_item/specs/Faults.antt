use Rattle.std.specs.Prelude.{◌≡◌, ℕ, ◌<◌, ◌≤◌, ◌⊎◌, List, length, take, slice_index, IsUtf8}
use Rattle.sfx_item.specs.Name.{IsControl, IsImproper, HasComponent, HasCharacter}

-- The longest prefix of the bytes that is UTF-8 has this length.
pub record IsTextUpTo (bytes : List ℕ) (n : ℕ) : Type 0 where
  pub within : n ≤ length bytes
  pub text : IsUtf8 (take n bytes)
  pub longest : (m : ℕ) → m ≤ length bytes → IsUtf8 (take m bytes) → m ≤ n

-- The first byte is a control character's, as its one byte or the first of its two.
abbrev pub HasControlBytes : List ℕ → Type 0
HasControlBytes bytes =
    (0 < length bytes)
    × ((slice_index bytes 0 < 32)
    ⊎ ((slice_index bytes 0 ≡ 127)
    ⊎ ((slice_index bytes 0 ≡ 194) × (1 < length bytes) × (128 ≤ slice_index bytes 1) × (slice_index bytes 1 < 160))))

-- A control character begins at this index.
pub record IsControlAt (bytes : List ℕ) (at : ℕ) : Type 0 where
  pub c : ℕ
  pub control : IsControl c
  pub here : HasCharacter bytes at c

-- A component that no name has stands at this index.
pub record IsImproperAt (bytes : List ℕ) (at : ℕ) : Type 0 where
  pub component : List ℕ
  pub improper : IsImproper component
  pub here : HasComponent bytes at component
