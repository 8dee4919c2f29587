use Rattle.std.specs.Prelude.{◌≡◌, ◌≢◌, ℕ, ◌<◌, ◌≤◌, ◌⊎◌, List, [], ◌∷◌, ◌++◌, length, slice_index, codes, encode_utf8, IsUtf8}
use Rattle.std.specs.Str.{IsValidUpTo}
use Rattle.sfx_item.specs.declared.name_fault.NameFault.{NameFault}
use Rattle.sfx_item.specs.declared.name_fault.NameFault.TheVariants.{BadName, Memory}

-- The byte `/`, which stands between the components of a name.
abbrev pub slash : ℕ
slash = 47

-- A control character (the general category Cc of Unicode): U+0000 to U+001F, U+007F to U+009F.
abbrev pub IsControl : ℕ → Type 0
IsControl c = (c < 32) ⊎ ((127 ≤ c) × (c < 160))

-- A component that no name has: the empty one, `.` or `..`.
abbrev pub IsImproper : List ℕ → Type 0
IsImproper component = (component ≡ []) ⊎ ((component ≡ codes ".") ⊎ (component ≡ codes ".."))

-- A component begins behind these bytes: they are none, or end with a slash.
abbrev pub EndsWithSlash : List ℕ → Type 0
EndsWithSlash before = (before ≡ []) ⊎ ((prefix : List ℕ) × (before ≡ prefix ++ slash ∷ []))

-- A component ends before these bytes: they are none, or begin with a slash.
abbrev pub BeginsWithSlash : List ℕ → Type 0
BeginsWithSlash after = (after ≡ []) ⊎ ((rest : List ℕ) × (after ≡ slash ∷ rest))

-- The character begins at this index of the bytes, behind text.
pub record HasCharacter (bytes : List ℕ) (at c : ℕ) : Type 0 where
  pub before : List ℕ
  pub after : List ℕ
  pub text : IsUtf8 before
  pub place : length before ≡ at
  pub spelled : bytes ≡ before ++ encode_utf8 c ++ after

-- The component stands at this index of the bytes, behind text: from the start or a slash up to the
-- next slash or the end.
pub record HasComponent (bytes : List ℕ) (at : ℕ) (component : List ℕ) : Type 0 where
  pub before : List ℕ
  pub after : List ℕ
  pub text : IsUtf8 before
  pub place : length before ≡ at
  pub spelled : bytes ≡ before ++ component ++ after
  pub single : (k : ℕ) → k < length component → slice_index component k ≢ slash
  pub begins : EndsWithSlash before
  pub ends : BeginsWithSlash after

-- A name is at most 255 bytes of UTF-8. None of its components is empty, `.` or `..`, so it has a byte
-- at least, and none of its characters is a control character.
pub record IsName (bytes : List ℕ) : Type 0 where
  pub size : length bytes ≤ 255
  pub text : IsUtf8 bytes
  pub components : (at : ℕ) (component : List ℕ) → HasComponent bytes at component → ¬ IsImproper component
  pub characters : (at c : ℕ) → HasCharacter bytes at c → ¬ IsControl c

-- What keeps bytes from being a name, by the index at which it is: where the improper component or the
-- control character begins, behind the longest prefix that is UTF-8, and behind the first 255 bytes.
pub data IsWrongAt (bytes : List ℕ) (at : ℕ) : Type 0 where
  improper : (component : List ℕ) → HasComponent bytes at component → IsImproper component → IsWrongAt bytes at
  control : (c : ℕ) → HasCharacter bytes at c → IsControl c → IsWrongAt bytes at
  no_text : IsValidUpTo bytes at → IsWrongAt bytes at
  too_long : 255 < length bytes → at ≡ 255 → IsWrongAt bytes at

-- The least of the places at which something is wrong.
pub record IsFirstWrongInName (bytes : List ℕ) (at : ℕ) : Type 0 where
  pub wrong : IsWrongAt bytes at
  pub least : (n : ℕ) → IsWrongAt bytes n → at ≤ n

-- The fault says what became of the reading: where the bytes go wrong, or that they are a name for
-- which there was no memory.
abbrev pub IsNameFault : List ℕ → NameFault → Type 0
IsNameFault bytes (BadName at) = IsFirstWrongInName bytes at
IsNameFault bytes Memory = IsName bytes
