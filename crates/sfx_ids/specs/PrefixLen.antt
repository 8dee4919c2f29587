use Rattle.std.specs.Prelude.{ℕ, ◌+◌, ◌==◌, List, [], ◌∷◌, drop, if◌then◌else◌}
use Rattle.std.specs.Option.{option_map_or}
use Rattle.sfx_ids.specs.Steps.{next_tick, fits_place}
use Rattle.sfx_ids.specs.Text.{colon, at_sign}

-- how many bytes at the head of the text go on with a tick's digits, which are read as this number
-- so far: with 0 before the first
abbrev pub tick_prefix : ℕ → List ℕ → ℕ
tick_prefix number [] = 0
tick_prefix number (b ∷ bs) = option_map_or (λ next. 1 + tick_prefix next bs) (next_tick number b) 0

-- how many bytes at the head of the text go on with a replica's text, from this place of it
abbrev pub replica_prefix : ℕ → List ℕ → ℕ
replica_prefix place [] = 0
replica_prefix place (b ∷ bs) = if fits_place place b then 1 + replica_prefix (place + 1) bs else 0

-- how many bytes at the head of the text go on behind a tick's digits: the separator, and those of
-- a replica behind it
abbrev pub replica_behind : ℕ → List ℕ → ℕ
replica_behind separator [] = 0
replica_behind separator (b ∷ bs) = if b == separator then 1 + replica_prefix 0 bs else 0

-- the length of the longest prefix of the text that begins a tick, the separator and a replica
abbrev pub pair_prefix : ℕ → List ℕ → ℕ
pair_prefix separator text =
    let digits = tick_prefix 0 text in
    if digits == 0 then 0 else digits + replica_behind separator (drop digits text)

-- the length of the longest prefix of the text that begins some item's text
unfoldable pub item_prefix : List ℕ → ℕ
item_prefix text = pair_prefix colon text

-- the length of the longest prefix of the text that begins some version's text
unfoldable pub version_prefix : List ℕ → ℕ
version_prefix text = pair_prefix at_sign text
