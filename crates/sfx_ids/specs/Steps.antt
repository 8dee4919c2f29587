use Rattle.std.specs.Prelude.{ℕ, ◌+◌, ◌-◌, ◌*◌, ◌==◌, ◌&&◌, ◌||◌, if◌then◌else◌, nat_le, nat_lt, Bool, Option, Some, None}
use Rattle.std.specs.Char.{is_ascii_digit}
use Rattle.uuid.specs.Text.{is_hyphen_place, hyphen}
use Rattle.sfx_ids.specs.Tick.{max_tick}

-- the byte goes on with a tick's digits, which are read as a number so far: with 0 before the first
abbrev pub next_tick : ℕ → ℕ → Option ℕ
next_tick number byte =
    let next = number * 10 + (byte - 48) in
    if is_ascii_digit byte && nat_le 1 next && nat_le next max_tick then Some next else None

-- a byte may stand at this place of a replica's text
abbrev pub fits_place : ℕ → ℕ → Bool
fits_place place byte =
    nat_lt place 36
    && (if is_hyphen_place place then byte == hyphen
    else is_ascii_digit byte || (nat_le 97 byte && nat_le byte 102))
