-- What the words of a script's lines stand for.
use Rattle.std.specs.Prelude.{ℕ, ◌^◌, ◌&&◌, ◌||◌, ◌==◌, if◌then◌else◌, Bool, true, not, Option, Some, None, List, [], length, nat_le, nat_lt, take, drop, codes, decimal, option_map}
use Rattle.std.specs.Char.{is_ascii_alphanumeric}
use Rattle.std.specs.List.{list_all, before_first, after_first}
use Rattle.std.specs.Int.{from_be_bytes, w128}
use Rattle.std.specs.Option.{option_and_then}
use Rattle.std.specs.Str.{bytes_eq}
use Rattle.std.specs.Str.Parse.{digits_value}
use Rattle.percent_encoding.specs.Percent.{percent_decode}
use Rattle.uuid.specs.Text.{parsed}
use Rattle.sfx_ids.specs.declared.item_id.ItemId.{ItemId}
use Rattle.sfx_ids.specs.declared.version.Version.{Version}
use Rattle.sfx_ids.specs.Text.{item_text, version_text, colon, at_sign}
use Rattle.sfx_ids.specs.Tick.{max_tick}
use Rattle.sfx_model.specs.declared.keep.Keep.{Keep}
use Rattle.sfx_model.specs.declared.keep.Keep.TheVariants as keeps
use Rattle.sfx_model.specs.declared.clash_rule.ClashRule.{ClashRule}
use Rattle.sfx_model.specs.declared.clash_rule.ClashRule.TheVariants as clash_rules

-- The byte may stand in a line: it is a blank or a printable character of ASCII.
abbrev pub is_printable : ℕ → Bool
is_printable b = nat_le 32 b && nat_le b 126

-- What a word stands for by some reading of it, where each of its bytes may stand in a line.
abbrev pub printed : {A : Type 0} → (List ℕ → Option A) → List ℕ → Option A
printed of word = if list_all is_printable word then of word else None

-- the code of `_`
abbrev pub underscore : ℕ
underscore = 95

-- the byte may stand in a name: a letter, a digit or `_`
abbrev pub is_in_name : ℕ → Bool
is_in_name byte = is_ascii_alphanumeric byte || byte == underscore

-- the word is a name: 1 to 32 bytes that may stand in one
abbrev pub is_name : List ℕ → Bool
is_name word = not (length word == 0) && nat_le (length word) 32 && list_all is_in_name word

-- The name that a word is.
abbrev pub name_of : List ℕ → Option (List ℕ)
name_of word = if is_name word then Some word else None

-- The number that a word spells: the one whose decimal text it is, below 2 ^ 64.
abbrev pub number_of : List ℕ → Option ℕ
number_of word =
    let n = digits_value 10 word in
    if nat_lt n (2 ^ 64) && bytes_eq (decimal n) word then Some n else None

-- The number of the UUID that a word spells, in any of its four forms.
abbrev pub uuid_of : List ℕ → Option ℕ
uuid_of word = option_map (from_be_bytes w128) (parsed word)

-- A value read from a word, where it is in range and the word is its text.
abbrev pub spelled : {A : Type 0} → (A → Bool) → (A → List ℕ) → List ℕ → Option A → Option A
spelled in_range text_of word None = None
spelled in_range text_of word (Some x) = if in_range x && bytes_eq (text_of x) word then Some x else None

abbrev pub is_colon : ℕ → Bool
is_colon b = b == colon

abbrev pub is_at_sign : ℕ → Bool
is_at_sign b = b == at_sign

abbrev pub is_replica_id : ℕ → Bool
is_replica_id n = nat_lt n (2 ^ 128)

abbrev pub is_tick : ℕ → Bool
is_tick n = nat_le 1 n && nat_le n max_tick

-- The item with the digits before the first `:` as its tick, and what stands behind as its replica.
abbrev pub item_candidate : List ℕ → Option ItemId
item_candidate word =
    option_map (λ r. record { tick = digits_value 10 (before_first is_colon word); replica = r })
    (uuid_of (after_first is_colon word))

-- The item that a word spells.
abbrev pub item_of : List ℕ → Option ItemId
item_of word = spelled (λ x. is_tick x.tick && is_replica_id x.replica) item_text word (item_candidate word)

-- The version with the digits before the first `@` as its tick, and what stands behind as its replica.
abbrev pub version_candidate : List ℕ → Option Version
version_candidate word =
    option_map (λ r. record { replica = r; tick = digits_value 10 (before_first is_at_sign word) })
    (uuid_of (after_first is_at_sign word))

-- The version that a word spells.
abbrev pub version_of : List ℕ → Option Version
version_of word = spelled (λ v. is_tick v.tick && is_replica_id v.replica) version_text word (version_candidate word)

-- The value that a word stands for: no bytes for `-`, else what the word decodes to, in which `%` and two
-- hexadecimal digits stand for a byte, and any other `%` for itself. The empty word is no value's.
abbrev pub value_of : List ℕ → Option (List ℕ)
value_of [] = None
value_of word = if bytes_eq word (codes "-") then Some [] else Some (percent_decode word)

-- What becomes of concurrent changes, behind `keep=`.
abbrev pub keep_of : List ℕ → Option Keep
keep_of word =
    if bytes_eq word (codes "keep=source") then Some keeps.Source
    else if bytes_eq word (codes "keep=destination") then Some keeps.Destination
    else if bytes_eq word (codes "keep=merge") then Some keeps.Merge
    else if bytes_eq word (codes "keep=skip") then Some keeps.Skip
    else None

-- What becomes of names that clash, behind `clash=`.
abbrev pub clash_of : List ℕ → Option ClashRule
clash_of word =
    if bytes_eq word (codes "clash=source") then Some clash_rules.Source
    else if bytes_eq word (codes "clash=destination") then Some clash_rules.Destination
    else if bytes_eq word (codes "clash=rename-source") then Some clash_rules.RenameSource
    else if bytes_eq word (codes "clash=rename-destination") then Some clash_rules.RenameDestination
    else if bytes_eq word (codes "clash=skip") then Some clash_rules.Skip
    else None

-- A number from 1 to the most.
abbrev pub within : ℕ → ℕ → Option ℕ
within most n = if nat_le 1 n && nat_le n most then Some n else None

-- The number that stands behind a key, where it is from 1 to the most.
abbrev pub setting_of : List ℕ → ℕ → List ℕ → Option ℕ
setting_of key most word =
    if bytes_eq (take (length key) word) key
    then option_and_then (within most) (number_of (drop (length key) word))
    else None

-- How many entries a batch has at most, behind `batch=`.
abbrev pub batch_of : List ℕ → Option ℕ
batch_of = setting_of (codes "batch=") 10000

-- How many entries are committed together, behind `group=`.
abbrev pub group_of : List ℕ → Option ℕ
group_of = setting_of (codes "group=") 10000

-- After how many entries the session is cut, behind `cut=`.
abbrev pub cut_of : List ℕ → Option ℕ
cut_of = setting_of (codes "cut=") 1000000000

-- The word `trace`, which asks for the bytes of each batch.
abbrev pub trace_of : List ℕ → Option Bool
trace_of word = if bytes_eq word (codes "trace") then Some true else None
