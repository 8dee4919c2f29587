-- A version's text is that of its tick and its replica.
use Rattle.std.proofs.Common.{◌≡◌, ℕ, ◌<◌, ◌^◌, List, take, Some, Option, Result, Ok, unwrap_or, ap}
use Rattle.sfx_ids.specs.declared.version.Version.{Version}
use Rattle.sfx_ids.specs.Prefix.{BeginsPair, BeginsVersion, IsLongestPrefix}
use Rattle.sfx_ids.specs.Version.{IsVersion}
use Rattle.sfx_ids.specs.Text.{version_text, pair_text, at_sign}
use Rattle.sfx_ids.specs.Tick.{IsTick}

-- the version of a tick and a replica
abbrev pub version_of : ℕ × ℕ → Version
version_of (tick, replica) = record { tick = tick; replica = replica }

pub read_version : (tick replica : ℕ) (text : List ℕ) → IsTick tick × (replica < 2 ^ 128) × (text ≡ pair_text at_sign tick replica)
    → IsVersion (version_of (tick, replica)) × (text ≡ version_text (version_of (tick, replica)))
unfolding version_text
read_version tick replica text read = (record { tick = read.0; replica = read.1 }, read.2)

-- what was read of a version's text is the version
pub same_version : {E : Type 0} (tick replica : ℕ) (version : Version)
    → (let p : ℕ × ℕ = (tick, replica) in let q : ℕ × ℕ = (version.tick, version.replica) in Some p ≡ Some q)
    → ◌≡◌ {A = Result Version E} (Ok (version_of (tick, replica))) (Ok version)
same_version tick replica version same =
    let start : ℕ × ℕ = (0, 0) in
    ap Ok (ap version_of (ap (λ (o : Option (ℕ × ℕ)). unwrap_or o start) same))

pub pair_of_version : (version : Version) (text : List ℕ) → text ≡ version_text version → text ≡ pair_text at_sign version.tick version.replica
unfolding version_text
pair_of_version version text is_text = is_text

version_begins : (text : List ℕ) → BeginsPair at_sign text → BeginsVersion text
unfolding version_text
version_begins text prefix = record {
  version = version_of (prefix.tick, prefix.replica);
  rest = prefix.rest;
  valid = record { tick = prefix.is_tick; replica = prefix.is_replica };
  spelled = prefix.spelled;
}

begins_version : (text : List ℕ) → BeginsVersion text → BeginsPair at_sign text
unfolding version_text
begins_version text prefix = record {
  tick = prefix.version.tick;
  replica = prefix.version.replica;
  rest = prefix.rest;
  is_tick = prefix.valid.tick;
  is_replica = prefix.valid.replica;
  spelled = prefix.spelled;
}

-- the longest prefix that begins a version is the longest that begins its pair
pub longest_version : (text : List ℕ) (at : ℕ) → IsLongestPrefix (BeginsPair at_sign) text at → IsLongestPrefix BeginsVersion text at
longest_version text at longest = record {
  within = longest.within;
  begins = version_begins (take at text) longest.begins;
  longest = λ n within prefix. longest.longest n within (begins_version (take n text) prefix);
}
