-- What was read is within its limits.
use Rattle.std.proofs.Common.{codes, ◌≡◌, ◌≤◌, ℕ, Bool, true, false, ◌&&◌, if◌then◌else◌, Option, Some, None, Result, Ok, Err, IfOk, IfSome, List, length, take, drop, nat_le, refl, ap, arith}
use Rattle.std.proofs.lemmas.Bool.Decides.{nat_tests}
use Rattle.std.specs.Option.{option_and_then, unwrap_or}
use Rattle.std.specs.Result.{result_ok}
use Rattle.std.specs.Str.{bytes_eq}
use Rattle.sfx_script.specs.Limits.{AreWithinLimits, IsLimited, IsInLimit}
use Rattle.sfx_script.specs.Line.{AreOptions, IsGiven, Makes, absent, present, options, units, replica, files, create, set, delete, clean_all, clean, scan, sync, show, knows, equal}
use Rattle.sfx_script.specs.Reading.{Answers, line_of, reading_of}
use Rattle.sfx_script.specs.Word.{number_of, setting_of, within}
use Rattle.sfx_script.specs.declared.kind.Kind.{Kind}
use Rattle.sfx_script.specs.declared.line.Line.{Line}
use Rattle.sfx_script.specs.declared.line_fault.LineFault.{LineFault}
use Rattle.sfx_script.specs.declared.options.Options.{Options}
use Rattle.sfx_script.proofs.LineLemmas.{sound}
use Rattle.sfx_script.proofs.UuidNumbers.{uuid_fits}

within_is : (most m n : ℕ) → within most m ≡ Some n → IsInLimit most n
within_is most m n e = by (nat_le 1 m) (nat_le m most) refl refl e where
  by : (a b : Bool) → nat_le 1 m ≡ a → nat_le m most ≡ b → (if a && b then Some m else None) ≡ Some n → IsInLimit most n
  by true true low high e = let same : m ≡ n = cc in (grind (arith, nat_tests), grind (arith, nat_tests))
  by true false low high e = absurd (cc)
  by false b low high e = absurd (cc)

setting_within : (key word : List ℕ) (most n : ℕ) → setting_of key most word ≡ Some n → IsInLimit most n
setting_within key word most n e = by (bytes_eq (take (length key) word) key) e where
  by_number : (o : Option ℕ) → option_and_then (within most) o ≡ Some n → IsInLimit most n
  by_number None e = absurd (cc)
  by_number (Some m) e = within_is most m n e

  by : (b : Bool) → (if b then option_and_then (within most) (number_of (drop (length key) word)) else None) ≡ Some n → IsInLimit most n
  by true e = by_number (number_of (drop (length key) word)) e
  by false e = absurd (cc)

given_within : (key : List ℕ) (most : ℕ) (ws : List (List ℕ)) (o : Option ℕ) → IsGiven (setting_of key most) ws o → IfSome o (IsInLimit most)
given_within key most ws o absent = tt
given_within key most ws o (present w n e) = setting_within key w most n e

-- a number that is given, or the usual one
or_usual : (most usual : ℕ) (o : Option ℕ) → IfSome o (IsInLimit most) → 1 ≤ usual → usual ≤ most → IsInLimit most (unwrap_or o usual)
or_usual most usual None given low high = (low, high)
or_usual most usual (Some n) given low high = given

options_within : (ws : List (List ℕ)) (o : Options) → AreOptions ws o → AreWithinLimits o
options_within ws o (options bs gs cs ts b g c t is_b is_g is_c is_t) = record {
  batch = or_usual 10000 100 b (given_within (codes "batch=") 10000 bs b is_b) (omega arith) (omega arith);
  group = or_usual 10000 1 g (given_within (codes "group=") 10000 gs g is_g) (omega arith) (omega arith);
  cut = given_within (codes "cut=") 1000000000 cs c is_c;
}

made_limited : (kind : Kind) (ws : List (List ℕ)) (line : Line) → Makes kind ws line → IsLimited line
made_limited kind ws line (units w n e) = tt
made_limited kind ws line (replica w u name id e f) = uuid_fits u id f
made_limited kind ws line (files w u name id e f) = uuid_fits u id f
made_limited kind ws line (create w name vs values e some few stand) = tt
made_limited kind ws line (set w i k v name value item unit e f g h) = tt
made_limited kind ws line (delete w i name item e f) = tt
made_limited kind ws line (clean_all w name e) = tt
made_limited kind ws line (clean w i name item e f) = tt
made_limited kind ws line (scan w name e) = tt
made_limited kind ws line (sync a b k c source destination keep clash os given e f g h are) = options_within os given are
made_limited kind ws line (show w name e) = tt
made_limited kind ws line (knows w i k v name item unit version e f g h) = tt
made_limited kind ws line (equal a b first second e f) = tt

pub line_limited : (line : List ℕ) (read : Line) → line_of line ≡ Some read → IsLimited read
line_limited line read e = let is = sound line read e in made_limited is.kind is.words read is.makes

pub answer_limited : (line : List ℕ) (answer : Result Line LineFault) → Answers answer (reading_of line) → IfOk answer IsLimited
answer_limited line (Ok read) answers = line_limited line read (ap result_ok answers)
answer_limited line (Err fault) answers = tt
