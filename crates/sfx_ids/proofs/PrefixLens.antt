-- The functions that measure the longest prefixes measure them.
use Rattle.std.proofs.Common.{◌≡◌, ◌⊎◌, ◌≢◌, ℕ, suc, ◌+◌, ◌==◌, ◌<◌, ◌≤◌, List, [], ◌∷◌, ◌++◌, length, get_or, take, drop, Bool, true, false, Option, Some, None, option_and_then, if◌then◌else◌, inl, inr, arith, refl, sym, ap, subst, ◌∙◌}
use Rattle.std.proofs.lemmas.Bool.{cases_lt}
use Rattle.std.proofs.lemmas.Bool.Decides.{nat_tests}
use Rattle.std.proofs.lemmas.List.{drop-drop, get_or-drop, length-drop}
use Rattle.std.specs.Option.{option_map_or}
use Rattle.std.specs.Prelude.{codes}
use Rattle.sfx_ids.specs.Prefix.{BeginsTick, BeginsReplica, BeginsPair, BeginsItem, BeginsVersion, IsLongestPrefix}
use Rattle.sfx_ids.specs.PrefixLen.{tick_prefix, replica_prefix, replica_behind, pair_prefix, item_prefix, version_prefix}
use Rattle.sfx_ids.specs.Steps.{next_tick, fits_place}
use Rattle.sfx_ids.specs.Text.{IsSeparator, colon, at_sign}
use Rattle.sfx_ids.proofs.ItemTexts.{longest_item}
use Rattle.sfx_ids.proofs.StepsLemmas.{run, ReadsPrefixes, longest_at_stop, longest_at_end}
use Rattle.sfx_ids.proofs.PairPrefixes.{longest_digits, longest_beyond}
use Rattle.sfx_ids.proofs.ReplicaPrefixes.{next_place, replica_prefixes}
use Rattle.sfx_ids.proofs.TickPrefixes.{tick_prefixes}
use Rattle.sfx_ids.proofs.VersionTexts.{longest_version}

-- a text has one longest prefix
pub same_prefix : {Begins : List ℕ → Type 0} (text : List ℕ) (m n : ℕ) → IsLongestPrefix Begins text m → IsLongestPrefix Begins text n → m ≡ n
same_prefix text m n one other =
    let up = other.longest m one.within one.begins in
    let down = one.longest n other.within other.begins in
    omega arith

-- from this state the steps read so many bytes of the text, and no more
record StopsAt (step : ℕ → ℕ → Option ℕ) (state : ℕ) (text : List ℕ) (at : ℕ) : Type 0 where
  pub within : at ≤ length text
  pub last : ℕ
  pub reached : run step state (take at text) ≡ Some last
  pub stopped : at < length text → step last (get_or text at 0) ≡ None

stops_at_end : (step : ℕ → ℕ → Option ℕ) (state : ℕ) → StopsAt step state [] 0
stops_at_end step state = record { within = omega arith; last = state; reached = refl; stopped = λ more. absurd (omega arith) }

stops_behind : (step : ℕ → ℕ → Option ℕ) (state byte : ℕ) (bytes : List ℕ) (len : ℕ → ℕ) → ((next : ℕ) → StopsAt step next bytes (len next))
    → (o : Option ℕ) → step state byte ≡ o → StopsAt step state (byte ∷ bytes) (option_map_or (λ next. 1 + len next) o 0)
stops_behind step state byte bytes len rest None is = record { within = omega arith; last = state; reached = refl; stopped = λ more. is }
stops_behind step state byte bytes len rest (Some next) is =
    let behind = rest next in
    let inner = behind.within in
    let one_more : suc (len next) ≡ 1 + len next = omega arith in
    subst (StopsAt step state (byte ∷ bytes)) one_more (record {
      within = omega arith;
      last = behind.last;
      reached = ap (option_and_then (λ x. run step x (take (len next) bytes))) is ∙ behind.reached;
      stopped = λ more. behind.stopped (omega arith);
    })

tick_stops : (text : List ℕ) (number : ℕ) → StopsAt next_tick number text (tick_prefix number text)
tick_stops [] number = stops_at_end next_tick number
tick_stops (b ∷ bs) number = stops_behind next_tick number b bs (λ next. tick_prefix next bs) (λ next. tick_stops bs next) (next_tick number b) refl

chosen : (test : Bool) (next : ℕ) (len : ℕ → ℕ) → option_map_or (λ n. 1 + len n) (if test then Some next else None) 0 ≡ (if test then 1 + len next else 0)
chosen true next len = refl
chosen false next len = refl

replica_stops : (text : List ℕ) (place : ℕ) → StopsAt next_place place text (replica_prefix place text)
replica_stops [] place = stops_at_end next_place place
replica_stops (b ∷ bs) place =
    subst (StopsAt next_place place (b ∷ bs)) (chosen (fits_place place b) (place + 1) (λ next. replica_prefix next bs))
    (stops_behind next_place place b bs (λ next. replica_prefix next bs) (λ next. replica_stops bs next) (next_place place b) refl)

-- where the steps stop, the longest prefix ends
longest_where : (step : ℕ → ℕ → Option ℕ) (Begins : List ℕ → Type 0) → ReadsPrefixes step Begins → (text : List ℕ) (at : ℕ) → StopsAt step 0 text at
    → IsLongestPrefix Begins text at
longest_where step Begins prefixes text at stops = by_side (cases_lt at (length text))
  where
    by_side : (at < length text) ⊎ (length text ≤ at) → IsLongestPrefix Begins text at
    by_side (inl more) = longest_at_stop step Begins prefixes text at stops.last more stops.reached (stops.stopped more)
    by_side (inr over) =
        let inner = stops.within in
        let whole : length text ≡ at = omega arith in
        subst (IsLongestPrefix Begins text) whole (longest_at_end step Begins prefixes text at stops.last over stops.reached)

pub tick_measured : (text : List ℕ) → IsLongestPrefix BeginsTick text (tick_prefix 0 text)
tick_measured text = longest_where next_tick BeginsTick tick_prefixes text (tick_prefix 0 text) (tick_stops text 0)

pub replica_measured : (text : List ℕ) → IsLongestPrefix BeginsReplica text (replica_prefix 0 text)
replica_measured text = longest_where next_place BeginsReplica replica_prefixes text (replica_prefix 0 text) (replica_stops text 0)

-- the byte behind the digits is the separator or not
by_byte : (separator : ℕ) (text : List ℕ) (digits byte : ℕ) (bytes : List ℕ) → IsSeparator separator → IsLongestPrefix BeginsTick text digits → 0 < digits
    → drop digits text ≡ byte ∷ bytes → get_or text digits 0 ≡ byte → (test : Bool) → (byte == separator) ≡ test
    → IsLongestPrefix (BeginsPair separator) text (digits + (if test then 1 + replica_prefix 0 bytes else 0))
by_byte separator text digits byte bytes fits longest some behind here false differs =
    let no_more : digits ≡ digits + 0 = omega arith in
    let other : byte ≢ separator = grind (arith, nat_tests) in
    subst (IsLongestPrefix (BeginsPair separator) text) no_more
    (longest_digits separator text digits fits longest (λ begun within is. other (sym here ∙ is)))
by_byte separator text digits byte bytes fits longest some behind here true same =
    let is : byte ≡ separator = grind (arith, nat_tests) in
    let within : digits < length text = omega (arith, ap length behind, length-drop digits text) in
    let after : drop (digits + 1) text ≡ bytes = sym (drop-drop 1 digits text) ∙ ap (drop 1) behind in
    let rest = subst (λ t. IsLongestPrefix BeginsReplica t (replica_prefix 0 bytes)) (sym after) (replica_measured bytes) in
    let sum : digits + 1 + replica_prefix 0 bytes ≡ digits + (1 + replica_prefix 0 bytes) = omega arith in
    subst (IsLongestPrefix (BeginsPair separator) text) sum
    (longest_beyond separator text digits (replica_prefix 0 bytes) fits longest some within (here ∙ is) rest)

by_rest : (separator : ℕ) (text : List ℕ) (digits : ℕ) (rest : List ℕ) → IsSeparator separator → IsLongestPrefix BeginsTick text digits → 0 < digits
    → drop digits text ≡ rest → IsLongestPrefix (BeginsPair separator) text (digits + replica_behind separator rest)
by_rest separator text digits [] fits longest some is =
    let over : length text ≤ digits = omega (arith, ap length is, length-drop digits text) in
    let no_more : digits ≡ digits + 0 = omega arith in
    subst (IsLongestPrefix (BeginsPair separator) text) no_more (longest_digits separator text digits fits longest (λ begun within. absurd (omega arith)))
by_rest separator text digits (b ∷ bs) fits longest some is =
    let same : digits + 0 ≡ digits = omega arith in
    let here : get_or text digits 0 ≡ b = ap (λ i. get_or text i 0) (sym same) ∙ sym (get_or-drop digits text 0 0) ∙ ap (λ t. get_or t 0 0) is in
    by_byte separator text digits b bs fits longest some is here (b == separator) refl

by_digits : (separator : ℕ) (text : List ℕ) (digits : ℕ) → IsSeparator separator → IsLongestPrefix BeginsTick text digits → (test : Bool) → (digits == 0) ≡ test
    → IsLongestPrefix (BeginsPair separator) text (if test then 0 else digits + replica_behind separator (drop digits text))
by_digits separator text digits fits longest true none =
    let is : digits ≡ 0 = grind (arith, nat_tests) in
    subst (IsLongestPrefix (BeginsPair separator) text) is (longest_digits separator text digits fits longest (λ some. absurd (omega arith)))
by_digits separator text digits fits longest false some =
    let begun : 0 < digits = grind (arith, nat_tests) in
    by_rest separator text digits (drop digits text) fits longest begun refl

pub pair_measured : (separator : ℕ) (text : List ℕ) → IsSeparator separator → IsLongestPrefix (BeginsPair separator) text (pair_prefix separator text)
pair_measured separator text fits =
    let digits = tick_prefix 0 text in
    by_digits separator text digits fits (tick_measured text) (digits == 0) refl

-- the longest prefix that begins a pair has this length alone
pub pair_decided : (separator : ℕ) (text : List ℕ) (at : ℕ) → IsSeparator separator → IsLongestPrefix (BeginsPair separator) text at → at ≡ pair_prefix separator text
pair_decided separator text at fits longest = same_prefix text at (pair_prefix separator text) longest (pair_measured separator text fits)

pub item_measured : (text : List ℕ) → IsLongestPrefix BeginsItem text (item_prefix text)
unfolding item_prefix
item_measured text = longest_item text (pair_prefix colon text) (pair_measured colon text (omega arith, omega arith))

pub item_decided : (text : List ℕ) (at : ℕ) → at ≡ pair_prefix colon text → at ≡ item_prefix text
unfolding item_prefix
item_decided text at is = is

pub version_measured : (text : List ℕ) → IsLongestPrefix BeginsVersion text (version_prefix text)
unfolding version_prefix
version_measured text = longest_version text (pair_prefix at_sign text) (pair_measured at_sign text (omega arith, omega arith))

pub version_decided : (text : List ℕ) (at : ℕ) → at ≡ pair_prefix at_sign text → at ≡ version_prefix text
unfolding version_prefix
version_decided text at is = is

-- worked examples
leading_zero : (rest : List ℕ) → item_prefix (codes "01:" ++ rest) ≡ 0
unfolding item_prefix
leading_zero rest = refl

digits_alone : item_prefix (codes "12") ≡ 2
unfolding item_prefix
digits_alone = refl

other_separator : item_prefix (codes "1@") ≡ 1
unfolding item_prefix
other_separator = refl

too_great : version_prefix (codes "9223372036854775808@") ≡ 18
unfolding version_prefix
too_great = refl

upper_case : item_prefix (codes "1:00000000-0000-0000-0000-00000000000A") ≡ 37
unfolding item_prefix
upper_case = refl

too_long : item_prefix (codes "1:00000000-0000-0000-0000-00000000000a ") ≡ 38
unfolding item_prefix
too_long = refl
