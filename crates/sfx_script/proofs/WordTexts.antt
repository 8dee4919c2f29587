-- What a word spells is read, and what is read was spelled.
use Rattle.std.proofs.Common.{◌≡◌, ◌≢◌, rules, ℕ, ◌<◌, ◌≤◌, ◌^◌, Bool, true, false, ◌&&◌, Option, Some, None, IfSome, Result, Ok, Err, IfOk, List, ◌∷◌, ◌++◌, length, length-append, drop, get_or, refl, sym, ap, subst, ◌∙◌, arith, nat_le, slice_index, ◌⊎◌, inl, inr, decimal}
use Rattle.std.proofs.lemmas.Bool.Decides.{nat_tests}
use Rattle.std.proofs.lemmas.Fmt.{decimal_is_IsNumeral}
use Rattle.std.proofs.lemmas.Bool.{cases_lt}
use Rattle.std.proofs.lemmas.Str.{IsUtf8-from_ascii}
use Rattle.std.proofs.lemmas.List.{get_or_past, get_or_append_left}
use Rattle.std.proofs.lemmas.Grind.{common_steps}
use Rattle.std.proofs.Math.Seq.{take-append_seam, drop-append-add}
use Rattle.std.proofs.lemmas.List.Sums.{position_or_len_is, AllPass-from_list_all}
use Rattle.std.proofs.lemmas.Slice.Eq.{bytes_eq-Decides}
use Rattle.std.specs.List.{list_all, position_or_len, before_first, after_first}
use Rattle.std.specs.Result.{result_ok}
use Rattle.std.specs.Str.{bytes_eq, IsUtf8}
use Rattle.std.specs.Str.Parse.{digits_value}
use Rattle.sfx_ids.proofs.ReplicaTexts.{parsed-replica_text}
use Rattle.sfx_ids.proofs.TickTexts.{no_separator}
use Rattle.sfx_ids.specs.declared.item_id.ItemId.{ItemId}
use Rattle.sfx_ids.specs.declared.version.Version.{Version}
use Rattle.sfx_ids.specs.ItemId.{IsItemId}
use Rattle.sfx_ids.specs.Text.{replica_text, item_text, version_text, pair_text, colon, at_sign}
use Rattle.sfx_ids.specs.Tick.{IsTick, max_tick}
use Rattle.sfx_ids.specs.Version.{IsVersion}
use Rattle.sfx_script.proofs.OneReading.{Reads, both_true, kept_where}
use Rattle.sfx_script.specs.Word.{is_printable}
use Rattle.sfx_script.specs.Word.{spelled, uuid_of, item_candidate, item_of, version_candidate, version_of, is_replica_id, is_tick, is_colon, is_at_sign}

-- a value that was spelled is in range, and the word is its text
pub spelled-sound : {A : Type 0} (in_range : A → Bool) (text_of : A → List ℕ) (word : List ℕ) (o : Option A) (x : A)
    → spelled in_range text_of word o ≡ Some x → (in_range x ≡ true) × (word ≡ text_of x)
spelled-sound in_range text_of word None x e = absurd (cc)
spelled-sound in_range text_of word (Some y) x e =
    let kept = kept_where (in_range y && bytes_eq (text_of y) word) y x e in
    let tests = both_true (in_range y) (bytes_eq (text_of y) word) kept.0 in
    let text : text_of y ≡ word = (bytes_eq-Decides (text_of y) word).0 tests.1 in
    (sym (ap in_range kept.1) ∙ tests.0, sym text ∙ ap text_of kept.1)

-- the one candidate is spelled, if it is in range and the word is its text
pub spelled-whole : {A : Type 0} (in_range : A → Bool) (text_of : A → List ℕ) (word : List ℕ) (x : A)
    → in_range x ≡ true → word ≡ text_of x → spelled in_range text_of word (Some x) ≡ Some x
spelled-whole in_range text_of word x fits text =
    let same : bytes_eq (text_of x) word ≡ true = (bytes_eq-Decides (text_of x) word).1 (sym text) in
    rw (fits, same) refl

-- a list of bytes that may all stand in a line is text
pub IsUtf8-printable : (bytes : List ℕ) → list_all is_printable bytes ≡ true → IsUtf8 bytes
IsUtf8-printable bytes passes = IsUtf8-from_ascii bytes (λ i. by_place i (cases_lt i (length bytes))) where
  by_place : (i : ℕ) → (i < length bytes) ⊎ (length bytes ≤ i) → slice_index bytes i < 128
  by_place i (inl inside) =
      let test : is_printable (get_or bytes i 0) ≡ true = AllPass-from_list_all is_printable bytes passes i 0 inside in
      let tests = both_true (nat_le 32 (get_or bytes i 0)) (nat_le (get_or bytes i 0) 126) test in
      grind (arith, nat_tests, tests.1)
  by_place i (inr outside) = rw (get_or_past bytes i 0 outside) (omega arith)

drop_one : (y : ℕ) (ys : List ℕ) → drop 1 (y ∷ ys) ≡ ys
drop_one y ys = search rules

-- where a list is cut at the first element that passes
pub cut_at_first : (test : ℕ → Bool) (xs ys : List ℕ) (y : ℕ) → ((k : ℕ) → k < length xs → test (get_or xs k 0) ≡ false) → test y ≡ true
    → (before_first test (xs ++ y ∷ ys) ≡ xs) × (after_first test (xs ++ y ∷ ys) ≡ ys)
cut_at_first test xs ys y none here =
    let all = xs ++ y ∷ ys in
    let low : length xs ≤ length all = omega (arith, length-append xs (y ∷ ys)) in
    let first : get_or all (length xs) 0 ≡ y = grind (arith, common_steps) in
    let at : position_or_len test all ≡ length xs =
    position_or_len_is test all (length xs) 0 low
    (λ k small. rw (get_or_append_left xs (y ∷ ys) 0 k small) (none k small))
    (λ inside. rw first here) in
    (rw at (take-append_seam xs (y ∷ ys)), rw at (drop-append-add xs (y ∷ ys) 1 ∙ drop_one y ys))

-- the parts of the text of a tick and a replica
pub pair_parts : (separator tick replica : ℕ) (test : ℕ → Bool) → ((b : ℕ) → b ≢ separator → test b ≡ false) → test separator ≡ true
    → 57 < separator → IsTick tick
    → (before_first test (pair_text separator tick replica) ≡ decimal tick) × (after_first test (pair_text separator tick replica) ≡ replica_text replica)
pair_parts separator tick replica test others here high valid =
    cut_at_first test (decimal tick) (replica_text replica) separator
    (λ k small. others (get_or (decimal tick) k 0) (no_separator tick separator (omega (arith, valid.most)) high k small))
    here

pub digits_value-tick : (tick : ℕ) → IsTick tick → digits_value 10 (decimal tick) ≡ tick
digits_value-tick tick valid = (decimal_is_IsNumeral tick (omega (arith, valid.most))).1

pub is_tick-true : (tick : ℕ) → IsTick tick → is_tick tick ≡ true
is_tick-true tick valid = let a = valid.least in let b = valid.most in grind (arith, nat_tests)

pub IsTick-true : (tick : ℕ) → is_tick tick ≡ true → IsTick tick
IsTick-true tick test =
    let tests = both_true (nat_le 1 tick) (nat_le tick max_tick) test in
    record { least = grind (arith, nat_tests, tests.0); most = grind (arith, nat_tests, tests.1) }

pub item_reads : (word : List ℕ) → Reads IsItemId item_text word (item_of word)
unfolding item_text
item_reads word = record {
  sound = sound_at (item_of word) refl;
  whole = λ x valid text.
      let parts = pair_parts colon x.tick x.replica is_colon (λ b other. grind (arith, nat_tests)) refl (omega arith) valid.tick in
      let read : uuid_of (after_first is_colon word) ≡ Some x.replica = rw (text, parts.1) (parsed-replica_text x.replica valid.replica) in
      let ticks : digits_value 10 (before_first is_colon word) ≡ x.tick = rw (text, parts.0) (digits_value-tick x.tick valid.tick) in
      let small : is_replica_id x.replica ≡ true = let v = valid.replica in grind (arith, nat_tests) in
      let fits : (is_tick x.tick && is_replica_id x.replica) ≡ true = rw (is_tick-true x.tick valid.tick, small) refl in
      rw (read, ticks) (spelled-whole (λ y. is_tick y.tick && is_replica_id y.replica) item_text word x fits text);
} where
  sound_at : (o : Option ItemId) → item_of word ≡ o → IfSome o (λ x. IsItemId x × (word ≡ item_text x))
  sound_at None e = tt
  sound_at (Some x) e =
      let read = spelled-sound (λ y. is_tick y.tick && is_replica_id y.replica) item_text word (item_candidate word) x e in
      let tests = both_true (is_tick x.tick) (is_replica_id x.replica) read.0 in
      let small : x.replica < 2 ^ 128 = grind (arith, nat_tests, tests.1) in
      (record { tick = IsTick-true x.tick tests.0; replica = small }, read.1)

pub version_reads : (word : List ℕ) → Reads IsVersion version_text word (version_of word)
unfolding version_text
version_reads word = record {
  sound = sound_at (version_of word) refl;
  whole = λ x valid text.
      let parts = pair_parts at_sign x.tick x.replica is_at_sign (λ b other. grind (arith, nat_tests)) refl (omega arith) valid.tick in
      let read : uuid_of (after_first is_at_sign word) ≡ Some x.replica = rw (text, parts.1) (parsed-replica_text x.replica valid.replica) in
      let ticks : digits_value 10 (before_first is_at_sign word) ≡ x.tick = rw (text, parts.0) (digits_value-tick x.tick valid.tick) in
      let small : is_replica_id x.replica ≡ true = let v = valid.replica in grind (arith, nat_tests) in
      let fits : (is_tick x.tick && is_replica_id x.replica) ≡ true = rw (is_tick-true x.tick valid.tick, small) refl in
      rw (read, ticks) (spelled-whole (λ y. is_tick y.tick && is_replica_id y.replica) version_text word x fits text);
} where
  sound_at : (o : Option Version) → version_of word ≡ o → IfSome o (λ x. IsVersion x × (word ≡ version_text x))
  sound_at None e = tt
  sound_at (Some x) e =
      let read = spelled-sound (λ y. is_tick y.tick && is_replica_id y.replica) version_text word (version_candidate word) x e in
      let tests = both_true (is_tick x.tick) (is_replica_id x.replica) read.0 in
      let small : x.replica < 2 ^ 128 = grind (arith, nat_tests, tests.1) in
      (record { tick = IsTick-true x.tick tests.0; replica = small }, read.1)

-- a reader that answers by a result
pub ok_reads : {A E : Type 0} (InRange : A → Type 0) (text_of : A → List ℕ) (word : List ℕ) (r : Result A E)
    → IfOk r (λ x. InRange x × (word ≡ text_of x)) → ((x : A) → InRange x → word ≡ text_of x → r ≡ Ok x)
    → Reads InRange text_of word (result_ok r)
ok_reads InRange text_of word (Ok y) sound whole = record {
  sound = sound;
  whole = λ x valid text. ap result_ok (whole x valid text);
}
ok_reads InRange text_of word (Err e) sound whole = record {
  sound = tt;
  whole = λ x valid text. ap result_ok (whole x valid text);
}

-- an item that a word spells has the word as its text
pub item_spelled : (word : List ℕ) (x : ItemId) → item_of word ≡ Some x → IsItemId x × (word ≡ item_text x)
item_spelled word x e = subst (λ o. IfSome o (λ y. IsItemId y × (word ≡ item_text y))) e (item_reads word).sound

pub version_spelled : (word : List ℕ) (x : Version) → version_of word ≡ Some x → IsVersion x × (word ≡ version_text x)
version_spelled word x e = subst (λ o. IfSome o (λ y. IsVersion y × (word ≡ version_text y))) e (version_reads word).sound
