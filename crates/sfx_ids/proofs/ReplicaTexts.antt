-- A replica's text reads back as the replica.
use Rattle.std.proofs.Common.{◌≡◌, ℕ, ◌<◌, ◌^◌, List, [], ◌∷◌, length, All, Some, Option, option_map, inl, refl, sym, ap, ◌∙◌, arith, None, Result, Err, IsOk, is_ok, ◌↔◌, true≢false}
use Rattle.std.proofs.lemmas.List.Elements.{All-nil, All-cons}
use Rattle.std.specs.List.{AllByRecursion}
use Rattle.std.specs.Int.{from_be_bytes, to_be_bytes, w128}
use Rattle.uuid.specs.Text.{parsed, lower}
use Rattle.uuid.proofs.RoundTrips.{parses_hyphenated}
use Rattle.uuid.proofs.TextLemmas.{by_index_length}
use Rattle.uuid.proofs.OrderLemmas.{from_be_bytes-to_be_bytes_16}
use Rattle.sfx_ids.specs.Text.{replica_text}

pub length-to_be_bytes_16 : (n : ℕ) → length (to_be_bytes w128 n) ≡ 16
length-to_be_bytes_16 n = refl

all_fit : (xs : List ℕ) → AllByRecursion (λ b. b < 256) xs → All (λ b. b < 256) xs
all_fit [] fit = All-nil (λ b. b < 256)
all_fit (x ∷ xs) fit = All-cons (λ b. b < 256) x xs fit.0 (all_fit xs fit.1)

pub bytes_fit : (n : ℕ) → All (λ b. b < 256) (to_be_bytes w128 n)
bytes_fit n =
    all_fit (to_be_bytes w128 n)
    (omega arith, (omega arith, (omega arith, (omega arith, (omega arith, (omega arith, (omega arith, (omega arith, (omega arith, (omega arith, (omega arith, (omega arith, (omega arith, (omega arith, (omega arith, (omega arith, tt))))))))))))))))

none_read : (o : Option (List ℕ)) → ((u : List ℕ) → o ≡ Some u → ⊥) → None ≡ option_map (from_be_bytes w128) o
none_read None unread = refl
none_read (Some u) unread = absurd (unread u refl)

-- where `uuid` refuses a text, no replica is read
pub refused : {E : Type 0} (r : Result (List ℕ) E) (e : E) (text : List ℕ) → r ≡ Err e → (IsOk r ↔ ((u : List ℕ) × (parsed text ≡ Some u)))
    → None ≡ option_map (from_be_bytes w128) (parsed text)
refused r e text is ok =
    none_read (parsed text) (λ u read. true≢false (sym (ok.1 (u, read)) ∙ ap is_ok is))

pub length-replica_text : (n : ℕ) → length (replica_text n) ≡ 36
unfolding replica_text
length-replica_text n = by_index_length 36 _

-- what `uuid` reads of a replica's text
pub uuid_reads : (n : ℕ) → parsed (replica_text n) ≡ Some (to_be_bytes w128 n)
unfolding replica_text
uuid_reads n = sym (parses_hyphenated lower (to_be_bytes w128 n) (inl refl) (length-to_be_bytes_16 n) (bytes_fit n))

pub parsed-replica_text : (n : ℕ) → n < 2 ^ 128 → option_map (from_be_bytes w128) (parsed (replica_text n)) ≡ Some n
parsed-replica_text n fits = ap (option_map (from_be_bytes w128)) (uuid_reads n) ∙ ap Some (from_be_bytes-to_be_bytes_16 n fits)

-- the answer of a reader of all forms at a replica's text
pub reads_replica : (r : Option ℕ) (text : List ℕ) → r ≡ option_map (from_be_bytes w128) (parsed text) → (id : ℕ) → id < 2 ^ 128
    → text ≡ replica_text id → r ≡ Some id
reads_replica r text read id fits is_text = read ∙ ap (λ t. option_map (from_be_bytes w128) (parsed t)) is_text ∙ parsed-replica_text id fits
