-- Each id and each cut has one text.
use Rattle.std.proofs.Common.{◌≡◌, ◌≢◌, ℕ, suc, ◌<◌, ◌^◌, List, [], ◌∷◌, ◌++◌, length, get_or, Option, Some, None, option_map, codes, decimal, true, false, true≢false, arith, refl, sym, ap, ◌∙◌}
use Rattle.std.proofs.lemmas.Fmt.{decimal_injective}
use Rattle.std.proofs.lemmas.List.{append_cancel_left}
use Rattle.std.proofs.lemmas.Option.{none-some, same_Some}
use Rattle.std.proofs.lemmas.Slice.Eq.{bytes_eq-Decides}
use Rattle.std.specs.Int.{from_be_bytes, w128}
use Rattle.std.specs.Str.{bytes_eq}
use Rattle.uuid.specs.Text.{parsed}
use Rattle.sfx_ids.specs.declared.cut.Cut.{Cut}
use Rattle.sfx_ids.specs.declared.cut.Cut.TheVariants.{Start, At, After, End}
use Rattle.sfx_ids.specs.declared.item_id.ItemId.{ItemId}
use Rattle.sfx_ids.specs.declared.version.Version.{Version}
use Rattle.sfx_ids.specs.Cut.{IsCut}
use Rattle.sfx_ids.specs.ItemId.{IsItemId}
use Rattle.sfx_ids.specs.Text.{IsSeparator, pair_text, replica_text, item_text, version_text, cut_text, colon, at_sign}
use Rattle.sfx_ids.specs.Tick.{IsTick}
use Rattle.sfx_ids.specs.Version.{IsVersion}
use Rattle.sfx_ids.proofs.ReplicaTexts.{parsed-replica_text}
use Rattle.sfx_ids.proofs.TickTexts.{no_separator}

-- what stands before and behind the first of a byte
same_parts : (c : ℕ) (xs ys xs' ys' : List ℕ) → ((i : ℕ) → i < length xs → get_or xs i 0 ≢ c) → ((i : ℕ) → i < length xs' → get_or xs' i 0 ≢ c)
    → xs ++ c ∷ ys ≡ xs' ++ c ∷ ys' → (xs ≡ xs') × (ys ≡ ys')
same_parts c [] ys [] ys' none none' same = (refl, cc)
same_parts c [] ys (x ∷ xs') ys' none none' same = absurd (none' 0 (omega arith) (cc))
same_parts c (x ∷ xs) ys [] ys' none none' same = absurd (none 0 (omega arith) (cc))
same_parts c (x ∷ xs) ys (x' ∷ xs') ys' none none' same =
    let first : x ≡ x' = cc in
    let rest : xs ++ c ∷ ys ≡ xs' ++ c ∷ ys' = cc in
    let parts = same_parts c xs ys xs' ys' (λ i within. none (suc i) (omega arith)) (λ i within. none' (suc i) (omega arith)) rest in
    (rw (first, parts.0) refl, parts.1)

pub same_replica : (a b : ℕ) → a < 2 ^ 128 → b < 2 ^ 128 → replica_text a ≡ replica_text b → a ≡ b
same_replica a b fits fits' same =
    same_Some a b (sym (parsed-replica_text a fits) ∙ ap (λ t. option_map (from_be_bytes w128) (parsed t)) same ∙ parsed-replica_text b fits')

same_pair_text : (separator a b c d : ℕ) → IsSeparator separator → IsTick a → b < 2 ^ 128 → IsTick c → d < 2 ^ 128
    → pair_text separator a b ≡ pair_text separator c d → (a ≡ c) × (b ≡ d)
same_pair_text separator a b c d fits tick replica tick' replica' same =
    let small : a < 2 ^ 64 = omega arith in
    let small' : c < 2 ^ 64 = omega arith in
    let parts = same_parts separator (decimal a) (replica_text b) (decimal c) (replica_text d) (no_separator a separator small fits.0) (no_separator c separator small' fits.0) same in
    (decimal_injective a c small small' parts.0, same_replica b d replica replica' parts.1)

abbrev item : ℕ → ℕ → ItemId
item tick replica = record { tick = tick; replica = replica }

same_item : (a b c d : ℕ) → a ≡ c → b ≡ d → item a b ≡ item c d
same_item a b c d first second = rw (first, second) refl

abbrev version : ℕ → ℕ → Version
version tick replica = record { replica = replica; tick = tick }

same_version : (a b c d : ℕ) → a ≡ c → b ≡ d → version a b ≡ version c d
same_version a b c d first second = rw (first, second) refl

pub same_item_text : (x y : ItemId) → IsItemId x → IsItemId y → item_text x ≡ item_text y → x ≡ y
unfolding item_text
same_item_text x y valid valid' same =
    let parts = same_pair_text colon x.tick x.replica y.tick y.replica (omega arith, omega arith) valid.tick valid.replica valid'.tick valid'.replica same in
    same_item x.tick x.replica y.tick y.replica parts.0 parts.1

pub same_version_text : (x y : Version) → IsVersion x → IsVersion y → version_text x ≡ version_text y → x ≡ y
unfolding version_text
same_version_text x y valid valid' same =
    let parts = same_pair_text at_sign x.tick x.replica y.tick y.replica (omega arith, omega arith) valid.tick valid.replica valid'.tick valid'.replica same in
    same_version x.tick x.replica y.tick y.replica parts.0 parts.1

-- texts that differ in a letter
differ : (xs ys : List ℕ) (i : ℕ) → xs ≡ ys → get_or xs i 0 ≢ get_or ys i 0 → ⊥
differ xs ys i same other = other (ap (λ t. get_or t i 0) same)

pub same_cut_text : (a b : Cut) → IsCut a → IsCut b → cut_text a ≡ cut_text b → a ≡ b
unfolding cut_text
same_cut_text Start Start valid valid' same = refl
same_cut_text Start (At y) valid valid' same = absurd (differ _ _ 0 same (omega arith))
same_cut_text Start (After y) valid valid' same = absurd (differ _ _ 0 same (omega arith))
same_cut_text Start End valid valid' same = absurd (differ _ _ 0 same (omega arith))
same_cut_text (At x) Start valid valid' same = absurd (differ _ _ 0 same (omega arith))
same_cut_text (At x) (At y) valid valid' same = ap At (same_item_text x y valid valid' (append_cancel_left (codes "at ") (item_text x) (item_text y) same))
same_cut_text (At x) (After y) valid valid' same = absurd (differ _ _ 1 same (omega arith))
same_cut_text (At x) End valid valid' same = absurd (differ _ _ 0 same (omega arith))
same_cut_text (After x) Start valid valid' same = absurd (differ _ _ 0 same (omega arith))
same_cut_text (After x) (At y) valid valid' same = absurd (differ _ _ 1 same (omega arith))
same_cut_text (After x) (After y) valid valid' same = ap After (same_item_text x y valid valid' (append_cancel_left (codes "after ") (item_text x) (item_text y) same))
same_cut_text (After x) End valid valid' same = absurd (differ _ _ 0 same (omega arith))
same_cut_text End Start valid valid' same = absurd (differ _ _ 0 same (omega arith))
same_cut_text End (At y) valid valid' same = absurd (differ _ _ 0 same (omega arith))
same_cut_text End (After y) valid valid' same = absurd (differ _ _ 0 same (omega arith))
same_cut_text End End valid valid' same = refl

-- a text that none of the four forms fits is no cut's
pub no_cut : (text : List ℕ) (at after : Option ItemId) → bytes_eq text (codes "start") ≡ false → bytes_eq text (codes "end") ≡ false
    → ((x : ItemId) → IsItemId x → text ≡ codes "at " ++ item_text x → at ≡ Some x) → at ≡ None
    → ((x : ItemId) → IsItemId x → text ≡ codes "after " ++ item_text x → after ≡ Some x) → after ≡ None
    → (cut : Cut) → IsCut cut → text ≡ cut_text cut → ⊥
unfolding cut_text
no_cut text at after no_start no_end at_only no_at after_only no_after Start valid is = true≢false (sym ((bytes_eq-Decides text (codes "start")).1 is) ∙ no_start)
no_cut text at after no_start no_end at_only no_at after_only no_after (At x) valid is = none-some x (sym no_at ∙ at_only x valid is)
no_cut text at after no_start no_end at_only no_at after_only no_after (After x) valid is = none-some x (sym no_after ∙ after_only x valid is)
no_cut text at after no_start no_end at_only no_at after_only no_after End valid is = true≢false (sym ((bytes_eq-Decides text (codes "end")).1 is) ∙ no_end)

-- what was read is the cut wanted
pub only_cut : (text : List ℕ) (read : Cut) → IsCut read × (text ≡ cut_text read) → (cut : Cut) → IsCut cut → text ≡ cut_text cut → Some read ≡ Some cut
only_cut text read is cut valid is_text = ap Some (same_cut_text read cut is.0 valid (sym is.1 ∙ is_text))

pub start_read : (text : List ℕ) → bytes_eq text (codes "start") ≡ true → IsCut Start × (text ≡ cut_text Start)
unfolding cut_text
start_read text equal = (tt, (bytes_eq-Decides text (codes "start")).0 equal)

pub end_read : (text : List ℕ) → bytes_eq text (codes "end") ≡ true → IsCut End × (text ≡ cut_text End)
unfolding cut_text
end_read text equal = (tt, (bytes_eq-Decides text (codes "end")).0 equal)

pub at_read : (text : List ℕ) (x : ItemId) → IsItemId x × (text ≡ codes "at " ++ item_text x) → IsCut (At x) × (text ≡ cut_text (At x))
unfolding cut_text
at_read text x read = read

pub after_read : (text : List ℕ) (x : ItemId) → IsItemId x × (text ≡ codes "after " ++ item_text x) → IsCut (After x) × (text ≡ cut_text (After x))
unfolding cut_text
after_read text x read = read
