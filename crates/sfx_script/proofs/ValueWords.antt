-- Values that are read one by one.
use Rattle.std.proofs.Common.{◌≡◌, ℕ, zero, suc, ◌+◌, ◌-◌, ◌<◌, ◌⊎◌, inl, inr, codes, Bool, true, false, not, Some, None, Ok, Err, List, [], ◌∷◌, ◌++◌, length, refl, sym, ap, subst, ◌∙◌, append_assoc, arith}
use Rattle.std.proofs.Common.{length-append}
use Rattle.std.proofs.lemmas.Option.{same_Some}
use Rattle.sfx_script.specs.Faults.{Placed, behind_first}
use Rattle.sfx_script.specs.Grammar.{value}
use Rattle.sfx_script.specs.Reading.{Fails, Read, ◌>>=◌, first_of, formed, values_in}
use Rattle.sfx_script.specs.Word.{is_printable, printed, value_of}
use Rattle.std.specs.List.{prefix_len}
use Rattle.std.specs.Str.{bytes_eq}
use Rattle.percent_encoding.specs.Percent.{percent_decode}
use Rattle.sfx_script.proofs.WordPrefixes.{printed_whole, unprinted}
use Rattle.sfx_script.specs.declared.line_fault.LineFault.TheVariants.{Syntax}
use Rattle.sfx_script.specs.declared.line_fault.LineFault.{LineFault}
use Rattle.sfx_script.proofs.ReadingFaults.{memory_fails}

-- a reading whose values stand behind these
abbrev pub with_prefix : List (List ℕ) → Read (List (List ℕ)) → Read (List (List ℕ))
with_prefix prefix (Ok values) = Ok (prefix ++ values)
with_prefix prefix (Err cause) = Err cause

pub first_split : (ws : List Placed) (w : Placed) → first_of ws ≡ Some w → ws ≡ w ∷ behind_first ws
first_split [] w e = absurd (cc)
first_split (x ∷ xs) w e = ap (λ y. y ∷ xs) (same_Some x w e)

joined : (prefix : List (List ℕ)) (v : List ℕ) (r : Read (List (List ℕ))) → with_prefix (prefix ++ v ∷ []) r ≡ with_prefix prefix (r >>= (λ vs. Ok (v ∷ vs)))
joined prefix v (Ok vs) = ap (λ l. Ok l) (append_assoc prefix (v ∷ []) vs)
joined prefix v (Err cause) = refl

values_step : (n m : ℕ) (prefix : List (List ℕ)) (w : Placed) (ws : List Placed) (v : List ℕ) → n ≡ suc m → formed value w (printed value_of w.text) ≡ Ok v
    → with_prefix (prefix ++ v ∷ []) (values_in m ws) ≡ with_prefix prefix (values_in n (w ∷ ws))
values_step n m prefix w ws v is read = rw (is, read) (joined prefix v (values_in m ws))

-- one more value is read
pub values_on : (prefix : List (List ℕ)) (left : List Placed) (w : Placed) (v : List ℕ) → length prefix < 8 → first_of left ≡ Some w → formed value w (printed value_of w.text) ≡ Ok v
    → with_prefix (prefix ++ v ∷ []) (values_in (8 - length (prefix ++ v ∷ [])) (behind_first left)) ≡ with_prefix prefix (values_in (8 - length prefix) left)
values_on prefix left w v less is read =
    let sum : 8 - length prefix ≡ suc (8 - length (prefix ++ v ∷ [])) = omega (arith, length-append prefix (v ∷ [])) in
    subst (λ l. with_prefix (prefix ++ v ∷ []) (values_in (8 - length (prefix ++ v ∷ [])) (behind_first left)) ≡ with_prefix prefix (values_in (8 - length prefix) l)) (sym (first_split left w is))
    (values_step (8 - length prefix) (8 - length (prefix ++ v ∷ [])) prefix w (behind_first left) v sum read)

prefix_fails : {A : Type 0} (prefix : List (List ℕ)) (fault : LineFault) (r : Read A) (f : A → Read (List (List ℕ))) → Fails fault r → Fails fault (with_prefix prefix (r >>= f))
prefix_fails prefix fault (Ok x) f e = memory_fails fault (with_prefix prefix (f x)) e
prefix_fails prefix fault (Err cause) f e = e

values_wrong : (n : ℕ) (prefix : List (List ℕ)) (fault : LineFault) (w : Placed) (ws : List Placed) → 0 < n → Fails fault (formed value w (printed value_of w.text)) → Fails fault (with_prefix prefix (values_in n (w ∷ ws)))
values_wrong zero prefix fault w ws some fails = absurd (omega arith)
values_wrong (suc n) prefix fault w ws some fails = prefix_fails prefix fault (formed value w (printed value_of w.text)) _ fails

-- the next value cannot be read
pub values_off : (prefix : List (List ℕ)) (fault other : LineFault) (left : List Placed) (w : Placed) → length prefix < 8 → first_of left ≡ Some w → other ≡ fault → Fails other (formed value w (printed value_of w.text))
    → Fails fault (with_prefix prefix (values_in (8 - length prefix) left))
values_off prefix fault other left w less is same fails =
    subst (λ l. Fails fault (with_prefix prefix (values_in (8 - length prefix) l))) (sym (first_split left w is))
    (values_wrong (8 - length prefix) prefix fault w (behind_first left) (omega arith) (subst (λ f. Fails f (formed value w (printed value_of w.text))) same fails))

no_value : (text : List ℕ) → (prefix_len is_printable text ≡ 0) ⊎ (prefix_len is_printable text < length text) → printed value_of text ≡ None
no_value [] bad = refl
no_value (b ∷ bs) (inl none) = unprinted value_of (b ∷ bs) (λ same. omega arith)
no_value (b ∷ bs) (inr short) = unprinted value_of (b ∷ bs) (λ same. omega arith)

-- an empty word, and one with a byte that may not stand in a line
pub value_wrong : (at n : ℕ) (text : List ℕ) → n ≡ prefix_len is_printable text → (n ≡ 0) ⊎ (n < length text) → Fails (Syntax (at + n)) (formed value (record { at = at; text = text }) (printed value_of text))
value_wrong at n text is bad =
    let none = no_value text (subst (λ m. (m ≡ 0) ⊎ (m < length text)) is bad) in
    rw none (record { place = n; is_place = is; here = refl })

-- what a word that is not `-` stands for
pub value_decoded : (text : List ℕ) → 0 < length text → prefix_len is_printable text ≡ length text → bytes_eq text (codes "-") ≡ false → printed value_of text ≡ Some (percent_decode text)
value_decoded [] some whole other = absurd (omega arith)
value_decoded (b ∷ bs) some whole other = printed_whole value_of (b ∷ bs) whole ∙ rw other refl

-- what the word `-` stands for
pub value_bare : (text : List ℕ) → 0 < length text → prefix_len is_printable text ≡ length text → bytes_eq text (codes "-") ≡ true → printed value_of text ≡ Some []
value_bare [] some whole same = absurd (omega arith)
value_bare (b ∷ bs) some whole same = printed_whole value_of (b ∷ bs) whole ∙ rw same refl

pub flip : (b : Bool) → true ≡ not b → b ≡ false
flip true e = absurd (cc)
flip false e = refl

pub unflip : (b : Bool) → false ≡ not b → b ≡ true
unflip true e = refl
unflip false e = absurd (cc)
