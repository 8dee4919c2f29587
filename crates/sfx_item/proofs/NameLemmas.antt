-- The places at which something is wrong, from what the tests of bytes say.
use Rattle.std.proofs.Common.{◌≡◌, ◌≢◌, ◌⊎◌, ℕ, suc, zero, ◌+◌, ◌-◌, ◌/◌, ◌%◌, ◌<◌, ◌≤◌, Bool, true, false, cond, nat_lt, List, [], ◌∷◌, ◌++◌, length, get_or, take, drop, refl, sym, ap, subst, inl, inr, arith, ◌∙◌, append_assoc}
use Rattle.std.proofs.lemmas.Bool.Decides.{nat_tests}
use Rattle.std.proofs.lemmas.List.{length-take-le, take-append-drop, take-take, get_or-take, get_or-drop, length-append, get_or-append-add, get_or_append_left, take_more}
use Rattle.std.proofs.Math.Seq.{drop-cons, take-append_seam, drop-append_seam}
use Rattle.std.proofs.Math.Utf8.{encode, low_scalar}
use Rattle.std.proofs.lemmas.Str.{IsUtf8-nil, IsUtf8-append, IsUtf8-encode, IsUtf8-take, IsCharBoundary-after_ascii, encode_ascii, length-encode, len_utf8_bounds, IsUtf8-from_is_utf8, is_utf8-from_IsUtf8, utf8_valid_len_le}
use Rattle.std.specs.Bool.{Decides}
use Rattle.std.specs.Str.{IsUtf8, IsValidUpTo, IsCharBoundary, is_utf8}
use Rattle.std.specs.Str.Lossy.{valid_len_up_to, utf8_valid_len}
use Rattle.std.proofs.lemmas.Bool.{cases_lt}
use Rattle.sfx_item.specs.Faults.{IsTextUpTo, HasControlBytes, IsControlAt, IsImproperAt}
use Rattle.sfx_item.specs.Name.{slash, IsControl, IsImproper, EndsWithSlash, BeginsWithSlash, IsName, IsWrongAt, IsFirstWrongInName}
use Rattle.sfx_item.specs.Name.IsWrongAt.{improper, control, no_text, too_long}

-- ---- lists

take_whole : (n : ℕ) (xs : List ℕ) → length xs ≤ n → take n xs ≡ xs
take_whole zero [] le = refl
take_whole zero (x ∷ xs) le = absurd (omega arith)
take_whole (suc n) [] le = refl
take_whole (suc n) (x ∷ xs) le = ap (λ l. x ∷ l) (take_whole n xs (omega arith))

drop_whole : (n : ℕ) (xs : List ℕ) → length xs ≤ n → drop n xs ≡ []
drop_whole zero [] le = refl
drop_whole zero (x ∷ xs) le = absurd (omega arith)
drop_whole (suc n) [] le = refl
drop_whole (suc n) (x ∷ xs) le = drop_whole n xs (omega arith)

pub get_or-cons : (xs : List ℕ) → 0 < length xs → xs ≡ get_or xs 0 0 ∷ drop 1 xs
get_or-cons [] some = absurd (omega arith)
get_or-cons (x ∷ xs) some = refl

-- ---- where the text ends

-- what is put together at an index is cut there
pub cut_prefix : (bytes before after : List ℕ) (at : ℕ) → bytes ≡ before ++ after → length before ≡ at → take at bytes ≡ before
cut_prefix bytes before after at spelled place = rw (spelled, ← place) (take-append_seam before after)

pub cut_rest : (bytes before after : List ℕ) (at : ℕ) → bytes ≡ before ++ after → length before ≡ at → drop at bytes ≡ after
cut_rest bytes before after at spelled place = rw (spelled, ← place) (drop-append_seam before after)

within_bytes : (bytes before after : List ℕ) → bytes ≡ before ++ after → length before ≤ length bytes
within_bytes bytes before after spelled = rw spelled (omega (arith, length-append before after))

-- text at the front lies in the longest
text_within : (bytes before after : List ℕ) (n : ℕ) → IsTextUpTo bytes n → bytes ≡ before ++ after → IsUtf8 before → length before ≤ n
text_within bytes before after n text spelled utf8 =
    text.longest (length before) (within_bytes bytes before after spelled)
    (subst IsUtf8 (sym (cut_prefix bytes before after (length before) spelled refl)) utf8)

pub text_ends : (bytes : List ℕ) (at : ℕ) → IsValidUpTo bytes at → IsTextUpTo bytes at
text_ends bytes at valid = record {
  within = omega (arith, valid.short);
  text = valid.front;
  longest = λ m within utf8. elim (cases_lt at m) [ inl less ↦ absurd (valid.longest m less utf8) | inr le ↦ le ];
}

pub text_whole : (bytes : List ℕ) → IsUtf8 bytes → IsTextUpTo bytes (length bytes)
text_whole bytes utf8 = record {
  within = omega arith;
  text = subst IsUtf8 (sym (take_whole (length bytes) bytes (omega arith))) utf8;
  longest = λ m within utf8'. within;
}

ends_text : (bytes : List ℕ) (n : ℕ) → IsTextUpTo bytes n → n < length bytes → IsValidUpTo bytes n
ends_text bytes n text short = record {
  short = short;
  front = text.text;
  longest = λ m less utf8. elim (cases_lt (length bytes) m) [
    | inr le ↦ absurd (omega (arith, text.longest m le utf8))
    | inl beyond ↦
        let all : IsUtf8 bytes = subst IsUtf8 (take_whole m bytes (omega arith)) utf8 in
        let whole : IsUtf8 (take (length bytes) bytes) = subst IsUtf8 (sym (take_whole (length bytes) bytes (omega arith))) all in
        absurd (omega (arith, text.longest (length bytes) (omega arith) whole))
  ];
}

same_end : (bytes : List ℕ) (n at : ℕ) → IsTextUpTo bytes n → IsValidUpTo bytes at → (n < length bytes) × (at ≡ n)
same_end bytes n at text valid =
    let below : at ≤ n = text.longest at (omega (arith, valid.short)) valid.front in
    let above : n ≤ at = elim (cases_lt at n) [ inl less ↦ absurd (valid.longest n less text.text) | inr le ↦ le ] in
    let same : at ≡ n = omega arith in
    (subst (λ m. m < length bytes) same valid.short, same)

-- the length that std computes
longest_text : (bytes : List ℕ) (n : ℕ) → IsUtf8 (take (valid_len_up_to bytes n) bytes) × ((m : ℕ) → m ≤ n → IsUtf8 (take m bytes) → m ≤ valid_len_up_to bytes n)
longest_text bytes zero = (IsUtf8-nil, λ m within utf8. within)
longest_text bytes (suc n) = by_test (is_utf8 (take (suc n) bytes)) refl (longest_text bytes n)
  where
    by_test : (t : Bool) → is_utf8 (take (suc n) bytes) ≡ t → IsUtf8 (take (valid_len_up_to bytes n) bytes) × ((m : ℕ) → m ≤ n → IsUtf8 (take m bytes) → m ≤ valid_len_up_to bytes n) → IsUtf8 (take (cond t (suc n) (valid_len_up_to bytes n)) bytes) × ((m : ℕ) → m ≤ suc n → IsUtf8 (take m bytes) → m ≤ cond t (suc n) (valid_len_up_to bytes n))
    by_test true is rest = (IsUtf8-from_is_utf8 (take (suc n) bytes) is, λ m within utf8. within)
    by_test false is rest = (
      rest.0,
      λ m within utf8. elim (cases_lt n m) [
        | inr le ↦ rest.1 m le utf8
        | inl above ↦
            let top : m ≡ suc n = omega arith in
            absurd (let yes = is_utf8-from_IsUtf8 (take (suc n) bytes) (subst (λ k. IsUtf8 (take k bytes)) top utf8) in cc)
      ],
    )

pub text_length : (bytes : List ℕ) → IsTextUpTo bytes (utf8_valid_len bytes)
unfolding utf8_valid_len
text_length bytes =
    let longest = longest_text bytes (length bytes) in
    record { within = utf8_valid_len_le bytes; text = longest.0; longest = longest.1 }

-- the prefix up to a place at which a character may begin is text
prefix_text : (bytes : List ℕ) (n at : ℕ) → IsTextUpTo bytes n → at ≤ n → IsCharBoundary (take n bytes) at → IsUtf8 (take at bytes)
prefix_text bytes n at text le boundary =
    subst IsUtf8 (take-take at n bytes le) (IsUtf8-take (take n bytes) at text.text boundary)

-- ---- control characters

encode_high : (c : ℕ) → 128 ≤ c → c < 160 → encode c ≡ 194 ∷ c ∷ []
unfolding encode
encode_high c low high =
    let first : nat_lt c 128 ≡ false = grind (arith, nat_tests) in
    let second : nat_lt c 2048 ≡ true = grind (arith, nat_tests) in
    let lead : 192 + c / 64 ≡ 194 = omega arith in
    let more : 128 + c % 64 ≡ c = omega arith in
    rw (first, second, lead, more) refl

has_control : (bytes : List ℕ) → HasControlBytes bytes → (c : ℕ) × (after : List ℕ) × IsControl c × (bytes ≡ encode c ++ after)
has_control [] (some, kind) = absurd (omega arith)
has_control (x ∷ xs) (some, inl low) = (x, xs, inl low, ap (λ l. l ++ xs) (sym (encode_ascii x (omega arith))))
has_control (x ∷ xs) (some, inr (inl delete)) =
    (127, xs, inr (omega arith, omega arith), ap (λ n. n ∷ xs) delete ∙ ap (λ l. l ++ xs) (sym (encode_ascii 127 (omega arith))))
has_control (x ∷ []) (some, inr (inr (lead, more, low, high))) = absurd (omega arith)
has_control (x ∷ y ∷ ys) (some, inr (inr (lead, more, low, high))) =
    (y, ys, inr (omega arith, high), ap (λ n. n ∷ y ∷ ys) lead ∙ ap (λ l. l ++ ys) (sym (encode_high y low high)))

begins_control : (bytes after : List ℕ) (c : ℕ) → IsControl c → bytes ≡ encode c ++ after → HasControlBytes bytes
begins_control bytes after c (inl low) spelled =
    let one : bytes ≡ c ∷ after = spelled ∙ ap (λ l. l ++ after) (encode_ascii c (omega arith)) in
    subst HasControlBytes (sym one) (omega arith, inl low)
begins_control bytes after c (inr (low, high)) spelled = elim (cases_lt c 128) [
  | inl less ↦
      let one : bytes ≡ c ∷ after = spelled ∙ ap (λ l. l ++ after) (encode_ascii c less) in
      subst HasControlBytes (sym one) (omega arith, inr (inl (omega arith)))
  | inr le ↦
      let two : bytes ≡ 194 ∷ c ∷ after = spelled ∙ ap (λ l. l ++ after) (encode_high c le high) in
      subst HasControlBytes (sym two) (omega arith, inr (inr (refl, omega arith, le, high)))
]

-- the byte at an index, as the first of what is left there
byte_at : (bytes : List ℕ) (at : ℕ) → get_or (drop at bytes) 0 0 ≡ get_or bytes at 0
byte_at bytes at = get_or-drop at bytes 0 0 ∙ ap (λ n. get_or bytes n 0) (omega arith)

pub control_found : (bytes : List ℕ) (n at : ℕ) → IsTextUpTo bytes n → at < n → HasControlBytes (drop at bytes) → IsControlAt bytes at
control_found bytes n at text less has =
    let within = text.within in
    let len : length (take n bytes) ≡ n = length-take-le n bytes within in
    let first : get_or (take n bytes) at 0 ≡ get_or (drop at bytes) 0 0 = get_or-take n bytes at 0 less ∙ sym (byte_at bytes at) in
    let boundary : IsCharBoundary (take n bytes) at = (
      omega arith,
      λ lt high. elim has.1 [
        | inl low ↦ absurd (omega arith)
        | inr other ↦ elim other [ inl delete ↦ absurd (omega arith) | inr two ↦ omega (arith, two.0) ]
      ],
    ) in
    let read = has_control (drop at bytes) has in
    record {
      c = read.0;
      control = read.2;
      here = record {
        before = take at bytes;
        after = read.1;
        text = prefix_text bytes n at text (omega arith) boundary;
        place = length-take-le at bytes (omega arith);
        spelled = sym (take-append-drop at bytes) ∙ ap (λ l. take at bytes ++ l) read.3 ∙ sym (append_assoc (take at bytes) (encode read.0) read.1);
      };
    }

control_low : (c : ℕ) → IsControl c → c < 55296
control_low c (inl low) = omega arith
control_low c (inr high) = omega (arith, high.1)

pub control_within : (bytes : List ℕ) (n at : ℕ) → IsTextUpTo bytes n → IsControlAt bytes at → at < n
control_within bytes n at text is =
    let before = is.here.before in
    let utf8 = IsUtf8-append before (encode is.c) is.here.text (IsUtf8-encode is.c (low_scalar is.c (control_low is.c is.control))) in
    let within = text_within bytes (before ++ encode is.c) is.here.after n text is.here.spelled utf8 in
    omega (arith, within, is.here.place, length-append before (encode is.c), length-encode is.c, (len_utf8_bounds is.c).0)

pub control_bytes : (bytes : List ℕ) (at : ℕ) → IsControlAt bytes at → HasControlBytes (drop at bytes)
control_bytes bytes at is =
    let h = is.here in
    begins_control (drop at bytes) h.after is.c is.control
    (cut_rest bytes h.before (encode is.c ++ h.after) at (h.spelled ∙ append_assoc h.before (encode is.c) h.after) h.place)

-- ---- components

-- a component begins at an index at the start, or behind a slash
abbrev pub Begins : List ℕ → ℕ → Type 0
Begins bytes at = (at ≡ 0) ⊎ (get_or bytes (at - 1) 0 ≡ slash)

begins_prefix : (bytes : List ℕ) (at : ℕ) → at ≤ length bytes → Begins bytes at → EndsWithSlash (take at bytes)
begins_prefix bytes at within (inl start) = inl (ap (λ n. take n bytes) start)
begins_prefix bytes at within (inr is) = elim (cases_lt 0 at) [
  | inr start ↦ inl (let zero_at : at ≡ 0 = omega arith in ap (λ n. take n bytes) zero_at)
  | inl some ↦
      let back : at - 1 + 1 ≡ at = omega arith in
      inr (take (at - 1) bytes, ap (λ n. take n bytes) (sym back) ∙ take_more bytes (at - 1) 0 (omega arith) ∙ ap (λ b. take (at - 1) bytes ++ b ∷ []) is)
]

begins_text : (bytes : List ℕ) (n at : ℕ) → IsTextUpTo bytes n → at ≤ n → Begins bytes at → IsUtf8 (take at bytes)
begins_text bytes n at text le begins = elim (cases_lt 0 at) [
  | inr start ↦
      let zero_at : at ≡ 0 = omega arith in
      subst (λ m. IsUtf8 (take m bytes)) (sym zero_at) IsUtf8-nil
  | inl some ↦ elim begins [
    | inl start ↦ absurd (omega arith)
    | inr is ↦
        let within = text.within in
        let len : length (take n bytes) ≡ n = length-take-le n bytes within in
        let byte : get_or (take n bytes) (at - 1) 0 ≡ slash = get_or-take n bytes (at - 1) 0 (omega arith) ∙ is in
        let back : at - 1 + 1 ≡ at = omega arith in
        let boundary = IsCharBoundary-after_ascii (take n bytes) (at - 1) text.text (omega arith) (omega arith) in
        prefix_text bytes n at text le (subst (IsCharBoundary (take n bytes)) back boundary)
  ]
]

ends_rest : (rest : List ℕ) (len : ℕ) → (len < length rest → get_or rest len 0 ≡ slash) → BeginsWithSlash (drop len rest)
ends_rest rest len ends = elim (cases_lt len (length rest)) [
  | inr le ↦ inl (drop_whole len rest le)
  | inl less ↦
      let split : drop len rest ≡ get_or rest len 0 ∷ drop (suc len) rest = drop-cons rest len 0 less in
      inr (drop (suc len) rest, split ∙ ap (λ b. b ∷ drop (suc len) rest) (ends less))
]

dots : (k : ℕ) → get_or (46 ∷ 46 ∷ []) k 0 ≢ slash
dots zero = λ same. omega arith
dots (suc zero) = λ same. omega arith
dots (suc (suc k)) = λ same. omega arith

dot : (k : ℕ) → get_or (46 ∷ []) k 0 ≢ slash
dot zero = λ same. omega arith
dot (suc k) = λ same. omega arith

free : (component : List ℕ) (k : ℕ) → IsImproper component → get_or component k 0 ≢ slash
free component k (inl none) = subst (λ l. get_or l k 0 ≢ slash) (sym none) (λ same. omega arith)
free component k (inr (inl one)) = subst (λ l. get_or l k 0 ≢ slash) (sym one) (dot k)
free component k (inr (inr two)) = subst (λ l. get_or l k 0 ≢ slash) (sym two) (dots k)

pub improper_found : (bytes : List ℕ) (n at len : ℕ) → IsTextUpTo bytes n → at ≤ n → Begins bytes at → (len < length (drop at bytes) → get_or (drop at bytes) len 0 ≡ slash) → IsImproper (take len (drop at bytes)) → IsImproperAt bytes at
improper_found bytes n at len text le begins ends kind =
    let within = text.within in
    let rest = drop at bytes in
    let split : bytes ≡ take at bytes ++ (take len rest ++ drop len rest) =
    sym (take-append-drop at bytes) ∙ ap (λ l. take at bytes ++ l) (sym (take-append-drop len rest)) in
    record {
      component = take len rest;
      improper = kind;
      here = record {
        before = take at bytes;
        after = drop len rest;
        text = begins_text bytes n at text le begins;
        place = length-take-le at bytes (omega arith);
        spelled = split ∙ sym (append_assoc (take at bytes) (take len rest) (drop len rest));
        single = λ k within. free (take len rest) k kind;
        begins = begins_prefix bytes at (omega arith) begins;
        ends = ends_rest rest len ends;
      };
    }

pub improper_within : (bytes : List ℕ) (n at : ℕ) → IsTextUpTo bytes n → IsImproperAt bytes at → at ≤ n
improper_within bytes n at text is =
    let h = is.here in
    let spelled = h.spelled ∙ append_assoc h.before is.component h.after in
    omega (arith, text_within bytes h.before (is.component ++ h.after) n text spelled h.text, h.place)

pub improper_begins : (bytes : List ℕ) (at : ℕ) → IsImproperAt bytes at → Begins bytes at
improper_begins bytes at is =
    let h = is.here in
    elim h.begins [
      | inl none ↦ inl (sym h.place ∙ ap length none)
      | inr (prefix, slashed) ↦
          let rest = is.component ++ h.after in
          let split : bytes ≡ prefix ++ (slash ∷ rest) =
          h.spelled ∙ append_assoc h.before is.component h.after ∙ ap (λ l. l ++ rest) slashed ∙ append_assoc prefix (slash ∷ []) rest in
          let length_is : length prefix + 1 ≡ at = omega (arith, h.place, ap length slashed, length-append prefix (slash ∷ [])) in
          let index : at - 1 ≡ length prefix + 0 = omega arith in
          inr (ap (λ n. get_or bytes n 0) index ∙ ap (λ l. get_or l (length prefix + 0) 0) split ∙ get_or-append-add prefix (slash ∷ rest) 0 0)
    ]

same_len : (component after : List ℕ) (len : ℕ) → IsImproper component → BeginsWithSlash after → len ≤ length (component ++ after) → ((k : ℕ) → k < len → get_or (component ++ after) k 0 ≢ slash) → (len < length (component ++ after) → get_or (component ++ after) len 0 ≡ slash) → len ≡ length component
same_len component after len kind begins within single ends =
    let sum : length (component ++ after) ≡ length component + length after = length-append component after in
    let above : length component ≤ len = elim (cases_lt len (length component)) [
      | inr le ↦ le
      | inl less ↦ absurd (free component len kind (sym (get_or_append_left component after 0 len less) ∙ ends (omega arith)))
    ] in
    let below : len ≤ length component = elim (cases_lt (length component) len) [
      | inr le ↦ le
      | inl less ↦ elim begins [
        | inl none ↦ absurd (omega (arith, ap length none))
        | inr (rest, slashed) ↦
            let index : length component ≡ length component + 0 = omega arith in
            absurd (single (length component) less
            (ap (λ n. get_or (component ++ after) n 0) index ∙ get_or-append-add component after 0 0 ∙ ap (λ l. get_or l 0 0) slashed))
      ]
    ] in
    omega arith

pub improper_take : (bytes : List ℕ) (at len : ℕ) → IsImproperAt bytes at → len ≤ length (drop at bytes) → ((k : ℕ) → k < len → get_or (drop at bytes) k 0 ≢ slash) → (len < length (drop at bytes) → get_or (drop at bytes) len 0 ≡ slash) → IsImproper (take len (drop at bytes))
improper_take bytes at len is =
    let h = is.here in
    let rest : drop at bytes ≡ is.component ++ h.after = cut_rest bytes h.before (is.component ++ h.after) at (h.spelled ∙ append_assoc h.before is.component h.after) h.place in
    subst (λ l. len ≤ length l → ((k : ℕ) → k < len → get_or l k 0 ≢ slash) → (len < length l → get_or l len 0 ≡ slash) → IsImproper (take len l)) (sym rest)
    (λ within single ends.
    let same = same_len is.component h.after len is.improper h.ends within single ends in
    subst IsImproper (sym (cut_prefix (is.component ++ h.after) is.component h.after len refl (sym same))) is.improper)

-- ---- what is wrong

pub wrong_size : (bytes : List ℕ) (at : ℕ) → (255 < length bytes) × (at ≡ 255) → IsWrongAt bytes at
wrong_size bytes at is = too_long is.0 is.1

pub wrong_end : (bytes : List ℕ) (n at : ℕ) → IsTextUpTo bytes n → (n < length bytes) × (at ≡ n) → IsWrongAt bytes at
wrong_end bytes n at text is = subst (IsWrongAt bytes) (sym is.1) (no_text (ends_text bytes n text is.0))

pub wrong_control : (bytes : List ℕ) (at : ℕ) → IsControlAt bytes at → IsWrongAt bytes at
wrong_control bytes at is = control is.c is.here is.control

pub wrong_improper : (bytes : List ℕ) (at : ℕ) → IsImproperAt bytes at → IsWrongAt bytes at
wrong_improper bytes at is = improper is.component is.here is.improper

-- nothing is wrong but what the four tests find
pub wrong_kinds : (P : Type 0) (bytes : List ℕ) (n at : ℕ) → IsTextUpTo bytes n → ((255 < length bytes) × (at ≡ 255) → P) → ((n < length bytes) × (at ≡ n) → P) → (IsControlAt bytes at → P) → (IsImproperAt bytes at → P) → IsWrongAt bytes at → P
wrong_kinds P bytes n at text size end controls impropers (improper component here is) = impropers (record { component = component; improper = is; here = here })
wrong_kinds P bytes n at text size end controls impropers (control c here is) = controls (record { c = c; control = is; here = here })
wrong_kinds P bytes n at text size end controls impropers (no_text valid) = end (same_end bytes n at text valid)
wrong_kinds P bytes n at text size end controls impropers (too_long long is) = size (long, is)

-- ---- the least place, and none

pub first_place : (bytes : List ℕ) (at : ℕ) → IsWrongAt bytes at → ((k : ℕ) → k < at → IsWrongAt bytes k → ⊥) → IsFirstWrongInName bytes at
first_place bytes at wrong before = record {
  wrong = wrong;
  least = λ n wrong'. elim (cases_lt n at) [ inl less ↦ absurd (before n less wrong') | inr le ↦ le ];
}

pub is_name : (bytes : List ℕ) (n : ℕ) → IsTextUpTo bytes n → ((k : ℕ) → k < length bytes + 1 → IsWrongAt bytes k → ⊥) → IsName bytes
is_name bytes n text right = record {
  size = elim (cases_lt 255 (length bytes)) [ inl long ↦ absurd (right 255 (omega arith) (too_long long refl)) | inr le ↦ le ];
  text = elim (cases_lt n (length bytes)) [
    | inl short ↦ absurd (right n (omega arith) (no_text (ends_text bytes n text short)))
    | inr le ↦ subst IsUtf8 (take_whole n bytes le) text.text
  ];
  components = λ at component here is. right at
      (omega (arith, within_bytes bytes here.before (component ++ here.after) (here.spelled ∙ append_assoc here.before component here.after), here.place))
      (improper component here is);
  characters = λ at c here is. right at
      (omega (arith, within_bytes bytes here.before (encode c ++ here.after) (here.spelled ∙ append_assoc here.before (encode c) here.after), here.place))
      (control c here is);
}

-- a name has no fault
pub nothing_wrong : (bytes : List ℕ) (at : ℕ) → IsName bytes → IsWrongAt bytes at → ⊥
nothing_wrong bytes at name (improper component here is) = name.components at component here is
nothing_wrong bytes at name (control c here is) = name.characters at c here is
nothing_wrong bytes at name (no_text valid) = valid.longest (length bytes) valid.short (subst IsUtf8 (sym (take_whole (length bytes) bytes (omega arith))) name.text)
nothing_wrong bytes at name (too_long long is) = omega (arith, name.size)

-- what the tests of a component's begin and of its bytes say of the index, where `rest` is what is left
pub improper_says : (bytes : List ℕ) (n at len : ℕ) (rest : List ℕ) (answer : Bool) → rest ≡ drop at bytes → IsTextUpTo bytes n → at ≤ n → Begins bytes at → len ≤ length rest → ((k : ℕ) → k < len → get_or rest k 0 ≢ slash) → (len < length rest → get_or rest len 0 ≡ slash) → Decides answer (IsImproper (take len rest)) → Decides answer (IsImproperAt bytes at)
improper_says bytes n at len rest answer is text le begins within single ends says =
    let within' = subst (λ l. len ≤ length l) is within in
    let single' = subst (λ l. (k : ℕ) → k < len → get_or l k 0 ≢ slash) is single in
    let ends' = subst (λ l. len < length l → get_or l len 0 ≡ slash) is ends in
    let says' = subst (λ l. Decides answer (IsImproper (take len l))) is says in (
      λ yes. improper_found bytes n at len text le begins ends' (says'.0 yes),
      λ here. says'.1 (improper_take bytes at len here within' single' ends'),
    )
