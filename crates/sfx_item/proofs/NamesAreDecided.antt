-- The functions on names decide what the relations say.
use Rattle.std.proofs.Common.{◌≡◌, ◌↔◌, ℕ, suc, zero, ◌+◌, ◌-◌, ◌<◌, ◌≤◌, Bool, true, false, cond, ◌==◌, List, [], ◌∷◌, ◌++◌, length, get_or, drop, Option, Some, None, IsTrue, Decides, codes, refl, sym, ap, subst, inl, inr, arith, ◌∙◌, append_assoc, leb-true, le-leb}
use Rattle.std.proofs.lemmas.Bool.Decides.{nat_tests, Decides-eqb, Decides-ltb, Decides-and, Decides-or, Decides-like, same_from_decides, not_from_Decides}
use Rattle.std.proofs.lemmas.List.Sums.{fails_before_first, passes_at_first, prefix_len-le-length}
use Rattle.std.proofs.lemmas.Slice.Eq.{bytes_eq-Decides, starts_is}
use Rattle.std.specs.List.{position_or_len}
use Rattle.std.specs.Str.Lossy.{utf8_valid_len}
use Rattle.std.proofs.lemmas.Bool.{cases_lt}
use Rattle.sfx_item.specs.Clash.{Clash, IsBelow}
use Rattle.sfx_item.specs.Decided.{is_control_prefix, is_improper, begins_component, component_from, has_control, has_improper, ends_text, ends_size, is_wrong_at, least_from, name_fault, is_below, is_clash}
use Rattle.sfx_item.specs.Faults.{HasControlBytes, IsControlAt, IsImproperAt}
use Rattle.sfx_item.specs.Name.{slash, IsImproper, IsName, IsWrongAt, IsFirstWrongInName}
use Rattle.sfx_item.proofs.ClashLemmas.{bytes_below, below_bytes}
use Rattle.sfx_item.proofs.NameLemmas.{Begins, text_length, control_found, control_bytes, control_within, improper_says, improper_begins, improper_within, wrong_size, wrong_end, wrong_control, wrong_improper, wrong_kinds, first_place, is_name, nothing_wrong}

-- ---- the tests at an index

control_decided : (bytes : List ℕ) → Decides (is_control_prefix bytes) (HasControlBytes bytes)
control_decided [] = (λ yes. grind arith, λ has. absurd (omega (arith, has.0)))
control_decided (b ∷ []) = (λ yes. grind (arith, nat_tests), λ has. grind (arith, nat_tests))
control_decided (b ∷ c ∷ bytes) = (λ yes. grind (arith, nat_tests), λ has. grind (arith, nat_tests))

improper_decided : (component : List ℕ) → Decides (is_improper component) (IsImproper component)
improper_decided component =
    Decides-or _ _ (bytes_eq-Decides component []) (Decides-or _ _ (bytes_eq-Decides component (codes ".")) (bytes_eq-Decides component (codes "..")))

begins_decided : (bytes : List ℕ) (at : ℕ) → Decides (begins_component bytes at) (Begins bytes at)
begins_decided bytes at = Decides-or _ _ (Decides-eqb at 0) (Decides-eqb (get_or bytes (at - 1) 0) slash)

has_control_decided : (bytes : List ℕ) (at : ℕ) → Decides (has_control bytes at) (IsControlAt bytes at)
has_control_decided bytes at =
    let text = text_length bytes in
    Decides-like _ (λ both. control_found bytes (utf8_valid_len bytes) at text both.1 both.0)
    (λ is. (control_bytes bytes at is, control_within bytes (utf8_valid_len bytes) at text is))
    (Decides-and _ _ (control_decided (drop at bytes)) (Decides-ltb at (utf8_valid_len bytes)))

-- where a component begins behind text, the one up to the next slash stands there
component_decided : (bytes : List ℕ) (at : ℕ) → at ≤ utf8_valid_len bytes → Begins bytes at → Decides (is_improper (component_from bytes at)) (IsImproperAt bytes at)
component_decided bytes at le begins =
    let rest = drop at bytes in
    let test : ℕ → Bool = λ b. b == slash in
    improper_says bytes (utf8_valid_len bytes) at (position_or_len test rest) rest _ refl (text_length bytes) le begins
    (prefix_len-le-length _ rest)
    (λ k less is. let no = fails_before_first test rest k 0 less in grind (arith, nat_tests))
    (λ less. let yes = passes_at_first test rest 0 less in grind (arith, nat_tests))
    (improper_decided (component_from bytes at))

has_improper_decided : (bytes : List ℕ) (at : ℕ) → Decides (has_improper bytes at) (IsImproperAt bytes at)
has_improper_decided bytes at =
    let n = utf8_valid_len bytes in
    let tests = Decides-and _ _ (begins_decided bytes at) (Decides-and _ _ (improper_decided (component_from bytes at)) (leb-true at n, le-leb at n)) in (
      λ yes. let says = tests.0 yes in (component_decided bytes at says.1.1 says.0).0 ((improper_decided (component_from bytes at)).1 says.1.0),
      λ is.
          let le = improper_within bytes n at (text_length bytes) is in
          let begins = improper_begins bytes at is in
          tests.1 (begins, ((improper_decided (component_from bytes at)).0 ((component_decided bytes at le begins).1 is), le)),
    )

ends_text_decided : (bytes : List ℕ) (at : ℕ) → Decides (ends_text bytes at) ((at < length bytes) × (at ≡ utf8_valid_len bytes))
ends_text_decided bytes at = Decides-and _ _ (Decides-ltb at (length bytes)) (Decides-eqb at (utf8_valid_len bytes))

ends_size_decided : (bytes : List ℕ) (at : ℕ) → Decides (ends_size bytes at) ((at ≡ 255) × (255 < length bytes))
ends_size_decided bytes at = Decides-and _ _ (Decides-eqb at 255) (Decides-ltb 255 (length bytes))

pub wrong_decided : (bytes : List ℕ) (at : ℕ) → IsTrue (is_wrong_at bytes at) ↔ IsWrongAt bytes at
unfolding is_wrong_at
wrong_decided bytes at =
    let n = utf8_valid_len bytes in
    let text = text_length bytes in
    Decides-like (is_wrong_at bytes at)
    (λ is. elim is [
      | inl improper ↦ wrong_improper bytes at improper
      | inr (inl control) ↦ wrong_control bytes at control
      | inr (inr (inl end)) ↦ wrong_end bytes n at text (omega (arith, end.0, end.1), end.1)
      | inr (inr (inr size)) ↦ wrong_size bytes at (size.1, size.0)
    ])
    (wrong_kinds _ bytes n at text
    (λ size. inr (inr (inr (size.1, size.0))))
    (λ end. inr (inr (inl (omega (arith, end.0, end.1), end.1))))
    (λ control. inr (inl control))
    (λ improper. inl improper))
    (Decides-or _ _ (has_improper_decided bytes at)
    (Decides-or _ _ (has_control_decided bytes at)
    (Decides-or _ _ (ends_text_decided bytes at) (ends_size_decided bytes at))))

-- ---- the first index

-- what a search over so many indexes, from one on, says
abbrev Searched : (ℕ → Bool) → ℕ → ℕ → Option ℕ → Type 0
Searched test from count None = (k : ℕ) → from ≤ k → k < from + count → test k ≡ false
Searched test from count (Some at) = (test at ≡ true) × (from ≤ at) × ((k : ℕ) → from ≤ k → k < at → test k ≡ false)

search_step : (test : ℕ → Bool) (from more : ℕ) (t : Bool) (r : Option ℕ) → test from ≡ t → Searched test (from + 1) more r → Searched test from (suc more) (cond t (Some from) r)
search_step test from more true r is rest = (is, omega arith, λ k low high. absurd (omega arith))
search_step test from more false None is rest = λ k low high. elim (cases_lt from k) [
  | inl above ↦ rest k (omega arith) (omega arith)
  | inr le ↦ let here : k ≡ from = omega arith in ap test here ∙ is
]
search_step test from more false (Some at) is rest = (
  rest.0,
  omega (arith, rest.1),
  λ k low high. elim (cases_lt from k) [
    | inl above ↦ rest.2 k (omega arith) high
    | inr le ↦ let here : k ≡ from = omega arith in ap test here ∙ is
  ],
)

searched : (test : ℕ → Bool) (from count : ℕ) → Searched test from count (least_from test from count)
searched test from zero = λ k low high. absurd (omega arith)
searched test from (suc more) = search_step test from more (test from) (least_from test (from + 1) more) refl (searched test (from + 1) more)

wrong_searched : (bytes : List ℕ) → Searched (is_wrong_at bytes) 0 (length bytes + 1) (name_fault bytes)
unfolding name_fault
wrong_searched bytes = searched (is_wrong_at bytes) 0 (length bytes + 1)

right : (bytes : List ℕ) (at : ℕ) → is_wrong_at bytes at ≡ false → IsWrongAt bytes at → ⊥
right bytes at = not_from_Decides (is_wrong_at bytes at) (wrong_decided bytes at)

-- what the search found
some_fault : (bytes : List ℕ) (at : ℕ) → name_fault bytes ≡ Some at → IsFirstWrongInName bytes at
some_fault bytes at is =
    let found : Searched (is_wrong_at bytes) 0 (length bytes + 1) (Some at) = subst (Searched (is_wrong_at bytes) 0 (length bytes + 1)) is (wrong_searched bytes) in
    first_place bytes at ((wrong_decided bytes at).0 found.0) (λ k less wrong. right bytes k (found.2 k (omega arith) less) wrong)

no_fault : (bytes : List ℕ) → name_fault bytes ≡ None → IsName bytes
no_fault bytes is =
    let found : Searched (is_wrong_at bytes) 0 (length bytes + 1) None = subst (Searched (is_wrong_at bytes) 0 (length bytes + 1)) is (wrong_searched bytes) in
    is_name bytes (utf8_valid_len bytes) (text_length bytes) (λ k less wrong. right bytes k (found k (omega arith) (omega arith)) wrong)

pub fault_decided : (bytes : List ℕ) (at : ℕ) → (name_fault bytes ≡ Some at) ↔ IsFirstWrongInName bytes at
fault_decided bytes at = (some_fault bytes at, by_fault (name_fault bytes) refl)
  where
    by_fault : (r : Option ℕ) → name_fault bytes ≡ r → IsFirstWrongInName bytes at → r ≡ Some at
    by_fault None is first = absurd (nothing_wrong bytes at (no_fault bytes is) first.wrong)
    by_fault (Some k) is first =
        let other = some_fault bytes k is in
        let same : k ≡ at = omega (arith, first.least k other.wrong, other.least at first.wrong) in
        ap Some same

pub name_decided : (bytes : List ℕ) → (name_fault bytes ≡ None) ↔ IsName bytes
name_decided bytes = (no_fault bytes, by_fault (name_fault bytes) refl)
  where
    by_fault : (r : Option ℕ) → name_fault bytes ≡ r → IsName bytes → r ≡ None
    by_fault None is name = refl
    by_fault (Some k) is name = absurd (nothing_wrong bytes k name (some_fault bytes k is).wrong)

-- ---- clashes

below_decided : (name other : List ℕ) → Decides (is_below name other) (IsBelow name other)
below_decided name other =
    let starts = starts_is Decides-eqb name (other ++ slash ∷ []) (is_below name other) refl in (
      λ yes. bytes_below name other _ (starts.0 yes ∙ append_assoc other (slash ∷ []) _),
      λ below.
          let bytes = below_bytes name other below in
          starts.1 bytes.0 (bytes.1 ∙ sym (append_assoc other (slash ∷ []) bytes.0)),
    )

pub clash_decided : (a b : List ℕ) → IsTrue (is_clash a b) ↔ Clash a b
unfolding is_clash
clash_decided a b = Decides-or _ _ (bytes_eq-Decides a b) (Decides-or _ _ (below_decided a b) (below_decided b a))

-- names clash whichever comes first
pub other_way : (a b : List ℕ) → Clash a b → Clash b a
other_way a b (inl same) = inl (sym same)
other_way a b (inr (inl below)) = inr (inr below)
other_way a b (inr (inr above)) = inr (inl above)

pub clash_symmetric : (a b : List ℕ) → is_clash a b ≡ is_clash b a
clash_symmetric a b =
    same_from_decides (is_clash a b) (is_clash b a) (clash_decided a b)
    (Decides-like (is_clash b a) (other_way b a) (other_way a b) (clash_decided b a))
