-- Names below others: their components, and their bytes.
use Rattle.std.proofs.Common.{◌≡◌, ◌==◌, ℕ, ◌<◌, Bool, true, false, List, [], ◌∷◌, ◌++◌, length, get_or, take, drop, refl, sym, ap, arith, ◌∙◌, append_assoc}
use Rattle.std.proofs.lemmas.List.{take-append-drop}
use Rattle.std.proofs.lemmas.List.Splits.{slice_split-cons_yes, slice_split-cons_no, join_with_byte-slice_split, length-slice_split}
use Rattle.std.specs.List.{onto_first, join_with_byte}
use Rattle.sfx_item.specs.Clash.{components, IsBelow}
use Rattle.sfx_item.specs.Name.{slash}
use Rattle.sfx_item.proofs.NameLemmas.{cut_prefix, cut_rest, get_or-cons}

abbrev is_slash : ℕ → Bool
is_slash b = b == slash

-- a list with an element has a first
record Cons {A : Type 0} (xs : List A) : Type 0 where
  pub first : A
  pub more : List A
  pub is : xs ≡ first ∷ more

cons_of : {A : Type 0} (xs : List A) → 0 < length xs → Cons xs
cons_of [] some = absurd (omega arith)
cons_of (x ∷ xs) some = record { first = x; more = xs; is = refl }

some_component : (name : List ℕ) → Cons (components name)
some_component name = cons_of (components name) (omega (arith, length-slice_split is_slash name))

onto_first-append : (x : ℕ) (parts others : List (List ℕ)) → 0 < length parts → onto_first x (parts ++ others) ≡ onto_first x parts ++ others
onto_first-append x [] others some = absurd (omega arith)
onto_first-append x (part ∷ parts) others some = refl

components-append : (xs ys : List ℕ) → components (xs ++ slash ∷ ys) ≡ components xs ++ components ys
components-append [] ys = refl
components-append (x ∷ xs) ys = by_test (is_slash x) refl (components-append xs ys)
  where
    by_test : (t : Bool) → is_slash x ≡ t → components (xs ++ slash ∷ ys) ≡ components xs ++ components ys → components (x ∷ (xs ++ slash ∷ ys)) ≡ components (x ∷ xs) ++ components ys
    by_test true is rest =
        slice_split-cons_yes is_slash x (xs ++ slash ∷ ys) is
        ∙ ap (λ l. [] ∷ l) rest
        ∙ ap (λ l. l ++ components ys) (sym (slice_split-cons_yes is_slash x xs is))
    by_test false is rest =
        slice_split-cons_no is_slash x (xs ++ slash ∷ ys) is
        ∙ ap (onto_first x) rest
        ∙ onto_first-append x (components xs) (components ys) (omega (arith, length-slice_split is_slash xs))
        ∙ ap (λ l. l ++ components ys) (sym (slice_split-cons_no is_slash x xs is))

join-append : (first : List ℕ) (more : List (List ℕ)) (other : List ℕ) (others : List (List ℕ)) → join_with_byte slash ((first ∷ more) ++ other ∷ others) ≡ join_with_byte slash (first ∷ more) ++ slash ∷ join_with_byte slash (other ∷ others)
join-append first [] other others = refl
join-append first (second ∷ more) other others =
    ap (λ l. first ++ slash ∷ l) (join-append second more other others)
    ∙ sym (append_assoc first (slash ∷ join_with_byte slash (second ∷ more)) (slash ∷ join_with_byte slash (other ∷ others)))

-- a name that goes on behind another with a slash is below it
pub bytes_below : (name other more : List ℕ) → name ≡ other ++ slash ∷ more → IsBelow name other
bytes_below name other more whole =
    let parts = some_component more in
    record {
      first = parts.first;
      more = parts.more;
      split = ap components whole ∙ components-append other more ∙ ap (λ l. components other ++ l) parts.is;
    }

pub goes_on : (name other : List ℕ) → take (length other) name ≡ other → 0 < length (drop (length other) name) → get_or (drop (length other) name) 0 0 ≡ slash → IsBelow name other
goes_on name other prefix some byte =
    let rest = drop (length other) name in
    let more = drop 1 rest in
    let behind : rest ≡ slash ∷ more = get_or-cons rest some ∙ ap (λ b. b ∷ more) byte in
    bytes_below name other more
    (sym (take-append-drop (length other) name) ∙ ap (λ l. l ++ rest) prefix ∙ ap (λ l. other ++ l) behind)

-- the bytes of a name below another: the other's, a slash, and more
pub below_bytes : (name other : List ℕ) → IsBelow name other → (more : List ℕ) × (name ≡ other ++ slash ∷ more)
below_bytes name other below =
    let parts = some_component other in
    let more = join_with_byte slash (below.first ∷ below.more) in (
      more,
      sym (join_with_byte-slice_split slash name)
          ∙ ap (join_with_byte slash) (below.split ∙ ap (λ l. l ++ below.first ∷ below.more) parts.is)
          ∙ join-append parts.first parts.more below.first below.more
          ∙ ap (λ l. l ++ slash ∷ more) (ap (join_with_byte slash) (sym parts.is) ∙ join_with_byte-slice_split slash other),
    )

pub below_prefix : (name other : List ℕ) → IsBelow name other → take (length other) name ≡ other
below_prefix name other below =
    let bytes = below_bytes name other below in
    cut_prefix name other (slash ∷ bytes.0) (length other) bytes.1 refl

pub below_rest : (name other : List ℕ) → IsBelow name other → (0 < length (drop (length other) name)) × (get_or (drop (length other) name) 0 0 ≡ slash)
below_rest name other below =
    let bytes = below_bytes name other below in
    let rest = cut_rest name other (slash ∷ bytes.0) (length other) bytes.1 refl in
    (omega (arith, ap length rest), ap (λ l. get_or l 0 0) rest)
