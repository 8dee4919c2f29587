-- A new name of an item clashes with that of no other live item: each of these clashes with one of the
-- candidates at most, and there are more candidates than live items.
use Rattle.std.proofs.Common.{◌≡◌, ◌⊎◌, ℕ, zero, suc, ◌+◌, ◌^◌, ◌<◌, ◌≤◌, not, nat_eq, Bool, true, false, true≢false, if◌then◌else◌, List, [], ◌∷◌, length, Option, Some, None, arith, inl, inr, refl, sym, ◌∙◌, ap, subst}
use Rattle.std.specs.Option.{option_map_or}
use Rattle.std.proofs.lemmas.Bool.{and_parts, eqb-true, eq-eqb}
use Rattle.sfx_ids.specs.declared.item_id.ItemId.{ItemId}
use Rattle.sfx_item.specs.Decided.{is_clash}
use Rattle.sfx_item.specs.Renamed.{renamed}
use Rattle.sfx_item.proofs.RenamedLemmas.{one_candidate}
use Rattle.sfx_segments.proofs.StandardFacts.{Tested, yes_it, not_it, tested}
use Rattle.sfx_model.specs.world.Sets.{Has}
use Rattle.sfx_model.specs.members.Consistent.{live_name}
use Rattle.sfx_model.specs.members.Headline.{live_item, live_items}
use Rattle.sfx_item.specs.Item.{ItemState, Live, Dead, ItemData}
use Rattle.sfx_model.specs.members.Readings.{is_clashing, is_excepted, is_in_the_way, clashing_with}
use Rattle.sfx_model.specs.sessions.NewName.{is_free, first_free, new_name}
use Rattle.sfx_model.proofs.sessions.ClashesLemmas.{IsFree, clash_lists}

-- ---- more candidates than names

-- The candidates, none listed twice.
abbrev numbers : ℕ → ℕ → List ℕ
numbers from zero = []
numbers from (suc more) = from ∷ numbers (from + 1) more

abbrev Once : List ℕ → Type 0
Once [] = Unit {0}
Once (n ∷ ns) = (¬ Has n ns) × Once ns

number_within : (from more n : ℕ) → Has n (numbers from more) → (from ≤ n) × (n < from + more)
number_within from zero n has = absurd has
number_within from (suc more) n has = elim has [
  | inl is ↦ (omega arith, omega arith)
  | inr there ↦ let (low, high) = number_within (from + 1) more n there in (omega arith, omega arith)
]

numbers_once : (from more : ℕ) → Once (numbers from more)
numbers_once from zero = tt
numbers_once from (suc more) = ((λ has. let (low, high) = number_within (from + 1) more from has in omega arith), numbers_once (from + 1) more)

length_numbers : (from more : ℕ) → length (numbers from more) ≡ more
length_numbers from zero = refl
length_numbers from (suc more) = ap suc (length_numbers (from + 1) more)

-- Those of the numbers that fail the test.
abbrev failing : (ℕ → Bool) → List ℕ → List ℕ
failing test [] = []
failing test (n ∷ ns) = if test n then failing test ns else n ∷ failing test ns

failing_has : (test : ℕ → Bool) (ns : List ℕ) (n : ℕ) → Has n (failing test ns) → Has n ns × (test n ≡ false)
failing_has test [] n has = absurd has
failing_has test (x ∷ ns) n has = by_test (failing_has test ns n) (test x) refl has
  where
    by_test :
        (Has n (failing test ns) → Has n ns × (test n ≡ false))
        → (t : Bool) → test x ≡ t → Has n (if t then failing test ns else x ∷ failing test ns) → Has n (x ∷ ns) × (test n ≡ false)
    by_test rest true e h = let (there, fails) = rest h in (inr there, fails)
    by_test rest false e h = elim h [
      | inl is ↦ (inl is, ap test is ∙ e)
      | inr more ↦ let (there, fails) = rest more in (inr there, fails)
    ]

failing_once : (test : ℕ → Bool) (ns : List ℕ) → Once ns → Once (failing test ns)
failing_once test [] once = tt
failing_once test (x ∷ ns) once = by_test (failing_once test ns once.1) (test x)
  where
    by_test : Once (failing test ns) → (t : Bool) → Once (if t then failing test ns else x ∷ failing test ns)
    by_test rest true = rest
    by_test rest false = ((λ has. once.0 (failing_has test ns x has).0), rest)

-- Where all fail, none is lost.
all_failing : (test : ℕ → Bool) (ns : List ℕ) → ((n : ℕ) → Has n ns → test n ≡ false) → length (failing test ns) ≡ length ns
all_failing test [] fails = refl
all_failing test (x ∷ ns) fails =
    ap (λ (t : Bool). length (let r : List ℕ = if t then failing test ns else x ∷ failing test ns in r)) (fails x (inl refl))
    ∙ ap suc (all_failing test ns (λ n has. fails n (inr has)))

-- Where one passes at most, one is lost at most.
one_lost :
    (test : ℕ → Bool) (ns : List ℕ)
    → Once ns → ((n m : ℕ) → Has n ns → Has m ns → test n ≡ true → test m ≡ true → n ≡ m)
    → length ns ≤ suc (length (failing test ns))
one_lost test [] once one = omega arith
one_lost test (x ∷ ns) once one =
    by_test (one_lost test ns once.1 (λ n m a b. one n m (inr a) (inr b))) (test x) refl
  where
    others : test x ≡ true → (n : ℕ) → Has n ns → test n ≡ false
    others e n has = by_answer (test n) refl
      where
        by_answer : (t : Bool) → test n ≡ t → t ≡ false
        by_answer true f = absurd (once.0 (subst (λ (y : ℕ). Has y ns) (one n x (inr has) (inl refl) f e) has))
        by_answer false f = refl

    by_test :
        length ns ≤ suc (length (failing test ns))
        → (t : Bool) → test x ≡ t → suc (length ns) ≤ suc (length (let r : List ℕ = if t then failing test ns else x ∷ failing test ns in r))
    by_test rest true e = let all = all_failing test ns (others e) in omega arith
    by_test rest false e = let e : length ns ≤ suc (length (failing test ns)) = rest in omega arith

-- Each number is hit by one of the names.
abbrev AllHit : (ℕ → List ℕ → Bool) → List ℕ → List (List ℕ) → Type 0
AllHit hits ns ys = (n : ℕ) → Has n ns → (y : List ℕ) × Has y ys × (hits n y ≡ true)

pigeons :
    (hits : ℕ → List ℕ → Bool) (ys : List (List ℕ)) (ns : List ℕ)
    → Once ns → ((y : List ℕ) (n m : ℕ) → Has n ns → Has m ns → hits n y ≡ true → hits m y ≡ true → n ≡ m)
    → AllHit hits ns ys → length ns ≤ length ys
pigeons hits [] [] once one all = omega arith
pigeons hits [] (n ∷ ns) once one all = absurd (all n (inl refl)).1
pigeons hits (y ∷ ys) ns once one all =
    let test : ℕ → Bool = λ n. hits n y in
    let less : length ns ≤ suc (length (failing (λ n. hits n y) ns)) = one_lost (λ n. hits n y) ns once (one y) in
    let more : length (failing (λ n. hits n y) ns) ≤ length ys =
    pigeons hits ys (failing (λ n. hits n y) ns) (failing_once (λ n. hits n y) ns once)
    (λ z n m a b. one z n m (failing_has (λ x. hits x y) ns n a).0 (failing_has (λ x. hits x y) ns m b).0)
    (λ n has.
    let (there, fails) = failing_has (λ x. hits x y) ns n has in
    let (z, has_z, hit) = all n there in
    elim has_z [
      | inl is ↦ absurd (true≢false (sym hit ∙ ap (hits n) is ∙ fails))
      | inr rest ↦ (z, rest, hit)
    ]) in
    omega arith

-- ---- the live names

abbrev name_before : Option (List ℕ) → List (List ℕ) → List (List ℕ)
name_before None names = names
name_before (Some name) names = name ∷ names

abbrev live_names : List ItemData → List (List ℕ)
live_names [] = []
live_names (x ∷ xs) = name_before (live_name x.state) (live_names xs)

names_few : (items : List ItemData) → length (live_names items) ≤ length (live_items items)
names_few [] = omega arith
names_few (x ∷ xs) = by_state x.state (names_few xs)
  where
    by_name : (o : Option (List ℕ)) → length (live_names xs) ≤ length (live_items xs) → length (name_before o (live_names xs)) ≤ suc (length (live_items xs))
    by_name None le = omega arith
    by_name (Some name) le = omega arith

    by_state :
        (state : ItemState)
        → length (live_names xs) ≤ length (live_items xs)
        → length (name_before (live_name state) (live_names xs)) ≤ length (live_item x.id state (live_items xs))
    by_state (Live cells) le = by_name (live_name (Live cells)) le
    by_state (Dead v) le = le

live_few : (items : List ItemData) → length (live_items items) ≤ length items
live_few [] = omega arith
live_few (x ∷ xs) = by_state x.state (live_few xs)
  where
    by_state : (state : ItemState) → length (live_items xs) ≤ length xs → length (live_item x.id state (live_items xs)) ≤ suc (length xs)
    by_state (Live cells) le = omega arith
    by_state (Dead v) le = omega arith

-- A name that is not free is hit by a live one.
hit_by :
    (items : List ItemData) (i : ItemId) (name : List ℕ) (j : ItemId)
    → Has j (clashing_with name (Some i) items) → (own : List ℕ) × Has own (live_names items) × (is_clash name own ≡ true)
hit_by [] i name j has = absurd has
hit_by (x ∷ xs) i name j has = by_test (hit_by xs i name j) (is_in_the_way name (Some i) x) refl has
  where
    behind : (o : Option (List ℕ)) → ((own : List ℕ) × Has own (live_names xs) × (is_clash name own ≡ true)) → (own : List ℕ) × Has own (name_before o (live_names xs)) × (is_clash name own ≡ true)
    behind None found = found
    behind (Some n) (own, there, clash) = (own, inr there, clash)

    here : (o : Option (List ℕ)) → option_map_or (λ own. is_clash name own) o false ≡ true → (own : List ℕ) × Has own (name_before o (live_names xs)) × (is_clash name own ≡ true)
    here None e = absurd (true≢false (sym e))
    here (Some own) e = (own, inl refl, e)

    by_test :
        (Has j (clashing_with name (Some i) xs) → (own : List ℕ) × Has own (live_names xs) × (is_clash name own ≡ true))
        → (t : Bool) → is_in_the_way name (Some i) x ≡ t
        → Has j (if t then x.id ∷ clashing_with name (Some i) xs else clashing_with name (Some i) xs)
        → (own : List ℕ) × Has own (live_names (x ∷ xs)) × (is_clash name own ≡ true)
    by_test rest true e h =
        here (live_name x.state) (and_parts (not (is_excepted (Some i) x.id)) (is_clashing name x.state) e).1
    by_test rest false e h = behind (live_name x.state) (rest h)

some_first : (js : List ItemId) → nat_eq (length js) 0 ≡ false → (j : ItemId) × Has j js
some_first [] e = absurd (true≢false (sym (eq-eqb 0 0 refl) ∙ e))
some_first (j ∷ js) e = (j, inl refl)

not_free :
    (items : List ItemData) (i : ItemId) (name : List ℕ)
    → is_free items i name ≡ false → (own : List ℕ) × Has own (live_names items) × (is_clash name own ≡ true)
not_free items i name e =
    let (j, has) = some_first (clashing_with name (Some i) items) e in hit_by items i name j has

-- A name that is free by the test is free.
free_is : (items : List ItemData) (i : ItemId) (name : List ℕ) → is_free items i name ≡ true → IsFree items i name
free_is items i name e j own other named = by_test (tested (is_clash name own))
  where
    none_there : (js : List ItemId) → nat_eq (length js) 0 ≡ true → Has j js → ⊥
    none_there [] f has = has
    none_there (k ∷ js) f has =
        let none : suc (length js) ≡ 0 = eqb-true (suc (length js)) 0 f in
        omega arith

    by_test : Tested (is_clash name own) → is_clash name own ≡ false
    by_test (yes_it f) = absurd (none_there (clashing_with name (Some i) items) e (clash_lists items i name j own other named f))
    by_test (not_it f) = f

-- The first free candidate is free, or none of them is.
first_or_none :
    (items : List ItemData) (i : ItemId) (name : List ℕ) (n more : ℕ)
    → (is_free items i (renamed name (first_free items i name n more)) ≡ true)
    ⊎ ((m : ℕ) → Has m (numbers n more) → is_free items i (renamed name m) ≡ false)
unfolding first_free
first_or_none items i name n zero = inr (λ m has. absurd has)
first_or_none items i name n (suc more) =
    by_test (first_or_none items i name (n + 1) more) (is_free items i (renamed name n)) refl
  where
    by_test :
        ((is_free items i (renamed name (first_free items i name (n + 1) more)) ≡ true)
        ⊎ ((m : ℕ) → Has m (numbers (n + 1) more) → is_free items i (renamed name m) ≡ false))
        → (t : Bool) → is_free items i (renamed name n) ≡ t
        → (is_free items i (renamed name (if t then n else first_free items i name (n + 1) more)) ≡ true)
        ⊎ ((m : ℕ) → Has m (numbers n (suc more)) → is_free items i (renamed name m) ≡ false)
    by_test rest true e = inl e
    by_test rest false e = elim rest [
      | inl found ↦ inl found
      | inr none ↦ inr (λ m has. elim has [
        | inl is ↦ ap (λ (x : ℕ). is_free items i (renamed name x)) is ∙ e
        | inr there ↦ none m there
      ])
    ]

-- New names are free, where there are not too many items to count.
pub new_free : (items : List ItemData) (i : ItemId) (name : List ℕ) → length items + 2 < 10 ^ 64 → IsFree items i (new_name items i name)
new_free items i name few =
    elim (first_or_none items i name 1 (length (live_items items) + 1)) [
      | inl found ↦ free_is items i (new_name items i name) found
      | inr none ↦
          let ns : List ℕ = numbers 1 (length (live_items items) + 1) in
          let small : (n : ℕ) → Has n (numbers 1 (length (live_items items) + 1)) → n < 10 ^ 64 =
          λ n has. let (low, high) = number_within 1 (length (live_items items) + 1) n has in omega (arith, live_few items) in
          let le : length (numbers 1 (length (live_items items) + 1)) ≤ length (live_names items) =
          pigeons (λ n y. is_clash (renamed name n) y) (live_names items) (numbers 1 (length (live_items items) + 1))
          (numbers_once 1 (length (live_items items) + 1))
          (λ y n m a b. one_candidate name y n m (small n a) (small m b))
          (λ n has. not_free items i (renamed name n) (none n has)) in
          absurd (omega (arith, length_numbers 1 (length (live_items items) + 1), names_few items))
    ]
