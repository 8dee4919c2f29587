-- The units that an entry leaves alone, as a list.
use Rattle.std.proofs.Common.{◌≡◌, ◌≢◌, ℕ, zero, suc, ◌+◌, ◌<◌, ◌≤◌, Bool, true, false, ◌||◌, if◌then◌else◌, nat_eq, List, [], ◌∷◌, ◌++◌, length, drop, get_or, refl, sym, ◌∙◌, ap, subst, arith}
use Rattle.std.proofs.lemmas.Bool.{eq-eqb, ne_eqb}
use Rattle.std.proofs.lemmas.List.{drop_all}
use Rattle.sfx_ids.specs.declared.item_id.ItemId.{ItemId}
use Rattle.sfx_knowledge.specs.Skips.{is_skipped, same_cell}
use Rattle.sfx_model.specs.declared.mark.Mark.{Mark}
use Rattle.sfx_model.specs.declared.mark.Mark.TheVariants.{Stays}
use Rattle.sfx_model.specs.sessions.Draft.{is_left}
use Rattle.sfx_model.specs.sessions.Entry.{EntryData, left_from}
use Rattle.sfx_model.specs.sessions.Session.{lefts}
use Rattle.sfx_model.specs.world.Units.{at_unit}
use Rattle.sfx_provider.proofs.CourseLemmas.{opened}
use Rattle.sfx_apply.specs.Work.{AddsSkips, SameSkips}

same_unit : (i : ItemId) (u x : ℕ) → same_cell i u i x ≡ nat_eq u x
same_unit i u x = rw (eq-eqb i.tick i.tick refl, eq-eqb i.replica i.replica refl) refl

-- None of them is before the first unit that is looked at.
none_before : (i : ItemId) (from x : ℕ) (marks : List Mark) → x < from → is_skipped (left_from i from marks) i x ≡ false
none_before i from x [] before = refl
none_before i from x (k ∷ ks) before = by_left (none_before i (from + 1) x ks (omega arith)) (is_left k)
  where
    by_left :
        is_skipped (left_from i (from + 1) ks) i x ≡ false
        → (b : Bool) → is_skipped (if b then (i, from) ∷ left_from i (from + 1) ks else left_from i (from + 1) ks) i x ≡ false
    by_left rest true =
        let other : from ≢ x = omega arith in
        rw (same_unit i from x, ne_eqb from x other) rest
    by_left rest false = rest

-- They are those whose mark says so.
left_at :
    (i : ItemId) (from u : ℕ) (marks : List Mark)
    → is_skipped (left_from i from marks) i (from + u) ≡ is_left (at_unit marks u Stays)
left_at i from u [] = refl
left_at i from zero (k ∷ ks) = by_left (is_left k)
  where
    by_left :
        (b : Bool)
        → is_skipped (if b then (i, from) ∷ left_from i (from + 1) ks else left_from i (from + 1) ks) i (from + 0) ≡ b
    by_left true = let same : from ≡ from + 0 = omega arith in rw (same_unit i from (from + 0), eq-eqb from (from + 0) same) refl
    by_left false = none_before i (from + 1) (from + 0) ks (omega arith)
left_at i from (suc u) (k ∷ ks) = by_left (left_at i (from + 1) u ks) (is_left k)
  where
    by_left :
        is_skipped (left_from i (from + 1) ks) i (from + 1 + u) ≡ is_left (at_unit ks u Stays)
        → (b : Bool)
        → is_skipped (if b then (i, from) ∷ left_from i (from + 1) ks else left_from i (from + 1) ks) i (from + suc u)
        ≡ is_left (at_unit ks u Stays)
    by_left rest b =
        let place : from + 1 + u ≡ from + suc u = omega arith in
        let there : is_skipped (left_from i (from + 1) ks) i (from + suc u) ≡ is_left (at_unit ks u Stays) =
        subst (λ (x : ℕ). is_skipped (left_from i (from + 1) ks) i x ≡ is_left (at_unit ks u Stays)) place rest in
        by_test there b
      where
        by_test :
            is_skipped (left_from i (from + 1) ks) i (from + suc u) ≡ is_left (at_unit ks u Stays)
            → (b : Bool)
            → is_skipped (if b then (i, from) ∷ left_from i (from + 1) ks else left_from i (from + 1) ks) i (from + suc u)
            ≡ is_left (at_unit ks u Stays)
        by_test there true =
            let other : from ≢ from + suc u = omega arith in
            rw (same_unit i from (from + suc u), ne_eqb from (from + suc u) other) there
        by_test there false = there

pub left_is : (i : ItemId) (u : ℕ) (marks : List Mark) → is_skipped (left_from i 0 marks) i u ≡ is_left (at_unit marks u Stays)
left_is i u marks =
    let place : 0 + u ≡ u = omega arith in
    subst (λ (x : ℕ). is_skipped (left_from i 0 marks) i x ≡ is_left (at_unit marks u Stays)) place (left_at i 0 u marks)

-- Behind the last unit there is none.
pub added_all :
    (i : ItemId) (marks : List Mark) (k : ℕ) (now all first : List (ItemId × ℕ))
    → length marks ≤ k
    → ((j : ItemId) (u : ℕ) → (is_skipped (left_from i k (drop k marks)) j u || is_skipped now j u) ≡ (is_skipped all j u || is_skipped first j u))
    → (j : ItemId) (u : ℕ) → is_skipped now j u ≡ (is_skipped all j u || is_skipped first j u)
added_all i marks k now all first past so_far j u =
    sym (ap (λ (ks : List Mark). is_skipped (left_from i k ks) j u || is_skipped now j u) (drop_all k marks past)) ∙ so_far j u

-- The units of two lists.
pub skipped_append : (xs ys : List (ItemId × ℕ)) (j : ItemId) (u : ℕ) → is_skipped (xs ++ ys) j u ≡ (is_skipped xs j u || is_skipped ys j u)
skipped_append [] ys j u = refl
skipped_append (x ∷ xs) ys j u = ap (λ (b : Bool). same_cell x.0 x.1 j u || b) (skipped_append xs ys j u) ∙ grouped (same_cell x.0 x.1 j u) (is_skipped xs j u) (is_skipped ys j u)
  where
    grouped : (a b c : Bool) → (a || (b || c)) ≡ ((a || b) || c)
    grouped true b c = refl
    grouped false b c = refl

-- Those of one more entry.
pub more_left :
    (entries : List EntryData) (k : ℕ) (e : EntryData) (old new all : List (ItemId × ℕ))
    → e ≡ get_or entries k e → k < length entries → AddsSkips old new (left_from e.item 0 e.marks)
    → ((i : ItemId) (u : ℕ) → (is_skipped (lefts (drop k entries)) i u || is_skipped old i u) ≡ is_skipped all i u)
    → (i : ItemId) (u : ℕ) → (is_skipped (lefts (drop (k + 1) entries)) i u || is_skipped new i u) ≡ is_skipped all i u
more_left entries k e old new all is inside adds so_far i u =
    let rest : List (ItemId × ℕ) = lefts (drop (k + 1) entries) in
    let here : List (ItemId × ℕ) = left_from e.item 0 e.marks in
    let both : is_skipped (lefts (drop k entries)) i u ≡ (is_skipped here i u || is_skipped rest i u) =
    ap (λ (es : List EntryData). is_skipped (lefts es) i u) (opened entries k e is inside) ∙ skipped_append here rest i u in
    ap (λ (b : Bool). is_skipped rest i u || b) (adds i u)
    ∙ turned (is_skipped rest i u) (is_skipped here i u) (is_skipped old i u)
    ∙ ap (λ (b : Bool). b || is_skipped old i u) (sym both) ∙ so_far i u
  where
    turned : (a b c : Bool) → (a || (b || c)) ≡ ((b || a) || c)
    turned true true c = refl
    turned true false c = refl
    turned false true c = refl
    turned false false c = refl

pub all_left : (entries : List EntryData) (k : ℕ) (now all : List (ItemId × ℕ)) → length entries ≤ k
    → ((i : ItemId) (u : ℕ) → (is_skipped (lefts (drop k entries)) i u || is_skipped now i u) ≡ is_skipped all i u)
    → SameSkips now all
all_left entries k now all past so_far i u =
    sym (ap (λ (es : List EntryData). is_skipped (lefts es) i u || is_skipped now i u) (drop_all k entries past)) ∙ so_far i u
