-- One pass over two lists of segments.
use Rattle.std.proofs.Common.{◌≡◌, ◌+◌, ◌<◌, ◌≤◌, Bool, true, false, not, true≢false, inl, inr, arith, refl, sym, ap, subst, ◌∙◌, List, [], ◌∷◌, length, Some}
use Rattle.std.specs.Ordering.{eq_by_cmp}
use Rattle.sfx_ids.specs.declared.cut.Cut.{Cut}
use Rattle.sfx_ids.specs.declared.cut.Cut.TheVariants.{Start, At, After, End}
use Rattle.sfx_ids.specs.Cut.{cut_cmp, cut_lt, cut_le}
use Rattle.sfx_ids.proofs.CutLemmas.{lt-not_le, lt-le, le-self, le_or_lt, le_trans, start-le}
use Rattle.sfx_segments.specs.Segments.{IsPlace, segment_at, value_at, AreSegments, combined}
use Rattle.sfx_segments.specs.Merge.{start_of, earlier, passed, ArePrefix, Extends, AreJoined}
use Rattle.sfx_segments.proofs.PlaceValues.{lt-end, segment_at-passed, value_at-first}
use Rattle.sfx_segments.proofs.PassedSegments.{segment_at-passed_list, start_of-passed, length-passed, passed_shorter, segment_at-before, before_earlier, lt-earlier, earlier_cases}

-- from the place on, the whole list has what the value and the segments ahead have
pub record Shows {A : Type 0} (xs : List (Cut × A)) (value : A) (ahead : List (Cut × A)) (place : Cut) : Type 0 where
  pub at : (q : Cut) → cut_le place q ≡ true → value_at xs q ≡ Some (segment_at value ahead q)

-- the merge has come to the place
pub record Merged {A B C : Type 0} (how : A → B → C) (xs : List (Cut × A)) (ys : List (Cut × B)) (a : A) (left : List (Cut × A)) (b : B) (right : List (Cut × B)) (place : Cut) (out : List (Cut × C)) : Type 0 where
  pub left_side : Shows xs a left place
  pub right_side : Shows ys b right place
  pub done : (q : Cut) → cut_lt q place ≡ true → value_at out q ≡ combined how (value_at xs q) (value_at ys q)
  pub prefix : ArePrefix out place
  pub is_next : place ≡ earlier (start_of left) (start_of right)

-- ---- what the loop's test says

pub not_at_end : (r : Bool) (q : Cut) → r ≡ not (eq_by_cmp cut_cmp q End) → r ≡ true → IsPlace q
not_at_end r Start is holds = tt
not_at_end r (At x) is holds = tt
not_at_end r (After x) is holds = tt
not_at_end r End is holds = true≢false (sym holds ∙ is)

pub at_end : (r : Bool) (q : Cut) → r ≡ not (eq_by_cmp cut_cmp q End) → r ≡ false → q ≡ End
at_end r Start is fails = absurd (true≢false (sym is ∙ fails))
at_end r (At x) is fails = absurd (true≢false (sym is ∙ fails))
at_end r (After x) is fails = absurd (true≢false (sym is ∙ fails))
at_end r End is fails = refl

-- ---- at the start

shows_all : {A : Type 0} (xs : List (Cut × A)) (value : A) (place : Cut) → start_of xs ≡ Start → Shows xs value xs place
shows_all [] value place first = cc
shows_all (p ∷ ps) value place first = record {
  at = λ q le.
      let here : cut_le p.0 q ≡ true = subst (λ c. cut_le c q ≡ true) (sym first) (start-le q) in
      value_at-first p ps q first ∙ ap Some (sym (segment_at-passed value p ps q here));
}

pub merge_begins : {A B C : Type 0} (how : A → B → C) (xs : List (Cut × A)) (ys : List (Cut × B)) (a : A) (b : B) (place : Cut) (out : List (Cut × C)) → start_of xs ≡ Start → start_of ys ≡ Start → place ≡ earlier (start_of xs) (start_of ys) → out ≡ [] → Merged how xs ys a xs b ys place out
merge_begins how xs ys a b place out first_x first_y is none =
    let both : earlier (start_of xs) (start_of ys) ≡ Start = rw (first_x, first_y) refl in
    let start : place ≡ Start = is ∙ both in
    record {
      left_side = shows_all xs a place first_x;
      right_side = shows_all ys b place first_y;
      done = λ q lt. absurd (true≢false (sym (start-le q) ∙ lt-not_le q Start (subst (λ c. cut_lt q c ≡ true) start lt)));
      prefix = subst (λ zs. ArePrefix zs place) (sym none) start;
      is_next = is;
    }

-- ---- a step

shows_on : {A : Type 0} (xs : List (Cut × A)) (value : A) (ahead : List (Cut × A)) (place : Cut) (r : A × List (Cut × A)) → r ≡ passed value ahead place → Shows xs value ahead place → Shows xs r.0 r.1 place
shows_on {A} xs value ahead place r is shows =
    subst (λ (s : A × List (Cut × A)). Shows xs s.0 s.1 place) (sym is)
    (record { at = λ q le. shows.at q le ∙ ap Some (sym (segment_at-passed_list value ahead place q le)) })

shows_later : {A : Type 0} (xs : List (Cut × A)) (value : A) (ahead : List (Cut × A)) (place next : Cut) → cut_lt place next ≡ true → Shows xs value ahead place → Shows xs value ahead next
shows_later xs value ahead place next lt shows = record { at = λ q le. shows.at q (le_trans place next q (lt-le place next lt) le) }

extended_prefix : {A : Type 0} (old new : List (Cut × A)) (place next : Cut) (value : A) → Extends old new place value → cut_lt place next ≡ true → ArePrefix new next
extended_prefix old [] place next value extends lt = absurd extends.form
extended_prefix old (p ∷ ps) place next value extends lt = (extends.form, extends.behind next lt)

pub merge_goes_on : {A B C : Type 0} (how : A → B → C) (xs : List (Cut × A)) (ys : List (Cut × B)) (a : A) (left : List (Cut × A)) (b : B) (right : List (Cut × B)) (place : Cut) (out : List (Cut × C)) (r : A × List (Cut × A)) (s : B × List (Cut × B)) (next : Cut) (new : List (Cut × C)) → Merged how xs ys a left b right place out → IsPlace place → r ≡ passed a left place → s ≡ passed b right place → Extends out new place (how r.0 s.0) → next ≡ earlier (start_of r.1) (start_of s.1) → Merged how xs ys r.0 r.1 s.0 s.1 next new
merge_goes_on {A} {B} how xs ys a left b right place out r s next new merged inside r_is s_is extends next_is =
    let on_left : Shows xs r.0 r.1 place = shows_on xs a left place r r_is merged.left_side in
    let on_right : Shows ys s.0 s.1 place = shows_on ys b right place s s_is merged.right_side in
    let left_lt : cut_lt place (start_of r.1) ≡ true =
    subst (λ (t : A × List (Cut × A)). cut_lt place (start_of t.1) ≡ true) (sym r_is) (start_of-passed a left place (lt-end place inside)) in
    let right_lt : cut_lt place (start_of s.1) ≡ true =
    subst (λ (t : B × List (Cut × B)). cut_lt place (start_of t.1) ≡ true) (sym s_is) (start_of-passed b right place (lt-end place inside)) in
    let lt : cut_lt place next ≡ true =
    subst (λ c. cut_lt place c ≡ true) (sym next_is) (lt-earlier (start_of r.1) (start_of s.1) place left_lt right_lt) in
    record {
      left_side = shows_later xs r.0 r.1 place next lt on_left;
      right_side = shows_later ys s.0 s.1 place next lt on_right;
      done = λ q before. elim (le_or_lt place q) [
        | inl le ↦
            let both = before_earlier (start_of r.1) (start_of s.1) q (subst (λ c. cut_lt q c ≡ true) next_is before) in
            let x : value_at xs q ≡ Some r.0 = on_left.at q le ∙ ap Some (segment_at-before r.0 r.1 q both.0) in
            let y : value_at ys q ≡ Some s.0 = on_right.at q le ∙ ap Some (segment_at-before s.0 s.1 q both.1) in
            extends.after q le ∙ sym (ap (λ o. combined how o (value_at ys q)) x ∙ ap (λ o. combined how (Some r.0) o) y)
        | inr lt_place ↦ extends.before q lt_place ∙ merged.done q lt_place
      ];
      prefix = extended_prefix out new place next (how r.0 s.0) extends lt;
      is_next = next_is;
    }

-- ---- the measure

pub merge_shorter : {A B : Type 0} (a : A) (left : List (Cut × A)) (b : B) (right : List (Cut × B)) (place : Cut) (r : A × List (Cut × A)) (s : B × List (Cut × B)) → IsPlace place → place ≡ earlier (start_of left) (start_of right) → r ≡ passed a left place → s ≡ passed b right place → length r.1 + length s.1 < length left + length right
merge_shorter {A} {B} a left b right place r s inside is r_is s_is =
    let left_le : length r.1 ≤ length left = subst (λ (t : A × List (Cut × A)). length t.1 ≤ length left) (sym r_is) (length-passed a left place) in
    let right_le : length s.1 ≤ length right = subst (λ (t : B × List (Cut × B)). length t.1 ≤ length right) (sym s_is) (length-passed b right place) in
    elim (earlier_cases (start_of left) (start_of right)) [
      | inl first ↦
          let here : cut_le (start_of left) place ≡ true = subst (λ c. cut_le c place ≡ true) (is ∙ first) (le-self place) in
          let left_lt : length r.1 < length left = subst (λ (t : A × List (Cut × A)). length t.1 < length left) (sym r_is) (passed_shorter a left place here (lt-end place inside)) in
          omega arith
      | inr second ↦
          let here : cut_le (start_of right) place ≡ true = subst (λ c. cut_le c place ≡ true) (is ∙ second) (le-self place) in
          let right_lt : length s.1 < length right = subst (λ (t : B × List (Cut × B)). length t.1 < length right) (sym s_is) (passed_shorter b right place here (lt-end place inside)) in
          omega arith
    ]

-- ---- at the end

prefix_form : {A : Type 0} (out : List (Cut × A)) → ArePrefix out End → AreSegments out
prefix_form [] prefix = cc
prefix_form (p ∷ ps) prefix = prefix.0

pub merge_ends : {A B C : Type 0} (how : A → B → C) (xs : List (Cut × A)) (ys : List (Cut × B)) (a : A) (left : List (Cut × A)) (b : B) (right : List (Cut × B)) (place : Cut) (out : List (Cut × C)) → Merged how xs ys a left b right place out → place ≡ End → AreJoined how xs ys out
merge_ends how xs ys a left b right place out merged end = record {
  form = prefix_form out (subst (ArePrefix out) end merged.prefix);
  everywhere = λ q inside. merged.done q (subst (λ c. cut_lt q c ≡ true) (sym end) (lt-end q inside));
}
